use Rattle.std.proofs.Common.{◌≡◌, ◌∙◌, ◌<◌, ◌≤◌, length, Some, None, sym, ap, arith}
use Rattle.std.proofs.lemmas.Bool.{le-ltb}
use Rattle.ledger_spec.specs.Maps.{hash_cmp, get_in}
use Rattle.ledger_spec.specs.Bytes.{Bytes}
use Rattle.peer_set.specs.Keys.{key_of}
use Rattle.peer_set.proofs.Finding.{found_there, found_past, found_none}
use Rattle.peer_set.proofs.asked.Asked.has.Goals as goal

-- the index tells the one position of the place's key, so the place was asked exactly where it stands there
pub returns-then-at-len : goal.returns-then-at-len
returns-then-at-len c =
    let index = c.self.inside.index.entries in
    let all = c.self.inside.places.items in
    let p = c.args.place.now in
    let held : get_in hash_cmp index (key_of p) ≡ Some c.in-Some.at.now =
    ap (λ (k : Bytes). get_in hash_cmp index k) (sym c.of.ensures.key) ∙ sym c.in-Some.ensures.value in
    let lt : c.in-Some.at.now < length all = omega (arith, c.if-at-len.true, c.len.ensures, c.self.inside.places.ok.0) in
    rw (← c.self.view_is)
    (found_there index all p c.self.invariant c.in-Some.at.now c.index.result.now c.same.result held lt c.index.ensures c.same.ensures)

-- the index finds each asked place among the places, and this entry points past them, so the place wasn't asked
pub returns-else-at-len : goal.returns-else-at-len
returns-else-at-len c =
    let index = c.self.inside.index.entries in
    let all = c.self.inside.places.items in
    let p = c.args.place.now in
    let held : get_in hash_cmp index (key_of p) ≡ Some c.in-Some.at.now =
    ap (λ (k : Bytes). get_in hash_cmp index k) (sym c.of.ensures.key) ∙ sym c.in-Some.ensures.value in
    let le : c.len.result ≤ c.in-Some.at.now = omega (arith, c.if-at-len.false) in
    let past : length all ≤ c.in-Some.at.now = omega (arith, le, c.len.ensures, c.self.inside.places.ok.0) in
    le-ltb c.in-Some.at.now c.len.result le ∙ rw (← c.self.view_is) (found_past index all p c.self.invariant c.in-Some.at.now held past)

-- each asked place has an entry under its key, and this one has none
pub returns-in-None : goal.returns-in-None
returns-in-None c =
    let index = c.self.inside.index.entries in
    let p = c.args.place.now in
    let none : get_in hash_cmp index (key_of p) ≡ None =
    ap (λ (k : Bytes). get_in hash_cmp index k) (sym c.of.ensures.key) ∙ sym c.in-None.ensures.value in
    rw (← c.self.view_is) (found_none index c.self.inside.places.items p c.self.invariant none)
