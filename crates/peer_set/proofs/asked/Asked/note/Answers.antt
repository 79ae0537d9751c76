use Rattle.std.proofs.Common.{◌≡◌, ◌∙◌, ◌++◌, List, length, take, true, Result, Ok, Err, OnErr, sym, ap, subst, arith}
use Rattle.std.specs.Result.{is_err}
use Rattle.std.proofs.lemmas.List.{take_at}
use Rattle.ledger_spec.specs.declared.Place.{Place}
use Rattle.peer_set.specs.Finding.{Finds}
use Rattle.peer_set.proofs.Finding.{narrowed}
use Rattle.peer_set.proofs.asked.Asked.note.Goals as goal

at_err : {T E P : Type 0} (r : Result T E) → is_err r ≡ true → OnErr r P → P
at_err (Ok x) e h = absurd (cc)
at_err (Err y) e h = h

-- the places that were there before are still found, and the new ones are not among them
pub invariant_of-self-then-is_err : goal.invariant_of-self-then-is_err
invariant_of-self-then-is_err c =
    let old = c.self.inside.places.items in
    let new = c.args.places.now in
    let index = c.index_from.new.index.entries in
    let before : length old ≡ c.len-before.result = omega (arith, c.len-before.ensures, c.self.inside.places.ok.0) in
    let all : c.extend_from_slice.new.self.items ≡ old ++ new = c.in_ok-extend_from_slice.ensures.items in
    let shown : c.deref.result.now ≡ old ++ new = c.deref.ensures.value ∙ all in
    let front : take c.len-before.result (old ++ new) ≡ old = take_at old new c.len-before.result before in
    let left : c.truncate.new.self.items ≡ old = c.truncate.ensures.items ∙ ap (take c.len-before.result) all ∙ front in
    let found = at_err c.index_from.result (sym c.is_err.ensures.value ∙ c.if-is_err.true) c.index_from.ensures.err in
    let F : List Place → Type 0 = λ ps. Finds index ps (take c.len-before.result ps) in
    let G : List Place → Type 0 = λ ps. Finds index (old ++ new) ps in
    let H : List Place → Type 0 = λ ps. Finds index ps ps in
    subst H (sym left) (narrowed index old new (rw (← c.self.view_is) at c.requires) (subst G front (subst F shown found)))
