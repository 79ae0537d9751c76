use Rattle.std.proofs.Common.{◌≡◌, ◌∙◌, [], ◌∷◌, ◌++◌, sym, ap, subst, List, length, take, arith, true, IsSome, length-append}
use Rattle.std.proofs.Common.{Option, None, Some, Result, Ok, Err, OnErr}
use Rattle.std.specs.Option.{option_to_list}
use Rattle.std.specs.Result.{is_err}
use Rattle.std.proofs.Math.Seq.{take-append_seam}
use Rattle.std.proofs.lemmas.List.{map-append}
use Rattle.ledger_spec.specs.Bytes.{Hash}
use Rattle.ledger_machine.specs.declared.commands.Record.{Record}
use Rattle.ledger_machine.specs.Records.{hashes_of}
use Rattle.script_form.specs.Finding.{Finds}
use Rattle.script_form.proofs.Finding.{at_ok, one_more, finds_same}
use Rattle.script_form.proofs.records.Records.push.Goals as goal

-- the hash went into the set as the record went into the list, so the set still tells the records' hashes
pub invariant_of-self-else-is_err : goal.invariant_of-self-else-is_err
invariant_of-self-else-is_err c =
    let old = c.self.inside.records.items in
    let sets = at_ok c.insert.result (sym c.is_err.ensures.value ∙ c.if-is_err.false) c.insert.ensures.updates in
    let more : hashes_of c.push.new.self.items ≡ hashes_of old ++ c.args.one.hash ∷ [] =
    ap hashes_of c.in_ok-push.ensures.items ∙ map-append (λ (r : Record). r.hash) old (c.args.one ∷ []) in
    subst (λ (hs : List Hash). Finds c.insert.new.self hs) (sym more)
    (one_more c.self.inside.hashes c.insert.new.self (hashes_of old) c.args.one.hash sets.0 c.self.invariant)

at_err : {T E P : Type 0} (r : Result T E) → is_err r ≡ true → OnErr r P → P
at_err (Ok x) e h = absurd (cc)
at_err (Err y) e h = h

-- a list without the item that it got last
left_again : (old all now : List Record) (one : Record) (gone : Option Record) → all ≡ old ++ one ∷ [] → all ≡ now ++ option_to_list gone
    → IsSome gone → now ≡ old
left_again old all now one None added left some = cc
left_again old all now one (Some x) added left some =
    let same : length now ≡ length old =
    omega (arith, ap length added, ap length left, length-append old (one ∷ []), length-append now (x ∷ [])) in
    sym (take-append_seam now (x ∷ [])) ∙ ap (take (length now)) (sym left ∙ added) ∙ ap (λ n. take n (old ++ one ∷ [])) same
    ∙ take-append_seam old (one ∷ [])

-- the record left the list again, and the set is as it was
pub invariant_of-self-then-is_err : goal.invariant_of-self-then-is_err
invariant_of-self-then-is_err c =
    let kept : c.insert.new.self.keys ≡ c.self.inside.hashes.keys =
    at_err c.insert.result (sym c.is_err.ensures.value ∙ c.if-is_err.true) c.insert.ensures.err in
    let same : c.pop.new.self.items ≡ c.self.inside.records.items =
    left_again c.self.inside.records.items c.push.new.self.items c.pop.new.self.items c.args.one c.pop.result
    c.in_ok-push.ensures.items c.pop.ensures.items (c.pop.ensures.variant.1 (omega (arith, c.in_ok-push.ensures.len))) in
    subst (λ (rs : List Record). Finds c.insert.new.self (hashes_of rs)) (sym same)
    (finds_same c.self.inside.hashes c.insert.new.self (hashes_of c.self.inside.records.items) kept c.self.invariant)
