-- each hash was put, so the keys are the hashes, and they rise
use Rattle.std.proofs.Common.{◌≡◌, ◌<◌, ◌+◌, ◌++◌, ◌∷◌, [], Bool, List, length, take, sym, ap, subst, ◌∙◌, arith}
use Rattle.std.proofs.lemmas.List.{take_all, take_more}
use Rattle.ledger_spec.specs.Bytes.{Hash}
use Rattle.ledger_spec.specs.Maps.{ForHash}
use Rattle.core_machine.specs.Retaining.{HaveKeys}
use Rattle.core_machine.proofs.Rising.{are_rising, keys_more}
use Rattle.core_machine.proofs.retained.rising.Goals as goal

pub loop-hash-init : goal.loop-hash-init
loop-hash-init c = λ h. rw c.new-found.ensures.empty (λ x. x, λ x. x)

pub loop-hash-preserved : goal.loop-hash-preserved
loop-hash-preserved c =
    let i = c.loop-hash.hash-index in
    let xs : List Hash = c.args.hashes.now in
    let h : Hash = c.hash-item.result in
    let lt : i < length xs = omega (arith, c.loop-hash-test.true) in
    let front : take (i + 1) xs ≡ take i xs ++ h ∷ [] = take_more xs i h lt ∙ ap (λ (x : Hash). take i xs ++ x ∷ []) (sym c.hash-item.is) in
    subst (λ (seen : List Hash). HaveKeys c.insert.new.self.entries seen) (sym front)
    (subst (λ (m : ForHash Bool). HaveKeys m (take i xs ++ h ∷ [])) (sym c.in_ok-insert.ensures.entries)
    (keys_more c.loop-hash.found.entries h _ (take i xs) c.loop-hash.invariant))

pub returns : goal.returns
returns c =
    let i = c.loop-hash.hash-index in
    let xs : List Hash = c.args.hashes.now in
    let whole : take i xs ≡ xs = take_all i xs (omega (arith, c.loop-hash-test.false)) in
    are_rising c.loop-hash.found.entries xs c.keys.result (λ v. v.items)
    (subst (λ (seen : List Hash). HaveKeys c.loop-hash.found.entries seen) whole c.loop-hash.invariant)
    c.keys.ensures.keys c.keys.ensures.rising
