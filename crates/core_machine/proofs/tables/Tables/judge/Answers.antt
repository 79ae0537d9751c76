-- the acquisition that is lent is open, and a check leaves it so
use Rattle.std.proofs.Common.{Option, Some, sym, ◌∙◌, ap, subst, rules}
use Rattle.std.proofs.lemmas.Grind.{common_steps}
use Rattle.ledger_spec.specs.Maps.{ForHash, hash_cmp, get_in, set_in}
use Rattle.ledger_spec.specs.Acquiring.{Acquiring, after_verdict}
use Rattle.acquire_core.specs.Replies.{found_verdict}
use Rattle.core_machine.specs.Desks.{Desk}
use Rattle.core_machine.specs.Wanting.{IsOpen, AreOpen, judged_by}
use Rattle.core_machine.proofs.shared.States.{set_same, same_desk, on_err}
use Rattle.core_machine.proofs.Opens.{set_open, found_open, judged_open, changed_desk}
use Rattle.core_machine.proofs.tables.Tables.judge.Goals as goal

-- without memory the lent acquisition was given back as it was
pub invariant_of-self-in_err-check : goal.invariant_of-self-in_err-check
invariant_of-self-in_err-check g c = (
  subst AreOpen (sym ((c.get_mut.follows.holds c.check.new.self).0 ∙ set_same _ _ _ (sym c.in-Some.ensures.value
      ∙ ap Some (sym c.in_err-check.ensures.err))))
      c.self.invariant.0,
  c.self.invariant.1,
)

-- the lent acquisition was given back as it was
pub returns-in_err-check-clause-memory : goal.returns-in_err-check-clause-memory
returns-in_err-check-clause-memory g c = record {
  err = on_err c.from_residual.result (same_desk _ _ c.self.view_is _ ((c.get_mut.follows.holds c.check.new.self).0
      ∙ set_same _ _ _ (sym c.in-Some.ensures.value ∙ ap Some (sym c.in_err-check.ensures.err))));
  told = search (rules, common_steps);
  stays = search (rules, common_steps);
}

-- a check changes at most the turns and what was asked
pub invariant_of-self-2 : goal.invariant_of-self-2
invariant_of-self-2 g c = (
  subst AreOpen (sym (c.get_mut.follows.holds c.check.new.self).0)
      (set_open c.args.target.now c.self.inside.wanted.entries c.check.new.self c.self.invariant.0
      (subst (IsOpen c.args.target.now) (sym c.in_ok-check.ensures.after)
      (judged_open c.args.target.now c.in-Some.acquire.now _
      (found_open c.args.target.now c.self.inside.wanted.entries c.in-Some.acquire.now c.self.invariant.0 (sym c.in-Some.ensures.value))))),
  c.self.invariant.1,
)

-- the floor and the acquisition are the state's
pub returns-clause-reply : goal.returns-clause-reply
returns-clause-reply g c =
    (rw c.floor-floor.ensures at c.in_ok-check.ensures.answer)
    ∙ ap (λ (o : Option Acquiring). judged_by o c.self.inside.book.floor c.args.found.now) c.in-Some.ensures.value
    ∙ ap (λ (d : Desk). judged_by (get_in hash_cmp d.state.wanted c.args.target.now) d.state.floor c.args.found.now) c.self.view_is

-- only the acquisition changes
pub returns-clause-after : goal.returns-clause-after
returns-clause-after g c =
    let wanted : ForHash Acquiring = c.self.inside.wanted.entries in
    changed_desk c.args.target.now _ _ c.self.view_is _ c.in-Some.acquire.now
    (λ d a. after_verdict a (found_verdict a d.state.floor c.args.found.now)) (sym c.in-Some.ensures.value)
    ((c.get_mut.follows.holds c.check.new.self).0 ∙ ap (set_in hash_cmp wanted c.args.target.now)
    (rw c.floor-floor.ensures at c.in_ok-check.ensures.after))
