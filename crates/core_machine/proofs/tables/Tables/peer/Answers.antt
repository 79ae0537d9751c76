-- the acquisition that is lent is open, and stays so with one peer more
use Rattle.std.proofs.Common.{Some, sym, ◌∙◌, ap, subst, rules}
use Rattle.std.proofs.lemmas.Grind.{common_steps}
use Rattle.core_machine.specs.Wanting.{IsOpen, AreOpen}
use Rattle.core_machine.proofs.shared.States.{set_same, same_desk, on_err}
use Rattle.core_machine.proofs.Opens.{set_open, found_open, joined_open}
use Rattle.core_machine.proofs.tables.Tables.peer.Goals as goal

-- without memory the lent acquisition was given back as it was
pub invariant_of-self-in_err-reply : goal.invariant_of-self-in_err-reply
invariant_of-self-in_err-reply g c = (
  subst AreOpen (sym ((c.get_mut.follows.holds c.peer.new.self).0 ∙ set_same _ _ _ (sym c.in-Some.ensures.value
      ∙ ap Some (sym c.in_err-reply.ensures.err))))
      c.self.invariant.0,
  c.self.invariant.1,
)

-- the lent acquisition was given back as it was
pub returns-in_err-reply-clause-memory : goal.returns-in_err-reply-clause-memory
returns-in_err-reply-clause-memory g c = record {
  err = on_err c.from_residual.result (same_desk _ _ c.self.view_is _ ((c.get_mut.follows.holds c.peer.new.self).0
      ∙ set_same _ _ _ (sym c.in-Some.ensures.value ∙ ap Some (sym c.in_err-reply.ensures.err))));
  told = search (rules, common_steps);
  stays = search (rules, common_steps);
}

-- a peer more is no tick and changes no target
pub invariant_of-self-2 : goal.invariant_of-self-2
invariant_of-self-2 g c = (
  subst AreOpen (sym (c.get_mut.follows.holds c.peer.new.self).0)
      (set_open c.args.target.now c.self.inside.wanted.entries c.peer.new.self c.self.invariant.0
      (subst (IsOpen c.args.target.now) (sym c.in_ok-reply.ensures.after)
      (joined_open c.args.target.now c.in-Some.acquire.now c.args.peer
      (found_open c.args.target.now c.self.inside.wanted.entries c.in-Some.acquire.now c.self.invariant.0 (sym c.in-Some.ensures.value))))),
  c.self.invariant.1,
)
