use Rattle.std.proofs.Common.{refl, rules, arith}
use Rattle.std.proofs.lemmas.Grind.{common_steps}
use Rattle.node_backend.specs.declared.back.BackFault.{BackFault}
use Rattle.rotating_store.proofs.Keeping.{numbered_as, keeps_as, keeps_copy, moved_keeps, moved_there}
use Rattle.rotating_store.proofs.Checking.{carried_copy, carried_more, carried_here, noted_as}
use Rattle.rotating_store.proofs.store.RotStore.forward_into.Goals as goal

-- also a copy that failed stores, or leaves in doubt, only the archive's own form, so the two maps still agree
pub invariant_of-self-in_err-moved : goal.invariant_of-self-in_err-moved
invariant_of-self-in_err-moved g c = (
  numbered_as _ _ _ _ _ _ _ c.self.invariant.0 c.copy_into.ensures.second.number c.copy_into.ensures.first.number,
  λ tells. keeps_as _ _ _ _ _ _ _ _ _ _ (keeps_copy _ _ _ _ _ _ _ _ c.args.h.now (c.self.invariant.1 tells)
      (c.copy_into.ensures.copies.writes tells)) refl (c.copy_into.ensures.second.held tells) refl c.copy_into.ensures.second.doubt,
  λ tells. carried_copy _ _ _ _ _ c.carry.new.self c.args.h.now
      (carried_more (g.Sh.B.Backend.held c.self.inside.writable) c.self.inside.unchecked c.carry.new.self (c.self.invariant.2 tells)
      c.carry.ensures.earlier c.carry.ensures.more)
      (carried_here c.self.inside.unchecked c.carry.new.self c.args.h.now c.carry.ensures.earlier c.in_ok-carry.ensures.carried)
      (c.copy_into.ensures.copies.writes tells),
)

pub returns-in_err-moved-clause-forwards : goal.returns-in_err-moved-clause-forwards
returns-in_err-moved-clause-forwards g c = record {
  nodes = λ tells. rw (← c.self.view_is)
      (moved_keeps _ _ _ _ c.args.h.now c.copy_into.result (c.copy_into.ensures.copies.moves tells)
      (c.copy_into.ensures.second.held tells));
  moves = first_of (search rules, grind (arith, common_steps));
  there = first_of (search rules, grind (arith, common_steps));
  archive = first_of (search rules, grind (arith, common_steps));
}

-- what is copied to the writable backend is the archive's own form, so the two maps still agree
pub invariant_of-self-2 : goal.invariant_of-self-2
invariant_of-self-2 g c = (
  numbered_as _ _ _ _ _ _ _ c.self.invariant.0 c.copy_into.ensures.second.number c.copy_into.ensures.first.number,
  λ tells. keeps_as _ _ _ _ _ _ _ _ _ _ (keeps_copy _ _ _ _ _ _ _ _ c.args.h.now (c.self.invariant.1 tells)
      (c.copy_into.ensures.copies.writes tells)) refl (c.copy_into.ensures.second.held tells) refl c.copy_into.ensures.second.doubt,
  λ tells. carried_copy _ _ _ _ _ c.carry.new.self c.args.h.now
      (carried_more (g.Sh.B.Backend.held c.self.inside.writable) c.self.inside.unchecked c.carry.new.self (c.self.invariant.2 tells)
      c.carry.ensures.earlier c.carry.ensures.more)
      (carried_here c.self.inside.unchecked c.carry.new.self c.args.h.now c.carry.ensures.earlier c.in_ok-carry.ensures.carried)
      (c.copy_into.ensures.copies.writes tells),
)

pub returns-clause-forwards : goal.returns-clause-forwards
returns-clause-forwards g c = record {
  nodes = λ tells. rw (← c.self.view_is) (moved_keeps _ _ _ _ c.args.h.now c.copy_into.result
      (c.copy_into.ensures.copies.moves tells) (c.copy_into.ensures.second.held tells));
  moves = first_of (search rules, grind (arith, common_steps));
  there = λ tells. rw (← c.self.view_is) (moved_there BackFault _ _ _ c.args.h.now c.in_ok-moved.moved
      (c.in_ok-moved.ensures.copies.moves tells));
  archive = first_of (search rules, grind (arith, common_steps));
}

-- the store's one map stays, and what is carried was unchecked
pub returns-in_err-moved-clause-store : goal.returns-in_err-moved-clause-store
returns-in_err-moved-clause-store g c = record {
  past = first_of (search rules, grind (arith, common_steps));
  ready = first_of (search rules, grind (arith, common_steps));
  noted = rw (← c.self.view_is) (noted_as g.Sh.B.Backend.tells _ _ _ _ (λ tells. moved_keeps _ _ _ _ c.args.h.now
      c.copy_into.result (c.copy_into.ensures.copies.moves tells) (c.copy_into.ensures.second.held tells))
      c.carry.ensures.same);
  later = first_of (search rules, grind (arith, common_steps));
  gets = first_of (search rules, grind (arith, common_steps));
  cause = first_of (search rules, grind (arith, common_steps));
}

-- the store's one map stays, and what is carried was unchecked
pub returns-clause-store : goal.returns-clause-store
returns-clause-store g c = record {
  past = first_of (search rules, grind (arith, common_steps));
  ready = first_of (search rules, grind (arith, common_steps));
  noted = rw (← c.self.view_is) (noted_as g.Sh.B.Backend.tells _ _ _ _ (λ tells. moved_keeps _ _ _ _ c.args.h.now
      c.copy_into.result (c.copy_into.ensures.copies.moves tells) (c.copy_into.ensures.second.held tells))
      c.carry.ensures.same);
  later = first_of (search rules, grind (arith, common_steps));
  gets = first_of (search rules, grind (arith, common_steps));
  cause = first_of (search rules, grind (arith, common_steps));
}
