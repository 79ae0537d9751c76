use Rattle.std.proofs.Common.{inr, ◌∙◌, rules, arith}
use Rattle.std.proofs.lemmas.Grind.{common_steps}
use Rattle.rotating_store.proofs.Keeping.{numbered_as, keeps_new}
use Rattle.rotating_store.proofs.Checking.{carried_put, carried_with, there_with, noted_new}
use Rattle.rotating_store.proofs.store.RotStore.put_hashed.Goals as goal

-- neither backend held the hash, so the pair that the failed put may have left, or left in doubt, contradicts nothing
pub invariant_of-self-in_err-put : goal.invariant_of-self-in_err-put
invariant_of-self-in_err-put g c = (
  numbered_as _ _ _ _ _ _ _ c.self.invariant.0 c.get_either.ensures.second.number
      (c.put.ensures.device.numbered ∙ c.get_either.ensures.first.number),
  λ tells. keeps_new _ _ _ _ _ _ _ _ _ _ _ _ c.args.h.now c.args.form.now c.in_ok-old.field-0 (c.self.invariant.1 tells)
      (c.get_either.ensures.first.held tells) (c.get_either.ensures.second.held tells)
      c.get_either.ensures.first.doubt c.get_either.ensures.second.doubt (c.in_ok-old.ensures.found tells) c.in_default.is
      (c.in_err-put.ensures.partly tells),
  λ tells. carried_put (g.Sh.B.Backend.held c.get_either.new.first) _
      (g.Sh.B.Backend.doubt c.get_either.new.first) _ c.add.new.self c.args.h.now c.args.form.now
      (carried_with (g.Sh.B.Backend.held c.self.inside.writable) _ c.self.inside.unchecked c.add.new.self c.args.h.now
      (c.self.invariant.2 tells) (c.get_either.ensures.first.held tells) c.in_ok-add.ensures.added)
      (λ has. there_with c.self.inside.unchecked c.add.new.self c.args.h.now c.in_ok-add.ensures.added)
      (c.in_err-put.ensures.partly tells),
)

-- neither backend held the hash, so with the new pair the two maps agree, and a put that worked leaves none in doubt
pub invariant_of-self-2 : goal.invariant_of-self-2
invariant_of-self-2 g c = (
  numbered_as _ _ _ _ _ _ _ c.self.invariant.0 c.get_either.ensures.second.number
      (c.put.ensures.device.numbered ∙ c.get_either.ensures.first.number),
  λ tells. keeps_new _ _ _ _ _ _ _ _ _ _ _ _ c.args.h.now c.args.form.now c.in_ok-old.field-0 (c.self.invariant.1 tells)
      (c.get_either.ensures.first.held tells) (c.get_either.ensures.second.held tells)
      c.get_either.ensures.first.doubt c.get_either.ensures.second.doubt (c.in_ok-old.ensures.found tells) c.in_default.is
      (inr (c.in_ok-put.ensures.set tells, c.in_ok-put.ensures.doubts.sure)),
  λ tells. carried_put (g.Sh.B.Backend.held c.get_either.new.first) _
      (g.Sh.B.Backend.doubt c.get_either.new.first) _ c.add.new.self c.args.h.now c.args.form.now
      (carried_with (g.Sh.B.Backend.held c.self.inside.writable) _ c.self.inside.unchecked c.add.new.self c.args.h.now
      (c.self.invariant.2 tells) (c.get_either.ensures.first.held tells) c.in_ok-add.ensures.added)
      (λ has. there_with c.self.inside.unchecked c.add.new.self c.args.h.now c.in_ok-add.ensures.added)
      (inr (c.in_ok-put.ensures.set tells, c.in_ok-put.ensures.doubts.sure)),
)

-- the hash wasn't held, and is unchecked
pub returns-in_err-put-clause-store : goal.returns-in_err-put-clause-store
returns-in_err-put-clause-store g c = record {
  past = first_of (search rules, grind (arith, common_steps));
  ready = first_of (search rules, grind (arith, common_steps));
  noted = rw (← c.self.view_is) (noted_new g.Sh.B.Backend.tells (g.Sh.B.Backend.held c.self.inside.writable)
      (g.Sh.B.Backend.held c.self.inside.archive) _ _ _ (g.Sh.B.Backend.doubt c.get_either.new.first) _
      c.self.inside.unchecked c.add.new.self c.args.h.now c.args.form.now c.in_ok-old.field-0
      c.get_either.ensures.first.held c.get_either.ensures.second.held c.in_ok-old.ensures.found c.in_default.is
      (λ tells. c.in_err-put.ensures.partly tells) c.in_ok-add.ensures.added);
  later = first_of (search rules, grind (arith, common_steps));
  gets = first_of (search rules, grind (arith, common_steps));
  cause = first_of (search rules, grind (arith, common_steps));
}

-- the hash wasn't held, and is unchecked
pub returns-clause-store : goal.returns-clause-store
returns-clause-store g c = record {
  past = first_of (search rules, grind (arith, common_steps));
  ready = first_of (search rules, grind (arith, common_steps));
  noted = rw (← c.self.view_is) (noted_new g.Sh.B.Backend.tells (g.Sh.B.Backend.held c.self.inside.writable)
      (g.Sh.B.Backend.held c.self.inside.archive) _ _ _ (g.Sh.B.Backend.doubt c.get_either.new.first) _
      c.self.inside.unchecked c.add.new.self c.args.h.now c.args.form.now c.in_ok-old.field-0
      c.get_either.ensures.first.held c.get_either.ensures.second.held c.in_ok-old.ensures.found c.in_default.is
      (λ tells. inr (c.in_ok-put.ensures.set tells, c.in_ok-put.ensures.doubts.sure)) c.in_ok-add.ensures.added);
  later = first_of (search rules, grind (arith, common_steps));
  gets = first_of (search rules, grind (arith, common_steps));
  cause = first_of (search rules, grind (arith, common_steps));
}
