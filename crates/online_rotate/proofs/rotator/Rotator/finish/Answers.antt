-- what is left is reached or was written before; a refusal has copied only what is reached
use Rattle.std.proofs.Common.{◌≡◌, [], OnOk, rules, arith, subst}
use Rattle.std.proofs.lemmas.Grind.{common_steps}
use Rattle.copy_walk.specs.Walks.{Walk}
use Rattle.online_rotate.specs.Copying.{IsWalking, Rotated, OnlyReachedOrBorn}
use Rattle.online_rotate.proofs.Rotating.{walk_is, on_err, only_born}
use Rattle.online_rotate.proofs.shared.Rotating.{fit_on}
use Rattle.online_rotate.proofs.rotator.Rotator.finish.Goals as goal

pub returns-in_err-rotate-clause-ends : goal.returns-in_err-rotate-clause-ends
returns-in_err-rotate-clause-ends g c = record {
  nodes = λ tells k.
      let same : c.args.self.now.walk ≡ c.in-Some.walk =
      walk_is c.self.inside.walk c.in-Some.walk _ _ _ c.args.self.now c.in-Some.is c.self.view_is in
      let some = c.in_err-rotate.ensures.rotates.some tells c.args.self.now.shaded
      (subst (λ (w : Walk). IsWalking c.args.self.now.shaded w c.args.store.now) same k) in
      let none : OnOk c.from_residual.result (Rotated c.args.self.now.shaded c.args.store.now c.rotate.new.store) = search rules in
      (none, on_err _ c.from_residual.result some.0);
  fit = λ tells k fit.
      let same : c.args.self.now.walk ≡ c.in-Some.walk =
      walk_is c.self.inside.walk c.in-Some.walk _ _ _ c.args.self.now c.in-Some.is c.self.view_is in
      let some = c.in_err-rotate.ensures.rotates.some tells c.args.self.now.shaded
      (subst (λ (w : Walk). IsWalking c.args.self.now.shaded w c.args.store.now) same k) in
      let none : OnOk c.from_residual.result (OnlyReachedOrBorn c.args.self.now.shaded c.args.store.now c.rotate.new.store) =
      search rules in
      (none, on_err _ c.from_residual.result (fit_on _ _ _ fit some.0));
  walks = λ tells k.
      let same : c.args.self.now.walk ≡ c.in-Some.walk =
      walk_is c.self.inside.walk c.in-Some.walk _ _ _ c.args.self.now c.in-Some.is c.self.view_is in
      let some = c.in_err-rotate.ensures.rotates.some tells c.args.self.now.shaded
      (subst (λ (w : Walk). IsWalking c.args.self.now.shaded w c.args.store.now) same k) in
      on_err _ c.from_residual.result some.1;
  notes = first_of (search rules, grind (arith, common_steps));
  still = λ tells none.
      let same : c.args.self.now.walk ≡ c.in-Some.walk =
      walk_is c.self.inside.walk c.in-Some.walk _ _ _ c.args.self.now c.in-Some.is c.self.view_is in
      let kept = c.in_err-rotate.ensures.rotates.still tells (subst (λ (w : Walk). w.grey ≡ []) same none) in
      let ok : OnOk c.from_residual.result (c.rotate.new.store.archive ≡ c.args.store.now.writable) = search rules in
      (ok, on_err _ c.from_residual.result kept.1);
  counts = first_of (search rules, grind (arith, common_steps));
}

pub returns-clause-ends : goal.returns-clause-ends
returns-clause-ends g c = record {
  nodes = λ tells k.
      let same : c.args.self.now.walk ≡ c.in-Some.walk =
      walk_is c.self.inside.walk c.in-Some.walk _ _ _ c.args.self.now c.in-Some.is c.self.view_is in (
        c.in_ok-rotate.ensures.rotates.rotated tells c.args.self.now.shaded
            (subst (λ (w : Walk). IsWalking c.args.self.now.shaded w c.args.store.now) same k),
        tt,
      );
  fit = λ tells k fit.
      let same : c.args.self.now.walk ≡ c.in-Some.walk =
      walk_is c.self.inside.walk c.in-Some.walk _ _ _ c.args.self.now c.in-Some.is c.self.view_is in (
        only_born _ _ _ fit (c.in_ok-rotate.ensures.rotates.rotated tells c.args.self.now.shaded
            (subst (λ (w : Walk). IsWalking c.args.self.now.shaded w c.args.store.now) same k)),
        tt,
      );
  walks = first_of (search rules, grind (arith, common_steps));
  notes = first_of (search rules, grind (arith, common_steps));
  still = λ tells none.
      let same : c.args.self.now.walk ≡ c.in-Some.walk =
      walk_is c.self.inside.walk c.in-Some.walk _ _ _ c.args.self.now c.in-Some.is c.self.view_is in
      ((c.in_ok-rotate.ensures.rotates.still tells (subst (λ (w : Walk). w.grey ≡ []) same none)).0, tt);
  counts = first_of (search rules, grind (arith, common_steps));
}
