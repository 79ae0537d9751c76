-- the walk strides on, and what it copies is reached
use Rattle.std.proofs.Common.{◌≡◌, rules, arith}
use Rattle.std.proofs.lemmas.Grind.{common_steps}
use Rattle.online_rotate.proofs.Rotating.{walk_is, strode_both}
use Rattle.online_rotate.proofs.rotator.Rotator.slice.Goals as goal

pub returns-in_err-left-clause-turns : goal.returns-in_err-left-clause-turns
returns-in_err-left-clause-turns g c = record {
  walks = λ tells k.
      let d = c.in_err-left.ensures.slices.err tells in
      let same : c.args.self.now.walk ≡ c.in-Some.walk =
      walk_is c.self.inside.walk c.in-Some.walk _ _ _ c.args.self.now c.in-Some.is c.self.view_is in
      strode_both c.args.self.now.shaded c.in-Some.walk c.args.self.now.walk c.args.store.now same k d.taken c.args.n c.slice.new.self
      c.slice.new.store d.strode;
  counts = first_of (search rules, grind (arith, common_steps));
}

pub returns-clause-turns : goal.returns-clause-turns
returns-clause-turns g c = record {
  walks = λ tells k.
      let d = c.in_ok-left.ensures.slices.ok tells in
      let same : c.args.self.now.walk ≡ c.in-Some.walk =
      walk_is c.self.inside.walk c.in-Some.walk _ _ _ c.args.self.now c.in-Some.is c.self.view_is in
      strode_both c.args.self.now.shaded c.in-Some.walk c.args.self.now.walk c.args.store.now same k d.taken c.args.n c.slice.new.self
      c.slice.new.store d.strode;
  counts = first_of (search rules, grind (arith, common_steps));
}
