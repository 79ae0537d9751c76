use Rattle.std.proofs.Common.{◌≡◌, List, Contains, sym, subst, arith, rules}
use Rattle.std.proofs.lemmas.Grind.{common_steps}
use Rattle.ledger_spec.specs.Bytes.{Hash}
use Rattle.ledger_spec.specs.Reach.{kids}
use Rattle.copy_walk.specs.Walks.{ShadesSome}
use Rattle.copy_walk.proofs.Naming.{first_kids, all_kids, branch_shaded, branch_refused, branches_shaded}
use Rattle.copy_walk.proofs.walk.CopyWalk.shade_branches.Goals as goal

-- where one is refused, some were shaded
pub returns-in_err-shade_unless_zero : goal.returns-in_err-shade_unless_zero
returns-in_err-shade_unless_zero c = record {
  some = branch_refused c.args.form.now c.requires c.args.self.now c.loop-b.b c.inner_branch.result c.loop-b.self
      c.shade_unless_zero.new.self (omega (arith, c.loop-b-test.true)) c.inner_branch.ensures c.loop-b.invariant.some
      c.shade_unless_zero.ensures.some;
  all = first_of (search rules, grind (arith, common_steps));
}

-- one branch more
pub loop-b-preserved : goal.loop-b-preserved
loop-b-preserved c = record {
  some = branch_shaded c.args.form.now c.requires c.args.self.now c.loop-b.b c.inner_branch.result c.loop-b.self
      c.shade_unless_zero.new.self (omega (arith, c.loop-b-test.true)) c.inner_branch.ensures c.loop-b.invariant.some
      c.shade_unless_zero.ensures.some;
  all = branches_shaded c.args.form.now c.requires c.args.self.now c.loop-b.b c.inner_branch.result c.loop-b.self
      c.shade_unless_zero.new.self (omega (arith, c.loop-b-test.true)) c.inner_branch.ensures c.loop-b.invariant.some
      c.shade_unless_zero.ensures.some c.loop-b.invariant.all c.in_ok-shade_unless_zero.ensures.all;
}

-- all sixteen were looked at
pub returns : goal.returns
returns c =
    let whole : first_kids c.args.form.now c.loop-b.b ≡ kids c.args.form.now =
    all_kids c.args.form.now c.requires c.loop-b.b (omega (arith, c.loop-b-test.false, c.loop-b.auto.b-end)) in
    record {
      some = subst (λ (hs : List Hash). ShadesSome c.args.self.now hs c.loop-b.self) whole c.loop-b.invariant.some;
      all = λ q is. c.loop-b.invariant.all q (subst (λ (hs : List Hash). Contains hs q) (sym whole) is);
    }
