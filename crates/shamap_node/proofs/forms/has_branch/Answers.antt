use Rattle.std.proofs.Common.{arith}
use Rattle.shamap_node.proofs.Branches.{found, passed, none_of_all}
use Rattle.shamap_node.proofs.forms.has_branch.Goals as goal

pub returns-then-not-is_zero : goal.returns-then-not-is_zero
returns-then-not-is_zero c =
    found 16 c.loop-b.b c.args.body.now c.hash_at.result c.is_zero.result (omega arith) c.hash_at.ensures c.is_zero.ensures
    c.if-not-is_zero.true

pub loop-b-preserved : goal.loop-b-preserved
loop-b-preserved c =
    passed c.loop-b.b c.args.body.now c.hash_at.result c.is_zero.result c.hash_at.ensures c.is_zero.ensures c.if-not-is_zero.false
    c.loop-b.invariant

pub returns : goal.returns
returns c = none_of_all 16 c.loop-b.b c.args.body.now (omega arith) c.loop-b.invariant
