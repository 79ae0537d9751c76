use Rattle.std.proofs.Common.{◌+◌, ◌*◌, arith}
use Rattle.shamap_node.proofs.shared.Branches.{whole}
use Rattle.shamap_node.proofs.Branches.{branch_is}
use Rattle.shamap_node.proofs.forms.inner_branch.Goals as goal

pub hash_at-requires : goal.hash_at-requires
hash_at-requires c = omega (arith, (whole c.args.form.now c.requires.inner).0)

pub returns : goal.returns
returns c = branch_is c.args.form.now c.args.b (4 + 32 * c.args.b) c.hash_at.result c.requires.inner c.requires.branch (omega arith)
    c.hash_at.ensures
