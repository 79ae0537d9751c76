use Rattle.std.proofs.Common.{rules}
use Rattle.map_changes.proofs.Telling.{two_forms}
use Rattle.map_changes.proofs.nodes.have_one_form.Goals as goal

-- forms of two hashes are two
pub returns-then-two : goal.returns-then-two
returns-then-two c half are =
    two_forms half c.args.map.now.kind c.args.map.now.nodes c.known.ensures.nodes c.args.hashes.now c.args.at c.args.other
    (c.in_ok-two.ensures (search rules)) are
