use Rattle.std.proofs.Common.{length}
use Rattle.cow_map.proofs.Looking.{placed_node}
use Rattle.cow_map.proofs.look.through.Goals as goal

pub returns-in_ok-of_node-in-Unloaded-clause-placed : goal.returns-in_ok-of_node-in-Unloaded-clause-placed
returns-in_ok-of_node-in-Unloaded-clause-placed g c =
    placed_node (length c.args.arena.now) c.args.kind c.args.id.now c.in_ok-node-in-Unloaded.node.value _ c.known.ensures.short
    c.in_ok-node-in-Unloaded.ensures.fits c.in_ok-of_node-in-Unloaded.ensures
