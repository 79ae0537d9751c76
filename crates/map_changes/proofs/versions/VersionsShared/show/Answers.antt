use Rattle.map_changes.specs.Tracking.{Tracking}
use Rattle.map_changes.proofs.Telling.{node_told}
use Rattle.map_changes.proofs.versions.VersionsShared.show.Goals as goal

-- the hash of a node is known only of one that is there, and then it is that of the node's form
pub returns : goal.returns
returns g c =
    let t : Tracking = record { tree = c.self.inside.tree; tops = c.self.inside.tops.items; hashes = c.self.inside.hashes.items } in
    rw (← c.self.view_is)
    (node_told g.H.NodeHash.half t c.self.invariant c.known.ensures.nodes _ _ c.deref.ensures.value c.deref-2.ensures.value c.args.node
    c.args.place c.in_ok-hash.hash c.in_ok-blob.blob c.in_ok-hash.ensures c.in_ok-blob.ensures)
