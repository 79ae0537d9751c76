use Rattle.map_changes.specs.Tracking.{Tracking}
use Rattle.map_changes.proofs.Tracks.{keep_keeps, keep_leaves, keep_items, keep_versions}
use Rattle.map_changes.proofs.versions.Versions.keep.Goals as goal

-- a version more, which is what the map is
pub invariant_of-self-2 : goal.invariant_of-self-2
invariant_of-self-2 g c =
    let t : Tracking = record { tree = c.self.inside.tree; tops = c.self.inside.tops.items; hashes = c.self.inside.hashes.items } in
    rw c.in_ok-push.ensures.items
    (keep_keeps g.H.NodeHash.half t c.self.invariant c.known.ensures.top c.top-top.result c.top-top.ensures)

pub returns-clause-kind : goal.returns-clause-kind
returns-clause-kind g c =
    let t : Tracking = record { tree = c.self.inside.tree; tops = c.self.inside.tops.items; hashes = c.self.inside.hashes.items } in
    rw (← c.self.view_is, c.in_ok-push.ensures.items)
    (keep_leaves g.H.NodeHash.half t c.self.invariant c.known.ensures.top c.top-top.result c.top-top.ensures)

pub returns-clause-items : goal.returns-clause-items
returns-clause-items g c =
    let t : Tracking = record { tree = c.self.inside.tree; tops = c.self.inside.tops.items; hashes = c.self.inside.hashes.items } in
    rw (← c.self.view_is, c.in_ok-push.ensures.items)
    (keep_items g.H.NodeHash.half t c.self.invariant c.known.ensures.top c.top-top.result c.top-top.ensures)

pub returns-clause-versions : goal.returns-clause-versions
returns-clause-versions g c =
    let t : Tracking = record { tree = c.self.inside.tree; tops = c.self.inside.tops.items; hashes = c.self.inside.hashes.items } in
    rw (← c.self.view_is, c.in_ok-push.ensures.items)
    (keep_versions g.H.NodeHash.half t c.self.invariant c.known.ensures.top c.top-top.result c.top-top.ensures)
