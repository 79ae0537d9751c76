use Rattle.map_changes.specs.Tracking.{Tracking}
use Rattle.map_changes.proofs.Tracks.{hashed_keeps, hashed_leaves, hashed_items, hashed_versions}
use Rattle.map_changes.proofs.versions.Versions.hash_all.Goals as goal

-- the hashes that are added are right
pub invariant_of-self : goal.invariant_of-self
invariant_of-self g c =
    let t : Tracking = record { tree = c.self.inside.tree; tops = c.self.inside.tops.items; hashes = c.self.inside.hashes.items } in
    hashed_keeps g.H.NodeHash.half t c.fill.new.hashes.items c.self.invariant c.fill.ensures.hashes c.fill.ensures.closed

-- they are no part of the map
pub returns-clause-kind : goal.returns-clause-kind
returns-clause-kind g c =
    let t : Tracking = record { tree = c.self.inside.tree; tops = c.self.inside.tops.items; hashes = c.self.inside.hashes.items } in
    rw (← c.self.view_is) (hashed_leaves g.H.NodeHash.half t c.fill.new.hashes.items)

pub returns-clause-items : goal.returns-clause-items
returns-clause-items g c =
    let t : Tracking = record { tree = c.self.inside.tree; tops = c.self.inside.tops.items; hashes = c.self.inside.hashes.items } in
    rw (← c.self.view_is) (hashed_items g.H.NodeHash.half t c.fill.new.hashes.items)

pub returns-clause-versions : goal.returns-clause-versions
returns-clause-versions g c =
    let t : Tracking = record { tree = c.self.inside.tree; tops = c.self.inside.tops.items; hashes = c.self.inside.hashes.items } in
    rw (← c.self.view_is) (hashed_versions g.H.NodeHash.half t c.fill.new.hashes.items)
