use Rattle.std.proofs.Common.{sym, subst}
use Rattle.cow_map.specs.Bodies.{CowTree}
use Rattle.map_changes.specs.Tracking.{Tracking, Keeps}
use Rattle.map_changes.proofs.Tracks.{set_leaves, set_items, set_versions, set_keeps}
use Rattle.map_changes.proofs.versions.Versions.set.Goals as goal

-- an item is no part of the kind
pub returns-clause-kind : goal.returns-clause-kind
returns-clause-kind g c =
    let t : Tracking = record { tree = c.self.inside.tree; tops = c.self.inside.tops.items; hashes = c.self.inside.hashes.items } in
    rw (← c.self.view_is)
    (set_leaves g.H.NodeHash.half t c.put_item.new.map c.self.invariant c.known.ensures.nodes c.put_item.ensures.kind
    c.put_item.ensures.grows)

-- the item is set in the map below the top
pub returns-clause-items : goal.returns-clause-items
returns-clause-items g c =
    let t : Tracking = record { tree = c.self.inside.tree; tops = c.self.inside.tops.items; hashes = c.self.inside.hashes.items } in
    rw (← c.self.view_is)
    (set_items g.H.NodeHash.half t c.put_item.new.map c.self.invariant c.known.ensures.nodes c.put_item.ensures.kind
    c.put_item.ensures.grows c.args.item.key c.args.item.value c.in_ok-put_item.ensures.stands)

-- the nodes that are there stay, so each version is there still
pub returns-clause-versions : goal.returns-clause-versions
returns-clause-versions g c =
    let t : Tracking = record { tree = c.self.inside.tree; tops = c.self.inside.tops.items; hashes = c.self.inside.hashes.items } in
    rw (← c.self.view_is)
    (set_versions g.H.NodeHash.half t c.put_item.new.map c.self.invariant c.known.ensures.nodes c.put_item.ensures.kind
    c.put_item.ensures.grows)

-- nodes are only added, so the hashes stay right
pub invariant_of-self-2 : goal.invariant_of-self-2
invariant_of-self-2 g c =
    let t : Tracking = record { tree = c.self.inside.tree; tops = c.self.inside.tops.items; hashes = c.self.inside.hashes.items } in
    set_keeps g.H.NodeHash.half t c.put_item.new.map c.self.invariant c.known.ensures.nodes c.put_item.ensures.kind
    c.put_item.ensures.grows c.args.item.key c.args.item.value c.in_ok-put_item.ensures.stands

-- a map that was refused an item is as it was
pub invariant_of-self : goal.invariant_of-self
invariant_of-self g c =
    subst
    (λ (m : CowTree). Keeps g.H.NodeHash.half (record { tree = m; tops = c.self.inside.tops.items; hashes = c.self.inside.hashes.items }))
    (sym c.in_err-put_item.ensures.err) c.self.invariant
