use Rattle.std.proofs.Common.{◌≡◌, ◌++◌, ◌-◌, List, map, sym, ap, ◌∙◌, subst}
use Rattle.std.specs.List.{slice_index_or}
use Rattle.cow_map.specs.declared.link.Link.{Link}
use Rattle.cow_map.specs.declared.link.Link.TheVariants.{Empty}
use Rattle.map_changes.specs.Placed.{changed}
use Rattle.map_changes.specs.Given.{given}
use Rattle.map_changes.specs.Walks.{shared_nodes}
use Rattle.map_changes.specs.Tracking.{Tracking, place_of, node_at, kid_at}
use Rattle.map_changes.proofs.Telling.{changes_told}
use Rattle.map_changes.proofs.versions.Versions.changes.Goals as goal

-- a walk from both tops lists what the shared nodes say, and they stand for both versions
pub returns : goal.returns
returns g c =
    let half = g.H.NodeHash.half in
    let t : Tracking = record { tree = c.self.inside.tree; tops = c.self.inside.tops.items; hashes = c.self.inside.hashes.items } in
    rw (← c.self.view_is)
    (changes_told half t c.self.invariant c.known.ensures.nodes c.args.n (c.args.n - 1) c.top_place-old.result c.top_place-new.result
    c.root.result c.new-changes.result.items c.walk.new.out.items c.new-changes.ensures.items c.root.ensures
    (c.top_place-old.ensures ∙ (λ i. place_of (slice_index_or (c.deref-2.ensures.value i) (c.saturating_sub.ensures i) Empty)))
    (c.top_place-new.ensures ∙ ap (λ (ls : List Link). place_of (slice_index_or ls c.args.n Empty)) c.deref.ensures.value)
    (subst (λ (s : Tracking). c.walk.new.out.items ≡ c.new-changes.result.items ++ map (given half) (changed
    (shared_nodes (node_at half s.tree.kind s.tree.nodes) (kid_at s.tree.nodes) c.top_place-old.result c.root.result)
    (shared_nodes (node_at half s.tree.kind s.tree.nodes) (kid_at s.tree.nodes) c.top_place-new.result c.root.result)))
    (sym c.self.view_is) c.in_ok-walk.ensures))
