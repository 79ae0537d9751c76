use Rattle.std.proofs.Common.{◌≡◌, List, Some, sym, ap, ◌∙◌, subst}
use Rattle.std.specs.List.{slice_get, slice_index_or}
use Rattle.cow_map.specs.declared.link.Link.{Link}
use Rattle.cow_map.specs.declared.link.Link.TheVariants.{Empty}
use Rattle.map_changes.specs.Tracking.{Tracking, AreHashes, place_of}
use Rattle.map_changes.proofs.Telling.{nothing_told, root_told}
use Rattle.map_changes.proofs.versions.Versions.root.Goals as goal

-- no place: no item
pub returns-in_default : goal.returns-in_default
returns-in_default g c =
    let t : Tracking = record { tree = c.self.inside.tree; tops = c.self.inside.tops.items; hashes = c.self.inside.hashes.items } in
    rw (← c.self.view_is)
    (nothing_told t c.args.n
    (sym (c.top_place.ensures ∙ ap (λ (ls : List Link). place_of (slice_index_or ls c.args.n Empty)) c.deref.ensures.value)
    ∙ c.in_default.is))

-- the top is the node at a place, and its hash is known
pub returns : goal.returns
returns g c =
    let half = g.H.NodeHash.half in
    let t : Tracking = record { tree = c.self.inside.tree; tops = c.self.inside.tops.items; hashes = c.self.inside.hashes.items } in
    rw (← c.self.view_is)
    (root_told half t c.self.invariant c.known.ensures.nodes c.args.n c.in-Some.at
    (record { hash = c.in_ok-hash.hash; blob = c.in_ok-blob.blob })
    (sym (c.top_place.ensures ∙ ap (λ (ls : List Link). place_of (slice_index_or ls c.args.n Empty)) c.deref.ensures.value)
    ∙ c.in-Some.is)
    (subst (λ hs. slice_get hs c.in-Some.at ≡ Some (Some c.in_ok-hash.hash)) c.deref-2.ensures.value c.in_ok-hash.ensures)
    (c.in_ok-blob.ensures half
    (subst (AreHashes half c.self.inside.tree.kind c.self.inside.tree.nodes) (sym c.deref-3.ensures.value) c.self.invariant.hashes)))
