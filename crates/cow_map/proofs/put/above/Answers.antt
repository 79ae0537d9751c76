use Rattle.std.proofs.Common.{◌∙◌, ap}
use Rattle.std.specs.Prelude.{slice_set}
use Rattle.std.proofs.Common.{ℕ, length, List, sym, subst, slice_index_or, replicate}
use Rattle.cow_map.specs.declared.link.Link.{Link}
use Rattle.cow_map.specs.declared.link.Link.TheVariants.{Empty}
use Rattle.cow_map.specs.Bodies.{IsBelow}
use Rattle.cow_map.proofs.shared.Planting.{below_set, none_below, above_done}
use Rattle.cow_map.proofs.Results.{ok_map}
use Rattle.cow_map.proofs.put.above.Goals as goal

-- fifteen links lead nowhere, and the one that is set leads into the list
pub push_inner-requires : goal.push_inner-requires
push_inner-requires c =
    subst (λ (ls : List Link). (b : ℕ) → IsBelow (length c.args.arena.now) (slice_index_or ls b Empty))
    (sym (c.in_ok-links.ensures ∙ ap (λ ls. slice_set ls c.args.b c.args.next.now) c.none.ensures))
    (below_set (length c.args.arena.now) (replicate 16 Empty) c.args.b c.args.next.now (none_below (length c.args.arena.now) 16)
    c.requires.below)

-- the other branches are empty, so the inner node holds what its one branch holds
pub returns-clause-stands : goal.returns-clause-stands
returns-clause-stands c =
    ok_map c.push_inner.result _ _ c.push_inner.ensures.ok (λ link ok half stored kind items enough stands.
    above_done half stored kind c.args.arena.now c.push_inner.new.self c.args.id.now c.args.b c.args.next.now link c.in_ok-links.links
    items ok.0 ok.1
    (c.in_ok-links.ensures ∙ ap (λ ls. slice_set ls c.args.b c.args.next.now) c.none.ensures) c.known.ensures c.requires.below
    c.requires.inner c.requires.branch enough stands)
