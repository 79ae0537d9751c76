use Rattle.std.proofs.Common.{◌≡◌, ◌<◌, ℕ, Some}
use Rattle.std.specs.List.{slice_index_or}
use Rattle.cow_map.specs.declared.link.Link.TheVariants.{Empty}
use Rattle.map_changes.specs.Tracking.{place_of, IsKnown}
use Rattle.map_changes.proofs.ahead.are_known.Given as goal

abbrev pub invariant-loop-b : goal.invariant-loop-b
invariant-loop-b l = record {
  known : (b : ℕ) → b < l.b → (i : ℕ) → place_of (slice_index_or l.links b Empty) ≡ Some i → IsKnown l.hashes i;
}
