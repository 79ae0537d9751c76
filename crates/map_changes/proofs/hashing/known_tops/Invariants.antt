use Rattle.std.proofs.Common.{◌≡◌, ℕ, Some, take}
use Rattle.std.specs.List.{All}
use Rattle.map_changes.specs.Tracking.{place_of, IsKnown}
use Rattle.map_changes.proofs.hashing.known_tops.Given as goal

abbrev pub invariant-loop-top : goal.invariant-loop-top
invariant-loop-top l = All (λ top. (i : ℕ) → place_of top ≡ Some i → IsKnown l.hashes i) (take l.top-index l.tops)
