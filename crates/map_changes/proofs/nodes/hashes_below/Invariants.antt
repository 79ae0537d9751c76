use Rattle.std.proofs.Common.{◌≡◌, ◌<◌, ℕ, List, length, map, take, Some}
use Rattle.std.specs.List.{slice_index_or}
use Rattle.ledger_spec.specs.declared.Kind.{Kind}
use Rattle.ledger_spec.specs.Bytes.{Half}
use Rattle.cow_map.specs.declared.link.Link.TheVariants.{Empty}
use Rattle.cow_map.specs.Bodies.{Body}
use Rattle.map_changes.specs.Tracking.{place_of, link_hash, AreHashes, IsKnown}
use Rattle.map_changes.proofs.nodes.hashes_below.Given as goal

abbrev pub invariant-loop-b : goal.invariant-loop-b
invariant-loop-b l = record {
  size : length l.below ≡ 16;
  hashes : (half : Half) (kind : Kind) (nodes : List Body) → AreHashes half kind nodes l.hashes
      → take l.b l.below ≡ map (link_hash half kind nodes) (take l.b l.links);
  known : (b : ℕ) → b < l.b → (i : ℕ) → place_of (slice_index_or l.links b Empty) ≡ Some i → IsKnown l.hashes i;
}
