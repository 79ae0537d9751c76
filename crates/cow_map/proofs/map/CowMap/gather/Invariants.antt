use Rattle.std.proofs.Common.{ℕ, length, slice_index_or}
use Rattle.cow_map.specs.declared.link.Link.TheVariants.{Empty}
use Rattle.cow_map.specs.Bodies.{IsBelow}
use Rattle.cow_map.proofs.Shifting.{AreGathered}
use Rattle.cow_map.proofs.map.CowMap.gather.Given as goal

abbrev pub invariant-loop-b : goal.invariant-loop-b
invariant-loop-b l = record {
  below : (c : ℕ) → IsBelow (length l.nodes) (slice_index_or l.links c Empty);
  gathered : AreGathered l.fn.kind l.fn.parts.items l.nodes l.links l.b;
}
