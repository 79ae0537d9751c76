use Rattle.map_changes.specs.Tracking.{AreHashes, AreClosed}
use Rattle.map_changes.proofs.hashing.make_places.Given as goal

abbrev pub invariant-loop : goal.invariant-loop
invariant-loop g l = record {
  hashes : AreHashes g.H.NodeHash.half l.map.kind l.map.nodes l.hashes.items;
  closed : AreClosed l.map.nodes l.hashes.items;
}
