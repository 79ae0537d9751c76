use Rattle.map_changes.specs.Tracking.{AreHashes, AreClosed}
use Rattle.map_changes.proofs.ahead.settle_all.Given as goal

abbrev pub invariant-loop-due : goal.invariant-loop-due
invariant-loop-due g l = record {
  hashes : AreHashes g.H.NodeHash.half l.map.kind l.map.nodes l.hashes.items;
  closed : AreClosed l.map.nodes l.hashes.items;
}
