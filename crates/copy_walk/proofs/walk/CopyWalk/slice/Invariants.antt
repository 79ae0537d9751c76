use Rattle.std.proofs.Common.{◌≤◌, IsTrue}
use Rattle.copy_walk.specs.Slices.{Strode, SameRest}
use Rattle.copy_walk.proofs.walk.CopyWalk.slice.Given as goal

-- so many were taken
abbrev pub invariant-loop : goal.invariant-loop
invariant-loop g l = record {
  strode : IsTrue g.Sh.B.Backend.tells → Strode l.counter l.counter l.fn.self l.fn.store l.self l.store;
  rest : SameRest l.fn.store l.store;
  later : l.fn.store.faults ≤ l.store.faults;
  gets : l.fn.store.gets ≤ l.store.gets;
}
