use Rattle.std.proofs.Common.{◌≡◌, ◌≤◌, [], IsTrue}
use Rattle.copy_walk.specs.Walks.{left_of}
use Rattle.copy_walk.specs.Slices.{Drains, SameRest}
use Rattle.copy_walk.proofs.walk.CopyWalk.drain.Given as goal

-- some were taken
abbrev pub invariant-loop-alloc : goal.invariant-loop-alloc
invariant-loop-alloc g l = record {
  strode : IsTrue g.Sh.B.Backend.tells → Drains l.fn.self l.fn.store l.self l.store;
  none : l.fn.self.grey ≡ [] → (l.store ≡ l.fn.store) × (l.self.grey ≡ []);
  rest : SameRest l.fn.store l.store;
  later : l.fn.store.faults ≤ l.store.faults;
  gets : l.fn.store.gets ≤ l.store.gets;
}

-- less is left
abbrev pub decreases-loop-alloc : goal.decreases-loop-alloc
decreases-loop-alloc g l = left_of l.self
