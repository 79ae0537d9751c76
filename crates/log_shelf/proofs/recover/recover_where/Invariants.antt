use Rattle.std.proofs.Common.{◌≡◌, ◌≤◌, drop, IsTrue}
use Rattle.std.specs.FinMap as map
use Rattle.log_shelf.specs.Recovery.{recovered_after}
use Rattle.log_shelf.proofs.recover.recover_where.Given as goal

-- what the logs so far and those that are left come to is what all do, and the room tells the same files
abbrev pub invariant-loop-number : goal.invariant-loop-number
invariant-loop-number g l = record {
  found : IsTrue g.R.Room.tells
      → recovered_after g.T.EntryTest.is_record l.found (g.R.Room.files l.fn.room) (drop l.number-index l.number-items)
      ≡ recovered_after g.T.EntryTest.is_record map.empty (g.R.Room.files l.fn.room) l.number-items;
  same : IsTrue g.R.Room.tells → g.R.Room.files l.room ≡ g.R.Room.files l.fn.room;
  calm : IsTrue (g.R.Room.is_calm l.fn.room) → IsTrue (g.R.Room.is_calm l.room);
  later : g.R.Room.faults l.fn.room ≤ g.R.Room.faults l.room;
}
