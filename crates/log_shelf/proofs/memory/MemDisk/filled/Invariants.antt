use Rattle.std.proofs.Common.{◌≡◌, ◌≤◌, length, drop, IsTrue}
use Rattle.std.specs.Vec.{vec_capacity}
use Rattle.log_shelf.specs.Images.{filled}
use Rattle.log_shelf.proofs.Pending.{end_below}
use Rattle.log_shelf.proofs.memory.MemDisk.filled.Given as goal

-- what the writes that are left make of the file is what all do, and there is room for each
abbrev pub invariant-loop-span : goal.invariant-loop-span
invariant-loop-span l = record {
  made : filled (drop l.span-index l.span-items) l.file.items ≡ filled l.span-items l.fn.self.synced.items;
  fits : IsTrue (end_below (length l.fn.self.shown.items) (drop l.span-index l.span-items));
  room : length l.fn.self.shown.items ≤ vec_capacity l.file;
}
