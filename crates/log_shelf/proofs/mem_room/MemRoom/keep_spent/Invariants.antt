use Rattle.std.proofs.Common.{◌≡◌, drop}
use Rattle.log_shelf.specs.Images.{files_in, with_images}
use Rattle.log_shelf.proofs.mem_room.MemRoom.keep_spent.Given as goal

-- what the logs that are left make of the files is what all do
abbrev pub invariant-loop-log : goal.invariant-loop-log
invariant-loop-log l = record {
  kept : with_images l.pick (files_in l.self) (drop l.log-index l.spent) ≡ with_images l.pick (files_in l.fn.self) l.spent;
  stop : l.self.stop ≡ l.fn.self.stop;
}
