use Rattle.std.proofs.Common.{◌≡◌, drop}
use Rattle.std.proofs.Common.{map as map_list}
use Rattle.log_shelf.specs.Images.{files_in, with_images}
use Rattle.log_shelf.proofs.mem_room.MemRoom.keep_logs.Given as goal

-- what the logs that are left make of the files is what all do
abbrev pub invariant-loop-log : goal.invariant-loop-log
invariant-loop-log l = record {
  kept : with_images l.pick (files_in l.self) (map_list (λ b. b.now) (drop l.log-index l.logs))
      ≡ with_images l.pick (files_in l.fn.self) (map_list (λ b. b.now) l.logs);
  stop : l.self.stop ≡ l.fn.self.stop;
}
