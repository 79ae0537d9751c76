use Rattle.std.proofs.Common.{sym, ◌∙◌}
use Rattle.log_shelf.proofs.Rooms.{file-entries, at_other}
use Rattle.log_shelf.proofs.mem_room.MemRoomRoom.make.Goals as goal

-- only the entry of this number was taken out
pub returns-clause-others : goal.returns-clause-others
returns-clause-others c told n other =
    file-entries c.remove.new.self.entries n
    ∙ (c.remove.ensures.updates.2 n (at_other c.args.number n other) ∙ sym (file-entries c.args.self.now.images.entries n))
