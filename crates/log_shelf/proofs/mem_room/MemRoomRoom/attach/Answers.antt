use Rattle.std.proofs.Common.{sym, ap, ◌∙◌, Some, List, ℕ}
use Rattle.std.specs.Option.{option_copied}
use Rattle.log_shelf.proofs.Rooms.{file-entries}
use Rattle.log_shelf.proofs.mem_room.MemRoomRoom.attach.Goals as goal

-- there is no disk of this number
pub returns-in-None-clause-found : goal.returns-in-None-clause-found
returns-in-None-clause-found c told =
    sym (file-entries c.args.self.now.images.entries c.args.number ∙ (sym c.get.ensures.value ∙ ap option_copied c.in-None.is))

-- the disk has a copy of the image
pub returns-in_ok-of-in-Some-clause-found : goal.returns-in_ok-of-in-Some-clause-found
returns-in_ok-of-in-Some-clause-found c told =
    ap (λ (bytes : List ℕ). Some bytes) (c.in_ok-of-in-Some.ensures.bytes.0 ∙ c.bytes.ensures)
    ∙ (c.in-Some.ensures.value ∙ sym (file-entries c.args.self.now.images.entries c.args.number))
