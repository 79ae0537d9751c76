use Rattle.std.proofs.Common.{ap, ◌∙◌, List, ℕ}
use Rattle.std.specs.FinMap as map
use Rattle.log_shelf.specs.Images.{files_in}
use Rattle.log_shelf.proofs.Rooms.{insert-files}
use Rattle.log_shelf.proofs.mem_room.MemRoom.keep_image.Goals as goal

-- the image is set under the number
pub returns-clause-kept : goal.returns-clause-kept
returns-clause-kept c =
    insert-files c.args.self.now.images.entries c.insert.new.self.entries c.args.number c.new.result c.in_ok-insert.ensures.updates.0
    ∙ ap (λ (file : List ℕ). map.insert (files_in c.args.self.now) c.args.number file) (c.new.ensures ∙ c.in_ok-image.ensures.image)
