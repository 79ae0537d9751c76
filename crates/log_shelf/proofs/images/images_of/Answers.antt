use Rattle.std.proofs.Common.{◌∙◌, ap}
use Rattle.std.proofs.Common.{map as map_list}
use Rattle.std.specs.FinMap as map
use Rattle.log_shelf.specs.Rooms.{Files}
use Rattle.log_shelf.specs.Images.{image_of, with_images}
use Rattle.log_shelf.proofs.Rest.{images-stopped}
use Rattle.log_shelf.proofs.images.images_of.Goals as goal

-- the images are among what a stop may leave
pub returns-clause-stopped : goal.returns-clause-stopped
returns-clause-stopped c on =
    let bs = map_list (λ b. b.now) c.args.logs.now in
    images-stopped (λ d file left. left) c.args.pick c.args.shelf.now bs _
    (c.in_ok-keep_image.ensures.kept
    ∙ ap (λ (files : Files). map.insert files 0 (image_of c.args.pick c.args.shelf.now.manifest.disk))
    (c.in_ok-keep_logs.ensures.kept ∙ ap (λ (files : Files). with_images c.args.pick files bs)
    (c.in_ok-keep_spent.ensures.kept
    ∙ (ap (λ (files : Files). with_images c.args.pick files c.deref.result.now) c.in_ok-room.ensures.empty
    ∙ ap (with_images c.args.pick map.empty) c.deref.ensures.value)))) on
