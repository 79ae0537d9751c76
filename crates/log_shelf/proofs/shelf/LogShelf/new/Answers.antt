use Rattle.std.proofs.Common.{ap, Bool, true}
use Rattle.log_shelf.specs.Logs.{told_entries, doubted}
use Rattle.log_shelf.specs.Shelves.{numbers_of}
use Rattle.log_shelf.proofs.Manifests.{manifest-new, log-live}
use Rattle.log_shelf.proofs.shelf.LogShelf.new.Goals as goal

-- the manifest has no entry yet
pub returns-in-Ok-format-clause-stop : goal.returns-in-Ok-format-clause-stop
returns-in-Ok-format-clause-stop g c =
    let log = c.in-Ok-format.manifest in
    log-live c.new.result.items (numbers_of c.new-in-Ok-format.result.items) 0 true log
    (manifest-new c.new.result.items (numbers_of c.new-in-Ok-format.result.items) (told_entries log.tail (g.R.D.Disk.seen log.disk))
    (doubted log.tail log.doubt (g.R.D.Disk.seen log.disk)) c.new.ensures.items (ap numbers_of c.new-in-Ok-format.ensures.items)
    c.in-Ok-format.ensures.log.told (ap (λ (b : Bool). doubted log.tail b (g.R.D.Disk.seen log.disk)) c.in-Ok-format.ensures.log.sure))
