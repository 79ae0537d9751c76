-- the records are found on the images of the disks, and these hold all that a stop must not lose
use Rattle.std.proofs.Common.{refl, subst}
use Rattle.std.specs.Option.{option_map}
use Rattle.log_shelf.specs.Rooms.{Files}
use Rattle.log_shelf.specs.Shelves.{WasStopped}
use Rattle.log_recovery.specs.Parts.{backends_of}
use Rattle.log_recovery.specs.Records.{AreRecovered}
use Rattle.rotating_store.specs.Stores.{nodes_of}
use Rattle.stop_run.proofs.Reopening.{holds_forms}
use Rattle.stop_run.proofs.recovered.recovered.Goals as goal

pub returns-in-Ok-clause-left : goal.returns-in-Ok-clause-left
returns-in-Ok-clause-left g c =
    let parts = c.a_stop_loses_no_form-parts in
    let shelf = parts.result.shelf.now in
    let bs = backends_of parts.result.archive.now parts.result.writable.now (option_map (λ b. b.now) parts.result.ready) in
    record {
      shelf = shelf;
      archive = parts.result.archive.now;
      writable = parts.result.writable.now;
      ready = option_map (λ b. b.now) parts.result.ready;
      holds = parts.ensures.maps;
      on = parts.ensures.on;
      stopped = subst (λ (files : Files). WasStopped shelf bs files) c.in_ok-room.ensures.files (c.in_ok-room.ensures.stopped parts.ensures.on);
      recovered = subst (λ (files : Files). AreRecovered g.H.NodeHash.half files c.in-Ok.records.items) c.in_ok-room.ensures.files
          (c.in-Ok.ensures.records refl);
    }

pub returns-in-Ok-clause-holds : goal.returns-in-Ok-clause-holds
returns-in-Ok-clause-holds g c =
    let parts = c.a_stop_loses_no_form-parts in
    holds_forms g.H.NodeHash.half _ (nodes_of c.args.store.now) c.in-Ok.records.items (c.in-Ok.ensures.records refl)
    (λ found h form last some stored. parts.ensures.kept _ found (c.in_ok-room.ensures.stopped parts.ensures.on) last h form some stored)
