use Rattle.std.specs.Prelude.{is_none}
use Rattle.std.proofs.Common.{arith, rules, sym, ap, ◌∙◌, [], ◌∷◌, length, Bool, length-append}
use Rattle.std.proofs.lemmas.List.{map_push}
use Rattle.std.proofs.lemmas.Grind.{common_steps}
use Rattle.log_shelf.specs.Logs.{told_entries, doubted}
use Rattle.log_shelf.specs.Shelves.{numbers_of}
use Rattle.log_shelf.proofs.Manifests.{manifest-left, manifest-gone, manifest-kept, log-live}
use Rattle.log_shelf.proofs.shelf.LogShelfShelf.discard.Goals as goal

-- the number was none of this shelf's
pub invariant_of-self : goal.invariant_of-self
invariant_of-self g c =
    let shelf = c.args.self.now in
    record {
      first = shelf.first;
      listed = manifest-left shelf.live.items (numbers_of shelf.spent.items) c.unlist.new.live.items shelf.made c.args.old.number
          (is_none shelf.broken)
          (told_entries shelf.manifest.tail (g.R.D.Disk.seen shelf.manifest.disk)) (doubted shelf.manifest.tail shelf.manifest.doubt
          (g.R.D.Disk.seen shelf.manifest.disk))
          shelf.listed (sym c.unlist.ensures.found ∙ c.if-not-unlist.true) c.unlist.ensures.gone;
      reserved = omega (arith, c.unlist.ensures.bound, shelf.reserved);
    }

-- the log is gone
pub invariant_of-self-in-Ok : goal.invariant_of-self-in-Ok
invariant_of-self-in-Ok g c =
    let shelf = c.args.self.now in
    record {
      first = c.note_number.ensures.device.numbered ∙ shelf.first;
      listed = manifest-gone shelf.live.items (numbers_of shelf.spent.items) c.unlist.new.live.items shelf.made c.args.old.number
          (is_none shelf.broken)
          (told_entries shelf.manifest.tail (g.R.D.Disk.seen shelf.manifest.disk)) (told_entries c.note_number.new.manifest.tail
          (g.R.D.Disk.seen c.note_number.new.manifest.disk))
          (doubted shelf.manifest.tail shelf.manifest.doubt (g.R.D.Disk.seen shelf.manifest.disk))
          (doubted c.note_number.new.manifest.tail c.note_number.new.manifest.doubt (g.R.D.Disk.seen c.note_number.new.manifest.disk))
          shelf.listed (omega arith) c.unlist.ensures.gone c.in-Ok.ensures.told
          (ap (λ (b : Bool). doubted c.note_number.new.manifest.tail b (g.R.D.Disk.seen c.note_number.new.manifest.disk))
          c.in-Ok.ensures.sure);
      reserved = omega (arith, c.unlist.ensures.bound, shelf.reserved);
    }

-- it is kept aside
pub invariant_of-self-in-Err : goal.invariant_of-self-in-Err
invariant_of-self-in-Err g c =
    let shelf = c.args.self.now in
    record {
      first = c.note_number.ensures.device.numbered ∙ shelf.first;
      listed = manifest-kept shelf.live.items (numbers_of shelf.spent.items) c.unlist.new.live.items (numbers_of
          c.keep_aside.new.spent.items) shelf.made c.args.old.number (is_none shelf.broken)
          (told_entries shelf.manifest.tail (g.R.D.Disk.seen shelf.manifest.disk)) (told_entries c.note_number.new.manifest.tail
          (g.R.D.Disk.seen c.note_number.new.manifest.disk))
          (doubted shelf.manifest.tail shelf.manifest.doubt (g.R.D.Disk.seen shelf.manifest.disk))
          (doubted c.note_number.new.manifest.tail c.note_number.new.manifest.doubt (g.R.D.Disk.seen c.note_number.new.manifest.disk))
          shelf.listed (omega arith) (sym c.unlist.ensures.found ∙ c.if-not-unlist.false) c.unlist.ensures.gone
          (ap numbers_of c.keep_aside.ensures.kept ∙ map_push (λ b. b.number) shelf.spent.items c.args.old) c.in-Err.ensures.untold
          c.in-Err.ensures.doubted;
      reserved = omega (
        arith,
        ap length c.keep_aside.ensures.kept,
        length-append shelf.spent.items (c.args.old ∷ []),
        c.unlist.ensures.shorter c.if-not-unlist.false,
        shelf.reserved,
        c.keep_aside.ensures.room,
      );
    }

-- in each case what a stop leaves of the manifest has the logs that are left in the list
pub returns-then-not-unlist-clause-left : goal.returns-then-not-unlist-clause-left
returns-then-not-unlist-clause-left g c =
    let shelf = c.args.self.now in
    record {
      counts = record {
        later = first_of (search rules, grind (arith, common_steps));
        cause = first_of (search rules, grind (arith, common_steps));
      };
      stop = log-live c.unlist.new.live.items (numbers_of shelf.spent.items) shelf.made (is_none shelf.broken) shelf.manifest
          (manifest-left shelf.live.items (numbers_of shelf.spent.items) c.unlist.new.live.items shelf.made c.args.old.number (is_none
          shelf.broken)
          (told_entries shelf.manifest.tail (g.R.D.Disk.seen shelf.manifest.disk)) (doubted shelf.manifest.tail shelf.manifest.doubt
          (g.R.D.Disk.seen shelf.manifest.disk))
          shelf.listed (sym c.unlist.ensures.found ∙ c.if-not-unlist.true) c.unlist.ensures.gone);
    }

pub returns-in-Ok-clause-left : goal.returns-in-Ok-clause-left
returns-in-Ok-clause-left g c =
    let shelf = c.args.self.now in
    record {
      counts = record {
        later = first_of (search rules, grind (arith, common_steps));
        cause = first_of (search rules, grind (arith, common_steps));
      };
      stop = log-live c.unlist.new.live.items (numbers_of shelf.spent.items) shelf.made (is_none shelf.broken) c.note_number.new.manifest
          (manifest-gone shelf.live.items (numbers_of shelf.spent.items) c.unlist.new.live.items shelf.made c.args.old.number (is_none
          shelf.broken)
          (told_entries shelf.manifest.tail (g.R.D.Disk.seen shelf.manifest.disk)) (told_entries c.note_number.new.manifest.tail
          (g.R.D.Disk.seen c.note_number.new.manifest.disk))
          (doubted shelf.manifest.tail shelf.manifest.doubt (g.R.D.Disk.seen shelf.manifest.disk))
          (doubted c.note_number.new.manifest.tail c.note_number.new.manifest.doubt (g.R.D.Disk.seen c.note_number.new.manifest.disk))
          shelf.listed (omega arith) c.unlist.ensures.gone c.in-Ok.ensures.told
          (ap (λ (b : Bool). doubted c.note_number.new.manifest.tail b (g.R.D.Disk.seen c.note_number.new.manifest.disk))
          c.in-Ok.ensures.sure));
    }

pub returns-in-Err-clause-left : goal.returns-in-Err-clause-left
returns-in-Err-clause-left g c =
    let shelf = c.args.self.now in
    record {
      counts = record {
        later = first_of (search rules, grind (arith, common_steps));
        cause = first_of (search rules, grind (arith, common_steps));
      };
      stop = log-live c.unlist.new.live.items (numbers_of c.keep_aside.new.spent.items) shelf.made (is_none shelf.broken)
          c.note_number.new.manifest
          (manifest-kept shelf.live.items (numbers_of shelf.spent.items) c.unlist.new.live.items (numbers_of c.keep_aside.new.spent.items)
          shelf.made c.args.old.number (is_none shelf.broken)
          (told_entries shelf.manifest.tail (g.R.D.Disk.seen shelf.manifest.disk)) (told_entries c.note_number.new.manifest.tail
          (g.R.D.Disk.seen c.note_number.new.manifest.disk))
          (doubted shelf.manifest.tail shelf.manifest.doubt (g.R.D.Disk.seen shelf.manifest.disk))
          (doubted c.note_number.new.manifest.tail c.note_number.new.manifest.doubt (g.R.D.Disk.seen c.note_number.new.manifest.disk))
          shelf.listed (omega arith) (sym c.unlist.ensures.found ∙ c.if-not-unlist.false) c.unlist.ensures.gone
          (ap numbers_of c.keep_aside.ensures.kept ∙ map_push (λ b. b.number) shelf.spent.items c.args.old) c.in-Err.ensures.untold
          c.in-Err.ensures.doubted);
    }
