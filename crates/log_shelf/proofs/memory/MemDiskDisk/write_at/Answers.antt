use Rattle.std.proofs.Common.{◌≡◌, sym, subst, length, List, ℕ}
use Rattle.std.proofs.lemmas.Result.{on_err_weaker}
use Rattle.log_shelf.specs.Disks.{Torn}
use Rattle.log_shelf.proofs.MemDisks.{outcome-write}
use Rattle.log_shelf.proofs.Ranges.{torn-same}
use Rattle.log_shelf.proofs.memory.MemDiskDisk.write_at.Goals as goal

-- each outcome now is one from before, after this write
pub returns-clause-wrote : goal.returns-clause-wrote
returns-clause-wrote c = record {
  written = c.keep.ensures.kept.written;
  torn = on_err_weaker c.keep.result
      (λ h. subst (λ (x : List ℕ). Torn c.args.at (length c.args.bytes.now) c.args.self.now.shown.items x) (sym h.0)
      (torn-same c.args.at (length c.args.bytes.now) c.args.self.now.shown.items))
      c.keep.ensures.kept.unwritten;
  stop = λ left h. outcome-write (c.keep.new.self.shown.items ≡ c.args.self.now.shown.items) c.keep.result
      c.args.self.now.pending.items
      c.keep.new.self.pending.items c.args.self.now.synced.items c.keep.new.self.synced.items left c.args.at c.args.bytes.now
      c.keep.ensures.kept.pending c.keep.ensures.kept.unwritten c.keep.ensures.synced h;
}
