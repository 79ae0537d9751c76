use Rattle.std.proofs.Common.{◌∙◌, refl}
use Rattle.log_shelf.specs.Outcomes.{seen_may_stay}
use Rattle.log_shelf.proofs.MemDisks.{outcome-settled}
use Rattle.log_shelf.proofs.memory.MemDiskDisk.sync.Goals as goal

-- what is left is what reads gave, which was among the outcomes before
pub returns-clause-kept : goal.returns-clause-kept
returns-clause-kept c = record {
  seen = refl;
  stop = λ left h. seen_may_stay c.args.self.now.pending.items c.args.self.now.synced.items left
      (outcome-settled c.clear.new.self.items c.copy_over.new.synced.items left c.clear.ensures.items h ∙ (c.copy_over.ensures.copied
      ∙ (c.deref.ensures.value ∙ c.args.self.now.same)));
}
