use Rattle.std.proofs.Common.{sym, ◌∙◌, subst, List, ℕ}
use Rattle.log_shelf.specs.MemDisks.{IsOutcome}
use Rattle.log_shelf.specs.Images.{filled}
use Rattle.log_shelf.specs.Outcomes.{seen_may_stay}
use Rattle.log_shelf.proofs.Pending.{image-left, outcome-synced, outcome-filled}
use Rattle.log_shelf.proofs.memory.MemDisk.image.Goals as goal

-- each of the three may be left
pub returns-in-0-clause-left : goal.returns-in-0-clause-left
returns-in-0-clause-left c =
    let disk = c.args.self.now in
    image-left c.from_slice.result disk.pending.items disk.synced.items c.deref.result.now c.from_slice.ensures.items
    (subst (λ (x : List ℕ). IsOutcome disk.pending.items disk.synced.items x) (sym c.deref.ensures.value) (outcome-synced
    disk.pending.items disk.synced.items))

pub returns-in-1-clause-left : goal.returns-in-1-clause-left
returns-in-1-clause-left c =
    let disk = c.args.self.now in
    image-left c.from_slice-in-1.result disk.pending.items disk.synced.items c.deref-in-1.result.now c.from_slice-in-1.ensures.items
    (seen_may_stay disk.pending.items disk.synced.items c.deref-in-1.result.now (c.deref-in-1.ensures.value ∙ disk.same))

pub returns-in_default-clause-left : goal.returns-in_default-clause-left
returns-in_default-clause-left c =
    let disk = c.args.self.now in
    image-left c.filled.result disk.pending.items disk.synced.items (filled disk.pending.items disk.synced.items) c.filled.ensures
    (outcome-filled disk.pending.items disk.synced.items)
