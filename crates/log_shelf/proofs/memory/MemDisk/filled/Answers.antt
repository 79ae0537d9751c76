use Rattle.std.proofs.Common.{sym, ap, ◌∙◌, subst, IsTrue, length, List, ℕ, arith}
use Rattle.log_shelf.specs.Images.{filled}
use Rattle.log_shelf.specs.declared.span.Span.{Span}
use Rattle.log_shelf.proofs.Pending.{end_below, applied-fits}
use Rattle.log_shelf.proofs.memory.MemDisk.filled.Goals as goal

-- each write ends within what reads give
pub loop-span-init : goal.loop-span-init
loop-span-init c =
    let disk = c.args.self.now in
    record {
      made = ap (filled c.deref-span-items.result.now) (c.reserve_to.ensures.items ∙ (c.in_ok-file.ensures.items ∙ c.deref.ensures.value));
      fits = subst (λ (spans : List Span). IsTrue (end_below (length disk.shown.items) spans)) (sym c.deref-span-items.ensures.value)
          (subst (λ (n : ℕ). IsTrue (end_below n disk.pending.items)) (sym (ap length disk.same)) (applied-fits disk.pending.items
          disk.synced.items));
      room = omega (arith, c.in_ok-reserve_to.ensures.ok, c.len.ensures);
    }
