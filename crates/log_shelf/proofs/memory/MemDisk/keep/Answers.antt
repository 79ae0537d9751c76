use Rattle.std.proofs.Common.{arith, sym, ap, refl, ◌∙◌, ℕ, List, length}
use Rattle.log_shelf.specs.Disks.{overwritten}
use Rattle.log_shelf.specs.MemDisks.{applied}
use Rattle.log_shelf.specs.Outcomes.{length-overwritten}
use Rattle.log_shelf.specs.declared.span.Span.{Span}
use Rattle.log_shelf.proofs.MemDisks.{applied-more}
use Rattle.log_shelf.proofs.memory.MemDisk.keep.Goals as goal

-- the write is the last of those that are kept
pub returns-clause-kept : goal.returns-clause-kept
returns-clause-kept c = record {
  written = c.write_into.ensures.written ∙ ap (λ (x : List ℕ). overwritten x c.args.at c.args.bytes.now) c.reserve_to.ensures.items;
  pending = (record { at = c.args.at; bytes = c.in_ok-copy.copy }, refl, c.in_ok-copy.ensures.items, c.in_ok-push.ensures.items);
  unwritten = tt;
}

pub invariant_of-self-2 : goal.invariant_of-self-2
invariant_of-self-2 c =
    let span : Span = record { at = c.args.at; bytes = c.in_ok-copy.copy } in
    record {
      room = omega (
        arith,
        c.in_ok-reserve_to-2.ensures.ok,
        c.max.ensures,
        ap length c.write_into.ensures.written,
        length-overwritten c.reserve_to.new.file.items c.args.at c.args.bytes.now,
        ap length c.reserve_to.ensures.items,
      );
      same = c.write_into.ensures.written
          ∙ (ap (λ (x : List ℕ). overwritten x c.args.at c.args.bytes.now) (c.reserve_to.ensures.items ∙ c.args.self.now.same)
          ∙ (ap (λ (x : List ℕ). overwritten (applied c.args.self.now.pending.items c.args.self.now.synced.items) c.args.at x) (sym
          c.in_ok-copy.ensures.items)
          ∙ (sym (applied-more c.args.self.now.pending.items span c.args.self.now.synced.items)
          ∙ (ap (λ (x : List Span). applied x c.args.self.now.synced.items) (sym c.in_ok-push.ensures.items)
          ∙ ap (λ (x : List ℕ). applied c.push.new.self.items x) (sym c.reserve_to-2.ensures.items)))));
    }
