use Rattle.std.specs.Prelude.{is_none}
use Rattle.std.proofs.Common.{subst}
use Rattle.run_io.specs.Bytes.{Rose}
use Rattle.std.proofs.Common.{inl, inr, rules, arith, sym, ap, ◌∙◌, ◌+◌, ℕ, Bool}
use Rattle.std.proofs.lemmas.Grind.{common_steps}
use Rattle.log_shelf.specs.Logs.{doubted}
use Rattle.log_shelf.proofs.Manifests.{manifest-made, manifest-unmade, reserved-made, rose-later, fresh-log}
use Rattle.log_shelf.proofs.shelf.LogShelf.make.Goals as goal

-- the entry failed: it may be in doubt
pub invariant_of-self-in-Break-branch-4 : goal.invariant_of-self-in-Break-branch-4
invariant_of-self-in-Break-branch-4 g c =
    let shelf = c.make_log.new.self in
    record {
      first = c.note_number.ensures.device.numbered ∙ shelf.first;
      listed = manifest-unmade shelf.live.items _ shelf.made (c.args.self.now.made + 1) (is_none shelf.broken) _ _ _ _ shelf.listed
          (ap is_none c.in_ok-log.ensures.whole) (ap (λ (n : ℕ). n + 1) (sym c.make_log.ensures.rest.made)) (omega arith)
          c.in_err-note_number.ensures.untold c.in_err-note_number.ensures.doubted;
      reserved = shelf.reserved;
    }

-- the log is made, and its number is the next
pub invariant_of-self-3 : goal.invariant_of-self-3
invariant_of-self-3 g c =
    let shelf = c.make_log.new.self in
    record {
      first = c.note_number.ensures.device.numbered ∙ shelf.first;
      listed = manifest-made shelf.live.items _ c.push_number.new.live.items shelf.made (c.args.self.now.made + 1) _ _ _ _ _ _ shelf.listed
          (ap (λ (n : ℕ). n + 1) (sym c.make_log.ensures.rest.made)) (omega arith) c.push_number.ensures c.in_ok-note_number.ensures.told
          (ap (λ (b : Bool). doubted c.note_number.new.manifest.tail b (g.R.D.Disk.seen c.note_number.new.manifest.disk))
          c.in_ok-note_number.ensures.sure);
      reserved = reserved-made shelf.spent c.reserve_log.new.spent _ shelf.live c.reserve_log.new.live _ c.push_number.new.live.items
          (c.args.self.now.made + 1)
          c.make_log.ensures.rest.spent c.reserve_log.ensures.spent c.in_ok-reserve_log.ensures.ok.1 c.make_log.ensures.rest.live
          c.reserve_log.ensures.live c.push_number.ensures;
    }

-- why there is no backend
pub returns-then-self-clause-fresh : goal.returns-then-self-clause-fresh
returns-then-self-clause-fresh g c = record { whole = tt; why = λ e. inr (inr (inl c.if-self.true)) }

pub returns-in_err-close-clause-fresh : goal.returns-in_err-close-clause-fresh
returns-in_err-close-clause-fresh g c =
    record {
      whole = first_of (search rules, grind (arith, common_steps));
      why = λ e. inr (inl (c.in_err-close.ensures.device.cause (search rules)));
    }

pub returns-in_err-log-clause-fresh : goal.returns-in_err-log-clause-fresh
returns-in_err-log-clause-fresh g c =
    record {
      whole = first_of (search rules, grind (arith, common_steps));
      why = λ e. fresh-log (g.R.Room.faults c.args.self.now.room) (g.R.Room.faults c.make_log.new.self.room) (g.R.D.Disk.faults
          c.args.self.now.manifest.disk)
          (g.R.D.Disk.faults c.make_log.new.self.manifest.disk) c.args.self.now.made (c.in_err-log.ensures.counts.cause (search rules));
    }

pub returns-in_err-note_number-clause-fresh : goal.returns-in_err-note_number-clause-fresh
returns-in_err-note_number-clause-fresh g c =
    record {
      whole = first_of (search rules, grind (arith, common_steps));
      why = λ e. inr (inl (rose-later (g.R.D.Disk.faults c.args.self.now.manifest.disk) (g.R.D.Disk.faults c.close.new.self.disk)
          (g.R.D.Disk.faults c.note_number.new.manifest.disk)
          c.close.ensures.device.later
          (subst (λ (n : ℕ). Rose n (g.R.D.Disk.faults c.note_number.new.manifest.disk)) (ap (λ m. g.R.D.Disk.faults m.disk)
          c.make_log.ensures.rest.manifest)
          (c.in_err-note_number.ensures.device.cause (search rules)))));
    }
