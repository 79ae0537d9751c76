use Rattle.std.proofs.Common.{refl}
use Rattle.log_shelf.proofs.Entries.{entries_of-nil}
use Rattle.log_shelf.proofs.Steps.{log-first}
use Rattle.log_shelf.proofs.log.Log.format.Goals as goal

pub returns-clause-log : goal.returns-clause-log
returns-clause-log g c = record { told = entries_of-nil; sure = refl; numbered = c.write_first.ensures.device.numbered }

pub invariant_of-result : goal.invariant_of-result
invariant_of-result g c =
    record {
      kept = log-first (g.D.Disk.seen c.write_first.new.disk) (g.D.Disk.may_leave c.write_first.new.disk)
          c.in_default.ensures.ok.0 c.in_default.ensures.ok.1;
    }
