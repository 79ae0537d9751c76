-- the run's text, and the last line behind it
use Rattle.std.proofs.Common.{inl, refl}
use Rattle.run_io.proofs.shared.Bytes.{rose_later, wrote_front, wrote_more, wrote_part}
use Rattle.top_call.proofs.Again.{failed_stop, part_of_run, wanted_stop}
use Rattle.top_call.proofs.Printed.{prefix_self}
use Rattle.top_call.proofs.stop.print_stop.Goals as goal

pub returns-in-Err-Fault-clause-prints : goal.returns-in-Err-Fault-clause-prints
returns-in-Err-Fault-clause-prints g c =
    failed_stop _ _ _ _ _ _ _ _ (c.in-Err-Fault.ensures.cause c.in-Err-Fault.field-0-is) 0 0 (part_of_run _ _ _ _ c.in-Err-Fault.ensures.part)

pub returns-in-Err-Memory-clause-prints : goal.returns-in-Err-Memory-clause-prints
returns-in-Err-Memory-clause-prints g c = wanted_stop _ _ _ _ _ _ _ _ 0 0 (part_of_run _ _ _ _ c.in-Err-Memory.ensures.part)

pub returns-in-Ok-print_last-clause-prints : goal.returns-in-Ok-print_last-clause-prints
returns-in-Ok-print_last-clause-prints g c =
    let whole = wrote_more _ _ _ _ _ c.in-Ok.ensures.wrote c.in-Ok-print_last.ensures.wrote in
    record {
      said = inl c.own_status.ensures;
      counted = λ one. refl;
      printed = λ one. whole;
      part = (c.args.reopened.now.kept, c.args.reopened.now.whole, wrote_front _ _ _ _ whole (prefix_self _ _ refl));
    }

pub returns-in-Err-Fault-print_last-clause-prints : goal.returns-in-Err-Fault-print_last-clause-prints
returns-in-Err-Fault-print_last-clause-prints g c =
    failed_stop _ _ _ _ _ _ _ _
    (rose_later _ _ _ c.in-Ok.ensures.later (c.in-Err-Fault-print_last.ensures.cause c.in-Err-Fault-print_last.field-0-is))
    c.args.reopened.now.kept c.args.reopened.now.whole
    (wrote_part _ _ _ _ _ _ c.in-Ok.ensures.wrote c.in-Err-Fault-print_last.ensures.part (prefix_self _ _ refl))

pub returns-in-Err-Memory-print_last-clause-prints : goal.returns-in-Err-Memory-print_last-clause-prints
returns-in-Err-Memory-print_last-clause-prints g c =
    wanted_stop _ _ _ _ _ _ _ _ c.args.reopened.now.kept c.args.reopened.now.whole
    (wrote_part _ _ _ _ _ _ c.in-Ok.ensures.wrote c.in-Err-Memory-print_last.ensures.part (prefix_self _ _ refl))
