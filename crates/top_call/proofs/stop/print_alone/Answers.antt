-- memory was wanted, so there is no last line
use Rattle.std.proofs.Common.{refl}
use Rattle.run_io.proofs.shared.Bytes.{wrote_front}
use Rattle.top_call.specs.Stopping.{stopped_text}
use Rattle.top_call.proofs.Again.{failed_stop, part_of_run, wanted_stop}
use Rattle.top_call.proofs.stop.print_alone.Goals as goal

pub returns-in-Ok-clause-prints : goal.returns-in-Ok-clause-prints
returns-in-Ok-clause-prints g c at =
    wanted_stop _ _ _ _ _ _ _ _ 0 0 (wrote_front _ _ _ _ c.in-Ok.ensures.wrote (stopped_text at 0 0, refl))

pub returns-in-Err-Fault-clause-prints : goal.returns-in-Err-Fault-clause-prints
returns-in-Err-Fault-clause-prints g c at =
    failed_stop _ _ _ _ _ _ _ _ (c.in-Err-Fault.ensures.cause c.in-Err-Fault.field-0-is) 0 0 (part_of_run _ _ _ _ c.in-Err-Fault.ensures.part)

pub returns-in-Err-Memory-clause-prints : goal.returns-in-Err-Memory-clause-prints
returns-in-Err-Memory-clause-prints g c at = wanted_stop _ _ _ _ _ _ _ _ 0 0 (part_of_run _ _ _ _ c.in-Err-Memory.ensures.part)
