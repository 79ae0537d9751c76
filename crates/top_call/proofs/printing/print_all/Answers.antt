use Rattle.std.proofs.Common.{refl}
use Rattle.top_call.proofs.Ending.{printed_behind, printed_part, not_sink, not_memory, said_later}
use Rattle.top_call.proofs.printing.print_all.Goals as goal

-- the journal and the summary are printed whole, and what there is of a dump stands behind them
pub returns-in-Ok-clause-printed : goal.returns-in-Ok-clause-printed
returns-in-Ok-clause-printed g c =
    printed_behind g.Sh.B.Backend.tells c.args.quiet c.args.asked c.args.core.now c.print_dump.new.core (g.K.Sink.held c.args.sink.now)
    (g.K.Sink.held c.print.new.sink)
    (g.K.Sink.held c.print_dump.new.sink) c.print_dump.result.0 c.print_dump.result.1 c.print_dump.ensures.lists c.in-Ok.ensures.wrote
    c.print_dump.ensures.printed c.print_dump.ensures.dumped

pub returns-in-Ok-clause-said : goal.returns-in-Ok-clause-said
returns-in-Ok-clause-said g c =
    said_later c.print_dump.result.0 c.print_dump.new.core (g.K.Sink.faults c.args.sink.now) (g.K.Sink.faults c.print.new.sink)
    (g.K.Sink.faults c.print_dump.new.sink) c.print.ensures.later c.print_dump.ensures.said

pub returns-in-Err-Fault-clause-printed : goal.returns-in-Err-Fault-clause-printed
returns-in-Err-Fault-clause-printed g c =
    printed_part g.Sh.B.Backend.tells c.args.core.now (g.K.Sink.held c.args.sink.now) (g.K.Sink.held c.print.new.sink) _ c.args.quiet c.args.asked
    c.unprinted.result c.unprinted.ensures (not_sink _ refl) refl c.requires c.in-Err-Fault.ensures.part

pub returns-in-Err-Memory-clause-printed : goal.returns-in-Err-Memory-clause-printed
returns-in-Err-Memory-clause-printed g c =
    printed_part g.Sh.B.Backend.tells c.args.core.now (g.K.Sink.held c.args.sink.now) (g.K.Sink.held c.print.new.sink) _ c.args.quiet c.args.asked
    c.unprinted-in-Err-Memory.result c.unprinted-in-Err-Memory.ensures (not_memory _ refl) refl c.requires c.in-Err-Memory.ensures.part
