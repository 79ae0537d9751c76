use Rattle.std.proofs.Common.{refl, ap, ◌∙◌, ◌++◌, subst}
use Rattle.run_io.specs.Bytes.{Wrote}
use Rattle.run_io.proofs.shared.Bytes.{wrote_nothing, wrote_front, wrote_part, wrote_more}
use Rattle.journal_text.specs.Text.{summary_text}
use Rattle.top_call.specs.Output.{entry_lines}
use Rattle.top_call.proofs.Printed.{prefix_self, on_err}
use Rattle.top_call.proofs.printing.print.Goals as goal

-- a front of the entries' lines is a front of the text
pub returns-in_err-print_entries-clause-part : goal.returns-in_err-print_entries-clause-part
returns-in_err-print_entries-clause-part g c =
    on_err c.from_residual.result (wrote_part _ _ _ _ _ _ (wrote_nothing _) c.in_err-print_entries.ensures.part (summary_text _, refl))

-- the entries' lines are written, and they are a front of the text
pub returns-in_default-clause-part : goal.returns-in_default-clause-part
returns-in_default-clause-part g c = wrote_front _ _ _ _ c.in_ok-print_entries.ensures.wrote (summary_text _, refl)

-- the entries' lines are written, and a front of the summary, which is all that the text has behind them
pub returns-in_err-write_all-clause-part : goal.returns-in_err-write_all-clause-part
returns-in_err-write_all-clause-part g c =
    let core = c.args.core.now in
    on_err c.from_residual-in_err-write_all.result
    (wrote_part _ _ _ _ _ _ c.in_ok-print_entries.ensures.wrote c.in_err-write_all.ensures.part
    (prefix_self _ _ (ap (λ w. entry_lines c.args.quiet core.lines core.journal ++ w)
    (c.bytes.ensures ∙ c.in-Ok.ensures ∙ ap summary_text c.totals.ensures))))

-- the entries' lines are written, and the summary behind them
pub returns-clause-wrote : goal.returns-clause-wrote
returns-clause-wrote g c =
    let core = c.args.core.now in
    subst (Wrote (g.K.Sink.held c.args.sink.now) (g.K.Sink.held c.write_all.new.sink))
    (ap (λ w. entry_lines c.args.quiet core.lines core.journal ++ w) (c.bytes.ensures ∙ c.in-Ok.ensures ∙ ap summary_text c.totals.ensures))
    (wrote_more _ _ _ _ _ c.in_ok-print_entries.ensures.wrote c.in_ok-write_all.ensures.wrote)
