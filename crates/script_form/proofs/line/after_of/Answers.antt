use Rattle.std.proofs.Common.{◌∙◌, sym}
use Rattle.script_form.proofs.Waits.{named}
use Rattle.script_form.proofs.line.after_of.Goals as goal

pub returns-then-is_waiting : goal.returns-then-is_waiting
returns-then-is_waiting c = named _ _ _ (sym c.is_waiting.ensures ∙ c.if-is_waiting.true) c.earlier_line.ensures
