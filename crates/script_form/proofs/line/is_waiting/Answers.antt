use Rattle.script_form.proofs.Waits.{first_waits}
use Rattle.script_form.proofs.line.is_waiting.Goals as goal

pub returns-in-len1-up : goal.returns-in-len1-up
returns-in-len1-up c = first_waits c.args.behind.now _ _ c.in-len1-up.len_at_least c.is_text.ensures
