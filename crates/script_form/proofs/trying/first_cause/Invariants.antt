use Rattle.std.proofs.Common.{ℕ, ◌<◌, get_or}
use Rattle.script_form.specs.declared.cause.Cause.{Cause}
use Rattle.script_form.specs.declared.trying.TheConstants.{ORDER}
use Rattle.script_form.specs.Causes.{TextHas}
use Rattle.script_form.proofs.trying.first_cause.Given as goal

abbrev pub invariant-loop-cause : goal.invariant-loop-cause
invariant-loop-cause l = (k : ℕ) (d : Cause) → k < l.cause-index → TextHas l.earlier l.text (get_or ORDER k d) → ⊥
