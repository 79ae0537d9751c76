use Rattle.std.proofs.Common.{◌≤◌, List, ℕ, length, subst}
use Rattle.run_io.proofs.shared.Bytes.{took_at_most}
use Rattle.script_form.specs.Causes.{most_bytes}
use Rattle.script_form.proofs.Scripts.{ended_at}
use Rattle.script_form.proofs.script.read_script.Goals as goal

pub returns-clause-ended : goal.returns-clause-ended
returns-clause-ended g c =
    ended_at _ _ c.in-Ok.bytes.items c.in-Ok.ensures.rest c.in-Ok.ensures.read
    (subst (λ (v : List ℕ). length v ≤ most_bytes) c.deref.ensures.value c.in_ok-script.ensures.few)

-- all that was read stands in front
pub returns-clause-left : goal.returns-clause-left
returns-clause-left g c = record { taken = took_at_most _ _ _ c.in-Ok.ensures.rest; later = c.in-Ok.ensures.counts.later }

pub returns-in_err-script-clause-left : goal.returns-in_err-script-clause-left
returns-in_err-script-clause-left g c = record { taken = took_at_most _ _ _ c.in-Ok.ensures.rest; later = c.in-Ok.ensures.counts.later }
