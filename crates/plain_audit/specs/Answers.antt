-- What an audit of plain lines answers.
use Rattle.std.specs.Prelude.{◌≡◌, ℕ, Option, None, Some}
use Rattle.ledger_spec.specs.Bytes.{Bytes, Hash, Half}
use Rattle.audit_core.specs.declared.cause.Cause.TheVariants as causes
use Rattle.audit_core.specs.declared.answer.Answer.{Answer}
use Rattle.audit_core.specs.declared.answer.Answer.TheVariants.{Refused}
use Rattle.audit_core.specs.Said.{Said}
use Rattle.audit_core.specs.Verdicts.{IsVerdict}
use Rattle.audit_core.specs.Runs.{SaysOf}
use Rattle.plain_audit.specs.Lines.{line_most, after_line}

-- the end before line n: the verdict, where there was a header
abbrev pub Comes : Half → Option Hash → ℕ → Option Said → Answer → Type 0
Comes half expect n None answer = answer ≡ Refused n causes.NoHeader
Comes half expect n (Some s) answer = IsVerdict half expect s answer

-- the answer to a whole input
abbrev pub IsAnswer : Half → Option Hash → Bytes → Answer → Type 0
IsAnswer half expect bytes answer = SaysOf Refused line_most after_line (Comes half expect) 1 None bytes answer
