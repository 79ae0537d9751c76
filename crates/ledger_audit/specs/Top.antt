-- What the top call comes to: which answer to which bytes, which line is printed of it, and which status it ends with.
use Rattle.std.specs.Prelude.{◌≡◌, ◌⊎◌, ℕ, [], ◌∷◌, ◌++◌, Option, IfSome}
use Rattle.run_io.specs.Bytes.{Rose, Wrote, WrotePart}
use Rattle.ledger_spec.specs.Bytes.{Bytes, Half}
use Rattle.audit_core.specs.declared.answer.Answer.{Answer}
use Rattle.audit_core.specs.declared.answer.Answer.TheVariants.{Whole, OtherHash, OtherState, OtherTx, Refused}
use Rattle.plain_audit.specs.Answers.{IsAnswer}
use Rattle.page_audit.specs.Pages.{IsPagesAnswer}
use Rattle.path_audit.specs.declared.answer.PathAnswer.{PathAnswer}
use Rattle.path_audit.specs.declared.answer.PathAnswer.TheVariants as paths
use Rattle.path_audit.specs.Paths.{IsPathAnswer}
use Rattle.ledger_audit.specs.declared.words.Asked.{Asked}
use Rattle.ledger_audit.specs.declared.words.Asked.TheVariants.{Pages, Plain, Path}
use Rattle.ledger_audit.specs.declared.text.Said.{Said}
use Rattle.ledger_audit.specs.declared.text.Said.TheVariants.{OfLedger, OfPath}
use Rattle.ledger_audit.specs.declared.top.TheConstants.{FINE, DIFFERS, REFUSED, SOURCE_FAILED, SINK_FAILED, NO_MEMORY}
use Rattle.ledger_audit.specs.Text.{said_text}

-- the status of a ledger's answer
abbrev pub status_of : Answer → ℕ
status_of (Whole sum) = FINE
status_of (OtherHash wanted found) = DIFFERS
status_of (OtherState named found) = DIFFERS
status_of (OtherTx named found) = DIFFERS
status_of (Refused line cause) = REFUSED

-- the status of a path's
abbrev pub path_status : PathAnswer → ℕ
path_status (paths.Value bytes) = FINE
path_status paths.Nothing = FINE
path_status paths.NoPath = DIFFERS
path_status (paths.Refused line cause) = REFUSED

abbrev pub said_status : Said → ℕ
said_status (OfLedger answer) = status_of answer
said_status (OfPath answer) = path_status answer

-- this is the answer to the bytes, of what is asked
abbrev pub IsSaid : Half → Asked → Bytes → Said → Type 0
IsSaid half (Pages expect) bytes (OfLedger answer) = IsPagesAnswer half expect bytes answer
IsSaid half (Plain expect) bytes (OfLedger answer) = IsAnswer half expect bytes answer
IsSaid half (Path root key) bytes (OfPath answer) = IsPathAnswer half root key bytes answer
IsSaid half (Pages expect) bytes (OfPath answer) = ⊥
IsSaid half (Plain expect) bytes (OfPath answer) = ⊥
IsSaid half (Path root key) bytes (OfLedger answer) = ⊥

-- the answer's line is printed and the status is its own, or the sink failed, and a front of it is
abbrev pub Prints : Said → Option Bytes → Option Bytes → ℕ → Type 0
Prints said old new status =
    ((status ≡ said_status said) × Wrote old new (said_text said ++ 10 ∷ []))
    ⊎ ((status ≡ SINK_FAILED) × WrotePart old new (said_text said ++ 10 ∷ []))

-- the answer to the input is printed
pub record Answered (half : Half) (asked : Asked) (input : Option Bytes) (old new : Option Bytes) (status : ℕ) : Type 0 where
  pub said : Said
  pub is : IfSome input (λ bytes. IsSaid half asked bytes said)
  pub prints : Prints said old new status

-- there was no answer: the source failed, or memory was wanted
abbrev pub IsSilent : ℕ → Type 0
IsSilent status = (status ≡ SOURCE_FAILED) ⊎ (status ≡ NO_MEMORY)

-- the text was written, or a front of it and the sink's count of faults rose
abbrev pub WroteOrFailed : Option Bytes → Option Bytes → ℕ → ℕ → Bytes → Type 0
WroteOrFailed old new before now text = Wrote old new text ⊎ (WrotePart old new text × Rose before now)
