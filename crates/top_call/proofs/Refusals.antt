-- What is a script is not refused.
use Rattle.std.proofs.Common.{◌≡◌, ℕ, List, [], ◌∷◌, take, Option, Some, None}
use Rattle.std.proofs.Common.{sym, subst}
use Rattle.std.specs.Option.{IfSome}
use Rattle.ledger_spec.specs.Bytes.{Bytes, Half}
use Rattle.ledger_machine.specs.declared.commands.Line.{Line}
use Rattle.ledger_machine.specs.declared.commands.Record.{Record}
use Rattle.ledger_machine.specs.declared.journal.Entry.{Entry}
use Rattle.ledger_machine.specs.Runs.{IsFull}
use Rattle.script_form.specs.Grammar.{IsScript, IsRefused, most_read}
use Rattle.std.specs.Borrow.{Bor}
use Rattle.store_core.specs.Journal.{CoreView}
use Rattle.top_call.specs.declared.status.TheConstants.{FINE, REFUSED, SINK_FAILED, STORE_FAILED, CLASHED, NO_MEMORY}
use Rattle.run_words.specs.declared.words.Words.{Words}
use Rattle.run_words.specs.declared.words.Words.TheVariants.{Replay, Swarm, Stop}
use Rattle.top_call.specs.Asking.{Asks, IsRead, IsRefusedAt, IsScriptOf}
use Rattle.top_call.specs.Top.{IsOneOf, IsScriptRefusal}

script_stands : (half : Half) (bytes : Bytes) (records : List Record) (lines : List Line) (n cause : ℕ) → IsScript half bytes records lines
    → IsRefused half bytes n cause → ⊥
script_stands half bytes records lines n cause s r = s.fine r.before r.bad r.after r.cut r.why r.first.has

-- nothing that is a script is refused, where a script is read
pub not_refused : (half : Half) (w : Words) (left : Option Bytes) (records : List Record) (lines : List Line) (P : Type 0)
    → IsScriptOf half w left records lines → IsRead w → IfSome left (λ bytes. IsRefusedAt half bytes → P)
not_refused half (Swarm plan quiet dump) left records lines P script read = absurd read
not_refused half (Replay interval quiet dump) None records lines P script read = tt
not_refused half (Replay interval quiet dump) (Some bytes) records lines P script read =
    λ (refused : IsRefusedAt half bytes).
    absurd (script_stands half (take most_read bytes) records lines refused.0 refused.1 script refused.2)
not_refused half (Stop at pick interval quiet) None records lines P script read = tt
not_refused half (Stop at pick interval quiet) (Some bytes) records lines P script read =
    λ (refused : IsRefusedAt half bytes).
    absurd (script_stands half (take most_read bytes) records lines refused.0 refused.1 script refused.2)

-- a run is of no refused script
pub run_refusal : (half : Half) (words : List (Bor (List ℕ))) (status : ℕ) (left rest held now : Option Bytes) (before after : ℕ)
    (records : List Record) (lines : List Line) (core : Option CoreView) {E : Type 0} (stopped : Option E)
    → ((w : Words) → Asks words w → IsScriptOf half w left records lines)
    → IsOneOf status (FINE ∷ SINK_FAILED ∷ STORE_FAILED ∷ CLASHED ∷ NO_MEMORY ∷ [])
    → IsScriptRefusal half words status left rest held now before after core stopped
run_refusal half words status left rest held now before after records lines core stopped script one = record {
  read = λ w asks e. absurd (other e);
  refused = λ e. absurd (other e);
  exact = λ w asks read. not_refused half w left records lines _ (script w asks) read;
  never_run = λ w asks read. not_refused half w left records lines _ (script w asks) read;
  line = λ e. absurd (other e);
  printed = λ e. absurd (other e);
  taken = λ e. absurd (other e);
}
  where
    other : status ≡ REFUSED → ⊥
    other e =
        let no : IsOneOf REFUSED (FINE ∷ SINK_FAILED ∷ STORE_FAILED ∷ CLASHED ∷ NO_MEMORY ∷ []) =
        subst (λ n. IsOneOf n (FINE ∷ SINK_FAILED ∷ STORE_FAILED ∷ CLASHED ∷ NO_MEMORY ∷ [])) e one in
        cc

-- the same of a core with the same script
pub script_as : (half : Half) (w : Words) (left : Option Bytes) (rs rs' : List Record) (ls ls' : List Line) → rs ≡ rs' → ls ≡ ls'
    → IsScriptOf half w left rs ls → IsScriptOf half w left rs' ls'
script_as half w left rs rs' ls ls' records lines script =
    subst (λ (x : List Line). IsScriptOf half w left rs' x) lines
    (subst (λ (x : List Record). IsScriptOf half w left x ls) records script)

-- what was asked for is this
pub asked_as : (half : Half) (v w : Words) (left : Option Bytes) (rs : List Record) (ls : List Line) → w ≡ v
    → IsScriptOf half v left rs ls → IsScriptOf half w left rs ls
asked_as half v w left rs ls same script = subst (λ (x : Words). IsScriptOf half x left rs ls) (sym same) script

pub full_as : (ls ls' : List Line) (es es' : List Entry) → ls ≡ ls' → es ≡ es' → IsFull ls es → IsFull ls' es'
full_as ls ls' es es' lines entries full =
    subst (λ (x : List Line). IsFull x es') lines (subst (λ (x : List Entry). IsFull ls x) entries full)
