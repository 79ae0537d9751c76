-- What is said of a line while it is judged; `earlier` are the numbers of the command lines before it, or those with the hashes of the
-- records.
use Rattle.std.specs.Prelude.{◌≡◌, ◌+◌, ℕ, if◌then◌else◌, Bool, List, true, false, drop}
use Rattle.std.specs.List.Sorted.{IsNonDecreasing}
use Rattle.ledger_spec.specs.Bytes.{Bytes, Half}
use Rattle.ledger_spec.specs.Own.{IsStoredAt}
use Rattle.ledger_machine.specs.declared.commands.Command.{Command}
use Rattle.ledger_machine.specs.declared.commands.Command.TheVariants as command
use Rattle.script_form.specs.declared.cause.Cause.{Cause}
use Rattle.script_form.specs.declared.judging.Content.{Content}
use Rattle.script_form.specs.declared.judging.Content.TheVariants as content
use Rattle.script_form.specs.declared.judging.Verdict.{Verdict}
use Rattle.script_form.specs.declared.judging.Verdict.TheVariants as verdict
use Rattle.script_form.specs.Words.{words_of}
use Rattle.script_form.specs.Records.{Earlier, is_store, SaysRecord}
use Rattle.script_form.specs.Causes.{is_skipped, is_command, TextHas, LineHas}
use Rattle.script_form.specs.Grammar.{Says}

-- the command is a page
abbrev pub is_page_command : Command → Bool
is_page_command (command.Page v kind key n) = true
is_page_command _ = false

-- how many pages are named, with what one line more says
abbrev pub pages_with : ℕ → Content → ℕ
pages_with pages (content.Line l) = if is_page_command l.command then pages + 1 else pages
pages_with pages _ = pages

-- the numbers before a line rise, and these are the words of its text, which say no record
pub record IsNoRecord (earlier : List ℕ) (parts : List Bytes) (text : Bytes) : Type 0 where
  pub rises : IsNonDecreasing earlier
  pub words : parts ≡ words_of text
  pub command : is_store (words_of text) ≡ false

-- the text, or the command line that it is, has no cause
abbrev pub IsFineText : List ℕ → Bytes → Type 0
IsFineText earlier text = (c : Cause) → TextHas earlier text c → ⊥

-- the line has no cause
abbrev pub IsFineLine : Half → Earlier → Bytes → Type 0
IsFineLine half earlier text = (c : Cause) → LineHas half earlier text c → ⊥

-- what the text of line n says: nothing, where it is skipped; a record, which is a form under its own hash; or a line
abbrev pub IsSaid : Half → List ℕ → ℕ → Bytes → Content → Type 0
IsSaid half earlier n text content.Nothing = is_skipped (words_of text) ≡ true
IsSaid half earlier n text (content.Record r) =
    (is_store (words_of text) ≡ true) × SaysRecord (drop 1 (words_of text)) r × IsStoredAt half r.hash r.form
IsSaid half earlier n text (content.Line l) = (is_command (words_of text) ≡ true) × Says earlier n text l

-- what becomes of the text of line n, which is no record: it has no cause and is skipped, or says a line; or it has one
abbrev pub IsVerdict : List ℕ → ℕ → Bytes → Verdict → Type 0
IsVerdict earlier n text verdict.Skipped = IsFineText earlier text × (is_skipped (words_of text) ≡ true)
IsVerdict earlier n text (verdict.Line l) = IsFineText earlier text × (is_command (words_of text) ≡ true) × Says earlier n text l
IsVerdict earlier n text verdict.Refused = IsFineText earlier text → ⊥
