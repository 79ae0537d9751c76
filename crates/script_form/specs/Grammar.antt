-- The text of a script.
use Rattle.std.specs.Prelude.{◌≡◌, ◌⊎◌, ℕ, ◌+◌, List, [], ◌∷◌, ◌++◌, length, drop, Bool, true, false}
use Rattle.ledger_spec.specs.Bytes.{Bytes, Half}
use Rattle.ledger_machine.specs.declared.commands.Line.{Line}
use Rattle.ledger_machine.specs.declared.commands.Record.{Record}
use Rattle.script_form.specs.declared.cause.Cause.{Cause}
use Rattle.script_form.specs.Words.{lines_of, text_of, words_of, IsNumber}
use Rattle.script_form.specs.Commands.{CallSays}
use Rattle.script_form.specs.Records.{is_store, SaysRecord}
use Rattle.script_form.specs.Causes.{most_bytes, is_command, commands_from, waits, call_in, IsEarlier, Has, AreFine, IsFirstOf, number_of}

-- the most bytes that are read: one more than a script may have
abbrev pub most_read : ℕ
most_read = most_bytes + 1

-- the words behind the actor name the line that is waited for, or none
abbrev pub SaysAfter : List ℕ → List Bytes → ℕ → Type 0
SaysAfter earlier words after =
    ((waits words ≡ false) × (after ≡ 0)) ⊎ ((waits words ≡ true) × IsEarlier earlier words after)

-- The words of a command line say a line; `earlier` are the numbers of the command lines before it.
abbrev pub WordsSay : List ℕ → List Bytes → Line → Type 0
WordsSay earlier [] l = ⊥
WordsSay earlier (actor ∷ words) l = IsNumber actor 63 l.actor × SaysAfter earlier words l.after × CallSays (call_in words) l.command

-- the text of line n says this line
pub record Says (earlier : List ℕ) (n : ℕ) (text : Bytes) (l : Line) : Type 0 where
  pub numbered : l.number ≡ n
  pub words : WordsSay earlier (words_of text) l

-- Behind some lines, further ones say these: each whose words are of a kind says one, in order, given the lines before it and its text.
module _ {X : Type 0} (is_one : List Bytes → Bool) (OneSays : List Bytes → Bytes → X → Type 0) where
  abbrev pub AreSaid : List Bytes → List Bytes → List X → Type 0
  AreSaid before [] [] = Unit {0}
  AreSaid before [] (x ∷ xs) = ⊥
  AreSaid before (line ∷ rest) [] = (is_one (words_of (text_of line)) ≡ false) × AreSaid (before ++ line ∷ []) rest []
  AreSaid before (line ∷ rest) (x ∷ xs) =
      ((is_one (words_of (text_of line)) ≡ false) × AreSaid (before ++ line ∷ []) rest (x ∷ xs))
      ⊎ ((is_one (words_of (text_of line)) ≡ true) × OneSays before (text_of line) x × AreSaid (before ++ line ∷ []) rest xs)

-- the text of a record says it
abbrev pub SaysAsRecord : List Bytes → Bytes → Record → Type 0
SaysAsRecord before text r = SaysRecord (drop 1 (words_of text)) r

-- the text of a command line behind these says a line
abbrev pub SaysAsLine : List Bytes → Bytes → Line → Type 0
SaysAsLine before text l = Says (commands_from 1 before) (length before + 1) text l

-- The bytes are a script of these records and lines: no line has a cause, and these are what the lines say, each record and each command
-- line in order. Since no record stands behind a command line, the records come first.
pub record IsScript (half : Half) (bytes : Bytes) (records : List Record) (lines : List Line) : Type 0 where
  pub fine : AreFine half (lines_of bytes)
  pub stored : AreSaid is_store SaysAsRecord [] (lines_of bytes) records
  pub says : AreSaid is_command SaysAsLine [] (lines_of bytes) lines

-- the bytes are refused at line n for this cause: those before it have none, and it is the first that this one has
pub record IsRefused (half : Half) (bytes : Bytes) (n cause : ℕ) : Type 0 where
  pub before : List Bytes
  pub bad : Bytes
  pub after : List Bytes
  pub cut : lines_of bytes ≡ before ++ bad ∷ after
  pub place : n ≡ length before + 1
  pub good : AreFine half before
  pub why : Cause
  pub first : IsFirstOf (Has half before bad) why
  pub number : cause ≡ number_of why
