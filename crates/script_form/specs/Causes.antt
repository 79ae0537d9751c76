-- Why a line is refused, given the lines before it.
use Rattle.std.specs.Prelude.{◌≡◌, ◌⊎◌, ℕ, ◌+◌, ◌<◌, ◌≤◌, ◌==◌, ◌&&◌, not, nat_le, if◌then◌else◌, Bool, true, false, List, [], ◌∷◌, ◌++◌}
use Rattle.std.specs.Prelude.{length, drop, slice_get, codes, Some, flat_map}
use Rattle.std.specs.List.{list_all, Contains}
use Rattle.ledger_spec.specs.Bytes.{Bytes, Half, same_bytes}
use Rattle.script_form.specs.declared.cause.Cause.{Cause}
use Rattle.script_form.specs.declared.cause.Cause.TheVariants as cause
use Rattle.script_form.specs.Words.{text_of, words_of, IsNumber}
use Rattle.script_form.specs.Commands.{CallHas}
use Rattle.script_form.specs.Records.{Earlier, nothing_earlier, is_store, hashes_in, StoreHas}

-- the most bytes of a script, of a line's text, the most command lines, and of these the most that name a page
abbrev pub most_bytes : ℕ
most_bytes = 67108864

abbrev pub most_text : ℕ
most_text = 2200000

abbrev pub most_commands : ℕ
most_commands = 200000

abbrev pub most_pages : ℕ
most_pages = 4000

-- the number of a cause
abbrev pub number_of : Cause → ℕ
number_of cause.ScriptTooLong = 12
number_of cause.NotPrintable = 1
number_of cause.LineTooLong = 2
number_of cause.NoActor = 3
number_of cause.BadAfter = 4
number_of cause.UnknownCommand = 5
number_of cause.ArgumentCount = 6
number_of cause.BadNumber = 7
number_of cause.BadHex = 8
number_of cause.BadKindOrId = 9
number_of cause.ZeroTarget = 10
number_of cause.BadRecord = 11
number_of cause.DataTooLong = 12
number_of cause.TooManyCommands = 12

-- a cause's place in the order of the tests: by its number, but the line with the first byte too many is refused before its other tests,
-- and an item's data is tried before the count of the commands
abbrev pub place_of : Cause → ℕ
place_of cause.ScriptTooLong = 0
place_of cause.TooManyCommands = 13
place_of c = number_of c

-- the byte is printable: 20 to 7E
abbrev pub is_printable : ℕ → Bool
is_printable b = nat_le 32 b && nat_le b 126

-- the line of these words says nothing: it has none, or it is a comment, whose first word begins with `#`
abbrev pub is_skipped : List Bytes → Bool
is_skipped [] = true
is_skipped ([] ∷ words) = false
is_skipped ((x ∷ word) ∷ words) = x == 35

-- the line of these words is to be a command line: it isn't skipped, and is no record
abbrev pub is_command : List Bytes → Bool
is_command words = not (is_skipped words) && not (is_store words)

-- the numbers of the command lines among lines that are numbered from n
abbrev pub commands_from : ℕ → List Bytes → List ℕ
commands_from n [] = []
commands_from n (line ∷ lines) =
    if is_command (words_of (text_of line)) then n ∷ commands_from (n + 1) lines else commands_from (n + 1) lines

-- what some lines leave to the next one
abbrev pub earlier_of : List Bytes → Earlier
earlier_of lines = record { commands = commands_from 1 lines; hashes = hashes_in lines }

-- behind the actor stands `after`
abbrev pub waits : List Bytes → Bool
waits [] = false
waits (word ∷ words) = same_bytes word (codes "after")

-- the command's word and its arguments, of the words behind the actor
abbrev pub call_in : List Bytes → List Bytes
call_in words = if waits words then drop 2 words else words

-- the word behind `after` is the number of an earlier command line
pub record IsEarlier (earlier : List ℕ) (words : List Bytes) (n : ℕ) : Type 0 where
  pub word : Bytes
  pub stands : slice_get words 1 ≡ Some word
  pub number : IsNumber word 4294967295 n
  pub found : Contains earlier n

-- the cause stands at the words of a command line; `earlier` are the numbers of the command lines before it
abbrev pub WordsHave : List ℕ → List Bytes → Cause → Type 0
WordsHave earlier [] c = ⊥
WordsHave earlier (actor ∷ words) cause.NoActor = (n : ℕ) → IsNumber actor 63 n → ⊥
WordsHave earlier (actor ∷ words) cause.BadAfter = (waits words ≡ true) × ((n : ℕ) → IsEarlier earlier words n → ⊥)
WordsHave earlier (actor ∷ words) cause.TooManyCommands = most_commands ≤ length earlier
WordsHave earlier (actor ∷ words) c = CallHas (call_in words) c

-- the cause stands at the words of a line, which is a command line
abbrev pub CommandHas : List ℕ → List Bytes → Cause → Type 0
CommandHas earlier words c = (is_command words ≡ true) × WordsHave earlier words c

-- the cause stands at the words of a line, which is a record
abbrev pub RecordHas : Half → Earlier → List Bytes → Cause → Type 0
RecordHas half earlier words c = (is_store words ≡ true) × StoreHas half earlier (drop 1 words) c

-- the cause stands at a line's text, or at the words of the command line that it is
abbrev pub TextHas : List ℕ → Bytes → Cause → Type 0
TextHas earlier text cause.ScriptTooLong = ⊥
TextHas earlier text cause.NotPrintable = list_all is_printable text ≡ false
TextHas earlier text cause.LineTooLong = most_text < length text
TextHas earlier text c = CommandHas earlier (words_of text) c

-- the cause stands at a line's text, or at what the line is
abbrev pub LineHas : Half → Earlier → Bytes → Cause → Type 0
LineHas half earlier text c = TextHas earlier.commands text c ⊎ RecordHas half earlier (words_of text) c

-- the words of a call name a page
abbrev pub names_page : List Bytes → Bool
names_page [] = false
names_page (word ∷ words) = same_bytes word (codes "page")

-- the line of these words is a command line that names a page
abbrev pub is_page : List Bytes → Bool
is_page words = is_command words && names_page (call_in (drop 1 words))

-- how many of some lines do
abbrev pub pages_in : List Bytes → ℕ
pages_in [] = 0
pages_in (line ∷ lines) = if is_page (words_of (text_of line)) then pages_in lines + 1 else pages_in lines

-- behind these lines, the line is one page command too many
pub record IsOverPages (before : List Bytes) (line : Bytes) : Type 0 where
  pub page : is_page (words_of (text_of line)) ≡ true
  pub full : most_pages ≤ pages_in before

-- the bytes of some lines
abbrev pub size_of : List Bytes → ℕ
size_of lines = length (flat_map (λ line. line) lines)

-- the cause stands at a line behind these
abbrev pub Has : Half → List Bytes → Bytes → Cause → Type 0
Has half before line cause.ScriptTooLong = most_bytes < size_of before + length line
Has half before line cause.TooManyCommands =
    LineHas half (earlier_of before) (text_of line) cause.TooManyCommands ⊎ IsOverPages before line
Has half before line c = LineHas half (earlier_of before) (text_of line) c

-- the line behind these has no cause
abbrev pub IsFine : Half → List Bytes → Bytes → Type 0
IsFine half before line = (c : Cause) → Has half before line c → ⊥

-- the first of some causes
pub record IsFirstOf (Holds : Cause → Type 0) (c : Cause) : Type 0 where
  pub has : Holds c
  pub none_before : (d : Cause) → place_of d < place_of c → Holds d → ⊥

-- each line is fine behind those before it
abbrev pub AreFine : Half → List Bytes → Type 0
AreFine half lines =
    (before : List Bytes) (line : Bytes) (after : List Bytes) → lines ≡ before ++ line ∷ after → IsFine half before line

-- The cause shows in a `store` line alone, of which this is what follows that word: it passes the limit of a script, or the cause stands
-- at its words where nothing is before it.
abbrev pub RestHas : Half → Bytes → Cause → Type 0
RestHas half rest cause.ScriptTooLong = most_bytes < 5 + length rest
RestHas half rest c = StoreHas half nothing_earlier (words_of rest) c
