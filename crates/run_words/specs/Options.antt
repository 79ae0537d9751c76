-- The options of a command line: `--name N` or `--name=N`, or `--name` alone, in any order and each at most once.
use Rattle.std.specs.Prelude.{◌≡◌, ◌⊎◌, ℕ, ◌==◌, Bool, true, false, if◌then◌else◌, List, [], ◌∷◌, ◌++◌, map, codes, Option, None, Some}
use Rattle.std.specs.Borrow.{Bor}
use Rattle.std.specs.List.{flat_map}
use Rattle.ledger_spec.specs.Bytes.{Bytes}
use Rattle.script_form.specs.Words.{IsNumber}
use Rattle.run_words.specs.declared.options.Options.{Options}
use Rattle.run_words.specs.declared.options.Setting.{Setting}
use Rattle.run_words.specs.declared.options.Setting.TheVariants.{Number, Ledgers, Items, Liars, Actors, Interval, At, Pick}
use Rattle.run_words.specs.declared.options.Switch.{Switch}
use Rattle.run_words.specs.declared.options.Switch.TheVariants.{Quiet, Dump}
use Rattle.run_words.specs.declared.options.Name.{Name}
use Rattle.run_words.specs.declared.options.Name.TheVariants as name

-- the bytes of words
abbrev pub texts : List (Bor Bytes) → List Bytes
texts words = map (λ w. w.now) words

-- the most that a number can be
abbrev pub most_number : ℕ
most_number = 18446744073709551615

-- the word of an option with a number
abbrev pub setting_word : Setting → Bytes
setting_word Number = codes "--number"
setting_word Ledgers = codes "--ledgers"
setting_word Items = codes "--items"
setting_word Liars = codes "--liars"
setting_word Actors = codes "--actors"
setting_word Interval = codes "--interval"
setting_word At = codes "--at"
setting_word Pick = codes "--pick"

-- the word of one without a number
abbrev pub switch_word : Switch → Bytes
switch_word Quiet = codes "--quiet"
switch_word Dump = codes "--dump"

-- the word of either
abbrev pub name_word : Name → Bytes
name_word (name.Setting s) = setting_word s
name_word (name.Switch s) = switch_word s

-- no option
abbrev pub no_options : Options
no_options = record {
  number = None;
  ledgers = None;
  items = None;
  liars = None;
  actors = None;
  interval = None;
  at = None;
  pick = None;
  quiet = false;
  dump = false;
}

-- the number that is given for a setting
abbrev pub number_of : Options → Setting → Option ℕ
number_of o Number = o.number
number_of o Ledgers = o.ledgers
number_of o Items = o.items
number_of o Liars = o.liars
number_of o Actors = o.actors
number_of o Interval = o.interval
number_of o At = o.at
number_of o Pick = o.pick

-- the options with this number given too
abbrev pub with_number : Options → Setting → ℕ → Options
with_number o Number n = record o { number = Some n }
with_number o Ledgers n = record o { ledgers = Some n }
with_number o Items n = record o { items = Some n }
with_number o Liars n = record o { liars = Some n }
with_number o Actors n = record o { actors = Some n }
with_number o Interval n = record o { interval = Some n }
with_number o At n = record o { at = Some n }
with_number o Pick n = record o { pick = Some n }

-- whether an option without a number is given
abbrev pub is_on : Options → Switch → Bool
is_on o Quiet = o.quiet
is_on o Dump = o.dump

-- the options with this one given too
abbrev pub switched_on : Options → Switch → Options
switched_on o Quiet = record o { quiet = true }
switched_on o Dump = record o { dump = true }

-- the words are an option with its number, which isn't given yet
pub record AddsNumber (words : List Bytes) (o : Options) (setting : Setting) (n : ℕ) (v : Options) : Type 0 where
  pub digits : Bytes
  pub is_number : IsNumber digits most_number n
  pub spelled : (words ≡ setting_word setting ∷ digits ∷ []) ⊎ (words ≡ (setting_word setting ++ 61 ∷ digits) ∷ [])
  pub new : number_of o setting ≡ None
  pub after : v ≡ with_number o setting n

-- the word is an option without a number, which isn't given yet
pub record AddsSwitch (words : List Bytes) (o : Options) (switch : Switch) (v : Options) : Type 0 where
  pub spelled : words ≡ switch_word switch ∷ []
  pub new : is_on o switch ≡ false
  pub after : v ≡ switched_on o switch

-- these words are one option, which isn't given yet
abbrev pub Adds : List Bytes → Options → Options → Type 0
Adds words o v = ((setting : Setting) × (n : ℕ) × AddsNumber words o setting n v) ⊎ ((switch : Switch) × AddsSwitch words o switch v)

-- each part is one option, one after another
abbrev pub AddAll : List (List Bytes) → Options → Options → Type 0
AddAll [] o v = v ≡ o
AddAll (part ∷ parts) o v = (mid : Options) × Adds part o mid × AddAll parts mid v

-- beside the options o the words give others, and these are v in all
abbrev pub Gives : List Bytes → Options → Options → Type 0
Gives words o v = (parts : List (List Bytes)) × (words ≡ flat_map (λ part. part) parts) × AddAll parts o v

-- x before the first part
abbrev pub onto_front : ℕ → Bytes × Option Bytes → Bytes × Option Bytes
onto_front x p = (x ∷ p.0, p.1)

-- what stands before the first `=`, and what stands behind it, where there is one
abbrev pub cut_of : Bytes → Bytes × Option Bytes
cut_of [] = ([], None)
cut_of (x ∷ xs) = if x == 61 then ([], Some xs) else onto_front x (cut_of xs)

-- the words that are left to read, behind the word of a setting whose number is awaited
abbrev pub pending : Option Setting → List Bytes → List Bytes
pending None rest = rest
pending (Some setting) rest = setting_word setting ∷ rest
