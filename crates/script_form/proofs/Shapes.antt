-- The forms of the commands, and the causes that their arguments have.
use Rattle.script_form.specs.declared.forms.TheConstants.{FORMS}
use Rattle.std.proofs.Common.{◌≡◌, ◌<◌, ℕ, List, [], ◌∷◌, length, get_or, arith, refl, sym, ◌∙◌, ap, subst, Bool, true, false}
use Rattle.std.specs.Prelude.{suc, ◌==◌, ◌&&◌, not, Option, None, Some, is_some, MatchBool, MatchOption}
use Rattle.std.specs.List.{find}
use Rattle.ledger_spec.specs.Bytes.{Bytes, same_bytes}
use Rattle.script_form.specs.declared.forms.Form.{Form}
use Rattle.script_form.specs.declared.forms.Form.TheVariants as form
use Rattle.script_form.specs.declared.forms.Argument.{Argument}
use Rattle.script_form.specs.declared.cause.Cause.{Cause}
use Rattle.script_form.specs.declared.cause.Cause.TheVariants as cause
use Rattle.script_form.specs.Words.{IsBlob}
use Rattle.script_form.specs.Commands.{word_in, arguments_in, ArgumentOf, SaysArgument, SaysNothing, IsWrongData}

-- whether a form has this word and so many arguments
abbrev has_shape : Bytes → ℕ → Form → Bool
has_shape word count f = same_bytes (word_in f) word && (length (arguments_in f) == count)

-- the form that is found among all by a word and a number of arguments
abbrev form_by : Bytes → ℕ → Option Form
form_by word count = find (has_shape word count) FORMS

-- it is each form by its own: the table has it, and no form before it there is like it
by_form : (f : Form) → form_by (word_in f) (length (arguments_in f)) ≡ Some f
by_form form.Want = refl
by_form f = refl

-- there is one form of a word and a number of arguments
pub one_form : (f g : Form) → word_in f ≡ word_in g → length (arguments_in f) ≡ length (arguments_in g) → f ≡ g
one_form f g word count =
    same (sym (by_form f) ∙ ap (λ (w : Bytes). form_by w (length (arguments_in f))) word
    ∙ ap (λ (n : ℕ). form_by (word_in g) n) count ∙ by_form g)
  where
    same : Some f ≡ Some g → f ≡ g
    same e = cc

-- a word that is no bytes is wrong in the place of an item's data
pub data_tells : (c : Cause) (word : Bytes) (r : Option Bytes) (b : Bool) → c ≡ cause.BadHex → is_some r ≡ not b
    → MatchOption r ((bytes : Bytes) → IsBlob word bytes → ⊥) (IsBlob word)
    → MatchBool b (IsWrongData c word) (IsWrongData c word → ⊥)
data_tells c word r b is tells found =
    subst (λ (a : Cause). MatchBool b (IsWrongData a word) (IsWrongData a word → ⊥)) (sym is) (at r b tells found)
  where
    at : (r : Option Bytes) (b : Bool) → is_some r ≡ not b → MatchOption r ((bytes : Bytes) → IsBlob word bytes → ⊥) (IsBlob word)
        → MatchBool b (IsWrongData cause.BadHex word) (IsWrongData cause.BadHex word → ⊥)
    at None true tells found = found
    at None false tells found = cc
    at (Some x) true tells found = cc
    at (Some x) false tells found = λ wrong. wrong x found

pub no_data : (c : Cause) (word : Bytes) → c ≡ cause.DataTooLong → ((bytes : Bytes) → IsBlob word bytes → ⊥)
    → IsWrongData c word → ⊥
no_data c word is none wrong =
    let long = subst (λ (a : Cause). IsWrongData a word) is wrong in none long.0 long.1

-- a word of which nothing was read says nothing
pub nothing_read : (a : Argument) (word : Bytes) (r : Option (ArgumentOf a)) (b : Bool) → is_some r ≡ not b
    → MatchOption r ((v : ArgumentOf a) → SaysArgument a word v → ⊥) (SaysArgument a word)
    → MatchBool b (SaysNothing a word) (SaysNothing a word → ⊥)
nothing_read a word None true tells found = record { none = found }
nothing_read a word None false tells found = cc
nothing_read a word (Some x) true tells found = cc
nothing_read a word (Some x) false tells found = λ nothing. nothing.none x found

-- a form stands among some
abbrev pub StandsIn : List Form → Form → Type 0
StandsIn forms f = (k : ℕ) × (k < length forms) × ((d : Form) → get_or forms k d ≡ f)

-- what is found among some forms stands there
stands : (is : Form → Bool) (forms : List Form) (f : Form) → find is forms ≡ Some f → StandsIn forms f
stands is [] f found = absurd cc
stands is (g ∷ forms) f found = at (is g) refl (λ behind. stands is forms f behind)
  where
    at : (b : Bool) → is g ≡ b → (find is forms ≡ Some f → StandsIn forms f) → StandsIn (g ∷ forms) f
    at true e behind = let here : Some g ≡ Some f = rw e at found in (0, omega arith, λ d. cc)
    at false e behind = let there = behind (rw e at found) in (suc there.0, omega (arith, there.1), there.2)

-- where a form stands among all forms
pub form_stands : (f : Form) → StandsIn FORMS f
form_stands f = stands (has_shape (word_in f) (length (arguments_in f))) FORMS f (by_form f)
