-- A call that says a command has no cause, and one without a cause says one.
use Rattle.std.proofs.Common.{◌≡◌, ◌≢◌, inl, inr, ◌<◌, ◌≤◌, nat_le, List, [], ◌∷◌, length, Bool, true, false, Ok, refl, sym, ◌∙◌, ap}
use Rattle.std.proofs.Common.{subst, arith}
use Rattle.std.proofs.lemmas.Bool.{leb-true, leb-false}
use Rattle.hex.specs.Hex.{decode_of}
use Rattle.nib_path.specs.Paths.{id_wire}
use Rattle.half_hash.specs.Hex.{IsHexOf}
use Rattle.ledger_spec.specs.Bytes.{Bytes, Hash, is_zero}
use Rattle.ledger_spec.specs.Forms.{data_limit}
use Rattle.ledger_machine.specs.declared.commands.Command.{Command}
use Rattle.ledger_machine.specs.declared.commands.Command.TheVariants as command
use Rattle.shamap_node.specs.declared.parts.Item.{Item}
use Rattle.script_form.specs.declared.forms.Form.TheVariants as form
use Rattle.script_form.specs.declared.forms.Argument.{Argument}
use Rattle.script_form.specs.declared.forms.Argument.TheVariants as argument
use Rattle.script_form.specs.declared.forms.Form.{Form}
use Rattle.script_form.specs.declared.cause.Cause.{Cause}
use Rattle.script_form.specs.declared.cause.Cause.TheVariants as cause
use Rattle.script_form.specs.Commands.{word_in, arguments_in, ArgumentOf, SaysArgument, ArgumentsOf, SayArguments, Makes}
use Rattle.script_form.specs.Words.{IsBlob, IsData, IsTarget}
use Rattle.script_form.specs.Commands.{FormSays, CallSays, IsWrong, IsWrongTarget, IsWrongId, IsWrongData, HasWrong, CallHas}
use Rattle.script_form.proofs.ByteWords.{ok_same, hash_size}
use Rattle.script_form.proofs.Shapes.{one_form}

-- the word is right in an argument's place
abbrev pub IsRight : Argument → Bytes → Type 0
IsRight a word = (v : ArgumentOf a) × SaysArgument a word v

abbrev pub AreRight : List Argument → List Bytes → Type 0
AreRight [] [] = Unit {0}
AreRight (a ∷ arguments) (word ∷ words) = IsRight a word × AreRight arguments words
AreRight _ _ = ⊥

same_hash : (word : Bytes) (a b : Hash) → IsHexOf word a → IsHexOf word b → a ≡ b
same_hash word a b is also = ok_same (sym is.value ∙ also.value)

-- a word says one string of bytes
same_blob : (word : Bytes) (a b : Bytes) → IsBlob word a → IsBlob word b → a ≡ b
same_blob word a b is also = elim is [
  | inl none ↦ elim also [ inl nothing ↦ none.1 ∙ sym nothing.1 | inr some ↦ absurd (no_dash word b none.0 some.1) ]
  | inr one ↦ elim also [ inl nothing ↦ absurd (no_dash word a nothing.0 one.1) | inr other ↦ ok_same (sym one.1 ∙ other.1) ]
]
  where
    no_dash : (w x : Bytes) → w ≡ 45 ∷ [] → decode_of w ≡ Ok x → ⊥
    no_dash w x is says = let no = sym says ∙ ap decode_of is in cc

-- the causes of words in the places of arguments
abbrev pub IsOfWord : Cause → Type 0
IsOfWord cause.BadNumber = Unit {0}
IsOfWord cause.BadHex = Unit {0}
IsOfWord cause.BadKindOrId = Unit {0}
IsOfWord cause.ZeroTarget = Unit {0}
IsOfWord cause.DataTooLong = Unit {0}
IsOfWord _ = ⊥

-- no word is wrong for another
of_word : (c : Cause) (a : Argument) (word : Bytes) → IsWrong c a word → IsOfWord c
of_word c argument.Target word wrong = at c wrong
  where
    at : (c : Cause) → IsWrongTarget c word → IsOfWord c
    at cause.BadHex wrong = tt
    at cause.ZeroTarget wrong = tt
    at c wrong = absurd wrong
of_word c argument.Id word wrong = at c wrong
  where
    at : (c : Cause) → IsWrongId c word → IsOfWord c
    at cause.BadHex wrong = tt
    at cause.BadKindOrId wrong = tt
    at c wrong = absurd wrong
of_word c argument.Data word wrong = at c wrong
  where
    at : (c : Cause) → IsWrongData c word → IsOfWord c
    at cause.BadHex wrong = tt
    at cause.DataTooLong wrong = tt
    at c wrong = absurd wrong
of_word c a word wrong = subst (λ (x : Cause). IsOfWord x) (sym wrong.0) tt

not_wrong : (c : Cause) (a : Argument) (word : Bytes) → IsRight a word → IsWrong c a word → ⊥
not_wrong c argument.Target word right wrong = at c wrong
  where
    at : (c : Cause) → IsWrongTarget c word → ⊥
    at cause.BadHex wrong = wrong right.0 right.1.digits
    at cause.ZeroTarget wrong =
        let zero : is_zero right.0 ≡ true = ap is_zero (same_hash word right.0 wrong.0 right.1.digits wrong.1) ∙ wrong.2 in
        let nonzero = right.1.nonzero in
        absurd (grind (arith, zero, nonzero))
    at c wrong = wrong
not_wrong c argument.Id word right wrong = at c wrong
  where
    at : (c : Cause) → IsWrongId c word → ⊥
    at cause.BadHex wrong = wrong (id_wire right.0) (record { digits = right.1.digits; value = right.1.value })
    at cause.BadKindOrId wrong = wrong right.0 right.1
    at c wrong = wrong
not_wrong c argument.Data word right wrong = at c wrong
  where
    at : (c : Cause) → IsWrongData c word → ⊥
    at cause.BadHex wrong = wrong right.0 right.1.digits
    at cause.DataTooLong wrong =
        let same : right.0 ≡ wrong.0 = same_blob word right.0 wrong.0 right.1.digits wrong.1 in
        let within : length right.0 ≤ data_limit = right.1.within in
        let size : length right.0 ≡ length wrong.0 = ap length same in
        let over : data_limit < length wrong.0 = wrong.2 in
        absurd (omega (arith, within, size, over))
    at c wrong = wrong
not_wrong c a word right wrong = wrong.1.none right.0 right.1

none_wrong : (c : Cause) (arguments : List Argument) (words : List Bytes) → AreRight arguments words → HasWrong c arguments words → ⊥
none_wrong c [] [] right wrong = wrong
none_wrong c (a ∷ arguments) (word ∷ words) right wrong =
    elim wrong [ inl here ↦ not_wrong c a word right.0 here | inr behind ↦ none_wrong c arguments words right.1 behind ]
none_wrong c [] (word ∷ words) right wrong = right
none_wrong c (a ∷ arguments) [] right wrong = right

right_count : (arguments : List Argument) (words : List Bytes) → AreRight arguments words → length words ≡ length arguments
right_count [] [] right = refl
right_count (a ∷ arguments) (word ∷ words) right = omega (arith, right_count arguments words right.1)
right_count [] (word ∷ words) right = absurd right
right_count (a ∷ arguments) [] right = absurd right

-- no word has a cause that no argument has
never : (c : Cause) → (IsOfWord c → ⊥) → (arguments : List Argument) (words : List Bytes) → HasWrong c arguments words → ⊥
never c other [] [] wrong = wrong
never c other [] (word ∷ words) wrong = wrong
never c other (a ∷ arguments) [] wrong = wrong
never c other (a ∷ arguments) (word ∷ words) wrong = elim wrong
    [ inl here ↦ other (of_word c a word here) | inr behind ↦ never c other arguments words behind ]

-- a word without a cause can't but be right
must_be_right : (a : Argument) (word : Bytes) → ((c : Cause) → IsWrong c a word → ⊥) → (IsRight a word → ⊥) → ⊥
must_be_right argument.Target word free not = free cause.BadHex (λ h is. at h is (is_zero h) refl)
  where
    at : (h : Hash) → IsHexOf word h → (b : Bool) → is_zero h ≡ b → ⊥
    at h is true z = free cause.ZeroTarget (h, is, z)
    at h is false z = not (h, record { digits = is; nonzero = rw z refl })
must_be_right argument.Id word free not = free cause.BadKindOrId (λ p is. not (p, is))
must_be_right argument.Data word free not = free cause.BadHex (λ b is. at b is (nat_le (length b) data_limit) refl)
  where
    at : (b : Bytes) → IsBlob word b → (t : Bool) → nat_le (length b) data_limit ≡ t → ⊥
    at b is true e = not (b, record { digits = is; within = leb-true (length b) data_limit e })
    at b is false e = free cause.DataTooLong (b, is, leb-false (length b) data_limit e)
must_be_right a word free not = free _ (refl, record { none = λ v is. not (v, is) })

must_be_rights : (arguments : List Argument) (words : List Bytes) → length words ≡ length arguments
    → ((c : Cause) → HasWrong c arguments words → ⊥) → (AreRight arguments words → ⊥) → ⊥
must_be_rights [] [] e free not = not tt
must_be_rights [] (word ∷ words) e free not = absurd (omega arith)
must_be_rights (a ∷ arguments) [] e free not = absurd (omega arith)
must_be_rights (a ∷ arguments) (word ∷ words) e free not =
    must_be_right a word (λ c here. free c (inl here))
    (λ right. must_be_rights arguments words (omega (arith, e)) (λ c behind. free c (inr behind)) (λ rights. not (right, rights)))

-- right arguments say a command
values_of : (arguments : List Argument) (words : List Bytes) → AreRight arguments words
    → (v : ArgumentsOf arguments) × SayArguments arguments words v
values_of [] [] right = (tt, tt)
values_of [] (word ∷ words) right = absurd right
values_of (a ∷ arguments) [] right = absurd right
values_of (a ∷ arguments) (word ∷ words) right =
    let behind = values_of arguments words right.1 in ((right.0.0, behind.0), (right.0.1, behind.1))

-- a key and an item's data that words say make an item
item_of : (key value : Bytes) (k : Hash) (bytes : Bytes) → IsTarget key k → IsData value bytes → Item
item_of key value k bytes named says = record {
  key = k;
  value = bytes;
  valid = record { key_size = hash_size key k named.digits; key_nonzero = named.nonzero; data_size = says.within };
}

-- a form's arguments make a command
form_makes : (f : Form) (args : List Bytes) (v : ArgumentsOf (arguments_in f)) → SayArguments (arguments_in f) args v
    → (c : Command) × Makes f v c
unfolding item_of
form_makes form.Put (n ∷ t ∷ b ∷ []) v says =
    let item : Item = item_of t b v.1.0 v.1.1.0 says.1.0 says.1.1.0 in
    (command.Put v.0 item, (item, record { key_is = refl; data_is = refl }, refl))
form_makes form.Put [] v says = absurd says
form_makes form.Put (n ∷ []) v says = absurd says.1
form_makes form.Put (n ∷ t ∷ []) v says = absurd says.1.1
form_makes form.Put (n ∷ t ∷ b ∷ x ∷ more) v says = absurd says.1.1.1
form_makes form.Tx (n ∷ t ∷ b ∷ []) v says =
    let item : Item = item_of t b v.1.0 v.1.1.0 says.1.0 says.1.1.0 in
    (command.Tx v.0 item, (item, record { key_is = refl; data_is = refl }, refl))
form_makes form.Tx [] v says = absurd says
form_makes form.Tx (n ∷ []) v says = absurd says.1
form_makes form.Tx (n ∷ t ∷ []) v says = absurd says.1.1
form_makes form.Tx (n ∷ t ∷ b ∷ x ∷ more) v says = absurd says.1.1.1
form_makes f args v says = (_, refl)

form_says : (f : Form) (args : List Bytes) → AreRight (arguments_in f) args → (c : Command) × FormSays f args c
form_says f args right =
    let said = values_of (arguments_in f) args right in
    let makes = form_makes f args said.0 said.1 in (makes.0, (said.0, said.1, makes.1))

-- the arguments of a command are right
said_right : (arguments : List Argument) (words : List Bytes) (v : ArgumentsOf arguments) → SayArguments arguments words v
    → AreRight arguments words
said_right [] [] v says = tt
said_right [] (word ∷ words) v says = says
said_right (a ∷ arguments) [] v says = says
said_right (a ∷ arguments) (word ∷ words) v says = ((v.0, says.0), said_right arguments words v.1 says.1)

form_said : (f : Form) (args : List Bytes) (c : Command) → FormSays f args c → AreRight (arguments_in f) args
form_said f args c says = said_right (arguments_in f) args says.0 says.1

-- a form's words are as many as its arguments
pub said_count : (f : Form) (args : List Bytes) (c : Command) → FormSays f args c → length args ≡ length (arguments_in f)
said_count f args c says = right_count (arguments_in f) args (form_said f args c says)

other_form : (f g : Form) (word : Bytes) (args : List Bytes) (c : Cause) → word ≡ word_in f → AreRight (arguments_in f) args
    → word ≡ word_in g → length args ≡ length (arguments_in g) → HasWrong c (arguments_in g) args → ⊥
other_form f g word args c is right also count wrong =
    let same : g ≡ f = one_form g f (sym also ∙ is) (sym count ∙ right_count (arguments_in f) args right) in
    none_wrong c (arguments_in f) args right (subst (λ (x : Form). HasWrong c (arguments_in x) args) same wrong)

-- a call that says a command has no cause
pub call_fine : (call : List Bytes) (said : Command) → CallSays call said → (c : Cause) → CallHas call c → ⊥
call_fine [] said says c has = says
call_fine (word ∷ args) said says cause.UnknownCommand has = has says.0 says.1
call_fine (word ∷ args) said says cause.ArgumentCount has = has says.0 says.1 (said_count says.0 args said says.2)
call_fine (word ∷ args) said says c has =
    other_form says.0 has.0 word args c says.1 (form_said says.0 args said says.2) has.1 has.2 has.3

-- a call's words have no other causes
pub call_never : (call : List Bytes) (c : Cause) → (IsOfWord c → ⊥) → c ≢ cause.UnknownCommand → c ≢ cause.ArgumentCount
    → CallHas call c → ⊥
call_never [] cause.UnknownCommand other one two has = one refl
call_never [] c other one two has = has
call_never (word ∷ args) cause.UnknownCommand other one two has = one refl
call_never (word ∷ args) cause.ArgumentCount other one two has = two refl
call_never (word ∷ args) c other one two has = never c other (arguments_in has.0) args has.3

-- a call without a cause can't but say a command
pub call_must_say : (call : List Bytes) → ((c : Cause) → CallHas call c → ⊥) → ((said : Command) → CallSays call said → ⊥) → ⊥
call_must_say [] free none = free cause.UnknownCommand tt
call_must_say (word ∷ args) free none =
    free cause.ArgumentCount (λ f is count. must_be_rights (arguments_in f) args count (wrong f is count)
    (λ right. let says = form_says f args right in none says.0 (f, is, says.1)))
  where
    wrong : (f : Form) → word ≡ word_in f → length args ≡ length (arguments_in f) → (c : Cause) → HasWrong c (arguments_in f) args → ⊥
    wrong f is count cause.UnknownCommand has = never cause.UnknownCommand (λ x. x) (arguments_in f) args has
    wrong f is count cause.ArgumentCount has = never cause.ArgumentCount (λ x. x) (arguments_in f) args has
    wrong f is count c has = free c (f, is, count, has)
