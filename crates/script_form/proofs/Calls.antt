-- What the words behind a command's word say.
use Rattle.std.proofs.Common.{◌≡◌, ◌≢◌, ap, Bool, true, false, ℕ, ◌-◌, ◌≤◌, List, [], ◌∷◌, length, map, take, drop, get_or, Bor}
use Rattle.std.proofs.Common.{Option, Some, None, Result, Ok, Err, refl, sym, ◌∙◌}
use Rattle.std.proofs.Common.{subst, arith}
use Rattle.std.proofs.lemmas.List.{take_all, length-map}
use Rattle.std.specs.Prelude.{IfOk, MatchBool, MatchOption}
use Rattle.half_hash.specs.declared.bytes.Memory.{Memory}
use Rattle.ledger_spec.specs.Bytes.{Bytes}
use Rattle.ledger_machine.specs.declared.commands.Command.{Command}
use Rattle.script_form.specs.declared.forms.Form.{Form}
use Rattle.ledger_machine.specs.declared.commands.Command.TheVariants as command
use Rattle.script_form.specs.declared.forms.Form.TheVariants as form
use Rattle.shamap_node.specs.declared.parts.Item.{Item}
use Rattle.script_form.specs.declared.forms.Argument.{Argument}
use Rattle.script_form.specs.declared.cause.Cause.{Cause}
use Rattle.script_form.specs.declared.cause.Cause.TheVariants as cause
use Rattle.script_form.specs.Words.{IsBlob, IsCount, IsNumber}
use Rattle.script_form.specs.Commands.{word_in, arguments_in, ArgumentsOf, SayArguments, Makes, CallSays, FormSays, SaysHead, SaysItem}
use Rattle.script_form.specs.Commands.{IsSaid, SaysNone, IsReadAs, HasWrong, CallHas}
use Rattle.script_form.proofs.Right.{said_count}
use Rattle.script_form.proofs.Shapes.{one_form}

-- what was read of a call
abbrev pub CallWasRead : List Bytes → Result (Option Command) Memory → Type 0
CallWasRead call r = IfOk r (λ found. MatchOption found ((c : Command) → CallSays call c → ⊥) (CallSays call))

-- what was read of a form's words
abbrev pub WasRead : Form → List Bytes → Result (Option Command) Memory → Type 0
WasRead f words r = IfOk r (IsReadAs f words)

-- the one form of a word and a number of arguments says what the call says
pub by_form : (f : Form) (word : Bytes) (args : List Bytes) → word ≡ word_in f → length args ≡ length (arguments_in f)
    → (r : Result (Option Command) Memory) → WasRead f args r → CallWasRead (word ∷ args) r
by_form f word args is count (Ok (Some c)) said = (f, is, said.says)
by_form f word args is count (Ok None) none = λ c says.
    let same : says.0 ≡ f = one_form says.0 f (sym says.1 ∙ is) (sym (said_count says.0 args c says.2) ∙ count) in
    none.none c (subst (λ (g : Form). FormSays g args c) same says.2)
by_form f word args is count (Err e) says = tt

-- without a form nothing is said
pub no_form : (word : Bytes) (args : List Bytes) → ((f : Form) → word ≡ word_in f → length args ≡ length (arguments_in f) → ⊥)
    → (c : Command) → CallSays (word ∷ args) c → ⊥
no_form word args none c says = none says.0 says.1 (said_count says.0 args c says.2)

abbrev pub texts : List (Bor Bytes) → List Bytes
texts words = map (λ w. w.now) words

-- what is read of the first word and those behind it is read of the call
pub first_word : (call : List (Bor Bytes)) (d : Bor Bytes) (r : Result (Option Command) Memory) → 1 ≤ length call
    → CallWasRead ((get_or call 0 d).now ∷ texts (take (length call - 1) (drop 1 call))) r → CallWasRead (texts call) r
first_word [] d r some was = absurd (omega (arith, some))
first_word (a ∷ more) d r some was =
    subst (λ (ws : List (Bor Bytes)). CallWasRead (a.now ∷ texts ws) r) (take_all (length (a ∷ more) - 1) more (omega arith)) was

-- the texts of so many words
pub one_word : (words : List (Bor Bytes)) (d : Bor Bytes) → length words ≡ 1 → texts words ≡ (get_or words 0 d).now ∷ []
one_word [] d size = absurd (omega (arith, size))
one_word (a ∷ []) d size = refl
one_word (a ∷ b ∷ more) d size = absurd (omega (arith, size))

pub two_words : (words : List (Bor Bytes)) (d0 d1 : Bor Bytes) → length words ≡ 2
    → texts words ≡ (get_or words 0 d0).now ∷ (get_or words 1 d1).now ∷ []
two_words [] d0 d1 size = absurd (omega (arith, size))
two_words (a ∷ []) d0 d1 size = absurd (omega (arith, size))
two_words (a ∷ b ∷ []) d0 d1 size = refl
two_words (a ∷ b ∷ c ∷ more) d0 d1 size = absurd (omega (arith, size))

pub three_words : (words : List (Bor Bytes)) (d0 d1 d2 : Bor Bytes) → length words ≡ 3
    → texts words ≡ (get_or words 0 d0).now ∷ (get_or words 1 d1).now ∷ (get_or words 2 d2).now ∷ []
three_words [] d0 d1 d2 size = absurd (omega (arith, size))
three_words (a ∷ []) d0 d1 d2 size = absurd (omega (arith, size))
three_words (a ∷ b ∷ []) d0 d1 d2 size = absurd (omega (arith, size))
three_words (a ∷ b ∷ c ∷ []) d0 d1 d2 size = refl
three_words (a ∷ b ∷ c ∷ e ∷ more) d0 d1 d2 size = absurd (omega (arith, size))

pub four_words : (words : List (Bor Bytes)) (d0 d1 d2 d3 : Bor Bytes) → length words ≡ 4
    → texts words ≡ (get_or words 0 d0).now ∷ (get_or words 1 d1).now ∷ (get_or words 2 d2).now ∷ (get_or words 3 d3).now ∷ []
four_words [] d0 d1 d2 d3 size = absurd (omega (arith, size))
four_words (a ∷ []) d0 d1 d2 d3 size = absurd (omega (arith, size))
four_words (a ∷ b ∷ []) d0 d1 d2 d3 size = absurd (omega (arith, size))
four_words (a ∷ b ∷ c ∷ []) d0 d1 d2 d3 size = absurd (omega (arith, size))
four_words (a ∷ b ∷ c ∷ e ∷ []) d0 d1 d2 d3 size = refl
four_words (a ∷ b ∷ c ∷ e ∷ f ∷ more) d0 d1 d2 d3 size = absurd (omega (arith, size))

pub five_words : (words : List (Bor Bytes)) (d0 d1 d2 d3 d4 : Bor Bytes) → length words ≡ 5
    → texts words ≡ (get_or words 0 d0).now ∷ (get_or words 1 d1).now ∷ (get_or words 2 d2).now ∷ (get_or words 3 d3).now
    ∷ (get_or words 4 d4).now ∷ []
five_words [] d0 d1 d2 d3 d4 size = absurd (omega (arith, size))
five_words (a ∷ []) d0 d1 d2 d3 d4 size = absurd (omega (arith, size))
five_words (a ∷ b ∷ []) d0 d1 d2 d3 d4 size = absurd (omega (arith, size))
five_words (a ∷ b ∷ c ∷ []) d0 d1 d2 d3 d4 size = absurd (omega (arith, size))
five_words (a ∷ b ∷ c ∷ e ∷ []) d0 d1 d2 d3 d4 size = absurd (omega (arith, size))
five_words (a ∷ b ∷ c ∷ e ∷ f ∷ []) d0 d1 d2 d3 d4 size = refl
five_words (a ∷ b ∷ c ∷ e ∷ f ∷ g ∷ more) d0 d1 d2 d3 d4 size = absurd (omega (arith, size))

pub says_as : (f : Form) (words ws : List Bytes) (v : ArgumentsOf (arguments_in f)) (c : Command) → words ≡ ws
    → SayArguments (arguments_in f) ws v → Makes f v c → IsSaid f words c
says_as f words ws v c same says makes =
    record { says = (v, subst (λ (x : List Bytes). SayArguments (arguments_in f) x v) (sym same) says, makes) }

-- what was read of a form is read of another name of it
pub read_as : (f g : Form) (words : List Bytes) (r : Result (Option Command) Memory) → f ≡ g → WasRead g words r → WasRead f words r
read_as f g words r same was = subst (λ (x : Form). WasRead x words r) (sym same) was

-- what was read of a base reply's first three words, with these roots
abbrev pub HeadWasRead : List Bytes → Option Bytes → Option Bytes → Result (Option Command) Memory → Type 0
HeadWasRead words state tx r = IfOk r (λ found. MatchOption found ((p : ℕ) (t head : Bytes) → SaysHead words p t head → ⊥)
    (λ c. (p : ℕ) × (t : Bytes) × (head : Bytes) × SaysHead words p t head × (c ≡ command.Base p t head state tx)))

pub no_header : (words : List (Bor Bytes)) (d : Bor Bytes) → ((bytes : Bytes) → IsBlob (get_or words 2 d).now bytes → ⊥)
    → (p : ℕ) (t head : Bytes) → SaysHead (texts words) p t head → ⊥
no_header [] d none p t head says = says
no_header (a ∷ []) d none p t head says = says
no_header (a ∷ b ∷ []) d none p t head says = says
no_header (a ∷ b ∷ c ∷ more) d none p t head says = none head says.2

pub base_read : (words : List (Bor Bytes)) → length words ≡ 3 → (r : Result (Option Command) Memory)
    → HeadWasRead (texts words) None None r → WasRead form.Base (texts words) r
base_read (a ∷ b ∷ c ∷ []) size (Ok (Some x)) is =
    record { says = ((is.0, (is.1, (is.2, tt))), (is.3.0, (is.3.1, (is.3.2, tt))), is.4) }
base_read (a ∷ b ∷ c ∷ []) size (Ok None) none =
    record { none = λ x says. none says.0.0 says.0.1.0 says.0.1.1.0 (says.1.0, says.1.1.0, says.1.1.1.0) }
base_read words size (Err e) is = tt
base_read [] size (Ok x) is = absurd (omega (arith, size))
base_read (a ∷ []) size (Ok x) is = absurd (omega (arith, size))
base_read (a ∷ b ∷ []) size (Ok x) is = absurd (omega (arith, size))
base_read (a ∷ b ∷ c ∷ e ∷ more) size (Ok x) is = absurd (omega (arith, size))

pub base_state_read : (words : List (Bor Bytes)) (d : Bor Bytes) (state : Bytes) → length words ≡ 4 → IsBlob (get_or words 3 d).now state
    → (r : Result (Option Command) Memory) → HeadWasRead (texts words) (Some state) None r → WasRead form.BaseState (texts words) r
base_state_read (a ∷ b ∷ c ∷ s ∷ []) d state size blob (Ok (Some x)) is =
    record { says = ((is.0, (is.1, (is.2, (state, tt)))), (is.3.0, (is.3.1, (is.3.2, (blob, tt)))), is.4) }
base_state_read (a ∷ b ∷ c ∷ s ∷ []) d state size blob (Ok None) none =
    record { none = λ x says. none says.0.0 says.0.1.0 says.0.1.1.0 (says.1.0, says.1.1.0, says.1.1.1.0) }
base_state_read words d state size blob (Err e) is = tt
base_state_read [] d state size blob (Ok x) is = absurd (omega (arith, size))
base_state_read (a ∷ []) d state size blob (Ok x) is = absurd (omega (arith, size))
base_state_read (a ∷ b ∷ []) d state size blob (Ok x) is = absurd (omega (arith, size))
base_state_read (a ∷ b ∷ c ∷ []) d state size blob (Ok x) is = absurd (omega (arith, size))
base_state_read (a ∷ b ∷ c ∷ s ∷ e ∷ more) d state size blob (Ok x) is = absurd (omega (arith, size))

pub no_state : (words : List (Bor Bytes)) (d : Bor Bytes) → length words ≡ 4 → ((bytes : Bytes) → IsBlob (get_or words 3 d).now bytes → ⊥)
    → SaysNone form.BaseState (texts words)
no_state (a ∷ b ∷ c ∷ s ∷ []) d size none = record { none = λ x says. none says.0.1.1.1.0 says.1.1.1.1.0 }
no_state [] d size none = absurd (omega (arith, size))
no_state (a ∷ []) d size none = absurd (omega (arith, size))
no_state (a ∷ b ∷ []) d size none = absurd (omega (arith, size))
no_state (a ∷ b ∷ c ∷ []) d size none = absurd (omega (arith, size))
no_state (a ∷ b ∷ c ∷ s ∷ e ∷ more) d size none = absurd (omega (arith, size))

pub base_tx_read : (words : List (Bor Bytes)) (d e : Bor Bytes) (state tx : Bytes) → length words ≡ 5
    → IsBlob (get_or words 3 d).now state → IsBlob (get_or words 4 e).now tx
    → (r : Result (Option Command) Memory) → HeadWasRead (texts words) (Some state) (Some tx) r → WasRead form.BaseTx (texts words) r
base_tx_read words d e state tx size one two r is =
    subst (λ (ws : List Bytes). WasRead form.BaseTx ws r) (sym five) (at _ _ _ _ _ one two r
    (subst (λ (ws : List Bytes). HeadWasRead ws (Some state) (Some tx) r) five is))
  where
    five : texts words ≡ (get_or words 0 d).now ∷ (get_or words 1 d).now ∷ (get_or words 2 d).now ∷ (get_or words 3 d).now
        ∷ (get_or words 4 e).now ∷ []
    five = five_words words d d d d e size

    at : (a b c s x : Bytes) → IsBlob s state → IsBlob x tx → (r : Result (Option Command) Memory)
        → HeadWasRead (a ∷ b ∷ c ∷ s ∷ x ∷ []) (Some state) (Some tx) r → WasRead form.BaseTx (a ∷ b ∷ c ∷ s ∷ x ∷ []) r
    at a b c s x one two (Ok (Some y)) is =
        record { says = ((is.0, (is.1, (is.2, (state, (tx, tt))))), (is.3.0, (is.3.1, (is.3.2, (one, (two, tt))))), is.4) }
    at a b c s x one two (Ok None) none =
        record { none = λ y says. none says.0.0 says.0.1.0 says.0.1.1.0 (says.1.0, says.1.1.0, says.1.1.1.0) }
    at a b c s x one two (Err f) is = tt

-- the last two words of a base reply with both roots
pub state_word : (words : List (Bor Bytes)) (d : Bor Bytes) → length words ≡ 5 → (x : Command) → FormSays form.BaseTx (texts words) x
    → (state : Bytes) × IsBlob (get_or words 3 d).now state
state_word words d size x says =
    let at = subst (λ (ws : List Bytes). FormSays form.BaseTx ws x) (five_words words d d d d d size) says in
    (at.0.1.1.1.0, at.1.1.1.1.0)

pub tx_word : (words : List (Bor Bytes)) (d : Bor Bytes) → length words ≡ 5 → (x : Command) → FormSays form.BaseTx (texts words) x
    → (tx : Bytes) × IsBlob (get_or words 4 d).now tx
tx_word words d size x says =
    let at = subst (λ (ws : List Bytes). FormSays form.BaseTx ws x) (five_words words d d d d d size) says in
    (at.0.1.1.1.1.0, at.1.1.1.1.1.0)

-- the last word of a node line
pub last_word : (words : List (Bor Bytes)) (d : Bor Bytes) → length words ≡ 5 → (x : Command) → FormSays form.Node (texts words) x
    → (blob : Bytes) × IsBlob (get_or words 4 d).now blob
last_word words d size x says =
    let at = subst (λ (ws : List Bytes). FormSays form.Node ws x) (five_words words d d d d d size) says in
    (at.0.1.1.1.1.0, at.1.1.1.1.1.0)

-- the last word of a page line
pub no_count : (words : List (Bor Bytes)) (d : Bor Bytes) → length words ≡ 4 → ((n : ℕ) → IsCount (get_or words 3 d).now 256 n → ⊥)
    → SaysNone form.Page (texts words)
no_count (a ∷ b ∷ c ∷ n ∷ []) d size none = record { none = λ x says. none says.0.1.1.1.0 says.1.1.1.1.0 }
no_count [] d size none = absurd (omega (arith, size))
no_count (a ∷ []) d size none = absurd (omega (arith, size))
no_count (a ∷ b ∷ []) d size none = absurd (omega (arith, size))
no_count (a ∷ b ∷ c ∷ []) d size none = absurd (omega (arith, size))
no_count (a ∷ b ∷ c ∷ n ∷ e ∷ more) d size none = absurd (omega (arith, size))

-- what words say of a session and an item, a put says, and so does a transaction
pub put_says : (words : List Bytes) (x : ℕ) (item : Item) → SaysItem words x item.key item.value
    → IsSaid form.Put words (command.Put x item)
put_says (s ∷ k ∷ v ∷ []) x item says = record {
  says = ((x, (item.key, (item.value, tt))), (says.0, (says.1, (says.2, tt))), (item, record { key_is = refl; data_is = refl }, refl));
}
put_says [] x item says = absurd says
put_says (s ∷ []) x item says = absurd says
put_says (s ∷ k ∷ []) x item says = absurd says
put_says (s ∷ k ∷ v ∷ e ∷ more) x item says = absurd says

pub tx_says : (words : List Bytes) (x : ℕ) (item : Item) → SaysItem words x item.key item.value
    → IsSaid form.Tx words (command.Tx x item)
tx_says (s ∷ k ∷ v ∷ []) x item says = record {
  says = ((x, (item.key, (item.value, tt))), (says.0, (says.1, (says.2, tt))), (item, record { key_is = refl; data_is = refl }, refl));
}
tx_says [] x item says = absurd says
tx_says (s ∷ []) x item says = absurd says
tx_says (s ∷ k ∷ []) x item says = absurd says
tx_says (s ∷ k ∷ v ∷ e ∷ more) x item says = absurd says

-- where they say none, the words say neither
abbrev NoItem : List Bytes → Type 0
NoItem words = (x : ℕ) (key bytes : Bytes) → SaysItem words x key bytes → ⊥

pub no_put : (words : List Bytes) → NoItem words → SaysNone form.Put words
no_put (s ∷ k ∷ v ∷ []) none = record { none = λ c says. none says.0.0 says.0.1.0 says.0.1.1.0 (says.1.0, says.1.1.0, says.1.1.1.0) }
no_put [] none = record { none = λ c says. says.1 }
no_put (s ∷ []) none = record { none = λ c says. says.1.1 }
no_put (s ∷ k ∷ []) none = record { none = λ c says. says.1.1.1 }
no_put (s ∷ k ∷ v ∷ e ∷ more) none = record { none = λ c says. says.1.1.1.1 }

pub no_tx : (words : List Bytes) → NoItem words → SaysNone form.Tx words
no_tx (s ∷ k ∷ v ∷ []) none = record { none = λ c says. none says.0.0 says.0.1.0 says.0.1.1.0 (says.1.0, says.1.1.0, says.1.1.1.0) }
no_tx [] none = record { none = λ c says. says.1 }
no_tx (s ∷ []) none = record { none = λ c says. says.1.1 }
no_tx (s ∷ k ∷ []) none = record { none = λ c says. says.1.1.1 }
no_tx (s ∷ k ∷ v ∷ e ∷ more) none = record { none = λ c says. says.1.1.1.1 }

-- the last word of a close
pub flags_word : (words : List (Bor Bytes)) (d : Bor Bytes) → length words ≡ 5 → (x : Command) → FormSays form.Close (texts words) x
    → (flags : ℕ) × IsNumber (get_or words 4 d).now 255 flags
flags_word words d size x says =
    let at = subst (λ (ws : List Bytes). FormSays form.Close ws x) (five_words words d d d d d size) says in
    (at.0.1.1.1.1.0, at.1.1.1.1.1.0)

-- a word is wrong in its place where the call has the cause
pub call_wrong : (c : Cause) (call : List (Bor Bytes)) (d : Bor Bytes) (f : Form) (given : List Argument) (found : Result Bool Memory)
    → 1 ≤ length call → c ≢ cause.UnknownCommand → c ≢ cause.ArgumentCount → (get_or call 0 d).now ≡ word_in f
    → length (take (length call - 1) (drop 1 call)) ≡ length (arguments_in f) → given ≡ arguments_in f
    → IfOk found (λ b. MatchBool b (HasWrong c given (texts (take (length call - 1) (drop 1 call))))
    (HasWrong c given (texts (take (length call - 1) (drop 1 call))) → ⊥))
    → IfOk found (λ b. MatchBool b (CallHas (texts call) c) (CallHas (texts call) c → ⊥))
call_wrong c [] d f given found some one two is count same was = absurd (omega (arith, some))
call_wrong c (a ∷ more) d f given (Err e) some one two is count same was = tt
call_wrong c (a ∷ more) d f given (Ok b) some one two is count same was =
    by c b one two (subst (λ (xs : List Argument). MatchBool b (HasWrong c xs (texts more)) (HasWrong c xs (texts more) → ⊥)) same
    (subst (λ (ws : List (Bor Bytes)). MatchBool b (HasWrong c given (texts ws)) (HasWrong c given (texts ws) → ⊥)) all was))
  where
    all : take (length (a ∷ more) - 1) more ≡ more
    all = take_all (length (a ∷ more) - 1) more (omega arith)

    size : length (texts more) ≡ length (arguments_in f)
    size = length-map more _ ∙ sym (ap length all) ∙ count

    by : (c : Cause) (b : Bool) → c ≢ cause.UnknownCommand → c ≢ cause.ArgumentCount
        → MatchBool b (HasWrong c (arguments_in f) (texts more)) (HasWrong c (arguments_in f) (texts more) → ⊥)
        → MatchBool b (CallHas (a.now ∷ texts more) c) (CallHas (a.now ∷ texts more) c → ⊥)
    by cause.UnknownCommand b one two was = absurd (one refl)
    by cause.ArgumentCount b one two was = absurd (two refl)
    by c true one two was = (f, is, size, was)
    by c false one two was = λ has.
        let same : has.0 ≡ f = one_form has.0 f (sym has.1 ∙ is) (sym has.2 ∙ size) in
        was (subst (λ (x : Form). HasWrong c (arguments_in x) (texts more)) same has.3)
