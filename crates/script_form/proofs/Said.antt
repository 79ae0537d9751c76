-- A line that says something has no cause, and one without a cause says something.
use Rattle.std.proofs.Common.{◌≡◌, ◌≢◌, ◌⊎◌, inl, inr, ℕ, ◌-◌, ◌<◌, ◌≤◌, List, [], ◌∷◌, length, take, drop, map, Bor}
use Rattle.std.proofs.Common.{Bool, true, false, refl, sym, ◌∙◌, ap, subst, arith}
use Rattle.std.proofs.lemmas.List.{take_all}
use Rattle.std.specs.Prelude.{MatchBool, Result, Ok, Err, IfOk, not, ◌&&◌}
use Rattle.half_hash.specs.declared.bytes.Memory.{Memory}
use Rattle.std.specs.List.{list_all}
use Rattle.ledger_spec.specs.Bytes.{Bytes}
use Rattle.ledger_machine.specs.declared.commands.Line.{Line}
use Rattle.script_form.specs.declared.cause.Cause.{Cause}
use Rattle.script_form.specs.declared.cause.Cause.TheVariants as cause
use Rattle.script_form.specs.Words.{words_of}
use Rattle.script_form.specs.Commands.{CallHas}
use Rattle.script_form.specs.Records.{is_store}
use Rattle.script_form.specs.Causes.{is_printable, is_skipped, is_command, waits, call_in, IsEarlier, WordsHave, CommandHas, TextHas}
use Rattle.script_form.specs.Causes.{most_text, most_commands}
use Rattle.script_form.specs.Grammar.{SaysAfter, WordsSay, Says}
use Rattle.script_form.specs.Judging.{IsFineText}
use Rattle.script_form.proofs.Right.{call_fine, call_never, call_must_say}

pub differ : {X : Type 0} {b : Bool} → b ≡ true → b ≡ false → X
differ so free = cc

-- a line that is skipped is no command line, and neither is a record
neither : {X : Type 0} (a b : Bool) → (not a && not b) ≡ true → (a ≡ true) ⊎ (b ≡ true) → X
neither true b so is = cc
neither false true so is = cc
neither false false so is = elim is [ inl e ↦ cc | inr e ↦ cc ]

pub not_skipped : {X : Type 0} (words : List Bytes) → is_skipped words ≡ true → is_command words ≡ true → X
not_skipped words skipped is = neither (is_skipped words) (is_store words) is (inl skipped)

pub no_store : {X : Type 0} (words : List Bytes) → is_store words ≡ true → is_command words ≡ true → X
no_store words store is = neither (is_skipped words) (is_store words) is (inr store)

-- a line that is neither is a command line
pub command_line : (words : List Bytes) → is_skipped words ≡ false → is_store words ≡ false → is_command words ≡ true
command_line words stands other = rw (stands, other) refl

pub command_words : (words : List Bytes) (text : Bytes) → words ≡ words_of text → is_skipped words ≡ false
    → is_store (words_of text) ≡ false → is_command words ≡ true
command_words words text cut stands other =
    command_line words stands (subst (λ (w : List Bytes). is_store w ≡ false) (sym cut) other)

-- words that say a line have no cause
words_fine : (earlier : List ℕ) (words : List Bytes) (l : Line) → length earlier < most_commands → WordsSay earlier words l → (c : Cause)
    → WordsHave earlier words c → ⊥
words_fine earlier [] l few says c has = says
words_fine earlier (actor ∷ words) l few says cause.NoActor has = has l.actor says.0
words_fine earlier (actor ∷ words) l few says cause.BadAfter has =
    elim says.1 [ inl free ↦ differ has.0 free.0 | inr named ↦ has.1 l.after named.1 ]
words_fine earlier (actor ∷ words) l few says cause.TooManyCommands has = absurd (omega (arith, few, has))
words_fine earlier (actor ∷ words) l few says c has = call_fine (call_in words) l.command says.2 c has

-- the words behind the actor without a cause can't but name a line, or none
must_name : (earlier : List ℕ) (words : List Bytes) → ((waits words ≡ true) × ((n : ℕ) → IsEarlier earlier words n → ⊥) → ⊥)
    → ((after : ℕ) → SaysAfter earlier words after → ⊥) → ⊥
must_name earlier words free none = at (waits words) refl
  where
    at : (b : Bool) → waits words ≡ b → ⊥
    at true e = free (e, λ n is. none n (inr (e, is)))
    at false e = none 0 (inl (e, refl))

-- words of a command line without a cause can't but say a line
words_must_say : (earlier : List ℕ) (words : List Bytes) → is_command words ≡ true → ((c : Cause) → WordsHave earlier words c → ⊥)
    → ((l : Line) → WordsSay earlier words l → ⊥) → ⊥
words_must_say earlier [] stands free none = differ stands refl
words_must_say earlier (actor ∷ words) stands free none =
    free cause.NoActor (λ a is. must_name earlier words (free cause.BadAfter)
    (λ after named. call_must_say (call_in words) call (λ said says.
    none (record { number = 0; actor = a; after = after; command = said }) (is, named, says))))
  where
    call : (c : Cause) → CallHas (call_in words) c → ⊥
    call cause.NoActor has = call_never (call_in words) cause.NoActor (λ x. x) (λ e. cc) (λ e. cc) has
    call cause.BadAfter has = call_never (call_in words) cause.BadAfter (λ x. x) (λ e. cc) (λ e. cc) has
    call cause.TooManyCommands has = call_never (call_in words) cause.TooManyCommands (λ x. x) (λ e. cc) (λ e. cc) has
    call c has = free c has

module _ (earlier : List ℕ) (text : Bytes) (plain : list_all is_printable text ≡ true) (short : length text ≤ most_text) where
  pub skipped_fine : is_skipped (words_of text) ≡ true → IsFineText earlier text
  skipped_fine skipped cause.ScriptTooLong has = has
  skipped_fine skipped cause.NotPrintable has = differ plain has
  skipped_fine skipped cause.LineTooLong has = absurd (omega (arith, short, has))
  skipped_fine skipped c has = not_skipped (words_of text) skipped has.0

  pub said_fine : (l : Line) → length earlier < most_commands → WordsSay earlier (words_of text) l → IsFineText earlier text
  said_fine l few says cause.ScriptTooLong has = has
  said_fine l few says cause.NotPrintable has = differ plain has
  said_fine l few says cause.LineTooLong has = absurd (omega (arith, short, has))
  said_fine l few says c has = words_fine earlier (words_of text) l few says c has.1

-- a command line's text that says nothing has a cause
pub must_say : (earlier : List ℕ) (text : Bytes) → is_command (words_of text) ≡ true
    → ((l : Line) → WordsSay earlier (words_of text) l → ⊥) → IsFineText earlier text → ⊥
must_say earlier text stands none fine = words_must_say earlier (words_of text) stands each none
  where
    no_text : (words : List Bytes) (c : Cause) → (c ≡ cause.ScriptTooLong) ⊎ ((c ≡ cause.NotPrintable) ⊎ (c ≡ cause.LineTooLong))
        → WordsHave earlier words c → ⊥
    no_text [] c one h = h
    no_text (actor ∷ words) cause.ScriptTooLong one h = call_never (call_in words) cause.ScriptTooLong (λ x. x) (λ e. cc) (λ e. cc) h
    no_text (actor ∷ words) cause.NotPrintable one h = call_never (call_in words) cause.NotPrintable (λ x. x) (λ e. cc) (λ e. cc) h
    no_text (actor ∷ words) cause.LineTooLong one h = call_never (call_in words) cause.LineTooLong (λ x. x) (λ e. cc) (λ e. cc) h
    no_text (actor ∷ words) c one h = elim one [ inl e ↦ cc | inr (inl e) ↦ cc | inr (inr e) ↦ cc ]

    each : (c : Cause) → WordsHave earlier (words_of text) c → ⊥
    each cause.ScriptTooLong has = no_text (words_of text) cause.ScriptTooLong (inl refl) has
    each cause.NotPrintable has = no_text (words_of text) cause.NotPrintable (inr (inl refl)) has
    each cause.LineTooLong has = no_text (words_of text) cause.LineTooLong (inr (inr refl)) has
    each c has = fine c (stands, has)

-- the other causes of a command line are those of its call
pub as_call : (earlier : List ℕ) (actor : Bytes) (words : List Bytes) (c : Cause) (b : Bool) → c ≢ cause.NoActor → c ≢ cause.BadAfter
    → c ≢ cause.TooManyCommands
    → MatchBool b (CallHas (call_in words) c) (CallHas (call_in words) c → ⊥)
    → MatchBool b (WordsHave earlier (actor ∷ words) c) (WordsHave earlier (actor ∷ words) c → ⊥)
as_call earlier actor words cause.NoActor b one two three says = absurd (one refl)
as_call earlier actor words cause.BadAfter b one two three says = absurd (two refl)
as_call earlier actor words cause.TooManyCommands b one two three says = absurd (three refl)
as_call earlier actor words c b one two three says = says

-- a cause of the words is one of the line, which is a command line
pub of_command : (earlier : List ℕ) (words : List Bytes) (c : Cause) (b : Bool) → is_command words ≡ true
    → MatchBool b (WordsHave earlier words c) (WordsHave earlier words c → ⊥)
    → MatchBool b (CommandHas earlier words c) (CommandHas earlier words c → ⊥)
of_command earlier words c true stands says = (stands, says)
of_command earlier words c false stands says = λ has. says has.1

-- the same of the words that were cut
pub too_many : (earlier : List ℕ) (words : List Bytes) (text : Bytes) → words ≡ words_of text → is_command words ≡ true
    → most_commands ≤ length earlier → TextHas earlier text cause.TooManyCommands
too_many earlier words text cut stands many =
    let P : List Bytes → Type 0 = λ w. CommandHas earlier w cause.TooManyCommands in subst P cut (stands, at words stands)
  where
    at : (words : List Bytes) → is_command words ≡ true → WordsHave earlier words cause.TooManyCommands
    at [] stands = differ stands refl
    at (actor ∷ words) stands = many

pub says_line : (earlier : List ℕ) (words : List Bytes) (text : Bytes) (n : ℕ) (l : Line) → list_all is_printable text ≡ true
    → length text ≤ most_text → length earlier < most_commands
    → words ≡ words_of text → is_command words ≡ true → l.number ≡ n → WordsSay earlier words l
    → IsFineText earlier text × (is_command (words_of text) ≡ true) × Says earlier n text l
says_line earlier words text n l plain short few cut stands numbered says =
    let P : List Bytes → Type 0 = λ w. WordsSay earlier w l in
    let whole = subst P cut says in
    let stand = subst (λ (w : List Bytes). is_command w ≡ true) cut stands in
    (said_fine earlier text plain short l few whole, stand, record { numbered = numbered; words = whole })

pub says_nothing : (earlier : List ℕ) (words : List Bytes) (text : Bytes) → words ≡ words_of text → is_command words ≡ true
    → ((l : Line) → WordsSay earlier words l → ⊥) → IsFineText earlier text → ⊥
says_nothing earlier words text cut stands none =
    let P : List Bytes → Type 0 = λ w. (l : Line) → WordsSay earlier w l → ⊥ in
    must_say earlier text (subst (λ (w : List Bytes). is_command w ≡ true) cut stands) (subst P cut none)

-- without a name for the line that is waited for the words say none
pub no_name : (earlier : List ℕ) (words : List (Bor Bytes)) (l : Line) → 1 ≤ length words
    → ((after : ℕ) → SaysAfter earlier (map (λ w. w.now) (take (length words - 1) (drop 1 words))) after → ⊥)
    → WordsSay earlier (map (λ w. w.now) words) l → ⊥
no_name earlier [] l le none says = says
no_name earlier (actor ∷ words) l le none says =
    let P : List (Bor Bytes) → Type 0 = λ w. SaysAfter earlier (map (λ w. w.now) w) l.after in
    none l.after (subst P (sym (take_all (length (actor ∷ words) - 1) words (omega arith))) says.1)

-- a cause of the words that is one of the parts behind the actor
pub behind_actor : (words : List (Bor Bytes)) (P : List Bytes → Type 0) (Q : List Bytes → Type 0) → 1 ≤ length words
    → ((actor : Bytes) (behind : List Bytes) → P behind → Q (actor ∷ behind))
    → P (map (λ w. w.now) (take (length words - 1) (drop 1 words))) → Q (map (λ w. w.now) words)
behind_actor [] P Q le each p = absurd (omega arith)
behind_actor (actor ∷ words) P Q le each p =
    let R : List (Bor Bytes) → Type 0 = λ w. P (map (λ w. w.now) w) in
    each actor.now (map (λ w. w.now) words) (subst R (take_all (length (actor ∷ words) - 1) words (omega arith)) p)

abbrev NamesNone : List ℕ → List Bytes → Type 0
NamesNone earlier behind = (waits behind ≡ true) × ((n : ℕ) → IsEarlier earlier behind n → ⊥)

pub bad_after : (earlier : List ℕ) (words : List (Bor Bytes)) (c : Cause) (b : Bool) → 1 ≤ length words
    → is_command (map (λ w. w.now) words) ≡ true → c ≡ cause.BadAfter
    → MatchBool b (NamesNone earlier (map (λ w. w.now) (take (length words - 1) (drop 1 words))))
    (NamesNone earlier (map (λ w. w.now) (take (length words - 1) (drop 1 words))) → ⊥)
    → MatchBool b (CommandHas earlier (map (λ w. w.now) words) c) (CommandHas earlier (map (λ w. w.now) words) c → ⊥)
bad_after earlier [] c b le stands is says = absurd (omega arith)
bad_after earlier (actor ∷ words) c b le stands is says =
    let R : List (Bor Bytes) → Type 0 = λ w. MatchBool b (NamesNone earlier (map (λ w. w.now) w))
    (NamesNone earlier (map (λ w. w.now) w) → ⊥) in
    let S : Cause → Type 0 = λ a. MatchBool b (CommandHas earlier (map (λ w. w.now) (actor ∷ words)) a)
    (CommandHas earlier (map (λ w. w.now) (actor ∷ words)) a → ⊥) in
    subst S (sym is) (of_command earlier (map (λ w. w.now) (actor ∷ words)) cause.BadAfter b stands
    (subst R (take_all (length (actor ∷ words) - 1) words (omega arith)) says))

pub other_cause : (earlier : List ℕ) (words : List (Bor Bytes)) (c : Cause) (call : List Bytes) (r : Result Bool Memory) → 1 ≤ length words
    → is_command (map (λ w. w.now) words) ≡ true
    → c ≢ cause.NoActor → c ≢ cause.BadAfter → c ≢ cause.TooManyCommands
    → call ≡ call_in (map (λ w. w.now) (take (length words - 1) (drop 1 words)))
    → IfOk r (λ found. MatchBool found (CallHas call c) (CallHas call c → ⊥))
    → IfOk r (λ found. MatchBool found (CommandHas earlier (map (λ w. w.now) words) c) (CommandHas earlier (map (λ w. w.now) words) c → ⊥))
other_cause earlier [] c call r le stands one two three is says = absurd (omega arith)
other_cause earlier (actor ∷ words) c call (Err e) le stands one two three is says = tt
other_cause earlier (actor ∷ words) c call (Ok b) le stands one two three is says =
    let R : List Bytes → Type 0 = λ w. MatchBool b (CallHas w c) (CallHas w c → ⊥) in
    let whole : call ≡ call_in (map (λ w. w.now) words) = is ∙ ap (λ (w : List (Bor Bytes)). call_in (map (λ w. w.now) w))
    (take_all (length (actor ∷ words) - 1) words (omega arith)) in
    of_command earlier (map (λ w. w.now) (actor ∷ words)) c b stands
    (as_call earlier actor.now (map (λ w. w.now) words) c b one two three (subst R whole says))
