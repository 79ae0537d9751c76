-- One line more: what it does to the commands, the records, the hashes and the pages of the lines before it.
use Rattle.std.proofs.Common.{◌≡◌, ◌⊎◌, ℕ, ◌+◌, ◌-◌, ◌<◌, ◌≤◌, List, [], ◌∷◌, ◌++◌, length, map, drop}
use Rattle.std.proofs.Common.{get_or, inl, inr, refl, sym, ◌∙◌, ap, subst, arith, append_assoc, length-append, Bool, true, false, cond}
use Rattle.std.specs.Prelude.{flat_map}
use Rattle.std.specs.List.{All, Contains}
use Rattle.std.specs.List.Sorted.{IsNonDecreasing}
use Rattle.std.proofs.lemmas.List.{append-nil, map-append}
use Rattle.std.proofs.lemmas.List.Concat.{flat_map-append}
use Rattle.std.proofs.lemmas.List.Sorted.{IsNonDecreasingBy-push}
use Rattle.std.proofs.lemmas.List.Elements.{All-push, All-map}
use Rattle.std.proofs.lemmas.List.Elements.{Contains-append_left, Contains-append_right, Contains-push, Contains-push_cases}
use Rattle.std.proofs.lemmas.Bool.Decides.{nat_tests}
use Rattle.ledger_spec.specs.Bytes.{Bytes, Hash, Half}
use Rattle.ledger_spec.specs.Own.{IsStoredAt}
use Rattle.ledger_machine.specs.declared.commands.Line.{Line}
use Rattle.ledger_machine.specs.declared.commands.Record.{Record}
use Rattle.ledger_machine.specs.Records.{hashes_of, AreDistinct, AreRecords}
use Rattle.script_form.specs.declared.cause.Cause.{Cause}
use Rattle.script_form.specs.declared.cause.Cause.TheVariants as cause
use Rattle.script_form.specs.Words.{text_of, words_of}
use Rattle.script_form.specs.Records.{is_store, hash_in, hashes_in, SaysRecord}
use Rattle.script_form.specs.Causes.{most_bytes, is_skipped, is_command, commands_from, earlier_of, size_of, LineHas, Has, IsFine, AreFine}
use Rattle.script_form.specs.Grammar.{AreSaid}
use Rattle.script_form.specs.Judging.{is_page_command}
use Rattle.script_form.specs.declared.forms.Form.{Form}
use Rattle.script_form.specs.declared.forms.Form.TheVariants as form
use Rattle.script_form.specs.Commands.{word_in, arguments_in, ArgumentsOf, Makes, CallSays}
use Rattle.script_form.specs.Causes.{names_page, is_page, pages_in, IsOverPages, call_in, place_of}
use Rattle.script_form.specs.Grammar.{WordsSay}
use Rattle.ledger_machine.specs.declared.commands.Command.{Command}
use Rattle.ledger_spec.specs.Bytes.{same_bytes}
use Rattle.std.specs.Prelude.{if◌then◌else◌, ◌&&◌, codes}
use Rattle.script_form.proofs.Said.{no_store}
use Rattle.script_form.proofs.Order.{place_few}

-- one line more, split elsewhere
split_last : (lines before after : List Bytes) (line l : Bytes) → lines ++ line ∷ [] ≡ before ++ l ∷ after
    → ((before ≡ lines) × (l ≡ line)) ⊎ ((rest : List Bytes) × (lines ≡ before ++ l ∷ rest))
split_last [] [] after line l e = inl (refl, cc)
split_last [] (b ∷ []) after line l e = cc
split_last [] (b ∷ d ∷ before) after line l e = cc
split_last (x ∷ lines) [] after line l e = let same : x ≡ l = cc in inr (lines, ap (λ (w : Bytes). w ∷ lines) same)
split_last (x ∷ lines) (b ∷ before) after line l e =
    let head : x ≡ b = cc in
    let tails : lines ++ line ∷ [] ≡ before ++ l ∷ after = cc in
    elim (split_last lines before after line l tails) [
      | inl last ↦ inl (sym (ap (λ (w : Bytes). w ∷ lines) head ∙ ap (λ (ws : List Bytes). b ∷ ws) (sym last.0)), last.1)
      | inr more ↦ inr (more.0, ap (λ (w : Bytes). w ∷ lines) head ∙ ap (λ (ws : List Bytes). b ∷ ws) more.1)
    ]

pub none_fine : (half : Half) → AreFine half []
none_fine half [] line after e = cc
none_fine half (b ∷ before) line after e = cc

pub fine_more : (half : Half) (lines : List Bytes) (line : Bytes) → AreFine half lines → IsFine half lines line
    → AreFine half (lines ++ line ∷ [])
fine_more half lines line are fine before l after e =
    elim (split_last lines before after line l e) [
      | inl last ↦
          let P : List Bytes → Type 0 = λ b. IsFine half b l in
          let Q : Bytes → Type 0 = λ b. IsFine half lines b in subst P (sym last.0) (subst Q (sym last.1) fine)
      | inr more ↦ are before l more.0 more.1
    ]

pub size_more : (lines : List Bytes) (line : Bytes) → size_of (lines ++ line ∷ []) ≡ size_of lines + length line
size_more lines line =
    ap length (flat_map-append (λ (l : Bytes). l) lines (line ∷ [])) ∙ length-append (flat_map (λ (l : Bytes). l) lines) (line ++ [])
    ∙ ap (λ (n : ℕ). size_of lines + n) (ap length (append-nil line))

-- ---- of which kind a line is
pub skipped_no_command : (words : List Bytes) → is_skipped words ≡ true → is_command words ≡ false
skipped_no_command words skipped = rw skipped refl

pub skipped_no_store : (words : List Bytes) → is_skipped words ≡ true → is_store words ≡ false
skipped_no_store [] skipped = refl
skipped_no_store ([] ∷ words) skipped = refl
skipped_no_store ((x ∷ word) ∷ words) skipped = let hash : x ≡ 35 = grind (arith, nat_tests, skipped) in rw hash refl

pub store_no_command : (words : List Bytes) → is_store words ≡ true → is_command words ≡ false
store_no_command words store = at (is_command words) refl
  where
    at : (b : Bool) → is_command words ≡ b → b ≡ false
    at true e = no_store words store e
    at false e = refl

pub command_no_store : (words : List Bytes) → is_command words ≡ true → is_store words ≡ false
command_no_store words stands = at (is_store words) refl
  where
    at : (b : Bool) → is_store words ≡ b → b ≡ false
    at true e = no_store words e stands
    at false e = refl

-- ---- what one line more leaves to the next
pub commands_skip : (n : ℕ) (lines : List Bytes) (line : Bytes) → is_command (words_of (text_of line)) ≡ false
    → commands_from n (lines ++ line ∷ []) ≡ commands_from n lines
commands_skip n [] line other = rw other refl
commands_skip n (x ∷ lines) line other =
    elim (is_command (words_of (text_of x))) as
    (λ b. cond b (n ∷ commands_from (n + 1) (lines ++ line ∷ [])) (commands_from (n + 1) (lines ++ line ∷ [])) ≡ cond b
    (n ∷ commands_from (n + 1) lines) (commands_from (n + 1) lines)) [
      | true ↦ ap (λ (ns : List ℕ). n ∷ ns) (commands_skip (n + 1) lines line other)
      | false ↦ commands_skip (n + 1) lines line other
    ]

pub commands_more : (n : ℕ) (lines : List Bytes) (line : Bytes) (m : ℕ) → is_command (words_of (text_of line)) ≡ true → m ≡ n + length lines
    → commands_from n (lines ++ line ∷ []) ≡ commands_from n lines ++ m ∷ []
commands_more n [] line m stands is = let same : m ≡ n = omega arith in rw (stands, same) refl
commands_more n (x ∷ lines) line m stands is =
    let more = commands_more (n + 1) lines line m stands (omega (arith, is)) in
    elim (is_command (words_of (text_of x))) as
    (λ b. cond b (n ∷ commands_from (n + 1) (lines ++ line ∷ [])) (commands_from (n + 1) (lines ++ line ∷ [])) ≡ cond b
    (n ∷ commands_from (n + 1) lines) (commands_from (n + 1) lines) ++ m ∷ []) [
      | true ↦ ap (λ (ns : List ℕ). n ∷ ns) more
      | false ↦ more
    ]

no_hash : (words : List Bytes) → is_store words ≡ false → hash_in words ≡ []
no_hash [] other = refl
no_hash (word ∷ []) other = refl
no_hash (word ∷ hash ∷ words) other = rw other refl

pub its_hash : (words : List Bytes) (r : Record) → is_store words ≡ true → SaysRecord (drop 1 words) r → hash_in words ≡ r.hash ∷ []
its_hash [] r store says = cc
its_hash (word ∷ args) r store says =
    let P : List Bytes → Type 0 = λ ws. hash_in (word ∷ ws) ≡ r.hash ∷ [] in
    subst P (sym says.words) (rw (store, says.hash_says.value) refl)

pub hashes_more : (lines : List Bytes) (line : Bytes) (hashes : List Hash) → hash_in (words_of (text_of line)) ≡ hashes
    → hashes_in (lines ++ line ∷ []) ≡ hashes_in lines ++ hashes
hashes_more lines line hashes is =
    flat_map-append (λ (l : Bytes). hash_in (words_of (text_of l))) lines (line ∷ [])
    ∙ ap (λ (hs : List Hash). hashes_in lines ++ hs) (append-nil (hash_in (words_of (text_of line))) ∙ is)

pub hashes_skip : (lines : List Bytes) (line : Bytes) → is_store (words_of (text_of line)) ≡ false
    → hashes_in (lines ++ line ∷ []) ≡ hashes_in lines
hashes_skip lines line other = hashes_more lines line [] (no_hash (words_of (text_of line)) other) ∙ append-nil (hashes_in lines)

-- ---- what the lines say
module _ {X : Type 0} (is_one : List Bytes → Bool) (OneSays : List Bytes → Bytes → X → Type 0) where
  pub said_skip : (before texts : List Bytes) (xs : List X) (line : Bytes) → AreSaid is_one OneSays before texts xs
      → is_one (words_of (text_of line)) ≡ false → AreSaid is_one OneSays before (texts ++ line ∷ []) xs
  said_skip before [] [] line are other = (other, tt)
  said_skip before [] (x ∷ xs) line are other = absurd are
  said_skip before (t ∷ texts) [] line are other = (are.0, said_skip (before ++ t ∷ []) texts [] line are.1 other)
  said_skip before (t ∷ texts) (x ∷ xs) line are other =
      elim are [
        | inl none ↦ inl (none.0, said_skip (before ++ t ∷ []) texts (x ∷ xs) line none.1 other)
        | inr one ↦ inr (one.0, one.1, said_skip (before ++ t ∷ []) texts xs line one.2 other)
      ]

  pub said_more : (before texts whole : List Bytes) (xs : List X) (line : Bytes) (x : X) → whole ≡ before ++ texts
      → AreSaid is_one OneSays before texts xs → is_one (words_of (text_of line)) ≡ true → OneSays whole (text_of line) x
      → AreSaid is_one OneSays before (texts ++ line ∷ []) (xs ++ x ∷ [])
  said_more before [] whole [] line x is are stands says =
      let same : whole ≡ before = is ∙ append-nil before in
      let P : List Bytes → Type 0 = λ w. OneSays w (text_of line) x in
      inr (stands, subst P same says, tt)
  said_more before [] whole (k ∷ xs) line x is are stands says = absurd are
  said_more before (t ∷ texts) whole [] line x is are stands says =
      inl (are.0, said_more (before ++ t ∷ []) texts whole [] line x (is ∙ sym (append_assoc before (t ∷ []) texts)) are.1 stands says)
  said_more before (t ∷ texts) whole (k ∷ xs) line x is are stands says =
      let next = is ∙ sym (append_assoc before (t ∷ []) texts) in
      elim are [
        | inl none ↦ inl (none.0, said_more (before ++ t ∷ []) texts whole (k ∷ xs) line x next none.1 stands says)
        | inr one ↦ inr (one.0, one.1, said_more (before ++ t ∷ []) texts whole xs line x next one.2 stands says)
      ]

-- ---- one record more
distinct_more : (hashes : List Hash) (h : Hash) → AreDistinct hashes → (Contains hashes h → ⊥) → AreDistinct (hashes ++ h ∷ [])
distinct_more [] h are new = (none, tt)
  where
    none : Contains {X = Hash} [] h → ⊥
    none is = let lt : is.0 < 0 = is.1 in absurd (omega (arith, lt))
distinct_more (x ∷ hashes) h are new = (not_there, distinct_more hashes h are.1 (λ is. new (Contains-append_right (x ∷ []) hashes h is)))
  where
    not_there : Contains (hashes ++ h ∷ []) x → ⊥
    not_there is = elim (Contains-push_cases hashes h x is) [
      | inl there ↦ are.0 there
      | inr same ↦
          let P : Hash → Type 0 = λ y. Contains (x ∷ hashes) y in
          new (subst P (sym same) (Contains-append_left (x ∷ []) hashes x (Contains-push [] x)))
    ]

pub records_more : (half : Half) (records : List Record) (r : Record) → AreRecords half records → IsStoredAt half r.hash r.form
    → (Contains (hashes_of records) r.hash → ⊥) → AreRecords half (records ++ r ∷ [])
records_more half records r are own new =
    let P : List Hash → Type 0 = λ hs. AreDistinct hs in
    record {
      own = All-push (λ x. IsStoredAt half x.hash x.form) records r are.own own;
      distinct =
          subst P (sym (map-append (λ (x : Record). x.hash) records (r ∷ [])))
          (distinct_more (hashes_of records) r.hash are.distinct new);
    }

pub numbers_below : (lines : List Line) (ns : List ℕ) (n : ℕ) → map (λ l. l.number) lines ≡ ns → All (λ l. l.number < n) lines
    → All (λ m. m < n) ns
numbers_below lines ns n same below =
    subst (λ (w : List ℕ). All (λ m. m < n) w) same (All-map (λ m. m < n) (λ (x : Line). x.number) lines below)

pub rises_more : (ns : List ℕ) (n : ℕ) → IsNonDecreasing ns → All (λ m. m < n) ns → IsNonDecreasing (ns ++ n ∷ [])
rises_more ns n rises below = IsNonDecreasingBy-push (λ x. x) ns n rises
    (λ d some. let last : get_or ns (length ns - 1) d < n = below (length ns - 1) d (omega arith) in omega arith)

pub has_of_line : (half : Half) (before : List Bytes) (line : Bytes) (c : Cause) → LineHas half (earlier_of before) (text_of line) c
    → Has half before line c
has_of_line half before line cause.ScriptTooLong has = absurd (elim has [ inl of_text ↦ of_text | inr of_words ↦ of_words.1 ])
has_of_line half before line cause.TooManyCommands has = inl has
has_of_line half before line c has = has

pub line_of_has : (half : Half) (before : List Bytes) (line : Bytes) (c : Cause) → size_of before + length line ≤ most_bytes
    → (c ≡ cause.TooManyCommands → IsOverPages before line → ⊥)
    → Has half before line c → LineHas half (earlier_of before) (text_of line) c
line_of_has half before line cause.ScriptTooLong within free has = absurd (omega (arith, within, has))
line_of_has half before line cause.TooManyCommands within free has = elim has [ inl of_line ↦ of_line | inr over ↦ absurd (free refl over) ]
line_of_has half before line c within free has = has

-- a cause before another one is no excess of commands
pub not_last : (c d : Cause) → place_of d < place_of c → d ≡ cause.TooManyCommands → ⊥
not_last c d less is =
    let last : 13 < place_of c = subst (λ (x : Cause). place_of x < place_of c) is less in
    omega (arith, last, place_few c)

-- the pages of one line more
pub pages_more : (lines : List Bytes) (line : Bytes)
    → pages_in (lines ++ line ∷ []) ≡ (if is_page (words_of (text_of line)) then pages_in lines + 1 else pages_in lines)
pages_more [] line = refl
pages_more (x ∷ lines) line =
    by_both (is_page (words_of (text_of x))) (is_page (words_of (text_of line))) (pages_in lines) (pages_in (lines ++ line ∷ []))
    (pages_more lines line)
  where
    by_both : (b d : Bool) (m k : ℕ) → k ≡ (if d then m + 1 else m)
        → (if b then k + 1 else k) ≡ (if d then (if b then m + 1 else m) + 1 else (if b then m + 1 else m))
    by_both true true m k e = ap (λ x. x + 1) e
    by_both true false m k e = ap (λ x. x + 1) e
    by_both false true m k e = e
    by_both false false m k e = e

-- what is no command line names no page
pub no_page : (words : List Bytes) → is_command words ≡ false → is_page words ≡ false
no_page words other = rw other refl

-- a command line names a page where it says one
form_page : (f : Form) (v : ArgumentsOf (arguments_in f)) (c : Command) → Makes f v c
    → same_bytes (word_in f) (codes "page") ≡ is_page_command c
form_page form.Put v c is = ap is_page_command (sym is.2)
form_page form.Tx v c is = ap is_page_command (sym is.2)
form_page f v c is = ap is_page_command (sym is)

call_page : (call : List Bytes) (c : Command) → CallSays call c → names_page call ≡ is_page_command c
call_page [] c says = absurd says
call_page (word ∷ words) c says =
    ap (λ w. same_bytes w (codes "page")) says.1 ∙ form_page says.0 says.2.0 c says.2.2

pub words_page : (earlier : List ℕ) (words : List Bytes) (l : Line) → is_command words ≡ true → WordsSay earlier words l
    → is_page words ≡ is_page_command l.command
words_page earlier [] l stands says = absurd says
words_page earlier (actor ∷ words) l stands says =
    ap (λ b. b && names_page (call_in words)) stands ∙ call_page (call_in words) l.command says.2
