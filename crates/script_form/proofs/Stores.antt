-- What the words behind `store` say, and which causes they have.
use Rattle.std.proofs.Common.{◌≡◌, ◌≢◌, ◌∙◌, inl, inr, ◌⊎◌, ℕ, ◌+◌, ◌-◌, ◌<◌, ◌≤◌, List, [], ◌∷◌, length, take, drop, map, Bor}
use Rattle.std.proofs.Common.{Bool, true, false, Ok, refl, sym, ap, subst, arith}
use Rattle.std.specs.Prelude.{◌==◌}
use Rattle.std.proofs.lemmas.Bool.Decides.{nat_tests}
use Rattle.std.proofs.lemmas.List.{take_all}
use Rattle.std.specs.List.{Contains, list_all}
use Rattle.hex.specs.Hex.{decode_of}
use Rattle.half_hash.specs.Hex.{IsHexOf}
use Rattle.ledger_spec.specs.Bytes.{Bytes, Hash, Half}
use Rattle.ledger_spec.specs.Own.{IsStoredAt}
use Rattle.ledger_machine.specs.declared.commands.Record.{Record}
use Rattle.script_form.specs.declared.cause.Cause.{Cause}
use Rattle.script_form.specs.declared.cause.Cause.TheVariants as cause
use Rattle.script_form.specs.Words.{IsBlob, words_of}
use Rattle.script_form.specs.Records.{Earlier, nothing_earlier, earlier_in, is_store, SaysRecord, IsFit, IsUnfit, AreBadWords, StoreHas}
use Rattle.script_form.specs.Causes.{most_bytes, most_text, is_printable, TextHas, LineHas, IsFirstOf, place_of, RestHas}
use Rattle.script_form.proofs.Said.{differ, no_store}
use Rattle.script_form.proofs.ByteWords.{err_ok, ok_same, blob_bytes}

-- ---- words say one record
no_dash : (word bytes : Bytes) → word ≡ 45 ∷ [] → decode_of word ≡ Ok bytes → ⊥
no_dash word bytes is reads = let dash : decode_of (45 ∷ []) ≡ Ok bytes = ap decode_of (sym is) ∙ reads in err_ok dash

one_blob : (word a b : Bytes) → IsBlob word a → IsBlob word b → a ≡ b
one_blob word a b (inl x) (inl y) = x.1 ∙ sym y.1
one_blob word a b (inl x) (inr y) = absurd (no_dash word b x.0 y.1)
one_blob word a b (inr x) (inl y) = absurd (no_dash word a y.0 x.1)
one_blob word a b (inr x) (inr y) = ok_same (sym x.1 ∙ y.1)

one_hash : (word : Bytes) (a b : Hash) → IsHexOf word a → IsHexOf word b → a ≡ b
one_hash word a b is also = ok_same (sym is.value ∙ also.value)

pub one_record : (args : List Bytes) (r s : Record) → SaysRecord args r → SaysRecord args s → s ≡ r
one_record args r s a b =
    let words : b.hash ∷ b.form ∷ [] ≡ a.hash ∷ a.form ∷ [] = sym b.words ∙ a.words in
    let hash : b.hash ≡ a.hash = cc in
    let form : b.form ≡ a.form = cc in
    let P : Bytes → Type 0 = λ w. IsHexOf w s.hash in
    let Q : Bytes → Type 0 = λ w. IsBlob w s.form in
    let h : s.hash ≡ r.hash = one_hash a.hash s.hash r.hash (subst P hash b.hash_says) a.hash_says in
    let f : s.form ≡ r.form = one_blob a.form s.form r.form (subst Q form b.form_says) a.form_says in
    ap (λ (x : Hash). record { hash = x; form = s.form }) h ∙ ap (λ (x : Bytes). record { hash = r.hash; form = x }) f

not_bad : (args : List Bytes) (r : Record) → SaysRecord args r → AreBadWords args → ⊥
not_bad args r says bad =
    let P : List Bytes → Type 0 = λ ws. AreBadWords ws in
    elim (subst P says.words bad) [ inl none ↦ none r.hash says.hash_says | inr none ↦ none r.form says.form_says ]

two_words : (args : List Bytes) (r : Record) → SaysRecord args r → length args ≡ 2
two_words args r says = ap length says.words

not_unfit : (half : Half) (r : Record) → IsFit half r → IsUnfit half r → ⊥
not_unfit half r fit unfit = elim unfit [
  | inl none ↦ none fit.held
  | inr (inl other) ↦ other fit.own
  | inr (inr zero) ↦ (let nonzero = fit.nonzero in absurd (grind (arith, zero, nonzero)))
]

-- ---- the causes
module _ (half : Half) (earlier : Earlier) (args : List Bytes) where
  module _ (r : Record) (says : SaysRecord args r) where
    pub wrong_record : StoreHas half earlier args cause.BadRecord → IsFirstOf (StoreHas half earlier args) cause.BadRecord
    wrong_record bad = record { has = bad; none_before = before }
      where
        before : (d : Cause) → place_of d < place_of cause.BadRecord → StoreHas half earlier args d → ⊥
        before cause.ArgumentCount less has = has (two_words args r says)
        before cause.BadHex less has = not_bad args r says has
        before cause.BadRecord less has = absurd (omega (arith, less))
        before _ less has = has

    -- a record that is first, fit and new has no cause
    pub no_cause : earlier.commands ≡ [] → IsFit half r → (Contains earlier.hashes r.hash → ⊥) → (c : Cause)
        → StoreHas half earlier args c → ⊥
    no_cause first fit new cause.ArgumentCount has = has (two_words args r says)
    no_cause first fit new cause.BadHex has = not_bad args r says has
    no_cause first fit new cause.BadRecord has = elim has [
      | inl late ↦ late first
      | inr other ↦
          let same = one_record args r other.0 says other.1 in
          let P : Record → Type 0 = λ x. IsUnfit half x ⊎ Contains earlier.hashes x.hash in
          elim (subst P same other.2) [ inl unfit ↦ not_unfit half r fit unfit | inr old ↦ new old ]
    ]
    no_cause first fit new _ has = has

    pub stored_at : IsFit half r → IsStoredAt half r.hash r.form
    stored_at fit = record { own = fit.own; nonzero = fit.nonzero; held = fit.held; bytes = blob_bytes says.form r.form says.form_says }

-- whether there are command lines
pub some_commands : (commands : List ℕ) (empty : Bool) → empty ≡ (length commands == 0) → empty ≡ false → commands ≢ []
some_commands [] empty tells is none = cc
some_commands (n ∷ commands) empty tells is none = cc

pub no_commands : (commands : List ℕ) (empty : Bool) → empty ≡ (length commands == 0) → empty ≡ true → commands ≡ []
no_commands [] empty tells is = refl
no_commands (n ∷ commands) empty tells is =
    let zero : (length (n ∷ commands) == 0) ≡ true = sym tells ∙ is in absurd (grind (arith, nat_tests, zero))

-- ---- of a line alone
pub alone : (half : Half) (records : List Record) (words : List Bytes) (rest : Bytes) → records ≡ [] → words ≡ words_of rest
    → ((c : Cause) → StoreHas half (earlier_in [] records) words c → ⊥) → (c : Cause) → StoreHas half nothing_earlier (words_of rest) c → ⊥
alone half records words rest none cut fine =
    let P : List Record → Type 0 = λ rs. (c : Cause) → StoreHas half (earlier_in [] rs) words c → ⊥ in
    let Q : List Bytes → Type 0 = λ ws. (c : Cause) → StoreHas half nothing_earlier ws c → ⊥ in
    subst Q cut (subst P none fine)

pub too_long : (half : Half) (rest : Bytes) → most_bytes < 5 + length rest → IsFirstOf (RestHas half rest) cause.ScriptTooLong
too_long half rest over = record { has = over; none_before = λ d less has. absurd (omega (arith, less)) }

pub rest_fine : (half : Half) (rest : Bytes) → 5 + length rest ≤ most_bytes
    → ((c : Cause) → StoreHas half nothing_earlier (words_of rest) c → ⊥) → (c : Cause) → RestHas half rest c → ⊥
rest_fine half rest few fine cause.ScriptTooLong has = absurd (omega (arith, few, has))
rest_fine half rest few fine c has = fine c has

-- the first cause of its words is that of the line, which is within the limit
pub rest_first : (half : Half) (records : List Record) (words : List Bytes) (rest : Bytes) (c : Cause) → records ≡ []
    → words ≡ words_of rest → 5 + length rest ≤ most_bytes → IsFirstOf (StoreHas half (earlier_in [] records) words) c → IsFirstOf (RestHas half rest) c
rest_first half records words rest c none cut few first =
    let P : List Record → Type 0 = λ rs. IsFirstOf (StoreHas half (earlier_in [] rs) words) c in
    let Q : List Bytes → Type 0 = λ ws. IsFirstOf (StoreHas half nothing_earlier ws) c in
    let here : IsFirstOf (StoreHas half nothing_earlier (words_of rest)) c = subst Q cut (subst P none first) in
    record { has = over c here.has; none_before = λ d less has. here.none_before d less (under d has) }
  where
    over : (d : Cause) → StoreHas half nothing_earlier (words_of rest) d → RestHas half rest d
    over cause.ScriptTooLong has = absurd has
    over d has = has

    under : (d : Cause) → RestHas half rest d → StoreHas half nothing_earlier (words_of rest) d
    under cause.ScriptTooLong has = absurd (omega (arith, few, has))
    under d has = has

-- ---- of a record's line
abbrev texts : List (Bor Bytes) → List Bytes
texts words = map (λ w. w.now) words

pub behind_store : (words : List (Bor Bytes)) (text : Bytes) → texts words ≡ words_of text
    → texts (take (length words - 1) (drop 1 words)) ≡ drop 1 (words_of text)
behind_store [] text cut = ap (drop 1) cut
behind_store (word ∷ words) text cut = ap texts (take_all (length (word ∷ words) - 1) words (omega arith)) ∙ ap (drop 1) cut

module _ (half : Half) (earlier : Earlier) (text : Bytes) (store : is_store (words_of text) ≡ true) where
  -- its causes are those of its text, and those of the words behind `store`
  text_causes : (c : Cause) → TextHas earlier.commands text c → (list_all is_printable text ≡ false) ⊎ (most_text < length text)
  text_causes cause.ScriptTooLong has = absurd has
  text_causes cause.NotPrintable has = inl has
  text_causes cause.LineTooLong has = inr has
  text_causes _ has = no_store (words_of text) store has.0

  pub record_fine : list_all is_printable text ≡ true → length text ≤ most_text
      → ((c : Cause) → StoreHas half earlier (drop 1 (words_of text)) c → ⊥) → (c : Cause) → LineHas half earlier text c → ⊥
  record_fine plain short fine c has = elim has [
    | inl of_text ↦ elim (text_causes c of_text) [ inl bad ↦ differ plain bad | inr long ↦ absurd (omega (arith, short, long)) ]
    | inr of_words ↦ fine c of_words.1
  ]
