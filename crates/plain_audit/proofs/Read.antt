-- The lines of a ledger's text are taken one by one.
use Rattle.std.proofs.Common.{◌≡◌, ℕ, ◌+◌, ◌<◌, ◌≤◌, ◌==◌, ◌&&◌, Bool, true, false, List, [], ◌∷◌, ◌++◌, length, take, drop}
use Rattle.std.proofs.Common.{nat_lt, nat_eq, is_some, slice_index, Option, None, Some, Result, Ok, refl, sym, ap, ◌∙◌, subst, arith}
use Rattle.std.proofs.Common.{length-append, append_assoc}
use Rattle.std.proofs.lemmas.Bool.{and_from, cond-true, cond-false, lt-ltb, le-ltb, eq-eqb, false≢true}
use Rattle.std.proofs.lemmas.List.{append-nil, take_at, drop_at}
use Rattle.std.proofs.lemmas.Slice.Eq.{bytes_eq-Decides}
use Rattle.std.proofs.Math.Seq.{get_or-append_seam}
use Rattle.std.specs.List.{starts_with, AllPass}
use Rattle.hex.specs.Hex.{is_hex_digit}
use Rattle.hex.proofs.HexLemmas.{decode_of-ok}
use Rattle.line_feed.specs.Lines.{cut, IsOneLine}
use Rattle.ledger_spec.specs.Bytes.{Bytes, Hash, Half, Items}
use Rattle.ledger_spec.specs.Maps.{hash_cmp, IsMap}
use Rattle.ledger_spec.specs.Tree.{Entry}
use Rattle.root_pass.specs.Rows.{IsBehind}
use Rattle.audit_core.specs.declared.cause.Cause.{Cause}
use Rattle.audit_core.specs.declared.answer.Answer.{Answer}
use Rattle.audit_core.specs.Said.{Said, digits_of, headed, is_behind, items_or_none, keyed, with_state, with_tx}
use Rattle.audit_core.specs.Verdicts.{IsVerdict}
use Rattle.audit_core.specs.Runs.{Goes, Says, step}
use Rattle.plain_audit.specs.Lines.{after_line, first_of, header_word, item_of, line_most, tx_word}
use Rattle.plain_audit.specs.Answers.{Comes}
use Rattle.plain_audit.specs.Ledgers.{IsItemText, IsTxLine, IsHeaderLine, AreEach, Tells, LedgerIsAnswered}
use Rattle.audit_core.proofs.shared.Behind.{behind_true, behind_in}
use Rattle.audit_core.proofs.shared.Decoded.{decoded_size, decoded_one, digits_is, checked_read}
use Rattle.plain_audit.proofs.Texts.{begins_is}
use Rattle.audit_core.proofs.shared.Cuts.{AreOne, one_append, cut_joined}
use Rattle.audit_core.specs.declared.answer.Answer.TheVariants.{Refused}
use Rattle.line_feed.proofs.shared.Newlines.{one_join}

-- an item's text is one line that isn't too long
item_one : (text : Bytes) (e : Entry) → IsItemText text e → IsOneLine text
item_one text e is =
    subst IsOneLine (sym is.text_is)
    (one_join is.key_text (32 ∷ is.data_text) (decoded_one is.key_text e.0 is.key.value)
    ((λ eq. omega (arith, eq)), decoded_one is.data_text e.1 is.bytes))

item_short : (text : Bytes) (e : Entry) → IsItemText text e → length text + 3 ≤ line_most
item_short text e is =
    let size : length text ≡ length (is.key_text ++ 32 ∷ is.data_text) = ap length is.text_is in
    omega (
      arith,
      size,
      length-append is.key_text
          (32 ∷ is.data_text),
      is.key.digits,
      decoded_size is.data_text e.1 is.bytes,
      is.item.data_size,
    )

-- and it says that item
item_read : (text : Bytes) (e : Entry) → IsItemText text e → item_of text ≡ Ok e
unfolding item_of
item_read text e is =
    cond-true (nat_lt 64 (length text) && (slice_index text 64 == 32)) _ _ form
    ∙ ap (λ k. keyed k (digits_of (drop 65 text))) key_is ∙ ap (keyed (Some e.0)) data_is ∙ checked_read e is.item
  where
    size : length text ≡ 65 + length is.data_text
    size =
        let whole : length text ≡ length (is.key_text ++ 32 ∷ is.data_text) = ap length is.text_is in
        omega (arith, whole, length-append is.key_text (32 ∷ is.data_text), is.key.digits)

    space : slice_index text 64 ≡ 32
    space =
        ap (λ (t : Bytes). slice_index t 64) is.text_is ∙ ap (slice_index (is.key_text ++ 32 ∷ is.data_text)) (sym is.key.digits)
        ∙ get_or-append_seam is.key_text 32 is.data_text 0

    form : (nat_lt 64 (length text) && (slice_index text 64 == 32)) ≡ true
    form =
        and_from (nat_lt 64 (length text)) (slice_index text 64 == 32) (lt-ltb 64 (length text) (omega (arith, size)))
        (eq-eqb (slice_index text 64) 32 space)

    key_is : digits_of (take 64 text) ≡ Some e.0
    key_is =
        ap (λ (t : Bytes). digits_of (take 64 t)) is.text_is
        ∙ ap digits_of (take_at is.key_text (32 ∷ is.data_text) 64 is.key.digits) ∙ digits_is is.key_text e.0 is.key.value

    split : is.key_text ++ 32 ∷ is.data_text ≡ (is.key_text ++ 32 ∷ []) ++ is.data_text
    split = sym (append_assoc is.key_text (32 ∷ []) is.data_text)

    data_is : digits_of (drop 65 text) ≡ Some e.1
    data_is =
        ap (λ (t : Bytes). digits_of (drop 65 t)) (is.text_is ∙ split)
        ∙ ap digits_of (drop_at (is.key_text ++ 32 ∷ []) is.data_text 65
        (omega (arith, length-append is.key_text (32 ∷ []), is.key.digits)))
        ∙ digits_is is.data_text e.1 is.bytes

-- it begins with a digit, so isn't a transaction's line
no_digit : is_hex_digit 116 ≡ false
no_digit = refl

no_tx : (text : Bytes) (e : Entry) → IsItemText text e → starts_with nat_eq text tx_word ≡ false
no_tx text e is = by (starts_with nat_eq text tx_word) refl
  where
    first : (key_text rest more : Bytes) → length key_text ≡ 64 → AllPass is_hex_digit key_text → key_text ++ rest ≡ tx_word ++ more → ⊥
    first [] rest more size all same = absurd (omega arith)
    first (x ∷ key_text) rest more size all same =
        let here : x ≡ 116 = cc in
        let digit : is_hex_digit x ≡ true = all 0 0 (omega arith) in
        false≢true (sym no_digit ∙ ap is_hex_digit (sym here) ∙ digit)

    by : (b : Bool) → starts_with nat_eq text tx_word ≡ b → starts_with nat_eq text tx_word ≡ false
    by false word = word
    by true word =
        absurd (first is.key_text (32 ∷ is.data_text) (drop 3 text) is.key.digits ((decode_of-ok is.key_text e.0 is.key.value).1)
        (sym is.text_is ∙ begins_is text tx_word word))

step_is : (s : Option Said) (line : Bytes) (t : Said) → length line ≤ line_most → after_line s line ≡ Ok t
    → step line_most after_line s line ≡ Ok t
step_is s line t short is = cond-false (nat_lt line_most (length line)) _ _ (le-ltb line_most (length line) short) ∙ is

state_step : (s : Said) (line : Bytes) (e : Entry) → is_some s.txs ≡ false → IsItemText line e → IsBehind s.items e.0
    → step line_most after_line (Some s) line ≡ Ok (record { header = s.header; items = s.items ++ e ∷ []; txs = s.txs })
state_step s line e none is behind =
    step_is (Some s) line _ (omega (arith, item_short line e is))
    (cond-false (starts_with nat_eq line tx_word) _ _ (no_tx line e is) ∙ ap (with_state s) (item_read line e is)
    ∙ cond-false (is_some s.txs) _ _ none ∙ cond-true (is_behind s.items e.0) _ _ (behind_true s.items e.0 behind))

tx_step : (s : Said) (line : Bytes) (e : Entry) → IsTxLine line e → IsBehind (items_or_none s.txs) e.0
    → step line_most after_line (Some s) line ≡ Ok (record {
      header = s.header;
      items = s.items;
      txs = Some
          (items_or_none s.txs ++ e ∷ []);
    })
tx_step s line e is behind =
    step_is (Some s) line _ (omega (arith, ap length is.line_is, length-append tx_word is.text, item_short is.text e is.item))
    (cond-true (starts_with nat_eq line tx_word) _ _ word ∙ ap (with_tx s) (ap item_of text_is ∙ item_read is.text e is.item)
    ∙ cond-true (is_behind (items_or_none s.txs) e.0) _ _ (behind_true (items_or_none s.txs) e.0 behind))
  where
    word : starts_with nat_eq line tx_word ≡ true
    word = (bytes_eq-Decides tx_word (take 3 line)).1 (sym (ap (take 3) is.line_is ∙ take_at tx_word is.text 3 refl))

    text_is : drop 3 line ≡ is.text
    text_is = ap (drop 3) is.line_is ∙ drop_at tx_word is.text 3 refl

head_step : (line header : Bytes) → IsHeaderLine line header → step line_most after_line None line ≡ Ok
    (record { header = header; items = []; txs = None })
unfolding first_of
head_step line header is =
    step_is None line _ (omega
    (arith, ap length is.line_is, length-append header_word is.text, decoded_size is.text header is.bytes, is.size))
    (cond-true (starts_with nat_eq line header_word) _ _ word ∙ ap headed (ap digits_of text_is ∙ digits_is is.text header is.bytes)
    ∙ cond-true (length header == 118) _ _ (eq-eqb (length header) 118 is.size))
  where
    word : starts_with nat_eq line header_word ≡ true
    word = (bytes_eq-Decides header_word (take 7 line)).1 (sym (ap (take 7) is.line_is ∙ take_at header_word is.text 7 refl))

    text_is : drop 7 line ≡ is.text
    text_is = ap (drop 7) is.line_is ∙ drop_at header_word is.text 7 refl

module _ (half : Half) (expect : Option Hash) (answer : Answer) where
  -- whatever the line's number
  abbrev Reads : Option Said → List Bytes → Type 0
  Reads s lines = (n : ℕ) → Says Refused line_most after_line (Comes half expect) n s lines [] answer

  one_read : (s : Option Said) (line : Bytes) (lines : List Bytes) (t : Said) → step line_most after_line s line ≡ Ok t → Reads
      (Some t) lines → Reads s
      (line ∷ lines)
  one_read s line lines t is reads n =
      subst (λ (r : Result Said Cause). Goes Refused line_most after_line (Comes half expect) n answer r
      (λ after. Says Refused line_most after_line (Comes half expect) (n + 1) (Some after) lines [] answer))
      (sym is)
      (reads (n + 1))

  states_read : (lines : List Bytes) (items : Items) (s : Said) (more : List Bytes) → is_some s.txs ≡ false → AreEach IsItemText lines items
      → IsMap hash_cmp (s.items ++ items) → Reads (Some (record { header = s.header; items = s.items ++ items; txs = s.txs })) more
      → Reads (Some s) (lines ++ more)
  states_read [] [] s more none each rising reads =
      subst (λ (es : Items). Reads (Some (record { header = s.header; items = es; txs = s.txs })) more) (append-nil s.items) reads
  states_read [] (e ∷ items) s more none each rising reads = absurd each
  states_read (line ∷ lines) [] s more none each rising reads = absurd each
  states_read (line ∷ lines) (e ∷ items) s more none each rising reads =
      let next : Said = record { header = s.header; items = s.items ++ e ∷ []; txs = s.txs } in
      let split : (s.items ++ e ∷ []) ++ items ≡ s.items ++ e ∷ items = append_assoc s.items (e ∷ []) items in
      one_read (Some s) line (lines ++ more) next (state_step s line e none each.0 (behind_in s.items items e rising))
      (states_read lines items next more none each.1 (subst (λ (es : Items). IsMap hash_cmp es) (sym split) rising)
      (subst (λ (es : Items). Reads (Some (record { header = s.header; items = es; txs = s.txs })) more) (sym split) reads))

  txs_read : (lines : List Bytes) (items : Items) (s : Said) → AreEach IsTxLine lines items
      → IsMap hash_cmp (items_or_none s.txs ++ items)
      → ((o : Option Items) → items_or_none o ≡ items_or_none s.txs ++ items → (0 < length lines → is_some o ≡ true)
      → (length lines ≡ 0 → o ≡ s.txs) → IsVerdict half expect (record { header = s.header; items = s.items; txs = o }) answer)
      → Reads (Some s) lines
  txs_read [] [] s each rising verdict n = verdict s.txs (sym (append-nil (items_or_none s.txs))) (λ some. absurd (omega arith))
      (λ none. refl)
  txs_read [] (e ∷ items) s each rising verdict n = absurd each
  txs_read (line ∷ lines) [] s each rising verdict n = absurd each
  txs_read (line ∷ lines) (e ∷ items) s each rising verdict n =
      let next : Said = record { header = s.header; items = s.items; txs = Some (items_or_none s.txs ++ e ∷ []) } in
      let split : (items_or_none s.txs ++ e ∷ []) ++ items ≡ items_or_none s.txs ++ e ∷ items = append_assoc (items_or_none s.txs)
      (e ∷ []) items in
      one_read (Some s) line lines next (tx_step s line e each.0 (behind_in (items_or_none s.txs) items e rising))
      (txs_read lines items next each.1 (subst (λ (es : Items). IsMap hash_cmp es) (sym split) rising)
      (λ o is some none. verdict o (is ∙ split) (λ low. given o lines some none) (λ zero. absurd (omega arith)))) n
    where
      given : (o : Option Items) (lines : List Bytes) → (0 < length lines → is_some o ≡ true)
          → (length lines ≡ 0 → o ≡ Some (items_or_none s.txs ++ e ∷ [])) → is_some o ≡ true
      given o [] some none = ap is_some (none refl)
      given o (l ∷ ls) some none = some (omega arith)

  tells_read : (lines : List Bytes) (s : Said) → Tells lines s → IsVerdict half expect s answer → Reads None lines
  tells_read lines s tells verdict =
      let start : Said = record { header = s.header; items = []; txs = None } in
      let mid : Said = record { header = s.header; items = s.items; txs = None } in
      subst (Reads None) (sym tells.lines_are)
      (one_read None tells.head (tells.state_lines ++ tells.tx_lines) start (head_step tells.head s.header tells.header)
      (states_read tells.state_lines s.items start tells.tx_lines refl tells.states tells.rising
      (txs_read tells.tx_lines (items_or_none s.txs) mid tells.txs tells.tx_rising
      (λ o is some none. subst (λ (p : Option Items). IsVerdict half expect (record { header = s.header; items = s.items; txs = p }) answer)
      (sym (same o s.txs tells.tx_lines tells.given is some none)) verdict))))
    where
      same : (o p : Option Items) (lines : List Bytes) → is_some p ≡ nat_lt 0 (length lines) → items_or_none o ≡ items_or_none p
          → (0 < length lines → is_some o ≡ true) → (length lines ≡ 0 → o ≡ None) → o ≡ p
      same o None [] given is some none = none refl
      same o (Some items) [] given is some none = absurd (false≢true (sym given))
      same o None (l ∷ ls) given is some none = absurd (false≢true (given ∙ lt-ltb 0 (length (l ∷ ls)) (omega arith)))
      same None (Some items) (l ∷ ls) given is some none = absurd (false≢true (some (omega arith)))
      same (Some es) (Some items) (l ∷ ls) given is some none = ap Some is

states_one : (lines : List Bytes) (items : Items) → AreEach IsItemText lines items → AreOne lines
states_one [] [] each = tt
states_one [] (e ∷ items) each = absurd each
states_one (line ∷ lines) [] each = absurd each
states_one (line ∷ lines) (e ∷ items) each = (item_one line e each.0, states_one lines items each.1)

tx_word_one : IsOneLine tx_word
tx_word_one = ((λ e. omega (arith, e)), ((λ e. omega (arith, e)), ((λ e. omega (arith, e)), tt)))

txs_one : (lines : List Bytes) (items : Items) → AreEach IsTxLine lines items → AreOne lines
txs_one [] [] each = tt
txs_one [] (e ∷ items) each = absurd each
txs_one (line ∷ lines) [] each = absurd each
txs_one (line ∷ lines) (e ∷ items) each = (
  subst IsOneLine (sym each.0.line_is) (one_join tx_word each.0.text tx_word_one (item_one each.0.text e each.0.item)),
  txs_one lines items each.1,
)

header_word_one : IsOneLine header_word
header_word_one = (
  (λ e. omega (arith, e)),
  (
    (λ e. omega (arith, e)),
    (
      (λ e. omega (arith, e)),
      (
        (λ e. omega (arith, e)),
        ((λ e. omega (arith, e)), ((λ e. omega (arith, e)), ((λ e. omega (arith, e)), tt))),
      ),
    ),
  ),
)

tells_one : (lines : List Bytes) (s : Said) → Tells lines s → AreOne lines
tells_one lines s tells =
    subst AreOne (sym tells.lines_are) (
      subst IsOneLine (sym tells.header.line_is)
          (one_join header_word tells.header.text header_word_one (decoded_one tells.header.text s.header tells.header.bytes)),
      one_append tells.state_lines tells.tx_lines (states_one tells.state_lines s.items tells.states)
          (txs_one tells.tx_lines (items_or_none s.txs) tells.txs),
    )

pub ledger_answered : LedgerIsAnswered
ledger_answered half expect bytes s answer text verdict =
    subst (λ (p : List Bytes × Bytes). Says Refused line_most after_line (Comes half expect) 1 None p.0 p.1 answer)
    (sym (ap cut text.bytes_are ∙ cut_joined text.lines (tells_one text.lines s text.tells)))
    (tells_read half expect answer text.lines s text.tells verdict 1)
