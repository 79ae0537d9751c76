-- Lines that are taken one by one are those of a ledger's text. For proofs of other crates.
use Rattle.std.proofs.Common.{◌≡◌, ℕ, ◌+◌, ◌==◌, Bool, true, false, List, [], ◌∷◌, ◌++◌, length, drop, append_assoc}
use Rattle.std.proofs.Common.{nat_lt, nat_eq, is_some, Option, None, Some, Result, Ok, Err, refl, sym, ap, ◌∙◌, subst, arith, length-append}
use Rattle.std.specs.Prelude.{if◌then◌else◌}
use Rattle.std.proofs.lemmas.Bool.{lt-ltb, eqb-true}
use Rattle.std.proofs.lemmas.List.{append-nil}
use Rattle.std.specs.List.{starts_with, AllByRecursion}
use Rattle.line_feed.specs.Lines.{cut}
use Rattle.ledger_spec.specs.declared.Kind.TheVariants.{State, Tx}
use Rattle.ledger_spec.specs.Bytes.{Bytes, Hash, Half, Items}
use Rattle.ledger_spec.specs.Forms.{IsHeld, leaf}
use Rattle.ledger_spec.specs.Tree.{Entry, IsByteEntry}
use Rattle.audit_core.specs.declared.cause.Cause.{Cause}
use Rattle.audit_core.specs.declared.cause.Cause.TheVariants as causes
use Rattle.audit_core.specs.declared.answer.Answer.{Answer}
use Rattle.audit_core.specs.declared.answer.Answer.TheVariants.{Refused}
use Rattle.audit_core.specs.Said.{Said, digits_of, headed, is_behind, items_or_none, last_key, with_state, with_tx}
use Rattle.audit_core.specs.Verdicts.{IsVerdict, IsAccepted}
use Rattle.audit_core.specs.Runs.{Ends, Goes, Says, step, unended, joined}
use Rattle.plain_audit.specs.Lines.{after_line, first_of, header_word, item_of, line_most, tx_word}
use Rattle.plain_audit.specs.Answers.{Comes}
use Rattle.plain_audit.specs.Ledgers.{IsItemText, IsTxLine, AreEach, Tells, AcceptedIsLedger, TextHasItems}
use Rattle.audit_core.proofs.shared.Behind.{behind_from, rises_push, none_rises}
use Rattle.audit_core.proofs.shared.Cuts.{cut_all}
use Rattle.audit_core.proofs.shared.Decoded.{digits_some}
use Rattle.plain_audit.proofs.Texts.{item_text, item_bytes, begins_is}

-- one line and one entry more
each_push : (P : Bytes → Entry → Type 0) (lines : List Bytes) (items : Items) (line : Bytes) (e : Entry) → AreEach P lines items → P line e
    → AreEach P (lines ++ line ∷ []) (items ++ e ∷ [])
each_push P [] [] line e each here = (here, tt)
each_push P [] (f ∷ items) line e each here = absurd each
each_push P (l ∷ lines) [] line e each here = absurd each
each_push P (l ∷ lines) (f ∷ items) line e each here = (each.0, each_push P lines items line e each.1 here)

-- the header's line
head_told : (line : Bytes) (s : Said) → first_of line ≡ Ok s → Tells (line ∷ []) s
unfolding first_of
head_told line s is = by_word (starts_with nat_eq line header_word) refl is
  where
    by_size : (bytes : Bytes) (t : Bool) → (length bytes == 118) ≡ t → digits_of (drop 7 line) ≡ Some bytes
        → starts_with nat_eq line header_word ≡ true
        → (if t then Ok (record { header = bytes; items = []; txs = None }) else Err causes.Header) ≡ Ok s → Tells (line ∷ []) s
    by_size bytes false size digits word is = cc
    by_size bytes true size digits word is =
        let fresh : Said = record { header = bytes; items = []; txs = None } in
        let same : fresh ≡ s = cc in
        subst (Tells (line ∷ [])) same (record {
          head = line;
          state_lines = [];
          tx_lines = [];
          lines_are = refl;
          header = record {
            text = drop 7 line;
            line_is = begins_is line header_word word;
            bytes = digits_some (drop 7 line) bytes digits;
            size = eqb-true (length bytes) 118 size;
          };
          states = tt;
          txs = tt;
          given = refl;
          rising = none_rises;
          tx_rising = none_rises;
        })

    by_digits : (d : Option Bytes) → digits_of (drop 7 line) ≡ d → starts_with nat_eq line header_word ≡ true → headed d ≡ Ok s → Tells
        (line ∷ []) s
    by_digits None digits word is = cc
    by_digits (Some bytes) digits word is = by_size bytes (length bytes == 118) refl digits word is

    by_word : (t : Bool) → starts_with nat_eq line header_word ≡ t
        → (if t then headed (digits_of (drop 7 line)) else Err causes.NoHeader) ≡ Ok s → Tells (line ∷ []) s
    by_word false word is = cc
    by_word true word is = by_digits (digits_of (drop 7 line)) refl word is

module _ (lines : List Bytes) (s : Said) (tells : Tells lines s) (line : Bytes) (t : Said) where
  -- an item of the state, before any transaction
  state_told : with_state s (item_of line) ≡ Ok t → Tells (lines ++ line ∷ []) t
  state_told is = by_item (item_of line) refl is
    where
      by_tests : (e : Entry) (given behind : Bool) → item_of line ≡ Ok e → is_some s.txs ≡ given → is_behind s.items e.0 ≡ behind
          → (if given then Err causes.Late else if behind then Ok (record { header = s.header; items = s.items ++ e ∷ []; txs = s.txs })
          else Err (causes.NotBehind (last_key s.items) e.0)) ≡ Ok t → Tells (lines ++ line ∷ []) t
      by_tests e true behind item given_is behind_is is = cc
      by_tests e false false item given_is behind_is is = cc
      by_tests e false true item given_is behind_is is =
          let next : Said = record { header = s.header; items = s.items ++ e ∷ []; txs = s.txs } in
          let same : next ≡ t = cc in
          let none : tells.tx_lines ≡ [] = no_lines tells.tx_lines (sym tells.given ∙ given_is) in
          subst (Tells (lines ++ line ∷ [])) same (record {
            head = tells.head;
            state_lines = tells.state_lines ++ line ∷ [];
            tx_lines = tells.tx_lines;
            lines_are = ap (λ (ls : List Bytes). ls ++ line ∷ [])
                (tells.lines_are ∙ ap (λ (ls : List Bytes). tells.head ∷ (tells.state_lines ++ ls)) none
                ∙ ap (λ (ls : List Bytes). tells.head ∷ ls) (append-nil tells.state_lines))
                ∙ ap (λ (ls : List Bytes). tells.head ∷ ls) (sym (append-nil (tells.state_lines ++ line ∷ []))
                ∙ ap (λ (ls : List Bytes). (tells.state_lines ++ line ∷ []) ++ ls) (sym none));
            header = tells.header;
            states = each_push IsItemText tells.state_lines s.items line e tells.states (item_text line e item);
            txs = tells.txs;
            given = tells.given;
            rising = rises_push s.items e tells.rising (behind_from s.items e.0 behind_is);
            tx_rising = tells.tx_rising;
          })
        where
          no_lines : (ls : List Bytes) → nat_lt 0 (length ls) ≡ false → ls ≡ []
          no_lines [] is = refl
          no_lines (l ∷ ls) is = let some : nat_lt 0 (length (l ∷ ls)) ≡ true = lt-ltb 0 (length (l ∷ ls)) (omega arith) in cc

      by_item : (r : Result Entry Cause) → item_of line ≡ r → with_state s r ≡ Ok t → Tells (lines ++ line ∷ []) t
      by_item (Err cause) item is = cc
      by_item (Ok e) item is = by_tests e (is_some s.txs) (is_behind s.items e.0) item refl refl is

  -- a transaction
  tx_told : starts_with nat_eq line tx_word ≡ true → with_tx s (item_of (drop 3 line)) ≡ Ok t → Tells (lines ++ line ∷ []) t
  tx_told word is = by_item (item_of (drop 3 line)) refl is
    where
      by_test : (e : Entry) (behind : Bool) → item_of (drop 3 line) ≡ Ok e → is_behind (items_or_none s.txs) e.0 ≡ behind
          → (if behind then Ok (record { header = s.header; items = s.items; txs = Some (items_or_none s.txs ++ e ∷ []) })
          else Err (causes.NotBehind (last_key (items_or_none s.txs)) e.0)) ≡ Ok t → Tells (lines ++ line ∷ []) t
      by_test e false item behind_is is = cc
      by_test e true item behind_is is =
          let next : Said = record { header = s.header; items = s.items; txs = Some (items_or_none s.txs ++ e ∷ []) } in
          let same : next ≡ t = cc in
          subst (Tells (lines ++ line ∷ [])) same (record {
            head = tells.head;
            state_lines = tells.state_lines;
            tx_lines = tells.tx_lines ++ line ∷ [];
            lines_are = ap (λ (ls : List Bytes). ls ++ line ∷ []) tells.lines_are
                ∙ ap (λ (ls : List Bytes). tells.head ∷ ls) (append_assoc tells.state_lines tells.tx_lines (line ∷ []));
            header = tells.header;
            states = tells.states;
            txs = each_push IsTxLine tells.tx_lines (items_or_none s.txs) line e tells.txs
                (record { text = drop 3 line; line_is = begins_is line tx_word word; item = item_text (drop 3 line) e item });
            given = sym (lt-ltb 0 (length (tells.tx_lines ++ line ∷ [])) (omega (arith, length-append tells.tx_lines (line ∷ []))));
            rising = tells.rising;
            tx_rising = rises_push (items_or_none s.txs) e tells.tx_rising (behind_from (items_or_none s.txs) e.0 behind_is);
          })

      by_item : (r : Result Entry Cause) → item_of (drop 3 line) ≡ r → with_tx s r ≡ Ok t → Tells (lines ++ line ∷ []) t
      by_item (Err cause) item is = cc
      by_item (Ok e) item is = by_test e (is_behind (items_or_none s.txs) e.0) item refl is

  line_told : after_line (Some s) line ≡ Ok t → Tells (lines ++ line ∷ []) t
  line_told is = by (starts_with nat_eq line tx_word) refl is
    where
      by : (b : Bool) → starts_with nat_eq line tx_word ≡ b
          → (if b then with_tx s (item_of (drop 3 line)) else with_state s (item_of line)) ≡ Ok t → Tells (lines ++ line ∷ []) t
      by true word is = tx_told word is
      by false word is = state_told is

-- what is told so far
abbrev TellsSome : List Bytes → Option Said → Type 0
TellsSome lines None = lines ≡ []
TellsSome lines (Some s) = Tells lines s

step_told : (lines : List Bytes) (s : Option Said) (line : Bytes) (t : Said) → TellsSome lines s
    → step line_most after_line s line ≡ Ok t → Tells
    (lines ++ line ∷ []) t
step_told lines s line t tells is = by_size (nat_lt line_most (length line)) s tells is
  where
    by_size : (b : Bool) (s : Option Said) → TellsSome lines s → (if b then Err causes.TooLong else after_line s line) ≡ Ok t → Tells
        (lines ++ line ∷ []) t
    by_size true s tells is = cc
    by_size false None tells is = subst (λ (ls : List Bytes). Tells (ls ++ line ∷ []) t) (sym tells) (head_told line t is)
    by_size false (Some s) tells is = line_told lines s tells line t is

module _ (half : Half) (expect : Option Hash) (answer : Answer) (accepted : IsAccepted answer) where
  not_refused : (n : ℕ) (cause : Cause) → answer ≡ Refused n cause → ⊥
  not_refused n cause is = subst IsAccepted is accepted

  end_told : (n : ℕ) (lines : List Bytes) (s : Option Said) (rest : Bytes) → TellsSome lines s → Ends Refused line_most after_line
      (Comes half expect) n s rest answer
      → (t : Said) × Tells lines t × IsVerdict half expect t answer × (rest ≡ [])
  end_told n lines s (x ∷ rest) tells ends = absurd (not_refused n (unended line_most (x ∷ rest)) ends)
  end_told n lines None [] tells ends = absurd (not_refused n causes.NoHeader ends)
  end_told n lines (Some s) [] tells ends = (s, tells, ends, refl)

  says_told : (n : ℕ) (before : List Bytes) (s : Option Said) (lines : List Bytes) (rest : Bytes) → TellsSome before s
      → Says Refused line_most after_line (Comes half expect) n s lines rest answer
      → (t : Said) × Tells (before ++ lines) t × IsVerdict half expect t answer × (rest ≡ [])
  says_told n before s [] rest tells says =
      let end = end_told n before s rest tells says in
      (end.0, subst (λ (ls : List Bytes). Tells ls end.0) (sym (append-nil before)) end.1, end.2, end.3)
  says_told n before s (line ∷ lines) rest tells says =
      by (step line_most after_line s line) refl (λ u more goes. says_told (n + 1) (before ++ line ∷ []) (Some u) lines rest more goes) says
    where
      by : (r : Result Said Cause) → step line_most after_line s line ≡ r
          → ((u : Said) → Tells (before ++ line ∷ []) u → Says Refused line_most after_line (Comes half expect) (n + 1)
          (Some u) lines rest answer
          → (t : Said) × Tells ((before ++ line ∷ []) ++ lines) t × IsVerdict half expect t answer × (rest ≡ []))
          → Goes Refused line_most after_line (Comes half expect) n answer r (λ after. Says Refused line_most after_line
          (Comes half expect) (n + 1) (Some after) lines rest answer)
          → (t : Said) × Tells (before ++ line ∷ lines) t × IsVerdict half expect t answer × (rest ≡ [])
      by (Err cause) is more goes = absurd (not_refused n cause goes)
      by (Ok u) is more goes =
          let on = more u (step_told before s line u tells is) goes in
          (on.0, subst (λ (ls : List Bytes). Tells ls on.0) (append_assoc before (line ∷ []) lines) on.1, on.2, on.3)

pub accepted_told : AcceptedIsLedger
accepted_told half expect bytes answer is accepted =
    let told = says_told half expect answer accepted 1 [] None (cut bytes).0 (cut bytes).1 refl is in (
      told.0,
      record {
        lines = (cut bytes).0;
        bytes_are = sym (cut_all bytes) ∙ ap (λ (r : Bytes). joined (cut bytes).0 ++ r) told.3 ∙ append-nil (joined (cut bytes).0);
        tells = told.1;
      },
      told.2,
    )

-- the items of a text
state_items : (half : Half) (lines : List Bytes) (items : Items) → AreEach IsItemText lines items
    → AllByRecursion (λ (e : Entry). IsHeld half (leaf State e.0 e.1)) items × AllByRecursion IsByteEntry items
state_items half [] [] each = (tt, tt)
state_items half [] (e ∷ items) each = absurd each
state_items half (line ∷ lines) [] each = absurd each
state_items half (line ∷ lines) (e ∷ items) each =
    let rest = state_items half lines items each.1 in ((each.0.item, rest.0), (item_bytes line e each.0, rest.1))

tx_items : (half : Half) (lines : List Bytes) (items : Items) → AreEach IsTxLine lines items
    → AllByRecursion (λ (e : Entry). IsHeld half (leaf Tx e.0 e.1)) items × AllByRecursion IsByteEntry items
tx_items half [] [] each = (tt, tt)
tx_items half [] (e ∷ items) each = absurd each
tx_items half (line ∷ lines) [] each = absurd each
tx_items half (line ∷ lines) (e ∷ items) each =
    let rest = tx_items half lines items each.1 in ((each.0.item.item, rest.0), (item_bytes each.0.text e each.0.item, rest.1))

pub text_items : TextHasItems
text_items half bytes s is =
    let states = state_items half is.tells.state_lines s.items is.tells.states in
    let txs = tx_items half is.tells.tx_lines (items_or_none s.txs) is.tells.txs in (
      record { rising = is.tells.rising; each = states.0; bytes = states.1 },
      record { rising = is.tells.tx_rising; each = txs.0; bytes = txs.1 },
    )
