-- What one document that is taken says: its items, its page, and that it is of the ledger of those before it.
use Rattle.std.proofs.Common.{◌≡◌, ◌≤◌, ◌==◌, Bool, true, false, is_some, [], ◌∷◌, ◌++◌, length, nat_lt}
use Rattle.std.proofs.Common.{Option, None, Some, Result, Ok, Err, refl, sym, ap, ◌∙◌, subst, arith, append_assoc}
use Rattle.std.specs.Cmp.Lexicographic.{same_text}
use Rattle.std.specs.Prelude.{if◌then◌else◌, codes}
use Rattle.std.proofs.lemmas.Bool.{ltb-false, eqb-true}
use Rattle.std.proofs.lemmas.List.{append-nil}
use Rattle.hex.specs.Hex.{decode_of}
use Rattle.json.specs.Json.{Json, Items as Elements, no_items, item}
use Rattle.json.specs.Find.{get}
use Rattle.line_feed.specs.Lines.{IsOneLine}
use Rattle.ledger_spec.specs.Bytes.{Bytes, Hash, Items, same_bytes}
use Rattle.ledger_spec.specs.Header.{seq_of}
use Rattle.ledger_spec.specs.Maps.{hash_cmp, IsMap}
use Rattle.ledger_spec.specs.Tree.{Entry}
use Rattle.audit_core.specs.declared.cause.Cause.{Cause}
use Rattle.audit_core.specs.declared.cause.Cause.TheVariants as causes
use Rattle.audit_core.specs.Said.{Said, digits_of, is_behind, last_key, with_state, keyed}
use Rattle.audit_core.specs.Runs.{step}
use Rattle.page_audit.specs.Documents.{document, inside, text_at, hash_of_text, hash_in, number_in, list_in, item_of_texts}
use Rattle.page_audit.specs.Documents.{item_in}
use Rattle.page_audit.specs.Pages.{page_most, Paged, onward, with_items, with_list, with_page, numbered}
use Rattle.page_audit.specs.Pages.{same_ledger, next_page, taken, after_page}
use Rattle.page_audit.specs.Texts.{IsElement, AreElements, Names, IsDocument}
use Rattle.audit_core.proofs.shared.Behind.{behind_from, rises_push}
use Rattle.audit_core.proofs.shared.Decoded.{digits_some, decoded_size, checked_is}

-- what went on from something went on from an Ok
pub onward_is : {X Y : Type 0} (r : Result X Cause) (on : X → Result Y Cause) (y : Y) → onward r on ≡ Ok y → (x : X) × (r ≡ Ok x) ×
    (on x ≡ Ok y)
onward_is (Ok x) on y is = (x, refl, is)
onward_is (Err cause) on y is = let e : Err cause ≡ Ok y = is in cc

pub no_value : (o : Option Json) → is_some o ≡ false → o ≡ None
no_value None is = refl
no_value (Some d) is = cc

-- a hash's digits
hash_text : (text : Bytes) (hash : Hash) → hash_of_text text ≡ Some hash → (length text ≡ 64) × (decode_of text ≡ Ok hash)
hash_text text hash is = by (length text == 64) refl is
  where
    by : (b : Bool) → (length text == 64) ≡ b → (if b then digits_of text else None) ≡ Some hash
        → (length text ≡ 64) × (decode_of text ≡ Ok hash)
    by true size is = (eqb-true (length text) 64 size, digits_some text hash is)
    by false size is = let e : None ≡ Some hash = is in cc

-- an element that is taken is an item's
element_told : (d : Json) (e : Entry) → item_in d ≡ Ok e → IsElement d e
element_told d e is = by (text_at (codes "index") d) (text_at (codes "data") d) refl refl is
  where
    by_keys : (key text : Bytes) (k b : Option Bytes) → hash_of_text key ≡ k → digits_of text ≡ b → text_at (codes "index") d ≡ Some key
        → text_at (codes "data") d ≡ Some text → keyed k b ≡ Ok e → IsElement d e
    by_keys key text None b k_is b_is key_is text_is is = let e : Err causes.Key ≡ Ok e = is in cc
    by_keys key text (Some k) None k_is b_is key_is text_is is = let e : Err causes.Data ≡ Ok e = is in cc
    by_keys key text (Some k) (Some b) k_is b_is key_is text_is is =
        let parts = checked_is k b e is in
        let digits = hash_text key k k_is in
        let of_key : e.0 ≡ k = ap (λ (f : Entry). f.0) parts.0 in
        let of_bytes : e.1 ≡ b = ap (λ (f : Entry). f.1) parts.0 in
        let width : length k ≡ 32 = omega (arith, digits.0, decoded_size key k digits.1) in
        record {
          key_text = key;
          data_text = text;
          key_is = key_is;
          data_is = text_is;
          key = record { digits = digits.0; value = digits.1 ∙ ap Ok (sym of_key) };
          bytes = digits_some text b b_is ∙ ap Ok (sym of_bytes);
          item = subst (λ (f : Entry). Rattle.ledger_spec.specs.Forms.IsItem f.0 f.1) (sym parts.0)
              (record { key_size = width; key_nonzero = parts.1; data_size = parts.2 });
        }

    by : (key text : Option Bytes) → text_at (codes "index") d ≡ key → text_at (codes "data") d ≡ text → item_of_texts key text ≡ Ok e
        → IsElement d e
    by None text key_is text_is is = let e : Err causes.Item ≡ Ok e = is in cc
    by (Some key) None key_is text_is is = let e : Err causes.Item ≡ Ok e = is in cc
    by (Some key) (Some text) key_is text_is is = by_keys key text (hash_of_text key) (digits_of text) refl refl key_is text_is is

-- the same ledger with more items
abbrev pub more_items : Said → Items → Said
more_items s items = record { header = s.header; items = s.items ++ items; txs = s.txs }

-- what a list of elements adds
record Adds (ds : Elements) (s t : Said) : Type 0 where
  items : Items
  each : AreElements ds items
  said : t ≡ more_items s items
  rising : IsMap hash_cmp (s.items ++ items)

elements_told : (ds : Elements) (s t : Said) → s.txs ≡ None → IsMap hash_cmp s.items → with_items s ds ≡ Ok t → Adds ds s t
elements_told no_items s t none rising is =
    let same : s ≡ t = (let e : Ok s ≡ Ok t = is in cc) in
    record {
      items = [];
      each = tt;
      said = sym same ∙ λ i. record { header = s.header; items = sym (append-nil s.items) i; txs = s.txs };
      rising = subst (λ (es : Items). IsMap hash_cmp es) (sym (append-nil s.items)) rising;
    }
elements_told (item d ds) s t none rising is = by_item (item_in d) refl (λ u none rising is. elements_told ds u t none rising is) is
  where
    by_item : (r : Result Entry Cause) → item_in d ≡ r
        → ((u : Said) → u.txs ≡ None → IsMap hash_cmp u.items → with_items u ds ≡ Ok t → Adds ds u t)
        → onward (with_state s r) (λ u. with_items u ds) ≡ Ok t → Adds (item d ds) s t
    by_item (Err cause) item_is on is = let e : Err cause ≡ Ok t = is in cc
    by_item (Ok e) item_is on is = by_tests (is_some s.txs) (is_behind s.items e.0) refl refl is
      where
        by_tests : (given behind : Bool) → is_some s.txs ≡ given → is_behind s.items e.0 ≡ behind
            → onward {X = Said} (if given then Err causes.Late
            else if behind then Ok (record { header = s.header; items = s.items ++ e ∷ []; txs = s.txs })
            else Err (causes.NotBehind (last_key s.items) e.0)) (λ u. with_items u ds) ≡ Ok t → Adds (item d ds) s t
        by_tests true behind given_is behind_is is = let e : Err causes.Late ≡ Ok t = is in cc
        by_tests false false given_is behind_is is = let e : Err (causes.NotBehind (last_key s.items) e.0) ≡ Ok t = is in cc
        by_tests false true given_is behind_is is =
            let u : Said = record { header = s.header; items = s.items ++ e ∷ []; txs = s.txs } in
            let rest : Adds ds u t = on u none (rises_push s.items e rising (behind_from s.items e.0 behind_is)) is in
            let split : (s.items ++ e ∷ []) ++ rest.items ≡ s.items ++ e ∷ rest.items = append_assoc s.items (e ∷ []) rest.items in
            record {
              items = e ∷ rest.items;
              each = (element_told d e item_is, rest.each);
              said = rest.said ∙ λ i. record { header = s.header; items = split i; txs = s.txs };
              rising = subst (λ (es : Items). IsMap hash_cmp es) split rest.rising;
            }

-- the number that is named is this one
pub numbered_is : (p q : Paged) (o : Option Bool) → numbered p o ≡ Ok q → (o ≡ Some true) × (p ≡ q)
numbered_is p q None is = let e : Err causes.Index ≡ Ok q = is in cc
numbered_is p q (Some false) is = let e : Err causes.OtherLedger ≡ Ok q = is in cc
numbered_is p q (Some true) is = (refl, (let e : Ok p ≡ Ok q = is in cc))

-- a page that is taken
pub record Takes (p : Paged) (d : Json) (q : Paged) : Type 0 where
  pub list : Elements
  pub list_is : list_in d ≡ Some list
  pub items : Items
  pub each : AreElements list items
  pub after : q ≡ record { said = more_items p.said items; hash = p.hash; more = is_some (get (codes "marker") d) }
  pub rising : IsMap hash_cmp (p.said.items ++ items)

-- a page with what is said behind it
abbrev page_with : Paged → Said → Json → Paged
page_with p s d = record { said = s; hash = p.hash; more = is_some (get (codes "marker") d) }

same_ok : (a b : Paged) (r : Result Paged Cause) → r ≡ Ok a → r ≡ Ok b → a ≡ b
same_ok a b r first second = let e : Ok a ≡ Ok b = sym first ∙ second in cc

pub page_told : (p q : Paged) (d : Json) → p.said.txs ≡ None → IsMap hash_cmp p.said.items → with_page p d ≡ Ok q → Takes p d q
page_told p q d none rising is =
    let on = onward_is {X = Said} {Y = Paged} (with_list p.said (list_in d)) (λ s. Ok (page_with p s d)) q is in
    by (list_in d) on.0 refl on.1 (same_ok (page_with p on.0 d) q (Ok (page_with p on.0 d)) refl on.2)
  where
    by : (o : Option Elements) (s : Said) → list_in d ≡ o → with_list p.said o ≡ Ok s → page_with p s d ≡ q → Takes p d q
    by None s list_is with_is same = let e : Err causes.State ≡ Ok s = with_is in cc
    by (Some ds) s list_is with_is same =
        let adds = elements_told ds p.said s none rising with_is in
        record {
          list = ds;
          list_is = list_is;
          items = adds.items;
          each = adds.each;
          after = sym same ∙ λ i. record { said = adds.said i; hash = p.hash; more = is_some (get (codes "marker") d) };
          rising = adds.rising;
        }

-- a document of the same ledger
same_told : (p q : Paged) (d : Json) → same_ledger p d (hash_in d) ≡ Ok q → Names d p.hash (seq_of p.said.header) × (p ≡ q)
same_told p q d is = by (hash_in d) refl is
  where
    by_hash : (hash : Hash) (b : Bool) → hash_in d ≡ Some hash → same_bytes hash p.hash ≡ b
        → (if b then numbered p (number_in (seq_of p.said.header) d) else Err causes.OtherLedger) ≡ Ok q
        → Names d p.hash (seq_of p.said.header) × (p ≡ q)
    by_hash hash false hash_is same is = let e : Err causes.OtherLedger ≡ Ok q = is in cc
    by_hash hash true hash_is same is =
        let number = numbered_is p q (number_in (seq_of p.said.header) d) is in
        (record { hash_is = hash_is ∙ ap Some (same_text hash p.hash (sym same)); number_is = number.0 }, number.1)

    by : (o : Option Hash) → hash_in d ≡ o → same_ledger p d o ≡ Ok q → Names d p.hash (seq_of p.said.header) × (p ≡ q)
    by None hash_is is = let e : Err causes.Hash ≡ Ok q = is in cc
    by (Some hash) hash_is is = by_hash hash (same_bytes hash p.hash) hash_is refl is

-- a page behind the first document
pub next_told : (p q : Paged) (d : Json) → p.said.txs ≡ None → IsMap hash_cmp p.said.items → next_page p d ≡ Ok q
    → (p.more ≡ true) × Names d p.hash (seq_of p.said.header) × Takes p d q
next_told p q d none rising is = by p.more refl is
  where
    by : (b : Bool) → p.more ≡ b → (if b then onward (same_ledger p d (hash_in d)) (λ r. with_page r d) else Err causes.Extra) ≡ Ok q
        → (p.more ≡ true) × Names d p.hash (seq_of p.said.header) × Takes p d q
    by false more is = let e : Err causes.Extra ≡ Ok q = is in cc
    by true more is =
        let on = onward_is {X = Paged} {Y = Paged} (same_ledger p d (hash_in d)) (λ r. with_page r d) q is in
        let same = same_told p on.0 d on.1 in
        (more, same.0, page_told p q d none rising (ap (λ (r : Paged). with_page r d) same.1 ∙ on.2))

-- the document of a line that is taken
pub line_told : (o : Option Paged) (line : Bytes) (q : Paged) → IsOneLine line → step page_most after_page o line ≡ Ok q
    → (w : Json) × IsDocument line (inside w) × (taken o (Some w) ≡ Ok q)
line_told o line q one is = by (nat_lt page_most (length line)) refl is
  where
    by_document : (w : Option Json) → document line ≡ w → length line ≤ page_most → taken o w ≡ Ok q
        → (w : Json) × IsDocument line (inside w) × (taken o (Some w) ≡ Ok q)
    by_document None read short is = let e : Err causes.NoJson ≡ Ok q = none_taken o ∙ is in cc
      where
        none_taken : (o : Option Paged) → Err causes.NoJson ≡ taken o None
        none_taken None = refl
        none_taken (Some p) = refl
    by_document (Some w) read short is = (w, record { whole = w; read = read; inside_is = refl; one = one; short = short }, is)

    by : (b : Bool) → nat_lt page_most (length line) ≡ b → (if b then Err causes.TooLong else after_page o line) ≡ Ok q
        → (w : Json) × IsDocument line (inside w) × (taken o (Some w) ≡ Ok q)
    by true long is = let e : Err causes.TooLong ≡ Ok q = is in cc
    by false long is = by_document (document line) refl (ltb-false page_most (length line) long) is
