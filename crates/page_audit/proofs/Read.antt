-- A ledger's pages are taken one by one.
use Rattle.std.proofs.Common.{◌≡◌, ◌⊎◌, ⊎_elim, ℕ, ◌+◌, ◌==◌, Bool, true, false, is_some, List, [], ◌∷◌, ◌++◌, length, nat_lt}
use Rattle.std.proofs.Common.{Option, None, Some, Result, Ok, refl, sym, ap, ◌∙◌, subst, append_assoc}
use Rattle.std.specs.Prelude.{if◌then◌else◌, codes}
use Rattle.std.proofs.lemmas.Bool.{cond-true, cond-false, le-ltb, eq-eqb}
use Rattle.std.proofs.lemmas.List.{append-nil}
use Rattle.std.proofs.lemmas.Slice.Eq.{bytes_eq-Decides}
use Rattle.std.specs.List.{AllByRecursion}
use Rattle.std.specs.List.Sorted.{IsStrictlySortedBy}
use Rattle.std.specs.Map.{keys_of}
use Rattle.std.specs.Option.{option_and_then}
use Rattle.std.specs.declared.cmp.Ordering.TheVariants.{Less}
use Rattle.json.specs.Json.{Json, Items as Elements, no_items, item}
use Rattle.json.specs.Find.{get, as_array}
use Rattle.line_feed.specs.Lines.{cut}
use Rattle.ledger_spec.specs.Bytes.{Bytes, Hash, Half, Items, same_bytes}
use Rattle.ledger_spec.specs.Header.{seq_of}
use Rattle.ledger_spec.specs.Maps.{hash_cmp, IsMap}
use Rattle.ledger_spec.specs.Tree.{Entry}
use Rattle.audit_core.specs.declared.cause.Cause.{Cause}
use Rattle.audit_core.specs.declared.answer.Answer.{Answer}
use Rattle.audit_core.specs.Said.{Said, digits_of, headed, is_behind, with_state, keyed}
use Rattle.audit_core.specs.Runs.{Goes, Says, step}
use Rattle.page_audit.specs.Documents.{document, inside, text_at, hash_of_text, hash_in, header_in, number_in, item_of_texts}
use Rattle.page_audit.specs.Documents.{item_in}
use Rattle.page_audit.specs.Pages.{page_most, Paged, onward, with_items, with_list, with_page, numbered, opened_by, opened, first_page}
use Rattle.page_audit.specs.Pages.{same_ledger, next_page, taken, after_page, Comes}
use Rattle.page_audit.specs.Texts.{IsElement, AreElements, Names, IsPage, ArePages, IsFirst, Tell, IsDocument, AreDocuments, IsPagesVerdict}
use Rattle.page_audit.specs.Texts.{PagesAreAnswered}
use Rattle.audit_core.proofs.shared.Behind.{behind_true, behind_in}
use Rattle.audit_core.proofs.shared.Cuts.{AreOne, cut_joined}
use Rattle.audit_core.specs.declared.answer.Answer.TheVariants.{Refused}
use Rattle.audit_core.proofs.shared.Decoded.{digits_is, checked_read}

-- an item's element is taken
element_read : (d : Json) (e : Entry) → IsElement d e → item_in d ≡ Ok e
element_read d e is =
    ap (λ (k : Option Bytes). item_of_texts k (text_at (codes "data") d)) is.key_is ∙ ap (item_of_texts (Some is.key_text)) is.data_is
    ∙ ap (λ (k : Option Bytes). keyed k (digits_of is.data_text)) key ∙ ap (keyed (Some e.0)) (digits_is is.data_text e.1 is.bytes)
    ∙ checked_read e is.item
  where
    key : hash_of_text is.key_text ≡ Some e.0
    key =
        cond-true (length is.key_text == 64) (digits_of is.key_text) None (eq-eqb (length is.key_text) 64 is.key.digits)
        ∙ digits_is is.key_text e.0 is.key.value

-- the same ledger with more items
abbrev more_items : Said → Items → Said
more_items s items = record { header = s.header; items = s.items ++ items; txs = s.txs }

same_said : (s : Said) → s ≡ more_items s []
same_said s = λ i. record { header = s.header; items = sym (append-nil s.items) i; txs = s.txs }

-- the items of elements are taken, where keys rise
elements_read : (ds : Elements) (items : Items) (s : Said) → s.txs ≡ None → AreElements ds items → IsMap hash_cmp (s.items ++ items)
    → with_items s ds ≡ Ok (more_items s items)
elements_read no_items [] s none each rising = ap Ok (same_said s)
elements_read no_items (e ∷ items) s none each rising = absurd each
elements_read (item d ds) [] s none each rising = absurd each
elements_read (item d ds) (e ∷ items) s none each rising =
    let next : Said = record { header = s.header; items = s.items ++ e ∷ []; txs = s.txs } in
    let split : (s.items ++ e ∷ []) ++ items ≡ s.items ++ e ∷ items = append_assoc s.items (e ∷ []) items in
    let ok : with_state s (item_in d) ≡ Ok next =
    ap (with_state s) (element_read d e each.0) ∙ cond-false (is_some s.txs) _ _ (ap is_some none)
    ∙ cond-true (is_behind s.items e.0) _ _ (behind_true s.items e.0 (behind_in s.items items e rising)) in
    ap (λ (r : Result Said Cause). onward r (λ t. with_items t ds)) ok
    ∙ elements_read ds items next none each.1 (subst (λ (es : Items). IsMap hash_cmp es) (sym split) rising)
    ∙ λ i. Ok (record { header = s.header; items = split i; txs = s.txs })

-- the front of a map is a map
keys_front : (P : Hash → Type 0) (xs ys : Items) → AllByRecursion P (keys_of (xs ++ ys)) → AllByRecursion P (keys_of xs)
keys_front P [] ys all = tt
keys_front P (x ∷ xs) ys all = (all.0, keys_front P xs ys all.1)

front : (xs ys : Items) → IsMap hash_cmp (xs ++ ys) → IsMap hash_cmp xs
unfolding IsStrictlySortedBy
front [] ys rising = tt
front (x ∷ xs) ys rising = (keys_front (λ k. hash_cmp x.0 k ≡ Less) xs ys rising.0, front xs ys rising.1)

-- a page is taken
page_read : (p : Paged) (d : Json) (seq : ℕ) (items : Items) (more : Bool) → IsPage d p.hash seq items more → p.said.txs ≡ None
    → IsMap hash_cmp (p.said.items ++ items)
    → with_page p d ≡ Ok (record { said = more_items p.said items; hash = p.hash; more = more })
page_read p d seq items more page none rising =
    ap (λ (r : Result Said Cause). onward r (λ s. Ok (record { said = s; hash = p.hash; more = is_some (get (codes "marker") d) })))
    (ap (with_list p.said) page.list_is ∙ elements_read page.list items p.said none page.each rising)
    ∙ λ i. Ok (record { said = more_items p.said items; hash = p.hash; more = page.marker i })

-- a document that names the ledger is known
names_read : (p : Paged) (d : Json) → Names d p.hash (seq_of p.said.header) → same_ledger p d (hash_in d) ≡ Ok p
names_read p d names =
    ap (same_ledger p d) names.hash_is ∙ cond-true (same_bytes p.hash p.hash) _ _ ((bytes_eq-Decides p.hash p.hash).1 refl)
    ∙ ap (numbered p) names.number_is

-- a page behind the first document is taken
next_read : (p : Paged) (d : Json) (items : Items) (more : Bool) → p.more ≡ true → IsPage d p.hash (seq_of p.said.header) items more
    → p.said.txs ≡ None → IsMap hash_cmp (p.said.items ++ items)
    → next_page p d ≡ Ok (record { said = more_items p.said items; hash = p.hash; more = more })
next_read p d items more is page none rising =
    cond-true p.more _ _ is ∙ ap (λ (r : Result Paged Cause). onward r (λ q. with_page q d)) (names_read p d page.names)
    ∙ page_read p d (seq_of p.said.header) items more page none rising

-- a line with a document
line_read : (o : Option Paged) (line : Bytes) (d : Json) (q : Paged) → IsDocument line d
    → ((w : Json) → inside w ≡ d → taken o (Some w) ≡ Ok q) → step page_most after_page o line ≡ Ok q
line_read o line d q is takes =
    cond-false (nat_lt page_most (length line)) _ _ (le-ltb page_most (length line) is.short) ∙ ap (taken o) is.read
    ∙ takes is.whole is.inside_is

module _ (half : Half) (expect : Option Hash) (answer : Answer) where
  -- whatever the line's number
  abbrev Reads : Option Paged → List Bytes → Type 0
  Reads o lines = (n : ℕ) → Says Refused page_most after_page (Comes half expect) n o lines [] answer

  one_read : (o : Option Paged) (line : Bytes) (lines : List Bytes) (q : Paged) → step page_most after_page o line ≡ Ok q
      → Reads (Some q) lines → Reads o (line ∷ lines)
  one_read o line lines q is reads n =
      subst (λ (r : Result Paged Cause). Goes Refused page_most after_page (Comes half expect) n answer r
      (λ t. Says Refused page_most after_page (Comes half expect) (n + 1) (Some t) lines [] answer)) (sym is) (reads (n + 1))

  -- the pages behind a document
  pages_read : (p : Paged) (lines : List Bytes) (docs : List Json) (items : Items) → AreDocuments lines docs → p.more ≡ true
      → p.said.txs ≡ None → ArePages p.hash (seq_of p.said.header) docs items → IsMap hash_cmp (p.said.items ++ items)
      → IsPagesVerdict half expect p.hash (more_items p.said items) answer → Reads (Some p) lines
  pages_read p lines [] items each more none pages rising verdict = absurd pages
  pages_read p [] (d ∷ docs) items each more none pages rising verdict = absurd each
  pages_read p (line ∷ lines) (d ∷ []) items each more none pages rising verdict =
      let last : Paged = record { said = more_items p.said items; hash = p.hash; more = false } in
      one_read (Some p) line lines last
      (line_read (Some p) line d last each.0 (λ w is. ap (next_page p) is ∙ next_read p d items false more pages none rising))
      (λ n. ended lines each.1 n)
    where
      ended : (lines : List Bytes) → AreDocuments lines []
          → Reads (Some (record { said = more_items p.said items; hash = p.hash; more = false })) lines
      ended [] each n = verdict
      ended (line ∷ lines) each n = absurd each
  pages_read p (line ∷ lines) (d ∷ e ∷ docs) items each more none pages rising verdict =
      let here : Items = pages.0 in
      let behind : Items = pages.1 in
      let next : Paged = record { said = more_items p.said here; hash = p.hash; more = true } in
      let split : (p.said.items ++ here) ++ behind ≡ p.said.items ++ items =
      append_assoc p.said.items here behind ∙ ap (λ (es : Items). p.said.items ++ es) (sym pages.2) in
      let all : IsMap hash_cmp ((p.said.items ++ here) ++ behind) = subst (λ (es : Items). IsMap hash_cmp es) (sym split) rising in
      one_read (Some p) line lines next
      (line_read (Some p) line d next each.0
      (λ w is. ap (next_page p) is ∙ next_read p d here true more pages.3 none (front (p.said.items ++ here) behind all)))
      (pages_read next lines (e ∷ docs) behind each.1 refl none pages.4 all
      (subst (λ (s : Said). IsPagesVerdict half expect p.hash s answer)
      (λ i. record { header = p.said.header; items = sym split i; txs = p.said.txs }) verdict))

  -- the first document
  abbrev fresh : Hash → Bytes → Paged
  fresh hash header = record { said = record { header = header; items = []; txs = None }; hash = hash; more = true }

  opened_read : (d : Json) (hash : Hash) (header : Bytes) → IsFirst d hash header → opened d ≡ Ok (fresh hash header)
  opened_read d hash header first =
      ap (λ (h : Option Hash). opened_by d h (header_in d)) first.names.hash_is ∙ ap (opened_by d (Some hash)) first.text_is
      ∙ ap (λ (r : Result Said Cause). onward r
      (λ s. numbered (record { said = s; hash = hash; more = true }) (number_in (seq_of s.header) d)))
      (ap headed (digits_is first.text header first.bytes)
      ∙ cond-true (length header == 118) _ _ (eq-eqb (length header) 118 first.size))
      ∙ ap (numbered (fresh hash header)) first.names.number_is

  -- a list stands there
  has_list : (o : Option Json) (list : Elements) → option_and_then as_array o ≡ Some list → is_some o ≡ true
  has_list None list is = let e : None ≡ Some list = is in cc
  has_list (Some d) list is = refl

  -- the first document is taken, as it has a list or none
  first_alone : (d : Json) (hash : Hash) (header : Bytes) → IsFirst d hash header → get (codes "state") d ≡ None
      → first_page d ≡ Ok (fresh hash header)
  first_alone d hash header first none =
      ap (λ (r : Result Paged Cause). onward r (λ p. if is_some (get (codes "state") d) then with_page p d else Ok p))
      (opened_read d hash header first)
      ∙ cond-false (is_some (get (codes "state") d)) _ _ (ap is_some none)

  first_listed : (d : Json) (hash : Hash) (header : Bytes) (items : Items) (more : Bool) → IsFirst d hash header
      → IsPage d hash (seq_of header) items more → IsMap hash_cmp items
      → first_page d ≡ Ok (record { said = record { header = header; items = items; txs = None }; hash = hash; more = more })
  first_listed d hash header items more first page rising =
      ap (λ (r : Result Paged Cause). onward r (λ p. if is_some (get (codes "state") d) then with_page p d else Ok p))
      (opened_read d hash header first)
      ∙ cond-true (is_some (get (codes "state") d)) _ _ (has_list (get (codes "state") d) page.list page.list_is)
      ∙ page_read (fresh hash header) d (seq_of header) items more page refl rising

  -- all documents
  tell_read : (lines : List Bytes) (docs : List Json) (hash : Hash) (s : Said) → AreDocuments lines docs → Tell docs hash s
      → IsPagesVerdict half expect hash s answer → Reads None lines
  tell_read lines docs hash s each tell verdict =
      by lines tell.head tell.behind (subst (λ (ds : List Json). AreDocuments lines ds) tell.docs_are each) tell.first
      (subst (λ (ds : List Json). ArePages hash (seq_of s.header) ds s.items
      ⊎ ((get (codes "state") tell.head ≡ None) × ArePages hash (seq_of s.header) tell.behind s.items)) tell.docs_are tell.pages)
    where
      own : IsPagesVerdict half expect hash (record { header = s.header; items = s.items; txs = None }) answer
      own =
          subst (λ (t : Said). IsPagesVerdict half expect hash t answer)
          (λ i. record { header = s.header; items = s.items; txs = tell.txs i }) verdict

      ended : (lines : List Bytes) → AreDocuments lines []
          → Reads (Some (record { said = record { header = s.header; items = s.items; txs = None }; hash = hash; more = false })) lines
      ended [] each n = own
      ended (line ∷ lines) each n = absurd each

      by_pages : (line : Bytes) (lines : List Bytes) (d : Json) (behind : List Json) → IsDocument line d → AreDocuments lines behind
          → IsFirst d hash s.header → ArePages hash (seq_of s.header) (d ∷ behind) s.items → Reads None (line ∷ lines)
      by_pages line lines d [] document each first pages =
          let last : Paged = record { said = record { header = s.header; items = s.items; txs = None }; hash = hash; more = false } in
          one_read None line lines last (line_read None line d last document
          (λ w is. ap first_page is ∙ first_listed d hash s.header s.items false first pages tell.rising)) (ended lines each)
      by_pages line lines d (e ∷ docs) document each first pages =
          let here : Items = pages.0 in
          let behind : Items = pages.1 in
          let next : Paged = record { said = record { header = s.header; items = here; txs = None }; hash = hash; more = true } in
          let all : IsMap hash_cmp (here ++ behind) = subst (λ (es : Items). IsMap hash_cmp es) pages.2 tell.rising in
          one_read None line lines next (line_read None line d next document
          (λ w is. ap first_page is ∙ first_listed d hash s.header here true first pages.3 (front here behind all)))
          (pages_read next lines (e ∷ docs) behind each refl refl pages.4 all
          (subst (λ (es : Items). IsPagesVerdict half expect hash
          (record { header = s.header; items = es; txs = None }) answer) pages.2 own))

      by : (lines : List Bytes) (d : Json) (behind : List Json) → AreDocuments lines (d ∷ behind) → IsFirst d hash s.header
          → ArePages hash (seq_of s.header) (d ∷ behind) s.items
          ⊎ ((get (codes "state") d ≡ None) × ArePages hash (seq_of s.header) behind s.items) → Reads None lines
      by [] d behind each first pages = absurd each
      by (line ∷ lines) d behind each first pages =
          ⊎_elim (λ listed. by_pages line lines d behind each.0 each.1 first listed)
          (λ alone. let p : Paged = record { said = record { header = s.header; items = []; txs = None }; hash = hash; more = true } in
          one_read None line lines p (line_read None line d p each.0 (λ w is. ap first_page is ∙ first_alone d hash s.header first alone.0))
          (pages_read p lines behind s.items each.1 refl refl alone.1 tell.rising own)) pages

documents_one : (lines : List Bytes) (docs : List Json) → AreDocuments lines docs → AreOne lines
documents_one [] docs each = tt
documents_one (line ∷ lines) [] each = absurd each
documents_one (line ∷ lines) (d ∷ docs) each = (each.0.one, documents_one lines docs each.1)

pub pages_answered : PagesAreAnswered
pages_answered half expect bytes hash s answer text verdict =
    subst (λ (p : List Bytes × Bytes). Says Refused page_most after_page (Comes half expect) 1 None p.0 p.1 answer)
    (sym (ap cut text.bytes_are ∙ cut_joined text.lines (documents_one text.lines text.docs text.each)))
    (tell_read half expect answer text.lines text.docs hash s text.each text.tell verdict 1)
