-- Documents that are taken one by one are a ledger's pages.
use Rattle.std.proofs.Common.{◌≡◌, ◌⊎◌, inl, inr, ℕ, ◌+◌, ◌==◌, Bool, true, false, is_some, List, [], ◌∷◌, ◌++◌, length}
use Rattle.std.proofs.Common.{Option, None, Some, Result, Ok, Err, refl, sym, ap, ◌∙◌, subst, append_assoc}
use Rattle.std.specs.Prelude.{if◌then◌else◌, codes}
use Rattle.std.proofs.lemmas.Bool.{eqb-true}
use Rattle.std.proofs.lemmas.List.{append-nil}
use Rattle.json.specs.Json.{Json}
use Rattle.json.specs.Find.{get}
use Rattle.line_feed.specs.Lines.{cut}
use Rattle.ledger_spec.specs.Bytes.{Bytes, Hash, Half, Items}
use Rattle.ledger_spec.specs.Header.{seq_of}
use Rattle.ledger_spec.specs.Maps.{hash_cmp, IsMap}
use Rattle.audit_core.specs.declared.cause.Cause.{Cause}
use Rattle.audit_core.specs.declared.cause.Cause.TheVariants as causes
use Rattle.audit_core.specs.declared.answer.Answer.{Answer}
use Rattle.audit_core.specs.declared.answer.Answer.TheVariants.{Refused}
use Rattle.audit_core.specs.Said.{Said, digits_of, headed}
use Rattle.audit_core.specs.Verdicts.{IsAccepted}
use Rattle.audit_core.specs.Runs.{Ends, Goes, Says, step, unended, joined}
use Rattle.page_audit.specs.Documents.{document, inside, hash_in, header_in, number_in}
use Rattle.page_audit.specs.Pages.{page_most, Paged, onward, with_page, numbered, opened_by, opened}
use Rattle.page_audit.specs.Pages.{after_page, ComesAt, Comes}
use Rattle.page_audit.specs.Texts.{Names, IsPage, ArePages, IsFirst, Tell, IsDocument, AreDocuments, IsPagesVerdict}
use Rattle.page_audit.specs.Texts.{AcceptedArePages}
use Rattle.audit_core.proofs.shared.Behind.{none_rises}
use Rattle.audit_core.proofs.shared.Cuts.{AreOne, cut_all, cut_one}
use Rattle.audit_core.proofs.shared.Decoded.{digits_some}
use Rattle.page_audit.proofs.DocumentsTold.{onward_is, no_value, more_items, numbered_is, Takes, page_told, next_told, line_told}

-- the pages that are to come have these items, and none are where none is to come
abbrev RestAre : Bool → Hash → ℕ → List Json → Items → Type 0
RestAre true hash seq docs items = ArePages hash seq docs items
RestAre false hash seq docs items = (docs ≡ []) × (items ≡ [])

-- one page more
pages_more : (more : Bool) (hash : Hash) (seq : ℕ) (d : Json) (docs : List Json) (here items : Items) → IsPage d hash seq here more
    → RestAre more hash seq docs items → ArePages hash seq (d ∷ docs) (here ++ items)
pages_more false hash seq d docs here items page rest =
    let none : here ≡ here ++ items = sym (append-nil here) ∙ ap (λ (es : Items). here ++ es) (sym rest.1) in
    subst (λ (ds : List Json). ArePages hash seq (d ∷ ds) (here ++ items)) (sym rest.0)
    (subst (λ (es : Items). IsPage d hash seq es false) none page)
pages_more true hash seq d [] here items page rest = absurd rest
pages_more true hash seq d (e ∷ docs) here items page rest = (here, items, refl, page, rest)

module _ (half : Half) (expect : Option Hash) (answer : Answer) (accepted : IsAccepted answer) where
  not_refused : (n : ℕ) (cause : Cause) → answer ≡ Refused n cause → ⊥
  not_refused n cause is = subst IsAccepted is accepted

  -- what the lines behind a page come to
  record Rest (p : Paged) (lines : List Bytes) (rest : Bytes) : Type 0 where
    items : Items
    docs : List Json
    each : AreDocuments lines docs
    rest_is : rest ≡ []
    rising : IsMap hash_cmp (p.said.items ++ items)
    pages : RestAre p.more p.hash (seq_of p.said.header) docs items
    verdict : IsPagesVerdict half expect p.hash (more_items p.said items) answer

  same_said : (s : Said) → s ≡ more_items s []
  same_said s = λ i. record { header = s.header; items = sym (append-nil s.items) i; txs = s.txs }

  ended : (n : ℕ) (p : Paged) (rest : Bytes) → IsMap hash_cmp p.said.items
      → Ends Refused page_most after_page (Comes half expect) n (Some p) rest answer → Rest p [] rest
  ended n p (x ∷ rest) rising ends = absurd (not_refused n (unended page_most (x ∷ rest)) ends)
  ended n p [] rising ends = by p.more refl ends
    where
      by : (b : Bool) → p.more ≡ b → ComesAt half expect n p b answer → Rest p [] []
      by true more comes = absurd (not_refused n causes.Unfinished comes)
      by false more comes = record {
        items = [];
        docs = [];
        each = tt;
        rest_is = refl;
        rising = subst (λ (es : Items). IsMap hash_cmp es) (sym (append-nil p.said.items)) rising;
        pages = subst (λ (b : Bool). RestAre b p.hash (seq_of p.said.header) [] []) (sym more) (refl, refl);
        verdict = subst (λ (s : Said). IsPagesVerdict half expect p.hash s answer) (same_said p.said)
            comes;
      }

  -- a page, and what the lines behind it come to
  page_on : (p q : Paged) (line : Bytes) (lines : List Bytes) (rest : Bytes) (d : Json) → IsDocument line d
      → Names d p.hash (seq_of p.said.header) → Takes p d q → Rest q lines rest
      → (items : Items) × (docs : List Json) × AreDocuments (line ∷ lines) (d ∷ docs) × (rest ≡ [])
      × IsMap hash_cmp (p.said.items ++ items) × ArePages p.hash (seq_of p.said.header) (d ∷ docs) items
      × IsPagesVerdict half expect p.hash (more_items p.said items) answer
  page_on p q line lines rest d document names takes on =
      let after : Paged = record { said = more_items p.said takes.items; hash = p.hash; more = is_some (get (codes "marker") d) } in
      let r : Rest after lines rest = subst (λ (u : Paged). Rest u lines rest) takes.after on in
      let split : (p.said.items ++ takes.items) ++ r.items ≡ p.said.items ++ (takes.items ++ r.items) =
      append_assoc p.said.items takes.items r.items in (
        takes.items ++ r.items,
        r.docs,
        (document, r.each),
        r.rest_is,
        subst (λ (es : Items). IsMap hash_cmp es) split r.rising,
        pages_more (is_some (get (codes "marker") d)) p.hash (seq_of p.said.header) d r.docs takes.items r.items
            (record { names = names; list = takes.list; list_is = takes.list_is; each = takes.each; marker = refl }) r.pages,
        subst (λ (s : Said). IsPagesVerdict half expect p.hash s answer)
            (λ i. record { header = p.said.header; items = split i; txs = p.said.txs }) r.verdict,
      )

  none_after : (p q : Paged) (d : Json) → p.said.txs ≡ None → Takes p d q → q.said.txs ≡ None
  none_after p q d none takes = ap (λ (u : Paged). u.said.txs) takes.after ∙ none

  rising_after : (p q : Paged) (d : Json) → Takes p d q → IsMap hash_cmp q.said.items
  rising_after p q d takes = subst (λ (u : Paged). IsMap hash_cmp u.said.items) (sym takes.after) takes.rising

  rest_told : (n : ℕ) (p : Paged) (lines : List Bytes) (rest : Bytes) → AreOne lines → p.said.txs ≡ None → IsMap hash_cmp p.said.items
      → Says Refused page_most after_page (Comes half expect) n (Some p) lines rest answer → Rest p lines rest
  rest_told n p [] rest one none rising says = ended n p rest rising says
  rest_told n p (line ∷ lines) rest one none rising says =
      by (step page_most after_page (Some p) line) refl
      (λ q none rising goes. rest_told (n + 1) q lines rest one.1 none rising goes) says
    where
      by : (r : Result Paged Cause) → step page_most after_page (Some p) line ≡ r
          → ((q : Paged) → q.said.txs ≡ None → IsMap hash_cmp q.said.items
          → Says Refused page_most after_page (Comes half expect) (n + 1) (Some q) lines rest answer → Rest q lines rest)
          → Goes Refused page_most after_page (Comes half expect) n answer r
          (λ q. Says Refused page_most after_page (Comes half expect) (n + 1) (Some q) lines rest answer)
          → Rest p (line ∷ lines) rest
      by (Err cause) is on goes = absurd (not_refused n cause goes)
      by (Ok q) is on goes =
          let told = line_told (Some p) line q one.0 is in
          let next = next_told p q (inside told.0) none rising told.2 in
          let r = on q (none_after p q (inside told.0) none next.2) (rising_after p q (inside told.0) next.2) goes in
          let all = page_on p q line lines rest (inside told.0) told.1 next.1 next.2 r in
          record {
            items = all.0;
            docs = inside told.0 ∷ all.1;
            each = all.2;
            rest_is = all.3;
            rising = all.4;
            pages = subst (λ (b : Bool). RestAre b p.hash (seq_of p.said.header) (inside told.0 ∷ all.1) all.0) (sym next.0) all.5;
            verdict = all.6;
          }

  -- the first document
  record Opens (d : Json) (p : Paged) : Type 0 where
    first : IsFirst d p.hash p.said.header
    empty : p.said.items ≡ []
    none : p.said.txs ≡ None
    more : p.more ≡ true

  opened_told : (d : Json) (p : Paged) → opened d ≡ Ok p → Opens d p
  opened_told d p is = by (hash_in d) (header_in d) refl refl is
    where
      by_size : (hash : Hash) (text bytes : Bytes) (b : Bool) → hash_in d ≡ Some hash → header_in d ≡ Some text
          → digits_of text ≡ Some bytes
          → (length bytes == 118) ≡ b
          → onward {X = Said} (if b then Ok (record { header = bytes; items = []; txs = None }) else Err causes.Header)
          (λ s. numbered (record { said = s; hash = hash; more = true }) (number_in (seq_of s.header) d)) ≡ Ok p → Opens d p
      by_size hash text bytes false hash_is text_is digits size is = let e : Err causes.Header ≡ Ok p = is in cc
      by_size hash text bytes true hash_is text_is digits size is =
          let fresh : Paged = record { said = record { header = bytes; items = []; txs = None }; hash = hash; more = true } in
          let number = numbered_is fresh p (number_in (seq_of bytes) d) is in
          subst (Opens d) number.1 (record {
            first = record {
              names = record { hash_is = hash_is; number_is = number.0 };
              text = text;
              text_is = text_is;
              bytes = digits_some text bytes digits;
              size = eqb-true (length bytes) 118 size;
            };
            empty = refl;
            none = refl;
            more = refl;
          })

      by_digits : (hash : Hash) (text : Bytes) (o : Option Bytes) → hash_in d ≡ Some hash → header_in d ≡ Some text → digits_of text ≡ o
          → onward (headed o) (λ s. numbered (record { said = s; hash = hash; more = true }) (number_in (seq_of s.header) d)) ≡ Ok p
          → Opens d p
      by_digits hash text None hash_is text_is digits is = let e : Err causes.Header ≡ Ok p = is in cc
      by_digits hash text (Some bytes) hash_is text_is digits is = by_size hash text bytes
          (length bytes == 118) hash_is text_is digits refl is

      by : (hash text : Option Bytes) → hash_in d ≡ hash → header_in d ≡ text → opened_by d hash text ≡ Ok p → Opens d p
      by None text hash_is text_is is = let e : Err causes.Hash ≡ Ok p = is in cc
      by (Some hash) None hash_is text_is is = let e : Err causes.NoHeader ≡ Ok p = is in cc
      by (Some hash) (Some text) hash_is text_is is = by_digits hash text (digits_of text) hash_is text_is refl is

  -- all lines
  record All (lines : List Bytes) (rest : Bytes) : Type 0 where
    hash : Hash
    said : Said
    docs : List Json
    each : AreDocuments lines docs
    rest_is : rest ≡ []
    tell : Tell docs hash said
    verdict : IsPagesVerdict half expect hash said answer

  no_map : (s : Said) → s.items ≡ [] → IsMap hash_cmp s.items
  no_map s empty = subst (λ (es : Items). IsMap hash_cmp es) (sym empty) none_rises

  all_told : (lines : List Bytes) (rest : Bytes) → AreOne lines
      → Says Refused page_most after_page (Comes half expect) 1 None lines rest answer → All lines rest
  all_told [] (x ∷ rest) one says = absurd (not_refused 1 (unended page_most (x ∷ rest)) says)
  all_told [] [] one says = absurd (not_refused 1 causes.NoHeader says)
  all_told (line ∷ lines) rest one says = by (step page_most after_page None line) refl says
    where
      finish : (p : Paged) (items : Items) (d : Json) (docs : List Json) → Opens d p → AreDocuments (line ∷ lines) (d ∷ docs) → rest ≡ []
          → IsMap hash_cmp (p.said.items ++ items)
          → ArePages p.hash (seq_of p.said.header) (d ∷ docs) items
          ⊎ ((get (codes "state") d ≡ None) × ArePages p.hash (seq_of p.said.header) docs items)
          → IsPagesVerdict half expect p.hash (more_items p.said items) answer → All (line ∷ lines) rest
      finish p items d docs opens each none rising pages verdict =
          let own : p.said.items ++ items ≡ items = ap (λ (es : Items). es ++ items) opens.empty in
          record {
            hash = p.hash;
            said = more_items p.said items;
            docs = d ∷ docs;
            each = each;
            rest_is = none;
            tell = record {
              head = d;
              behind = docs;
              docs_are = refl;
              first = opens.first;
              pages = Rattle.std.proofs.Common.⊎_elim
                  (λ all. inl (subst (λ (es : Items). ArePages p.hash (seq_of p.said.header) (d ∷ docs) es) (sym own) all))
                  (λ alone. inr (alone.0, subst (λ (es : Items). ArePages p.hash (seq_of p.said.header) docs es) (sym own) alone.1)) pages;
              rising = rising;
              txs = opens.none;
            };
            verdict = verdict;
          }

      by_state : (w : Json) (p q : Paged) (b : Bool) → IsDocument line (inside w) → Opens (inside w) p
          → is_some (get (codes "state") (inside w)) ≡ b → (if b then with_page p (inside w) else Ok p) ≡ Ok q
          → Says Refused page_most after_page (Comes half expect) 2 (Some q) lines rest answer → All (line ∷ lines) rest
      by_state w p q false document opens state is says =
          let same : p ≡ q = (let e : Ok p ≡ Ok q = is in cc) in
          let r = rest_told 2 p lines rest one.1 opens.none (no_map p.said opens.empty)
          (subst (λ (u : Paged). Says Refused page_most after_page (Comes half expect) 2 (Some u) lines rest answer) (sym same) says) in
          finish p r.items (inside w) r.docs opens (document, r.each) r.rest_is r.rising
          (inr (
            no_value (get (codes "state") (inside w)) state,
            subst (λ (b : Bool). RestAre b p.hash (seq_of p.said.header) r.docs r.items) opens.more r.pages,
          )) r.verdict
      by_state w p q true document opens state is says =
          let takes = page_told p q (inside w) opens.none (no_map p.said opens.empty) is in
          let r = rest_told 2 q lines rest one.1 (none_after p q (inside w) opens.none takes) (rising_after p q (inside w) takes) says in
          let all = page_on p q line lines rest (inside w) document opens.first.names takes r in
          finish p all.0 (inside w) all.1 opens all.2 all.3 all.4 (inl all.5) all.6

      by : (r : Result Paged Cause) → step page_most after_page None line ≡ r
          → Goes Refused page_most after_page (Comes half expect) 1 answer r
          (λ q. Says Refused page_most after_page (Comes half expect) 2 (Some q) lines rest answer)
          → All (line ∷ lines) rest
      by (Err cause) is goes = absurd (not_refused 1 cause goes)
      by (Ok q) is goes =
          let told = line_told None line q one.0 is in
          let on = onward_is {X = Paged} {Y = Paged} (opened (inside told.0))
          (λ p. if is_some (get (codes "state") (inside told.0)) then with_page p (inside told.0) else Ok p) q told.2 in
          by_state told.0 on.0 q (is_some (get (codes "state") (inside told.0))) told.1 (opened_told
          (inside told.0) on.0 on.1) refl on.2 goes

pub accepted_pages : AcceptedArePages
accepted_pages half expect bytes answer is accepted =
    let all = all_told half expect answer accepted (cut bytes).0 (cut bytes).1 (cut_one bytes) is in (
      all.hash,
      all.said,
      record {
        lines = (cut bytes).0;
        docs = all.docs;
        bytes_are = sym (cut_all bytes) ∙ ap (λ (r : Bytes). joined (cut bytes).0 ++ r) all.rest_is ∙ append-nil (joined (cut bytes).0);
        each = all.each;
        tell = all.tell;
      },
      all.verdict,
    )
