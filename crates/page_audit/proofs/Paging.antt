-- What documents say, by what was found in them.
use Rattle.std.proofs.Common.{◌≡◌, Bool, true, false, is_some, Option, None, Some, Result, Ok, Err, refl, sym, ap, ◌∙◌}
use Rattle.std.specs.Prelude.{codes, if◌then◌else◌}
use Rattle.std.specs.Option.{option_map}
use Rattle.std.proofs.lemmas.Bool.{cond-true, cond-false}
use Rattle.std.proofs.lemmas.Slice.Eq.{bytes_eq-Decides}
use Rattle.json.specs.Json.{Json, Items as Elements}
use Rattle.json.specs.Find.{get}
use Rattle.ledger_spec.specs.Bytes.{Bytes, Hash, same_bytes}
use Rattle.ledger_spec.specs.Header.{seq_of}
use Rattle.audit_core.specs.declared.cause.Cause.{Cause}
use Rattle.audit_core.specs.Said.{Said, digits_of, headed}
use Rattle.page_audit.specs.Documents.{document, inside, hash_in, header_in, number_in, list_in}
use Rattle.page_audit.specs.Pages.{Paged, onward, with_items, with_list, with_page, numbered, opened_by, opened, first_page}
use Rattle.page_audit.specs.Pages.{same_ledger, next_page, taken, after_page}

pub is_some_map : {X Y : Type 0} (f : X → Y) (o : Option X) → is_some (option_map f o) ≡ is_some o
is_some_map f None = refl
is_some_map f (Some x) = refl

module _ (p : Paged) (d : Json) where
  -- a page, whose list was found
  pub page_taken : (ds : Elements) (s : Said) (more : Bool) → Some ds ≡ list_in d → with_items p.said ds ≡ Ok s
      → more ≡ is_some (get (codes "marker") d) → with_page p d ≡ Ok (record { said = s; hash = p.hash; more = more })
  page_taken ds s more list_is items marker =
      ap (λ (r : Result Said Cause). onward r (λ t. Ok (record { said = t; hash = p.hash; more = is_some (get (codes "marker") d) })))
      (ap (with_list p.said) (sym list_is) ∙ items) ∙ λ i. Ok (record { said = s; hash = p.hash; more = sym marker i })

  pub page_refused : (ds : Elements) (cause : Cause) → Some ds ≡ list_in d → with_items p.said ds ≡ Err cause → with_page p d ≡ Err cause
  page_refused ds cause list_is items =
      ap (λ (r : Result Said Cause). onward r (λ t. Ok (record { said = t; hash = p.hash; more = is_some (get (codes "marker") d) })))
      (ap (with_list p.said) (sym list_is) ∙ items)

  -- the ledger's number decides, where the hash is the same
  pub known_by : (hash : Hash) → Some hash ≡ hash_in d → hash ≡ p.hash
      → same_ledger p d (hash_in d) ≡ numbered p (number_in (seq_of p.said.header) d)
  known_by hash hash_is same =
      ap (same_ledger p d) (sym hash_is) ∙ cond-true (same_bytes hash p.hash) _ _ ((bytes_eq-Decides hash p.hash).1 same)

  -- the page decides, where the ledger is the same
  pub next_by : p.more ≡ true → same_ledger p d (hash_in d) ≡ Ok p → next_page p d ≡ with_page p d
  next_by more same =
      cond-true p.more _ _ more ∙ ap (λ (r : Result Paged Cause). onward r (λ q. with_page q d)) same

  pub next_other : (cause : Cause) → p.more ≡ true → same_ledger p d (hash_in d) ≡ Err cause → next_page p d ≡ Err cause
  next_other cause more other =
      cond-true p.more _ _ more ∙ ap (λ (r : Result Paged Cause). onward r (λ q. with_page q d)) other

  -- the first document, which has a list or none
  pub first_by : opened d ≡ Ok p → is_some (get (codes "state") d) ≡ true → first_page d ≡ with_page p d
  first_by is some =
      ap (λ (r : Result Paged Cause). onward r (λ q. if is_some (get (codes "state") d) then with_page q d else Ok q)) is
      ∙ cond-true (is_some (get (codes "state") d)) _ _ some

  pub first_alone : opened d ≡ Ok p → is_some (get (codes "state") d) ≡ false → first_page d ≡ Ok p
  first_alone is none =
      ap (λ (r : Result Paged Cause). onward r (λ q. if is_some (get (codes "state") d) then with_page q d else Ok q)) is
      ∙ cond-false (is_some (get (codes "state") d)) _ _ none

  -- a line behind the first one
  pub next_line : (line : Bytes) (w : Json) → Some w ≡ document line → d ≡ inside w → after_page (Some p) line ≡ next_page p d
  next_line line w read is = ap (taken (Some p)) (sym read) ∙ ap (next_page p) (sym is)

-- the ledger's number decides, where hash and header were found
pub opened_on : (d : Json) (hash : Hash) (text bytes : Bytes) (s : Said) → Some hash ≡ hash_in d → Some text ≡ header_in d
    → Some bytes ≡ digits_of text → headed (Some bytes) ≡ Ok s
    → opened d ≡ numbered (record { said = s; hash = hash; more = true }) (number_in (seq_of s.header) d)
opened_on d hash text bytes s hash_is text_is bytes_are is =
    ap (λ (h : Option Hash). opened_by d h (header_in d)) (sym hash_is) ∙ ap (opened_by d (Some hash)) (sym text_is)
    ∙ ap (λ (r : Result Said Cause). onward r
    (λ t. numbered (record { said = t; hash = hash; more = true }) (number_in (seq_of t.header) d)))
    (ap headed (sym bytes_are) ∙ is)
