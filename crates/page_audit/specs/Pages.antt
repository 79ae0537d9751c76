-- What is said page by page.
use Rattle.std.specs.Prelude.{◌≡◌, ℕ, Bool, true, false, is_some, if◌then◌else◌, codes, Option, None, Some, Result, Ok, Err}
use Rattle.json.specs.Json.{Json, Items as Elements, no_items, item}
use Rattle.json.specs.Find.{get}
use Rattle.ledger_spec.specs.Bytes.{Bytes, Hash, Half, same_bytes}
use Rattle.ledger_spec.specs.Header.{seq_of}
use Rattle.audit_core.specs.declared.cause.Cause.{Cause}
use Rattle.audit_core.specs.declared.cause.Cause.TheVariants as causes
use Rattle.audit_core.specs.declared.answer.Answer.{Answer}
use Rattle.audit_core.specs.declared.answer.Answer.TheVariants.{Refused}
use Rattle.audit_core.specs.Said.{Said, digits_of, headed, with_state}
use Rattle.audit_core.specs.Verdicts.{ledger_hash, IsVerdict}
use Rattle.audit_core.specs.Runs.{SaysOf}
use Rattle.page_audit.specs.Documents.{document, inside, hash_in, header_in, number_in, list_in, item_in}

-- the most bytes of a line: 64 MiB
abbrev pub page_most : ℕ
page_most = 67108864

-- what is said so far: the ledger, the hash that its pages name, and whether more of them are to come
pub record Paged : Type 0 where
  pub said : Said
  pub hash : Hash
  pub more : Bool

-- on from what came, unless that was refused
abbrev pub onward : {X Y : Type 0} → Result X Cause → (X → Result Y Cause) → Result Y Cause
onward (Ok x) on = on x
onward (Err cause) on = Err cause

-- the items of a list, one after the other
abbrev pub with_items : Said → Elements → Result Said Cause
with_items s no_items = Ok s
with_items s (item d ds) = onward (with_state s (item_in d)) (λ t. with_items t ds)

-- the items of a page
abbrev pub with_list : Said → Option Elements → Result Said Cause
with_list s None = Err causes.State
with_list s (Some ds) = with_items s ds

-- a page's items are taken, and a marker says that more pages are to come
abbrev pub with_page : Paged → Json → Result Paged Cause
with_page p d =
    onward (with_list p.said (list_in d)) (λ s. Ok (record { said = s; hash = p.hash; more = is_some (get (codes "marker") d) }))

-- the ledger's number is named, and it is this ledger's
abbrev pub numbered : Paged → Option Bool → Result Paged Cause
numbered p None = Err causes.Index
numbered p (Some true) = Ok p
numbered p (Some false) = Err causes.OtherLedger

-- the first document's hash, header and number; no item is taken
abbrev pub opened_by : Json → Option Hash → Option Bytes → Result Paged Cause
opened_by d None text = Err causes.Hash
opened_by d (Some hash) None = Err causes.NoHeader
opened_by d (Some hash) (Some text) =
    onward (headed (digits_of text)) (λ s. numbered (record { said = s; hash = hash; more = true }) (number_in (seq_of s.header) d))

abbrev pub opened : Json → Result Paged Cause
opened d = opened_by d (hash_in d) (header_in d)

-- the first document, which may have the header alone
abbrev pub first_page : Json → Result Paged Cause
first_page d = onward (opened d) (λ p. if is_some (get (codes "state") d) then with_page p d else Ok p)

-- a document behind it is of the same ledger
abbrev pub same_ledger : Paged → Json → Option Hash → Result Paged Cause
same_ledger p d None = Err causes.Hash
same_ledger p d (Some hash) =
    if same_bytes hash p.hash then numbered p (number_in (seq_of p.said.header) d) else Err causes.OtherLedger

-- a page behind the first document, where one is to come
abbrev pub next_page : Paged → Json → Result Paged Cause
next_page p d = if p.more then onward (same_ledger p d (hash_in d)) (λ q. with_page q d) else Err causes.Extra

-- a line's document is the first one or another one
abbrev pub taken : Option Paged → Option Json → Result Paged Cause
taken p None = Err causes.NoJson
taken None (Some d) = first_page (inside d)
taken (Some p) (Some d) = next_page p (inside d)

abbrev pub after_page : Option Paged → Bytes → Result Paged Cause
after_page p line = taken p (document line)

-- the hash that is looked for: the one that the pages name, unless it is the header's, and else the one that is expected, where one is
abbrev pub wanted : Half → Option Hash → Paged → Option Hash
wanted half expect p = if same_bytes p.hash (ledger_hash half p.said) then expect else Some p.hash

-- the last page came, or not
abbrev pub ComesAt : Half → Option Hash → ℕ → Paged → Bool → Answer → Type 0
ComesAt half expect n p true answer = answer ≡ Refused n causes.Unfinished
ComesAt half expect n p false answer = IsVerdict half (wanted half expect p) p.said answer

-- the end before line n
abbrev pub Comes : Half → Option Hash → ℕ → Option Paged → Answer → Type 0
Comes half expect n None answer = answer ≡ Refused n causes.NoHeader
Comes half expect n (Some p) answer = ComesAt half expect n p p.more answer

-- the answer to a whole input
abbrev pub IsPagesAnswer : Half → Option Hash → Bytes → Answer → Type 0
IsPagesAnswer half expect bytes answer = SaysOf Refused page_most after_page (Comes half expect) 1 None bytes answer
