-- The pages of a ledger, as what they are and not as they are read.
use Rattle.std.specs.Prelude.{◌≡◌, ◌⊎◌, ◌≤◌, ℕ, Bool, true, false, is_some, List, [], ◌∷◌, ◌++◌, length, codes, Option, None, Some, Ok}
use Rattle.hex.specs.Hex.{decode_of}
use Rattle.half_hash.specs.Hex.{IsHexOf}
use Rattle.json.specs.Json.{Json, Items as Elements, no_items, item}
use Rattle.json.specs.Find.{get}
use Rattle.line_feed.specs.Lines.{IsOneLine}
use Rattle.ledger_spec.specs.Bytes.{Bytes, Hash, Half, Items}
use Rattle.ledger_spec.specs.Forms.{IsItem}
use Rattle.ledger_spec.specs.Header.{seq_of}
use Rattle.ledger_spec.specs.Maps.{hash_cmp, IsMap}
use Rattle.ledger_spec.specs.Tree.{Entry}
use Rattle.audit_core.specs.declared.answer.Answer.{Answer}
use Rattle.audit_core.specs.Said.{Said}
use Rattle.audit_core.specs.Verdicts.{IsVerdict, IsAccepted}
use Rattle.audit_core.specs.Runs.{joined}
use Rattle.page_audit.specs.Documents.{document, inside, text_at, hash_in, header_in, number_in, list_in}
use Rattle.page_audit.specs.Pages.{page_most, wanted, IsPagesAnswer}

-- the element has the key's 64 digits and the data's digits
pub record IsElement (d : Json) (e : Entry) : Type 0 where
  pub key_text : Bytes
  pub data_text : Bytes
  pub key_is : text_at (codes "index") d ≡ Some key_text
  pub data_is : text_at (codes "data") d ≡ Some data_text
  pub key : IsHexOf key_text e.0
  pub bytes : decode_of data_text ≡ Ok e.1
  pub item : IsItem e.0 e.1

-- each element is that of the entry at its place
abbrev pub AreElements : Elements → Items → Type 0
AreElements no_items [] = Unit {0}
AreElements no_items (e ∷ items) = ⊥
AreElements (item d ds) [] = ⊥
AreElements (item d ds) (e ∷ items) = IsElement d e × AreElements ds items

-- the document names the ledger's hash and number
pub record Names (d : Json) (hash : Hash) (seq : ℕ) : Type 0 where
  pub hash_is : hash_in d ≡ Some hash
  pub number_is : number_in seq d ≡ Some true

-- a page has these items, and says whether more are to come
pub record IsPage (d : Json) (hash : Hash) (seq : ℕ) (items : Items) (more : Bool) : Type 0 where
  pub names : Names d hash seq
  pub list : Elements
  pub list_is : list_in d ≡ Some list
  pub each : AreElements list items
  pub marker : is_some (get (codes "marker") d) ≡ more

-- pages up to the last one have these items, page by page
abbrev pub ArePages : Hash → ℕ → List Json → Items → Type 0
ArePages hash seq [] items = ⊥
ArePages hash seq (d ∷ []) items = IsPage d hash seq items false
ArePages hash seq (d ∷ e ∷ docs) items =
    (here : Items) × (behind : Items) × (items ≡ here ++ behind) × IsPage d hash seq here true × ArePages hash seq (e ∷ docs) behind

-- the first document names the ledger, and has its header
pub record IsFirst (d : Json) (hash : Hash) (header : Bytes) : Type 0 where
  pub names : Names d hash (seq_of header)
  pub text : Bytes
  pub text_is : header_in d ≡ Some text
  pub bytes : decode_of text ≡ Ok header
  pub size : length header ≡ 118

-- the documents are those of the ledger: the first has the header, and is the first page or has no list of items; keys rise through all of
-- them
pub record Tell (docs : List Json) (hash : Hash) (s : Said) : Type 0 where
  pub head : Json
  pub behind : List Json
  pub docs_are : docs ≡ head ∷ behind
  pub first : IsFirst head hash s.header
  pub pages : ArePages hash (seq_of s.header) docs s.items
      ⊎ ((get (codes "state") head ≡ None) × ArePages hash (seq_of s.header) behind s.items)
  pub rising : IsMap hash_cmp s.items
  pub txs : s.txs ≡ None

-- a line has the document, which may be the result inside
pub record IsDocument (line : Bytes) (d : Json) : Type 0 where
  pub whole : Json
  pub read : document line ≡ Some whole
  pub inside_is : inside whole ≡ d
  pub one : IsOneLine line
  pub short : length line ≤ page_most

-- each line has the document at its place
abbrev pub AreDocuments : List Bytes → List Json → Type 0
AreDocuments [] [] = Unit {0}
AreDocuments [] (d ∷ docs) = ⊥
AreDocuments (line ∷ lines) [] = ⊥
AreDocuments (line ∷ lines) (d ∷ docs) = IsDocument line d × AreDocuments lines docs

-- the bytes are documents that tell this ledger, a line each
pub record IsPagesText (bytes : Bytes) (hash : Hash) (s : Said) : Type 0 where
  pub lines : List Bytes
  pub docs : List Json
  pub bytes_are : bytes ≡ joined lines
  pub each : AreDocuments lines docs
  pub tell : Tell docs hash s

-- the verdict, where the hash that the pages name is looked for first, and then the one that is expected
abbrev pub IsPagesVerdict : Half → Option Hash → Hash → Said → Answer → Type 0
IsPagesVerdict half expect hash s answer = IsVerdict half (wanted half expect (record { said = s; hash = hash; more = false })) s answer

-- where no line is refused the input is a ledger's pages, and the answer is the verdict on that ledger
abbrev pub AcceptedArePages : Type 0
AcceptedArePages = (half : Half) (expect : Option Hash) (bytes : Bytes) (answer : Answer) → IsPagesAnswer half expect bytes answer
    → IsAccepted answer → (hash : Hash) × (s : Said) × IsPagesText bytes hash s × IsPagesVerdict half expect hash s answer

-- where the input is a ledger's pages, the verdict on that ledger is the answer
abbrev pub PagesAreAnswered : Type 0
PagesAreAnswered = (half : Half) (expect : Option Hash) (bytes : Bytes) (hash : Hash) (s : Said) (answer : Answer)
    → IsPagesText bytes hash s → IsPagesVerdict half expect hash s answer → IsPagesAnswer half expect bytes answer
