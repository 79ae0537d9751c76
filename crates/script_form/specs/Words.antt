-- The lines of bytes, the words of a line, and what single words say.
use Rattle.std.specs.Prelude.{◌≡◌, ◌⊎◌, ℕ, ◌+◌, ◌-◌, ◌*◌, ◌<◌, ◌≤◌, ◌==◌, if◌then◌else◌, List, [], ◌∷◌, length, nat_lt, codes, IsTrue, Ok}
use Rattle.std.specs.List.{list_all, filter}
use Rattle.std.specs.Char.{is_ascii_digit}
use Rattle.hex.specs.Hex.{decode_of}
use Rattle.nib_path.specs.Paths.{IsPath, id_wire}
use Rattle.half_hash.specs.Hex.{IsHexOf}
use Rattle.ledger_spec.specs.Bytes.{Bytes, Hash, is_nonzero}
use Rattle.ledger_spec.specs.Forms.{data_limit}
use Rattle.ledger_spec.specs.declared.Kind.{Kind}
use Rattle.ledger_spec.specs.declared.Kind.TheVariants.{State, Tx, Set}

-- x before the first of the pieces
abbrev pub onto_first : ℕ → List Bytes → List Bytes
onto_first x [] = (x ∷ []) ∷ []
onto_first x (piece ∷ pieces) = (x ∷ piece) ∷ pieces

-- the bytes cut at each separator
abbrev pub pieces : ℕ → Bytes → List Bytes
pieces separator [] = [] ∷ []
pieces separator (x ∷ xs) = if x == separator then [] ∷ pieces separator xs else onto_first x (pieces separator xs)

-- the lines of the bytes, each with the newline that ends it; the last one may lack it
abbrev pub lines_of : Bytes → List Bytes
lines_of [] = []
lines_of (x ∷ xs) = if x == 10 then (10 ∷ []) ∷ lines_of xs else onto_first x (lines_of xs)

-- a line's text: what stands before its newline
abbrev pub text_of : Bytes → Bytes
text_of [] = []
text_of (x ∷ xs) = if x == 10 then [] else x ∷ text_of xs

-- the words of a text: what stands between its spaces
abbrev pub words_of : Bytes → List Bytes
words_of text = filter (λ piece. nat_lt 0 (length piece)) (pieces 32 text)

-- the number of decimal digits behind a number
abbrev pub decimal_behind : ℕ → Bytes → ℕ
decimal_behind n [] = n
decimal_behind n (digit ∷ digits) = decimal_behind (n * 10 + (digit - 48)) digits

-- a number of 1 to 20 decimal digits, at most `most`
pub record IsNumber (word : Bytes) (most n : ℕ) : Type 0 where
  pub some : 0 < length word
  pub few : length word ≤ 20
  pub digits : IsTrue (list_all is_ascii_digit word)
  pub value : n ≡ decimal_behind 0 word
  pub within : n ≤ most

-- a number from 1 to `most`
pub record IsCount (word : Bytes) (most n : ℕ) : Type 0 where
  pub number : IsNumber word most n
  pub least : 1 ≤ n

-- a target or a key: 64 hexadecimal digits, not all of them zero
pub record IsTarget (word : Bytes) (target : Hash) : Type 0 where
  pub digits : IsHexOf word target
  pub nonzero : IsTrue (is_nonzero target)

-- the kind of a ledger's map: `state` or `tx`
abbrev pub IsKind : Bytes → Kind → Type 0
IsKind word State = word ≡ codes "state"
IsKind word Tx = word ≡ codes "tx"
IsKind word Set = ⊥

-- bytes: two hexadecimal digits each, at least one byte, or `-` for none
abbrev pub IsBlob : Bytes → Bytes → Type 0
IsBlob word bytes = ((word ≡ 45 ∷ []) × (bytes ≡ [])) ⊎ ((0 < length word) × (decode_of word ≡ Ok bytes))

-- an item's data: so many bytes at most
pub record IsData (word bytes : Bytes) : Type 0 where
  pub digits : IsBlob word bytes
  pub within : length bytes ≤ data_limit

-- 66 hexadecimal digits, of 33 bytes
pub record IsIdText (word bytes : Bytes) : Type 0 where
  pub digits : length word ≡ 66
  pub value : decode_of word ≡ Ok bytes

-- a node ID: 66 hexadecimal digits of its wire form
pub record IsId (word : Bytes) (path : List ℕ) : Type 0 where
  pub digits : length word ≡ 66
  pub is_path : IsPath path
  pub value : decode_of word ≡ Ok (id_wire path)
