-- What a `store` line says, and why it is refused.
use Rattle.std.specs.Prelude.{◌≡◌, ◌≢◌, ◌⊎◌, ℕ, Bool, false, List, [], ◌∷◌, length, codes, if◌then◌else◌, flat_map, IsTrue}
use Rattle.std.specs.Option.{option_to_list}
use Rattle.std.specs.Result.{result_ok}
use Rattle.std.specs.List.{Contains}
use Rattle.hex.specs.Hex.{decode_of}
use Rattle.half_hash.specs.Hex.{IsHexOf}
use Rattle.ledger_spec.specs.Bytes.{Bytes, Hash, Half, is_zero, is_nonzero, same_bytes}
use Rattle.ledger_spec.specs.Forms.{Held, Form}
use Rattle.ledger_machine.specs.declared.commands.Record.{Record}
use Rattle.ledger_machine.specs.Records.{hashes_of}
use Rattle.script_form.specs.declared.cause.Cause.{Cause}
use Rattle.script_form.specs.declared.cause.Cause.TheVariants as cause
use Rattle.script_form.specs.Words.{text_of, words_of, IsBlob}

-- what the lines before a line leave to it: the numbers of the command lines, and the hashes of the records
pub record Earlier : Type 0 where
  pub commands : List ℕ
  pub hashes : List Hash

-- no line stands before
abbrev pub nothing_earlier : Earlier
nothing_earlier = record { commands = []; hashes = [] }

-- command lines of these numbers, and these records
abbrev pub earlier_in : List ℕ → List Record → Earlier
earlier_in commands records = record { commands = commands; hashes = hashes_of records }

-- the line of these words is to be a record: the first is `store`
abbrev pub is_store : List Bytes → Bool
is_store [] = false
is_store (word ∷ words) = same_bytes word (codes "store")

-- the hash that the words of a record say, in a list; other words say none
abbrev pub hash_in : List Bytes → List Hash
hash_in (store ∷ hash ∷ words) = if same_bytes store (codes "store") then option_to_list (result_ok (decode_of hash)) else []
hash_in _ = []

-- the hashes of the records among some lines
abbrev pub hashes_in : List Bytes → List Hash
hashes_in lines = flat_map (λ line. hash_in (words_of (text_of line))) lines

-- the words behind `store` say a record: its hash and its form
pub record SaysRecord (args : List Bytes) (r : Record) : Type 0 where
  pub hash : Bytes
  pub form : Bytes
  pub words : args ≡ hash ∷ form ∷ []
  pub hash_says : IsHexOf hash r.hash
  pub form_says : IsBlob form r.form

-- the bytes are a header's form or a node's
abbrev pub IsForm : Half → Bytes → Type 0
IsForm half bytes = (n : Held) × Form half n bytes

-- a store may begin with it: its hash is its form's and isn't zero, and its form is a header's or a node's
pub record IsFit (half : Half) (r : Record) : Type 0 where
  pub own : r.hash ≡ half r.form
  pub nonzero : IsTrue (is_nonzero r.hash)
  pub held : IsForm half r.form

-- no store may begin with it: its form is neither a header's nor a node's, or its hash isn't the form's, or is zero
abbrev pub IsUnfit : Half → Record → Type 0
IsUnfit half r = (IsForm half r.form → ⊥) ⊎ ((r.hash ≢ half r.form) ⊎ IsTrue (is_zero r.hash))

-- there are two words behind `store`, and one of them is wrong
abbrev pub AreBadWords : List Bytes → Type 0
AreBadWords (hash ∷ form ∷ []) = ((h : Hash) → IsHexOf hash h → ⊥) ⊎ ((bytes : Bytes) → IsBlob form bytes → ⊥)
AreBadWords _ = ⊥

-- The cause stands at the words behind `store`. A record is bad behind a command line, where it is unfit, and where an earlier one has
-- its hash.
abbrev pub StoreHas : Half → Earlier → List Bytes → Cause → Type 0
StoreHas half earlier args cause.ArgumentCount = length args ≢ 2
StoreHas half earlier args cause.BadHex = AreBadWords args
StoreHas half earlier args cause.BadRecord =
    (earlier.commands ≢ []) ⊎ ((r : Record) × SaysRecord args r × (IsUnfit half r ⊎ Contains earlier.hashes r.hash))
StoreHas half earlier args _ = ⊥
