-- The prefix forms, which are hashed and stored: a node or a header behind its prefix.
use Rattle.std.specs.Prelude.{◌≡◌, ℕ, ◌≤◌, ◌==◌, ◌&&◌, if◌then◌else◌, nat_eq, nat_le, List, ◌++◌, ◌-◌, ◌+◌, length, take, drop, IsTrue}
use Rattle.std.specs.Prelude.{Option, None, Some}
use Rattle.std.specs.Option.{option_or}
use Rattle.std.specs.List.{concat, list_all, list_any, starts_with}
use Rattle.half_hash.specs.declared.prefix.Prefix.TheVariants.{Txn, Snd, Mln, Min, Lwr}
use Rattle.half_hash.specs.Prefix.{prefix_of}
use Rattle.ledger_spec.specs.declared.Kind.{Kind}
use Rattle.ledger_spec.specs.declared.Kind.TheVariants.{State, Tx, Set}
use Rattle.ledger_spec.specs.Bytes.{Bytes, Hash, Half, zero_hash, is_nonzero, hashes_of}

-- what a form can hold: an inner node's sixteen hashes, a leaf's kind, key and data, or a header's 118 bytes
pub data Held : Type 0 where
  inner : List Hash → Held
  leaf : Kind → Hash → Bytes → Held
  header : Bytes → Held

abbrev pub inner_prefix : Bytes
inner_prefix = prefix_of Min

abbrev pub header_prefix : Bytes
header_prefix = prefix_of Lwr

abbrev pub leaf_prefix : Kind → Bytes
leaf_prefix State = prefix_of Mln
leaf_prefix Tx = prefix_of Snd
leaf_prefix Set = prefix_of Txn

-- the most bytes of an item's data
abbrev pub data_limit : ℕ
data_limit = 1048576

-- a key that isn't zero, and data within the limit
pub record IsItem (key : Hash) (bytes : Bytes) : Type 0 where
  pub key_size : length key ≡ 32
  pub key_nonzero : IsTrue (is_nonzero key)
  pub data_size : length bytes ≤ data_limit

-- sixteen hashes, not all of them zero
pub record IsInner (hashes : List Hash) : Type 0 where
  pub count : length hashes ≡ 16
  pub sizes : IsTrue (list_all (λ h. length h == 32) hashes)
  pub some : IsTrue (list_any is_nonzero hashes)

-- a leaf's form; a bare transaction's has no key, since its key is its hash
abbrev pub leaf_form : Kind → Hash → Bytes → Bytes
leaf_form State key bytes = leaf_prefix State ++ bytes ++ key
leaf_form Tx key bytes = leaf_prefix Tx ++ bytes ++ key
leaf_form Set key bytes = leaf_prefix Set ++ bytes

-- the one prefix form of what is held
abbrev pub form_of : Held → Bytes
form_of (inner hashes) = inner_prefix ++ concat hashes
form_of (leaf kind key bytes) = leaf_form kind key bytes
form_of (header bytes) = header_prefix ++ bytes

-- a node or header that has a form
abbrev pub IsHeld : Half → Held → Type 0
IsHeld half (inner hashes) = IsInner hashes
IsHeld half (leaf State key bytes) = IsItem key bytes
IsHeld half (leaf Tx key bytes) = IsItem key bytes
IsHeld half (leaf Set key bytes) = IsItem key bytes × (key ≡ half (leaf_form Set key bytes))
IsHeld half (header bytes) = length bytes ≡ 118

-- the bytes b are the form of what is held
abbrev pub Form : Half → Held → Bytes → Type 0
Form half n b = IsHeld half n × (b ≡ form_of n)

-- the hash of what is held
abbrev pub hash_of : Half → Held → Hash
hash_of half n = half (form_of n)

-- the hash of a form, or zero where there is none
abbrev pub hash_or_zero : Half → Option Bytes → Hash
hash_or_zero half None = zero_hash
hash_or_zero half (Some b) = half b

-- the sixteen hashes of an inner node's form
unfoldable pub inner_of : Bytes → Option (List Hash)
inner_of b =
    let hashes = hashes_of 16 (drop 4 b) in
    if starts_with nat_eq b inner_prefix && (length b == 516) && list_any is_nonzero hashes then Some hashes else None

-- the 118 bytes of a header's form
unfoldable pub header_of : Bytes → Option Bytes
header_of b = if (length b == 122) && starts_with nat_eq b header_prefix then Some (drop 4 b) else None

-- a leaf whose key stands behind its data
unfoldable pub keyed_leaf_of : Kind → Bytes → Option Held
keyed_leaf_of kind b =
    let key = drop (length b - 32) b in
    let bytes = drop 4 (take (length b - 32) b) in
    if starts_with nat_eq b (leaf_prefix kind) && nat_le 36 (length b) && nat_le (length b) (36 + data_limit) && is_nonzero key
    then Some (leaf kind key bytes) else None

-- a leaf whose key is its hash
unfoldable pub bare_leaf_of : Half → Bytes → Option Held
bare_leaf_of half b =
    if starts_with nat_eq b (leaf_prefix Set) && nat_le (length b) (4 + data_limit) && is_nonzero (half b)
    then Some (leaf Set (half b) (drop 4 b)) else None

-- a leaf of any kind
abbrev pub leaf_of : Half → Bytes → Option Held
leaf_of half b = option_or (keyed_leaf_of State b) (option_or (keyed_leaf_of Tx b) (bare_leaf_of half b))
