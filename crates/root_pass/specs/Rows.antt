-- The open inner nodes of a map whose items come in the order of keys: those on the way of the last key, one row of sixteen hashes each.
use Rattle.std.specs.Prelude.{◌≡◌, ◌≢◌, ℕ, ◌<◌, ◌≤◌, ◌+◌, ◌-◌, ◌*◌, List, [], ◌∷◌, ◌++◌, length, take}
use Rattle.std.specs.List.{slice_index_or, AllByRecursion}
use Rattle.std.specs.declared.cmp.Ordering.TheVariants.{Less}
use Rattle.nib_path.specs.Paths.{nibbles, nibble_of}
use Rattle.ledger_spec.specs.declared.Kind.{Kind}
use Rattle.ledger_spec.specs.Bytes.{Hash, Half, Items, zero_hash}
use Rattle.ledger_spec.specs.Maps.{hash_cmp}
use Rattle.ledger_spec.specs.Forms.{hash_or_zero}
use Rattle.ledger_spec.specs.Tree.{Entry, part, form_at}

-- the first n nibbles of a key
abbrev pub way : Hash → ℕ → List ℕ
way key n = take n (nibbles key)

-- the hash of a map's node at a path, zero where there is none
abbrev pub hash_at : Half → Kind → Items → List ℕ → Hash
hash_at half kind items path = hash_or_zero half (form_at half kind items path)

-- the hash at branch b of row j; sixteen cells are a row
abbrev pub cell : List Hash → ℕ → ℕ → Hash
cell cells j b = slice_index_or cells (16 * j + b) zero_hash

-- the key comes behind those of all items
abbrev pub IsBehind : Items → Hash → Type 0
IsBehind items key = AllByRecursion (λ (e : Entry). hash_cmp e.0 key ≡ Less) items

-- the cell at a branch of the node at depth j on the key's way has the hash that the map has there
abbrev pub IsTold : Half → Kind → Items → Hash → List Hash → ℕ → ℕ → Type 0
IsTold half kind items key cells j b = cell cells j b ≡ hash_at half kind items (way key j ++ b ∷ [])

-- n rows tell the map's nodes on the key's way, at all branches but those that the way takes
abbrev pub AreRows : Half → Kind → Items → Hash → List Hash → ℕ → Type 0
AreRows half kind items key cells n = (j b : ℕ) → j < n → b < 16 → b ≢ nibble_of key j → IsTold half kind items key cells j b

-- n nodes on the key's way are open, and no key of the map lies below the last of their branches on it
pub record IsOpen (half : Half) (kind : Kind) (items : Items) (key : Hash) (cells : List Hash) (n : ℕ) : Type 0 where
  pub rows : AreRows half kind items key cells n
  pub alone : part items (way key n) ≡ []

-- the lowest of n rows is complete
pub record IsFull (half : Half) (kind : Kind) (items : Items) (key : Hash) (cells : List Hash) (n : ℕ) : Type 0 where
  pub rows : AreRows half kind items key cells n
  pub lowest : (j b : ℕ) → j + 1 ≡ n → b < 16 → IsTold half kind items key cells j b

-- some key of the map lies under the lowest of n nodes on the key's way, unless that is the root
abbrev pub IsShared : Items → Hash → ℕ → Type 0
IsShared items key n = 1 < n → part items (way key (n - 1)) ≢ []

-- several lie there
abbrev pub IsCrowded : Items → Hash → ℕ → Type 0
IsCrowded items key n = 1 < n → 2 ≤ length (part items (way key (n - 1)))

-- the two keys have n nibbles in common, and no more
pub record IsFork (a b : Hash) (n : ℕ) : Type 0 where
  pub same : way a n ≡ way b n
  pub other : n < 64 → nibble_of a n ≢ nibble_of b n
