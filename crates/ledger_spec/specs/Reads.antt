-- What a list of nodes says of a key, and how it shows two nodes with one hash.
use Rattle.std.specs.Prelude.{◌≡◌, ◌≢◌, ◌⊎◌, ℕ, ◌+◌, ◌&&◌, if◌then◌else◌, List, [], ◌∷◌, length, take, is_none, Option, None, Some}
use Rattle.std.specs.Option.{option_and_then}
use Rattle.std.specs.List.{slice_index_or, Contains}
use Rattle.ledger_spec.specs.Maps.{hash_cmp, get_in}
use Rattle.nib_path.specs.Paths.{nibbles, nibble_of, IsPath}
use Rattle.ledger_spec.specs.declared.Kind.{Kind}
use Rattle.ledger_spec.specs.Bytes.{Bytes, Hash, Half, Items, zero_hash, is_zero, same_bytes}
use Rattle.ledger_spec.specs.Forms.{Held, inner, leaf, header, IsHeld, form_of, hash_of, hash_or_zero}
use Rattle.ledger_spec.specs.Rules.{fault_of}
use Rattle.ledger_spec.specs.Tree.{AreItems, root_of, HasAt}

-- what a path says of a key
pub data Outcome : Type 0 where
  nothing : Outcome
  value : Bytes → Outcome

-- what the path's last node says of the key: its depth chooses the nibble
abbrev pub ends_at : Hash → ℕ → Held → Option Outcome
ends_at key depth (leaf kind own bytes) = Some (if same_bytes own key then value bytes else nothing)
ends_at key depth (inner hashes) = if is_zero (slice_index_or hashes (nibble_of key depth) zero_hash) then Some nothing else None
ends_at key depth (header bytes) = None

-- the branches, where it is an inner node
abbrev pub inner_hashes : Held → Option (List Hash)
inner_hashes (inner hashes) = Some hashes
inner_hashes _ = None

-- the nodes from a depth on, the first of which has this hash
abbrev pub follow_from : Half → Kind → Hash → ℕ → Option (List Hash) → Hash → List Held → Option Outcome
follow_from half kind key depth parent h [] = None
follow_from half kind key depth parent h (n ∷ []) =
    if same_bytes (hash_of half n) h && is_none (fault_of n parent kind (take depth (nibbles key))) then ends_at key depth n else None
follow_from half kind key depth parent h (n ∷ m ∷ rest) =
    if same_bytes (hash_of half n) h && is_none (fault_of n parent kind (take depth (nibbles key)))
    then option_and_then
    (λ hashes. follow_from half kind key (depth + 1) (Some hashes) (slice_index_or hashes (nibble_of key depth) zero_hash) (m ∷ rest))
    (inner_hashes n)
    else None

-- what the nodes, from the root on, say of the key
abbrev pub follow : Half → Kind → Hash → Hash → List Held → Option Outcome
follow half kind root key [] = if is_zero root then Some nothing else None
follow half kind root key (n ∷ rest) = if is_zero root then None else follow_from half kind key 0 None root (n ∷ rest)

-- a form, or the empty node, stands at the path from this hash through the nodes
abbrev pub Stands : Half → List Held → Hash → List ℕ → Option Bytes → Type 0
Stands half used h [] None = h ≡ zero_hash
Stands half used h [] (Some form) = (n : Held) × Contains used n × (form ≡ form_of n) × (half form ≡ h)
Stands half used h (b ∷ path) form = (hashes : List Hash) × Contains used (inner hashes) × (hash_of half (inner hashes) ≡ h)
    × Stands half used (slice_index_or hashes b zero_hash) path form

-- at one path the nodes and the map have different forms of one hash
pub record Shows (half : Half) (kind : Kind) (items : Items) (root : Hash) (used : List Held) : Type 0 where
  pub path : List ℕ
  pub is_path : IsPath path
  pub read : Option Bytes
  pub own : Option Bytes
  pub stands : Stands half used root path read
  pub has : HasAt half kind items path own
  pub differ : read ≢ own
  pub one_hash : hash_or_zero half read ≡ hash_or_zero half own

-- what the map has at a key
abbrev pub answer_of : Option Bytes → Outcome
answer_of None = nothing
answer_of (Some bytes) = value bytes

-- 32 bytes, each of two nibbles
pub record IsKey (key : Hash) : Type 0 where
  pub size : length key ≡ 32
  pub path : IsPath (nibbles key)

-- an inner node that has a form, or a leaf that has one if it is of this kind
abbrev pub IsNode : Half → Kind → Held → Type 0
IsNode half kind (inner hashes) = IsHeld half (inner hashes)
IsNode half kind (leaf own key bytes) = own ≡ kind → IsHeld half (leaf own key bytes)
IsNode half kind (header bytes) = Unit {0}

-- the nodes have forms, leaves of other kinds apart
abbrev pub AreNodes : Half → Kind → List Held → Type 0
AreNodes half kind used = (n : Held) → Contains used n → IsNode half kind n

-- for every map with this root, the nodes lead to the map's own answer, or show two nodes with one hash
abbrev pub AnswersOrShows : Half → Kind → Hash → Hash → List Held → Outcome → Type 0
AnswersOrShows half kind root key used outcome = (items : Items) → AreItems half kind items → root_of half kind items ≡ root
    → (outcome ≡ answer_of (get_in hash_cmp items key)) ⊎ Shows half kind items root used
