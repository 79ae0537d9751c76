-- The way from a root to a key, and what may end a read on it.
use Rattle.std.specs.Prelude.{◌≡◌, ◌⊎◌, ◌+◌, ◌&&◌, ℕ, Bool, if◌then◌else◌, is_none, List, [], ◌∷◌, take, IsTrue, Option, None, Some}
use Rattle.std.specs.Bool.{⊤}
use Rattle.std.specs.Option.{option_and_then, option_map}
use Rattle.std.specs.List.{slice_index_or}
use Rattle.nib_path.specs.Paths.{nibbles, nibble_of}
use Rattle.ledger_spec.specs.declared.Kind.{Kind}
use Rattle.ledger_spec.specs.declared.ShapeFault.{ShapeFault}
use Rattle.ledger_spec.specs.declared.ShapeFault.TheVariants.{Foreign}
use Rattle.ledger_spec.specs.Bytes.{Hash, Half, Lookup, zero_hash, is_nonzero, same_bytes}
use Rattle.ledger_spec.specs.Forms.{Held, inner, hash_of}
use Rattle.ledger_spec.specs.Rules.{fault_of}
use Rattle.ledger_spec.specs.Reads.{inner_hashes}
use Rattle.path_proof.specs.Sources.{AreHeld, Holds, IsForeign}
use Rattle.path_proof.specs.declared.answer.ReadFault.{ReadFault}
use Rattle.path_proof.specs.declared.answer.ReadFault.TheVariants.{Absent, Fault, Shape, Memory}

-- a place on the way: its depth, the branches of the inner node above it, and the hash there
pub record Waypoint : Type 0 where
  pub depth : ℕ
  pub above : Option (List Hash)
  pub hash : Hash

-- the same, from its parts
abbrev pub waypoint : ℕ → Option (List Hash) → Hash → Waypoint
waypoint depth above wanted = record { depth = depth; above = above; hash = wanted }

-- the root's place
abbrev pub start : Hash → Waypoint
start root = record { depth = 0; above = None; hash = root }

-- the path of a place on the way to a key
abbrev pub path_at : Hash → Waypoint → List ℕ
path_at key s = take s.depth (nibbles key)

-- the rule that a node breaks there
abbrev pub fault_at : Kind → Hash → Waypoint → Held → Option ShapeFault
fault_at kind key s n = fault_of n s.above kind (path_at key s)

-- the place below one where an inner node with these branches stands
abbrev pub under : Hash → Waypoint → List Hash → Waypoint
under key s hashes = record { depth = s.depth + 1; above = Some hashes; hash = slice_index_or hashes (nibble_of key s.depth) zero_hash }

-- the place below one where this node stands: the node has the hash, which isn't zero, breaks no rule and is an inner node
abbrev pub below : Half → Kind → Hash → Waypoint → Held → Option Waypoint
below half kind key s n =
    if is_nonzero s.hash && (same_bytes (hash_of half n) s.hash && is_none (fault_at kind key s n))
    then option_map (under key s) (inner_hashes n)
    else None

-- the node has the hash that is wanted at this path, below this inner node, and breaks no rule there
pub record Fits (half : Half) (kind : Kind) (above : Option (List Hash)) (path : List ℕ) (h : Hash) (n : Held) : Type 0 where
  pub hash : hash_of half n ≡ h
  pub rules : fault_of n above kind path ≡ None

-- the way goes on below the node, an inner one, at a hash that isn't zero
pub record GoesOn (key : Hash) (s : Waypoint) (n : Held) (t : Waypoint) : Type 0 where
  pub hashes : List Hash
  pub is_inner : n ≡ inner hashes
  pub below : t ≡ under key s hashes
  pub nonzero : IsTrue (is_nonzero t.hash)

-- where the nodes lead from a place
abbrev pub way : Half → Kind → Hash → Waypoint → List Held → Option Waypoint
way half kind key s [] = Some s
way half kind key s (n ∷ rest) = option_and_then (λ t. way half kind key t rest) (below half kind key s n)

-- the nodes lead from the root to a place with a hash that isn't zero, and are those that the source holds, where it tells that
pub record LeadsTo (half : Half) (kind : Kind) (root key : Hash) (tells : Bool) (nodes : Lookup) (used : List Held)
    (s : Waypoint) : Type 0 where
  pub leads : way half kind key (start root) used ≡ Some s
  pub nonzero : IsTrue (is_nonzero s.hash)
  pub stored : AreHeld half tells nodes used

-- what is held for a place breaks this rule, its first one there
abbrev pub Breaks : Half → Kind → Bool → Lookup → Option (List Hash) → List ℕ → Hash → ShapeFault → Type 0
Breaks half kind tells nodes above path h rule =
    ((n : Held) × (hash_of half n ≡ h) × (fault_of n above kind path ≡ Some rule) × (IsTrue tells → Holds half (nodes h) n))
    ⊎ ((rule ≡ Foreign) × (IsTrue tells → IsForeign half (nodes h)))

-- why a read of a source that holds this ends at a place, which has this hash and stands below this inner node, with no answer
abbrev pub Ends : Half → Kind → Bool → Lookup → Option (List Hash) → List ℕ → Hash → ReadFault → Type 0
Ends half kind tells nodes above path h (Absent g) = (g ≡ h) × (IsTrue tells → nodes g ≡ None)
Ends half kind tells nodes above path h (Shape place rule) = (place ≡ path) × Breaks half kind tells nodes above path h rule
Ends half kind tells nodes above path h Fault = ⊤
Ends half kind tells nodes above path h Memory = ⊤

-- a read of a source that holds this ends at the first place on the way where it can't go on
pub record HasCause (half : Half) (kind : Kind) (root key : Hash) (tells : Bool) (nodes : Lookup) (fault : ReadFault) : Type 0 where
  pub used : List Held
  pub place : Waypoint
  pub leads : LeadsTo half kind root key tells nodes used place
  pub ends : Ends half kind tells nodes place.above (path_at key place) place.hash fault
