-- What stops one on the way to a key, and beside the leaf of a key that is removed.
use Rattle.std.specs.Prelude.{◌≡◌, ◌≢◌, ℕ, zero, suc, ◌==◌, nat_le, Bool, true, false, if◌then◌else◌, Option, None, Some, Result, Ok, Err}
use Rattle.std.specs.Prelude.{List, [], ◌∷◌, ◌++◌, length, count_by, slice_set}
use Rattle.std.specs.List.{position, slice_index_or}
use Rattle.std.specs.Option.{option_or}
use Rattle.nib_path.specs.Paths.{nibble_of}
use Rattle.run_io.specs.Bytes.{Rose}
use Rattle.ledger_spec.specs.declared.Kind.{Kind}
use Rattle.ledger_spec.specs.declared.ShapeFault.{ShapeFault}
use Rattle.ledger_spec.specs.declared.ShapeFault.TheVariants.{LoneLeaf}
use Rattle.ledger_spec.specs.Bytes.{Bytes, Hash, Half, Lookup, same_bytes}
use Rattle.cow_map.specs.declared.link.Link.{Link}
use Rattle.cow_map.specs.declared.link.Link.TheVariants.{Empty, Unloaded, Own}
use Rattle.cow_map.specs.declared.fault.MapFault.{MapFault}
use Rattle.cow_map.specs.declared.fault.MapFault.TheVariants as causes
use Rattle.cow_map.specs.Bodies.{Body, CowTree}
use Rattle.cow_map.specs.Trees.{Found, none, one, fork, lacks, breaks, found_at}

abbrev pub is_link : Link → Bool
is_link Empty = false
is_link (Unloaded h) = true
is_link (Own i) = true

-- the link is an inner node's only one
abbrev pub is_only : List Link → Bool
is_only links = count_by is_link links == 1

-- the rule of the lone leaf, where this is the only branch of an inner node
abbrev pub lone_or : Bool → List ℕ → Found → Found
lone_or true path (one key bytes) = if nat_le 2 (length path) then breaks LoneLeaf else one key bytes
lone_or _ path found = found

-- what stops one on the way: a node that isn't held, or one that breaks a rule of shape at its place
pub data Stop : Type 0 where
  absent : Hash → Stop
  misfit : List ℕ → ShapeFault → Stop

-- what stops one here, or below the branch that the key's nibble chooses
abbrev pub stop_in : (ℕ → Bool → Link → Option Stop) → List ℕ → Hash → Found → Option Stop
stop_in next path key none = None
stop_in next path key (one own bytes) = None
stop_in next path key (fork links) =
    next (nibble_of key (length path)) (is_only links) (slice_index_or links (nibble_of key (length path)) Empty)
stop_in next path key (lacks h) = Some (absent h)
stop_in next path key (breaks fault) = Some (misfit path fault)

-- the first thing that stops one on the way of a key from a link, which is an inner node's only one or isn't
unfoldable pub stop_at : Half → Lookup → Kind → List Body → ℕ → Bool → List ℕ → Link → Hash → Option Stop
stop_at half stored kind nodes zero lone path link key =
    stop_in (λ b only l. None) path key (lone_or lone path (found_at half stored kind nodes path link))
stop_at half stored kind nodes (suc left) lone path link key =
    stop_in (λ b only l. stop_at half stored kind nodes left only (path ++ b ∷ []) l key) path key
    (lone_or lone path (found_at half stored kind nodes path link))

-- the first thing that stops one on the way of a key from the top
abbrev pub stop_of : Half → Lookup → CowTree → Hash → Option Stop
stop_of half stored m key = stop_at half stored m.kind m.nodes 64 false [] m.top key

-- what stops one where this is found
abbrev pub stop_here : List ℕ → Found → Option Stop
stop_here path none = None
stop_here path (one own bytes) = None
stop_here path (fork links) = None
stop_here path (lacks h) = Some (absent h)
stop_here path (breaks fault) = Some (misfit path fault)

-- the branch of the only link that leads anywhere
abbrev pub only_branch : List Link → Option ℕ
only_branch links = if is_only links then position is_link links else None

-- what stops one at a branch of an inner node, where one is named
abbrev pub stop_at_branch : (List ℕ → Link → Found) → List ℕ → List Link → Option ℕ → Option Stop
stop_at_branch found path links None = None
stop_at_branch found path links (Some b) = stop_here (path ++ b ∷ []) (found (path ++ b ∷ []) (slice_index_or links b Empty))

-- what stops one at the only branch that an inner node is left with: one looks there whether a leaf is to move up, but not at the root
abbrev pub stop_left : (List ℕ → Link → Found) → List ℕ → List Link → Option Stop
stop_left found [] links = None
stop_left found (n ∷ path) links = stop_at_branch found (n ∷ path) links (only_branch links)

-- whether this is the leaf of the key
abbrev pub is_leaf_of : Hash → Found → Bool
is_leaf_of key none = false
is_leaf_of key (one own bytes) = same_bytes own key
is_leaf_of key (fork links) = false
is_leaf_of key (lacks h) = false
is_leaf_of key (breaks fault) = false

-- what stops one beside the leaf of the key, or further down
abbrev pub beside_in : (ℕ → Link → Option Stop) → (List ℕ → Link → Found) → List ℕ → Hash → Found → Option Stop
beside_in next found path key none = None
beside_in next found path key (one own bytes) = None
beside_in next found path key (fork links) =
    let b = nibble_of key (length path) in
    let link = slice_index_or links b Empty in
    if is_leaf_of key (found (path ++ b ∷ []) link) then stop_left found path (slice_set links b Empty) else next b link
beside_in next found path key (lacks h) = None
beside_in next found path key (breaks fault) = None

-- what stops one beside the leaf of the key: at the only other branch of the last inner node on the way, where it is below the root
unfoldable pub beside_at : Half → Lookup → Kind → List Body → ℕ → List ℕ → Link → Hash → Option Stop
beside_at half stored kind nodes zero path link key = None
beside_at half stored kind nodes (suc left) path link key =
    beside_in (λ b l. beside_at half stored kind nodes left (path ++ b ∷ []) l key) (found_at half stored kind nodes) path key
    (found_at half stored kind nodes path link)

-- what stops one who removes the key from what a link leads to: the first thing on its way, else what is beside its leaf
abbrev pub removal_stop_at : Half → Lookup → Kind → List Body → ℕ → Bool → List ℕ → Link → Hash → Option Stop
removal_stop_at half stored kind nodes left lone path link key =
    option_or (stop_at half stored kind nodes left lone path link key) (beside_at half stored kind nodes left path link key)

-- the same from the top
abbrev pub removal_stop_of : Half → Lookup → CowTree → Hash → Option Stop
removal_stop_of half stored m key = removal_stop_at half stored m.kind m.nodes 64 false [] m.top key

-- a call goes all the way, or names what stops it; a failure and want of memory tell nothing of the way
abbrev pub Goes : {X : Type 0} → Option Stop → Result X MapFault → Type 0
Goes stop (Ok x) = stop ≡ None
Goes stop (Err (causes.Absent h)) = stop ≡ Some (absent h)
Goes stop (Err (causes.Shape place rule)) = stop ≡ Some (misfit place rule)
Goes stop (Err (causes.ZeroHash form)) = ⊥
Goes stop (Err causes.Fault) = Unit {0}
Goes stop (Err causes.Memory) = Unit {0}

-- a failure of the source, or want of memory
abbrev pub IsFailure : MapFault → Type 0
IsFailure (causes.Absent h) = ⊥
IsFailure (causes.Shape place rule) = ⊥
IsFailure (causes.ZeroHash form) = ⊥
IsFailure causes.Fault = Unit {0}
IsFailure causes.Memory = Unit {0}

-- no form is named, since none is made
abbrev pub NamesNoForm : MapFault → Type 0
NamesNoForm fault = (form : Bytes) → fault ≢ causes.ZeroHash form

-- why a call that asks a source ends: a failure of the source comes only where its count of faults rose, and no form is named
pub record IsSourceFault (before after : ℕ) (fault : MapFault) : Type 0 where
  pub risen : fault ≡ causes.Fault → Rose before after
  pub formless : NamesNoForm fault
