-- The walk from a ledger's header over all that it names, and what it finds.
use Rattle.std.specs.Prelude.{◌≡◌, ℕ, zero, suc, if◌then◌else◌, List, [], ◌∷◌, ◌++◌, Option, None, Some}
use Rattle.std.specs.Option.{option_or, option_map}
use Rattle.std.specs.List.{flat_map, filter_map, slice_index_or}
use Rattle.ledger_spec.specs.declared.Kind.{Kind}
use Rattle.ledger_spec.specs.declared.Kind.TheVariants.{State, Tx}
use Rattle.ledger_spec.specs.declared.Place.{Place}
use Rattle.ledger_spec.specs.declared.Place.TheVariants.{Header, Node}
use Rattle.ledger_spec.specs.declared.ShapeFault.{ShapeFault}
use Rattle.ledger_spec.specs.declared.ShapeFault.TheVariants.{Foreign}
use Rattle.ledger_spec.specs.Bytes.{Bytes, Hash, Half, Lookup, Items, zero_hash, is_zero, branches}
use Rattle.ledger_spec.specs.Header.{state_root_of, tx_root_of}
use Rattle.ledger_spec.specs.Forms.{Held, inner, leaf, header, inner_of, header_of, leaf_of}
use Rattle.ledger_spec.specs.Rules.{fault_of}

-- what is seen at a place: its hash isn't stored, it breaks a rule, or it holds what belongs there
pub data Sight : Type 0 where
  missing : Sight
  broken : ShapeFault → Sight
  sound : Held → Sight

-- a place with its hash, which isn't zero, and the inner node above it
pub record Met : Type 0 where
  pub place : Place
  pub hash : Hash
  pub parent : Option (List Hash)
  pub sight : Sight

-- what a stored form holds
abbrev pub held_of : Half → Bytes → Option Held
held_of half form = option_or (option_map inner (inner_of form)) (option_or (option_map header (header_of form)) (leaf_of half form))

-- what is held, judged by the rule that it breaks
abbrev pub seen_as : Held → Option ShapeFault → Sight
seen_as held None = sound held
seen_as held (Some fault) = broken fault

-- bytes that are no form don't belong there
abbrev pub judged : (Held → Option ShapeFault) → Option Held → Sight
judged rules None = broken Foreign
judged rules (Some held) = seen_as held (rules held)

-- what is seen of what is stored
abbrev pub sight_of : Half → (Held → Option ShapeFault) → Option Bytes → Sight
sight_of half rules None = missing
sight_of half rules (Some form) = judged rules (held_of half form)

-- the branches of what is seen, where it is an inner node
abbrev pub branches_of : Sight → (List Hash → List Met) → List Met
branches_of (sound (inner hashes)) each = each hashes
branches_of _ each = []

-- the places from this one on, each before what is below it; `left` levels are below this one
unfoldable pub walk : Half → Lookup → Kind → ℕ → Option (List Hash) → List ℕ → Hash → List Met
walk half nodes kind zero parent path h =
    if is_zero h then []
    else record {
      place = Node kind path;
      hash = h;
      parent = parent;
      sight = sight_of half (λ n. fault_of n parent kind path) (nodes h);
    } ∷ []
walk half nodes kind (suc left) parent path h =
    let sight = sight_of half (λ n. fault_of n parent kind path) (nodes h) in
    if is_zero h then [] else record { place = Node kind path; hash = h; parent = parent; sight = sight }
    ∷ branches_of sight (λ hashes.
    flat_map (λ b. walk half nodes kind left (Some hashes) (path ++ b ∷ []) (slice_index_or hashes b zero_hash)) branches)

-- the whole map below a root hash
unfoldable pub walk_map : Half → Lookup → Kind → Hash → List Met
walk_map half nodes kind root = walk half nodes kind 64 None [] root

abbrev pub header_or_foreign : Option Bytes → Sight
header_or_foreign None = broken Foreign
header_or_foreign (Some bytes) = sound (header bytes)

-- what is seen at the header's place: bytes that are no header don't belong there
abbrev pub header_sight : Option Bytes → Sight
header_sight None = missing
header_sight (Some form) = header_or_foreign (header_of form)

-- the two maps of what is seen, where it is a header
abbrev pub maps_of : Half → Lookup → Sight → List Met
maps_of half nodes (sound (header bytes)) = walk_map half nodes State (state_root_of bytes) ++ walk_map half nodes Tx (tx_root_of bytes)
maps_of half nodes _ = []

-- a ledger: its header, then its state map, then its transaction map
unfoldable pub walk_ledger : Half → Lookup → Hash → List Met
walk_ledger half nodes target =
    let sight = header_sight (nodes target) in
    record { place = Header; hash = target; parent = None; sight = sight } ∷ maps_of half nodes sight

-- a place that is missing, or broken with its rule
pub data Finding : Type 0 where
  lacks : Place → Finding
  breaks : Place → ShapeFault → Finding

-- what is found at a place that is seen so
abbrev pub finding_at : Place → Sight → Option Finding
finding_at place missing = Some (lacks place)
finding_at place (broken fault) = Some (breaks place fault)
finding_at place (sound held) = None

-- all that is missing or broken in a ledger, in the walk's order
abbrev pub findings : Half → Lookup → Hash → List Finding
findings half nodes target = filter_map (λ m. finding_at m.place m.sight) (walk_ledger half nodes target)

-- the place of a finding that is missing
abbrev pub missing_of : Finding → Option Place
missing_of (lacks place) = Some place
missing_of (breaks place fault) = None

-- the first broken place, with its rule
abbrev pub first_broken : List Finding → Option (Place × ShapeFault)
first_broken [] = None
first_broken (lacks place ∷ rest) = first_broken rest
first_broken (breaks place fault ∷ rest) = Some (place, fault)

-- the shortest front that ends in a broken place or has `room` missing ones, else all
abbrev pub up_to : ℕ → List Finding → List Finding
up_to room [] = []
up_to zero (f ∷ rest) = []
up_to (suc room) (lacks place ∷ rest) = lacks place ∷ up_to room rest
up_to (suc room) (breaks place fault ∷ rest) = breaks place fault ∷ []

-- what a search answers
abbrev pub seen : Half → Lookup → Hash → List Finding
seen half nodes target = up_to 256 (findings half nodes target)

-- nothing is missing and nothing is broken
abbrev pub Whole : Half → Lookup → Hash → Type 0
Whole half nodes target = findings half nodes target ≡ []

-- the item of a leaf
abbrev pub item_at : Sight → Option (Hash × Bytes)
item_at (sound (leaf kind key bytes)) = Some (key, bytes)
item_at _ = None

-- the map of the leaves that the walk from a root meets
abbrev pub items_of : Half → Lookup → Kind → Hash → Items
items_of half nodes kind root = filter_map (λ m. item_at m.sight) (walk_map half nodes kind root)
