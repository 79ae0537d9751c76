-- What the answers on the way to a place stand for.
use Rattle.std.specs.Prelude.{ℕ, if◌then◌else◌, IsTrue, is_some, List, Option, None, Some, Result, Ok, Err}
use Rattle.std.specs.Option.{option_and_then, option_map_or}
use Rattle.ledger_spec.specs.Bytes.{Bytes, Hash, is_zero}
use Rattle.ledger_spec.specs.Forms.{inner_of}
use Rattle.ledger_spec.specs.Spots as way
use Rattle.ledger_spec.specs.Spots.{into}
use Rattle.shamap_node.specs.declared.parts.Inner.{Inner}
use Rattle.ledger_spec.specs.declared.ShapeFault.{ShapeFault}
use Rattle.ledger_spec.specs.declared.outcomes.HeadOffered.{HeadOffered}
use Rattle.ledger_spec.specs.declared.outcomes.HeadOffered.TheVariants as head
use Rattle.node_offer.specs.declared.outcome.Offered.{Offered}
use Rattle.node_offer.specs.declared.outcome.Offered.TheVariants as offered
use Rattle.node_offer.specs.declared.store.Stored.{Stored}
use Rattle.node_offer.specs.declared.store.Stored.TheVariants as stored
use Rattle.node_offer.specs.declared.spots.Spot.{Spot}
use Rattle.node_offer.specs.declared.spots.Spot.TheVariants as spots
use Rattle.node_offer.specs.declared.spots.Block.{Block}
use Rattle.node_offer.specs.declared.spots.Block.TheVariants as blocks
use Rattle.node_offer.specs.declared.spots.Found.{Found}
use Rattle.node_offer.specs.declared.spots.Found.TheVariants as founds

-- the branches of the inner node above, if there is one
abbrev pub hashes_of_parent : Option Inner → Option (List Hash)
hashes_of_parent None = None
hashes_of_parent (Some inner) = Some inner.hashes

abbrev pub spot : Spot → way.Spot
spot (spots.Wanted h parent) = way.wanted h (hashes_of_parent parent)
spot spots.NoBase = way.no_base
spot (spots.NoParent path) = way.no_parent path
spot (spots.EmptyBranch path) = way.empty_branch path
spot (spots.UnderLeaf path) = way.under_leaf path

-- a place behind what stands in the way
abbrev pub blocked : Block → way.Spot
blocked (blocks.NoParent path) = way.no_parent path
blocked (blocks.EmptyBranch path) = way.empty_branch path
blocked (blocks.UnderLeaf path) = way.under_leaf path

-- what a place is, by what is found of it
abbrev pub spot_found : Found → way.Spot
spot_found (founds.Wanted h parent) = way.wanted h (option_and_then inner_of parent)
spot_found founds.NoBase = way.no_base
spot_found (founds.Blocked block) = blocked block

-- one level down from a place with this hash, given what is stored under it
abbrev pub step_down : List ℕ → (List Hash → way.Spot) → Hash → Option Bytes → way.Spot
step_down path on h form = if is_zero h then way.empty_branch path else into path on form

-- the same, from the form of the inner node there, or what stands in the way
abbrev pub step_of : Result Bytes Block → (List Hash → way.Spot) → way.Spot
step_of (Ok form) on = option_map_or on (inner_of form) way.no_base
step_of (Err b) on = blocked b

-- the form that was written into a room, where nothing stands in the way, or what does
abbrev pub way_on : Option Block → Bytes → Result Bytes Block
way_on None room = Ok room
way_on (Some b) room = Err b

-- a form there is an inner node's
abbrev pub HasInner : Result Bytes Block → Type 0
HasInner (Ok form) = IsTrue (is_some (inner_of form))
HasInner (Err b) = Unit {0}

-- what became of a node that was to have this hash, and the rule that it breaks
abbrev pub offered_as : Hash → Option ShapeFault → Stored → Offered
offered_as wanted rule (stored.WrongHash found) = offered.BadHash wanted found
offered_as wanted rule stored.Same = offered.Duplicate
offered_as wanted None stored.New = offered.Good
offered_as wanted (Some fault) stored.New = offered.Malformed fault

-- what became of a header of the right length
abbrev pub head_as : Stored → HeadOffered
head_as stored.New = head.Good
head_as stored.Same = head.Duplicate
head_as (stored.WrongHash found) = head.BadHash found
