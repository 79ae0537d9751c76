-- What becomes of a read, node by node.
use Rattle.std.specs.Prelude.{◌≡◌, ◌-◌, ◌<◌, ℕ, Bool, IsTrue, Option, Some, Result, Ok, Err}
use Rattle.std.specs.declared.sync.Arc.{Arc}
use Rattle.std.specs.declared.alloc.Global.{Global}
use Rattle.ledger_spec.specs.declared.Kind.{Kind}
use Rattle.ledger_spec.specs.Bytes.{Hash, Half, Lookup}
use Rattle.ledger_spec.specs.Reads.{follow}
use Rattle.shamap_node.specs.declared.Node.{Node}
use Rattle.path_proof.specs.declared.source.FetchFault.{FetchFault}
use Rattle.path_proof.specs.declared.answer.ReadFault.{ReadFault}
use Rattle.path_proof.specs.declared.way.Reading.{Reading}
use Rattle.path_proof.specs.declared.way.Progress.{Progress}
use Rattle.path_proof.specs.declared.way.Progress.TheVariants.{More, Done}
use Rattle.path_proof.specs.Paths.{held_nodes, last_branches, outcome_by}
use Rattle.path_proof.specs.Sources.{AreHeld, Gives, HasHash}
use Rattle.path_proof.specs.Ways.{waypoint, LeadsTo, HasCause}

-- the hash that a read wants
abbrev pub wanted_by : Reading → Hash
wanted_by r = r.place.wanted

-- the levels below the place to which it came
abbrev pub levels_left : Reading → ℕ
levels_left r = 64 - r.place.depth

-- its nodes lead from the root to its place, and are those that the source holds, where it tells that
abbrev pub IsOnWay : Half → Kind → Hash → Hash → Bool → Lookup → Reading → Type 0
IsOnWay half kind root key tells nodes r =
    LeadsTo half kind root key tells nodes (held_nodes r.used.items)
    (waypoint r.place.depth (last_branches (held_nodes r.used.items)) r.place.wanted)

-- a source that holds this gave it for the hash
pub record IsFetched (half : Half) (tells : Bool) (nodes : Lookup) (h : Hash) (fetched : Result (Option (Arc Node Global)) FetchFault)
    : Type 0 where
  pub hash : HasHash half h fetched
  pub exact : IsTrue tells → Gives half (nodes h) fetched

-- a read that goes on comes below the place where it was
abbrev pub StaysBelow : Reading → Progress → Type 0
StaysBelow r (More next) = levels_left next < levels_left r
StaysBelow r (Done a) = Unit {0}

-- what a read comes to: it is on the way, or has its answer by nodes that are held, or the cause that it has none
abbrev pub Comes : Half → Kind → Hash → Hash → Bool → Lookup → Result Progress ReadFault → Type 0
Comes half kind root key tells nodes (Ok (More r)) = IsOnWay half kind root key tells nodes r
Comes half kind root key tells nodes (Ok (Done a)) =
    (follow half kind root key (held_nodes a.used.items) ≡ Some (outcome_by (held_nodes a.used.items) a.outcome))
    × AreHeld half tells nodes (held_nodes a.used.items)
Comes half kind root key tells nodes (Err why) = HasCause half kind root key tells nodes why
