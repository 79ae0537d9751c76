-- What a source of nodes answers, by the map that it tells, and what a call that asks it leaves of it.
use Rattle.std.specs.Prelude.{◌≡◌, ◌≤◌, ℕ, Bool, IsTrue, IfErr, IfOk, IfSome, List, Option, None, Some, Result, Ok, Err}
use Rattle.std.specs.List.{AllByRecursion}
use Rattle.std.specs.Bool.{⊤}
use Rattle.std.specs.declared.sync.Arc.{Arc}
use Rattle.std.specs.declared.alloc.Global.{Global}
use Rattle.shamap_node.specs.declared.Node.{Node}
use Rattle.shamap_node.specs.Nodes.{held}
use Rattle.shamap_node.specs.Laws.{is_no_node}
use Rattle.std.specs.FinMap as map
use Rattle.run_io.specs.Bytes.{Rose}
use Rattle.ledger_spec.specs.Bytes.{Bytes, Hash, Half, Lookup, Nodes}
use Rattle.ledger_spec.specs.Forms.{Held, IsHeld, form_of, hash_of}
use Rattle.ledger_spec.specs.Pages.{IsStoredNode}
use Rattle.ledger_spec.specs.Findings.{held_of}
use Rattle.path_proof.specs.declared.source.FetchFault.{FetchFault}
use Rattle.path_proof.specs.declared.source.FetchFault.TheVariants.{Fault, Foreign, Memory}

-- a node, none, or why there is no answer
abbrev pub Fetched : Type 0
Fetched = Result (Option (Arc Node Global)) FetchFault

-- nothing is stored
abbrev pub no_nodes : Nodes
no_nodes = map.empty

-- what is held there is no node's form: a header's
abbrev pub IsForeign : Half → Option Bytes → Type 0
IsForeign half there = (form : Bytes) × (there ≡ Some form) × IsTrue (is_no_node (held_of half form))

-- what is held there is the form of this node
abbrev pub Holds : Half → Option Bytes → Held → Type 0
Holds half there n = (there ≡ Some (form_of n)) × IsHeld half n

-- the nodes are those that the source holds under their hashes, where it tells what it holds
abbrev pub AreHeld : Half → Bool → Lookup → List Held → Type 0
AreHeld half tells nodes used = IsTrue tells → AllByRecursion (IsStoredNode half nodes) used

-- a node that was given has the hash
abbrev pub HasHash : Half → Hash → Fetched → Type 0
HasHash half h fetched = IfOk fetched (λ o. IfSome o (λ node. hash_of half (held node.value) ≡ h))

-- the answer to a hash under which this is held
abbrev pub Gives : Half → Option Bytes → Fetched → Type 0
Gives half there (Ok (Some node)) = Holds half there (held node.value)
Gives half there (Ok None) = there ≡ None
Gives half there (Err Foreign) = IsForeign half there
Gives half there (Err Fault) = ⊤
Gives half there (Err Memory) = ⊤

-- where a call ends with this fault, the count of faults rose
abbrev pub RoseIf : {E : Type 0} → E → ℕ → ℕ → E → Type 0
RoseIf fault before after e = e ≡ fault → Rose before after

-- a call leaves a source what it was: the map that it tells, and what else is known of it; its count of faults doesn't fall, and an error
-- has its cause, by the counts before and after
pub record LeavesSource {Source Rest X E : Type 0} (tells : Bool) (stored : Source → Nodes) (rest_of : Source → Rest) (faults : Source → ℕ)
    (Cause : ℕ → ℕ → E → Type 0) (old new : Source) (result : Result X E) : Type 0 where
  pub same : IsTrue tells → stored new ≡ stored old
  pub rest : rest_of new ≡ rest_of old
  pub later : faults old ≤ faults new
  pub cause : IfErr result (Cause (faults old) (faults new))
