-- What a store is as a source of nodes.
use Rattle.std.specs.Prelude.{◌≡◌, ℕ, Bool, IsTrue, Some, Result, is_some, if◌then◌else◌}
use Rattle.std.specs.FinMap as finite
use Rattle.ledger_spec.specs.Bytes.{Bytes, Half, Hash, Nodes}
use Rattle.ledger_spec.specs.Own.{own_form}
use Rattle.node_backend.specs.declared.back.BackFault.{BackFault}
use Rattle.node_backend.specs.declared.back.BackFault.TheVariants as back
use Rattle.path_proof.specs.declared.source.FetchFault.{FetchFault}
use Rattle.path_proof.specs.declared.source.FetchFault.TheVariants.{Fault, Memory}
use Rattle.path_proof.specs.Sources.{LeavesSource}
use Rattle.rotating_store.specs.Stores.{Store, nodes_of}

-- where a store tells what it holds, each form of it stands under its own hash
abbrev pub AreFiled : Half → Bool → Store → Type 0
AreFiled half tells s = IsTrue tells → (h : Hash) (form : Bytes) → finite.get (nodes_of s) h ≡ Some form → h ≡ half form

-- of what is stored, the forms that stand under their own hashes
abbrev pub own_nodes : Half → Nodes → Nodes
own_nodes half nodes = finite.retain_keys nodes (λ h. is_some (own_form half h (finite.get nodes h)))

-- what asking leaves of a store: all but the counts, where it tells what it holds, and else all but the maps too
abbrev pub rest_of : Bool → Store → Store
rest_of tells s = record s {
  writable = if tells then s.writable else finite.empty;
  archive = if tells then s.archive else finite.empty;
  faults = 0;
  gets = 0;
}

-- a call that asks a store for nodes leaves it what it was as a source of them
abbrev pub LeavesAsked : {X E : Type 0} → Bool → Half → (ℕ → ℕ → E → Type 0) → Store → Store → Result X E → Type 0
LeavesAsked tells half Cause old new result =
    LeavesSource tells (λ s. own_nodes half (nodes_of s)) (rest_of tells) (λ s. s.faults) Cause old new result

-- why a fetch fails, by the backend's fault
abbrev pub fetch_fault : BackFault → FetchFault
fetch_fault back.Fault = Fault
fetch_fault back.Memory = Memory
