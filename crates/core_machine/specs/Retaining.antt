-- The ledgers that a core retains, and its store.
use Rattle.std.specs.Prelude.{◌≡◌, ◌↔◌, List}
use Rattle.std.specs.List.{Contains}
use Rattle.std.specs.List.Sorted.{IsStrictlySortedBy}
use Rattle.std.specs.Map.{keys_of}
use Rattle.ledger_spec.specs.Bytes.{Hash}
use Rattle.ledger_spec.specs.Maps.{ForHash, hash_cmp}
use Rattle.ledger_machine.specs.State.{State, retained}
use Rattle.rotating_store.specs.Stores.{Store, nodes_of}
use Rattle.core_machine.specs.Desks.{Desk}

-- the hashes of a list, rising, each once
pub record AreRising (hashes rising : List Hash) : Type 0 where
  pub all : (h : Hash) → Contains rising h ↔ Contains hashes h
  pub rise : IsStrictlySortedBy hash_cmp rising

-- those of the retained ledgers, which are listed, or pinned by a view or a session
abbrev pub AreRetained : State → List Hash → Type 0
AreRetained s hashes = AreRising (retained s) hashes

-- the table's keys are these hashes, in any order
abbrev pub HaveKeys : {X : Type 0} → ForHash X → List Hash → Type 0
HaveKeys table hashes = (h : Hash) → Contains (keys_of table) h ↔ Contains hashes h

-- the commands act on this store
pub record IsStoreOf (d : Desk) (st : Store) : Type 0 where
  pub nodes : nodes_of st ≡ d.state.nodes
  pub faults : st.faults ≡ d.faults
  pub gets : st.gets ≡ d.gets
  pub epoch : st.epoch ≡ d.state.epoch
  pub written : st.writable ≡ d.written
  pub archived : st.archive ≡ d.archived
