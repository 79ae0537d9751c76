-- What a walk takes before an offer is judged.
use Rattle.std.specs.Prelude.{◌≡◌, ◌⊎◌, Bool, false, IsTrue, Option, None, Some, Result, Ok, IfErr}
use Rattle.std.specs.List.{Contains}
use Rattle.ledger_spec.specs.Bytes.{Bytes, Hash, Half, Lookup}
use Rattle.ledger_spec.specs.Forms.{Held, hash_of}
use Rattle.ledger_spec.specs.Wire.{read_wire}
use Rattle.ledger_spec.specs.Reach.{Stored}
use Rattle.copy_walk.specs.Walks.{shaded}
use Rattle.acquire_core.specs.Answers.{forms_in}
use Rattle.node_backend.specs.declared.back.BackFault.{BackFault}
use Rattle.node_backend.specs.declared.back.BackFault.TheVariants as back
use Rattle.online_rotate.specs.Rotators.{Turning}
use Rattle.rotating_store.specs.Reading.{IsLater}
use Rattle.rotating_store.specs.Stores.{Store, Counted}
use Rattle.run_io.specs.Bytes.{Rose}

-- the walk takes more hashes: none that is stored
pub record Heeds (nodes : Lookup) (r r' : Turning) : Type 0 where
  pub black : r'.walk.black ≡ r.walk.black
  pub stays : (h : Hash) → Contains (shaded r.walk) h → Contains (shaded r'.walk) h
  pub only : (h : Hash) → Contains (shaded r'.walk) h → Stored nodes h → Contains (shaded r.walk) h

-- the hash is stored, or the walk takes it
abbrev pub IsHeeded : Lookup → Turning → Hash → Type 0
IsHeeded nodes r h = Stored nodes h ⊎ Contains (shaded r.walk) h

-- the same of the node that such bytes are the wire form of, where they are given and are one
abbrev pub AreHeeded : Half → Lookup → Turning → Option Bytes → Type 0
AreHeeded half nodes r None = Unit {0}
AreHeeded half nodes r (Some blob) = (n : Held) → read_wire half blob ≡ Ok n → IsHeeded nodes r (hash_of half n)

-- Before an offer is judged the walk of the rotation under way takes hashes that aren't stored, and nothing else of it changes. The store
-- is
-- only read.
pub record HeedsFirst {X : Type 0} (tells : Bool) (st : Store) (r : Turning) (result : Result X BackFault) (st' : Store) (r' : Turning)
    : Type 0 where
  pub heeds : IsTrue tells → Heeds (forms_in st) r r'
  pub rest : r' ≡ record r { walk = r'.walk }
  pub idle : r.turning ≡ false → r' ≡ r
  pub store : IsTrue tells → Counted st st'
  pub later : IsLater st st'
  pub fault : IfErr result (λ e. e ≡ back.Fault → Rose st.faults st'.faults)
