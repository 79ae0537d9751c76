-- What calls leave of a store.
use Rattle.std.specs.Prelude.{◌≡◌, ◌≤◌, ◌⊎◌, Bool, IsTrue, Some, Result, IfErr}
use Rattle.std.specs.FinMap as map
use Rattle.run_io.specs.Bytes.{Rose}
use Rattle.ledger_spec.specs.Bytes.{Bytes, Hash, Half}
use Rattle.ledger_spec.specs.Own.{is_own}
use Rattle.rotating_store.specs.Stores.{Store, nodes_of, Counted, SamePast, is_noted, IsNoted}

-- no backend was taken or discarded, and the counts never fall
pub record IsLater (s s' : Store) : Type 0 where
  pub past : SamePast s s'
  pub ready : s'.ready ≡ s.ready
  pub faults : s.faults ≤ s'.faults
  pub gets : s.gets ≤ s'.gets

-- what is held under a hash that was noted as checked is a form under its own hash
pub record AreNotedOwn (half : Half) (s : Store) : Type 0 where
  pub own : (h : Hash) (form : Bytes) → IsTrue (is_noted s h) → map.get (nodes_of s) h ≡ Some form → IsTrue (is_own half h form)

-- as before, or with a note of the hash, under which this form is held, that is its own
abbrev pub MayNote : Half → Store → Hash → Bytes → Store → Type 0
MayNote half s h form s' = (s' ≡ s) ⊎ (IsTrue (is_own half h form) × IsNoted s h s')

-- the store tells what it holds, and its notes are true
abbrev pub IsReadable : Bool → Half → Store → Type 0
IsReadable tells half s = IsTrue tells × AreNotedOwn half s

-- the store was only read: where its backends tell what they hold, it is as before, but for the counts and the notes; and true
-- notes stay true
pub record WasRead (tells : Bool) (half : Half) (s s' : Store) : Type 0 where
  pub same : IsTrue tells → Counted s s'
  pub later : IsLater s s'
  pub notes : IsReadable tells half s → IsReadable tells half s'

-- what a call that reads, stores and notes leaves of a store: true notes stay true, no backend was taken or discarded, the counts never
-- fall, and the call ends with the fault only where the count of faults rose
pub record KeepsReadable {X E : Type 0} (tells : Bool) (half : Half) (fault : E) (s s' : Store) (result : Result X E) : Type 0 where
  pub notes : IsReadable tells half s → IsReadable tells half s'
  pub later : IsLater s s'
  pub cause : IfErr result (λ e. e ≡ fault → Rose s.faults s'.faults)
