-- What a copy of all that some hashes reach does to the two backends.
use Rattle.std.specs.Prelude.{◌≡◌, ◌≢◌, ◌⊎◌, ◌≤◌, IsTrue, List, None, Some, Result, IfErr, OnOk, OnErr}
use Rattle.std.specs.List.{Contains}
use Rattle.std.specs.FinMap as finite
use Rattle.ledger_spec.specs.Bytes.{Bytes, Hash, Lookup, Nodes}
use Rattle.ledger_spec.specs.Reach.{Reach, Stored}
use Rattle.std.specs.FinSet as set
use Rattle.run_io.specs.Bytes.{Rose}
use Rattle.rotating_store.specs.Stores.{Store, nodes_of, born_of}
use Rattle.rotating_store.specs.declared.outcome.StoreFault.{StoreFault}
use Rattle.rotating_store.specs.declared.outcome.StoreFault.TheVariants as fault
use Rattle.copy_walk.specs.Walks.{Walk, Colours}
use Rattle.copy_walk.specs.Walks as walks

-- what the writable backend has besides what it had is reached
abbrev pub OnlyReached : Lookup → List Hash → Nodes → Nodes → Type 0
OnlyReached nodes shaded w w' = (h : Hash) (form : Bytes) → finite.get w' h ≡ Some form
    → (finite.get w h ≡ Some form) ⊎ (Reach nodes shaded h × (nodes h ≡ Some form))

-- what it had stays
abbrev pub KeepsWritten : Nodes → Nodes → Type 0
KeepsWritten w w' = (h : Hash) (form : Bytes) → finite.get w h ≡ Some form → finite.get w' h ≡ Some form

-- some of what the hashes reach was copied: the store's one map and the archive are as before
pub record CopiesSome (shaded : List Hash) (s s' : Store) : Type 0 where
  pub nodes : nodes_of s' ≡ nodes_of s
  pub archive : s'.archive ≡ s.archive
  pub kept : KeepsWritten s.writable s'.writable
  pub only : OnlyReached (finite.get (nodes_of s)) shaded s.writable s'.writable

-- A walk that copies what the hashes reach: the colours are as they should be; each of the hashes that is stored is shaded; and what is
-- shaded and stored is reached.
pub record IsWalking (shaded : List Hash) (w : Walk) (s : Store) : Type 0 where
  pub colours : Colours (finite.get (nodes_of s)) (finite.get s.writable) w
  pub told : (h : Hash) → Contains shaded h → Stored (finite.get (nodes_of s)) h → Contains (walks.shaded w) h
  pub kept : (h : Hash) → Contains (walks.shaded w) h → Stored (finite.get (nodes_of s)) h → Reach (finite.get (nodes_of s)) shaded h

-- what both backends have is reached: nothing was copied but that
abbrev pub IsFit : List Hash → Store → Type 0
IsFit shaded s = (h : Hash) → finite.get s.writable h ≢ None → finite.get s.archive h ≢ None
    → Reach (finite.get (nodes_of s)) shaded h

-- A rotation: what is stored is what was, and all that these hashes reach is there, with nothing else but what the writable backend had.
-- That one is empty now.
pub record Rotated (shaded : List Hash) (s s' : Store) : Type 0 where
  pub fewer : (h : Hash) (form : Bytes) → finite.get (nodes_of s') h ≡ Some form → finite.get (nodes_of s) h ≡ Some form
  pub reached : (h : Hash) → Reach (finite.get (nodes_of s)) shaded h → finite.get (nodes_of s') h ≡ finite.get (nodes_of s) h
  pub written : (h : Hash) (form : Bytes) → finite.get (nodes_of s') h ≡ Some form
      → Reach (finite.get (nodes_of s)) shaded h ⊎ (finite.get s.writable h ≡ Some form)
  pub fresh : s'.writable ≡ finite.empty

-- what is stored was reached, or was born in the epoch that ended
abbrev pub OnlyReachedOrBorn : List Hash → Store → Store → Type 0
OnlyReachedOrBorn shaded s s' = (h : Hash) (form : Bytes) → finite.get (nodes_of s') h ≡ Some form
    → Reach (finite.get (nodes_of s)) shaded h ⊎ IsTrue (set.contains (born_of s) h)

-- what a rotation leaves of the store: after a refusal its one map is as before, and some of what is to stay was copied
abbrev pub AfterRotation : {T E : Type 0} → List Hash → Store → Result T E → Store → Type 0
AfterRotation shaded s r s' = OnOk r (Rotated shaded s s') × OnErr r (CopiesSome shaded s s')

-- the same of a store that is fit: nothing old stays but what is reached, and after a refusal it is fit still
abbrev pub AfterFit : {T E : Type 0} → List Hash → Store → Result T E → Store → Type 0
AfterFit shaded s r s' = OnOk r (OnlyReachedOrBorn shaded s s') × OnErr r (IsFit shaded s')

-- Nothing was copied: behind a swap the archive is the backend that was the writable one, and after a refusal both are as before.
abbrev pub CopiesNothing : {T E : Type 0} → Store → Result T E → Store → Type 0
CopiesNothing s r s' = OnOk r (s'.archive ≡ s.writable) × OnErr r ((s'.writable ≡ s.writable) × (s'.archive ≡ s.archive))

-- why a rotation is refused: a device failed in it, or memory ran out
abbrev pub RefusedBy : Store → StoreFault → Store → Type 0
RefusedBy s fault.Fault s' = Rose s.faults s'.faults
RefusedBy s fault.Memory s' = Unit {0}
RefusedBy s _ s' = ⊥

-- the store's counts don't fall, and what refuses a rotation has its cause
pub record CountsOn {X : Type 0} (s s' : Store) (result : Result X StoreFault) : Type 0 where
  pub later : s.faults ≤ s'.faults
  pub gets : s.gets ≤ s'.gets
  pub cause : IfErr result (λ e. RefusedBy s e s')
