-- What a put answers.
use Rattle.std.specs.Prelude.{◌≡◌, ◌≢◌, ◌⊎◌, None, Some, Result, Ok, Err}
use Rattle.std.specs.FinMap as finite
use Rattle.ledger_spec.specs.Bytes.{Bytes, Hash, Half}
use Rattle.rotating_store.specs.Stores.{Store, nodes_of, Counted, with_pair}
use Rattle.node_backend.specs.declared.back.BackFault.{BackFault}
use Rattle.node_backend.specs.declared.back.BackFault.TheVariants as back
use Rattle.rotating_store.specs.declared.outcome.Put.{Put}
use Rattle.rotating_store.specs.declared.outcome.Put.TheVariants as put
use Rattle.rotating_store.specs.declared.outcome.StoreFault.{StoreFault}
use Rattle.rotating_store.specs.declared.outcome.StoreFault.TheVariants as fault

-- neither a clash nor a wrong hash
abbrev pub IsPlain : StoreFault → Type 0
IsPlain fault.Fault = Unit {0}
IsPlain fault.Memory = Unit {0}
IsPlain _ = ⊥

-- the store's name for what a backend answers
abbrev pub store_fault : BackFault → StoreFault
store_fault back.Fault = fault.Fault
store_fault back.Memory = fault.Memory

-- a wrong hash is answered exactly where the form's half is another one, and is told with the hash
abbrev pub TellsWrongHash : Half → Hash → Bytes → Result Put StoreFault → Type 0
TellsWrongHash half h form (Err (fault.WrongHash hash found)) = (half form ≢ h) × (hash ≡ h) × (found ≡ half form)
TellsWrongHash half h form _ = half form ≡ h

-- the pair is new, and was stored or was not
abbrev pub MayStore : Store → Hash → Bytes → Store → Type 0
MayStore s h form s' = Counted s s' ⊎ ((finite.get (nodes_of s) h ≡ None) × Counted (with_pair s h form) s')

-- what is held under the hash decides: nothing, this form, or another one
abbrev pub Puts : Store → Hash → Bytes → Result Put StoreFault → Store → Type 0
Puts s h form (Ok put.New) s' = (finite.get (nodes_of s) h ≡ None) × Counted (with_pair s h form) s'
Puts s h form (Ok put.Same) s' = (finite.get (nodes_of s) h ≡ Some form) × Counted s s'
Puts s h form (Err (fault.WrongHash hash found)) s' = Counted s s'
Puts s h form (Err (fault.Clash hash old new)) s' =
    (hash ≡ h) × (new ≡ form) × (finite.get (nodes_of s) h ≡ Some old) × (old ≢ form) × Counted s s'
Puts s h form (Err fault.Fault) s' = MayStore s h form s'
Puts s h form (Err fault.Memory) s' = MayStore s h form s'

-- a put of a form where one is held: the same, or a clash
abbrev pub Compares : Hash → Bytes → Bytes → Result Put StoreFault → Type 0
Compares h old form (Ok put.New) = ⊥
Compares h old form (Ok put.Same) = old ≡ form
Compares h old form (Err (fault.WrongHash hash found)) = ⊥
Compares h old form (Err (fault.Clash hash held new)) = (hash ≡ h) × (held ≡ old) × (new ≡ form) × (old ≢ form)
Compares h old form (Err fault.Fault) = ⊥
Compares h old form (Err fault.Memory) = Unit {0}
