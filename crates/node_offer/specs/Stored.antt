-- What an offer stores, and why it isn't judged.
use Rattle.std.specs.Prelude.{◌≡◌, ◌≢◌, ◌⊎◌, is_some, if◌then◌else◌, List, [], ◌∷◌, None, Some, Result, Ok, Err}
use Rattle.std.specs.FinMap as map
use Rattle.ledger_spec.specs.Bytes.{Bytes, Hash, Half}
use Rattle.ledger_spec.specs.Offers.{Clash}
use Rattle.rotating_store.specs.Stores.{Store, nodes_of, Counted, with_pair}
use Rattle.rotating_store.specs.Puts.{MayStore}
use Rattle.node_offer.specs.declared.fault.OfferFault.{OfferFault}
use Rattle.node_offer.specs.declared.fault.OfferFault.TheVariants as faults
use Rattle.node_offer.specs.declared.store.Stored.{Stored}
use Rattle.node_offer.specs.declared.store.Stored.TheVariants as stored

-- the store with a form under its hash, in the writable map; a form that is held is not written again
abbrev pub with_form : Half → Store → Bytes → Store
with_form half s form = if is_some (map.get (nodes_of s) (half form)) then s else with_pair s (half form) form

abbrev pub with_forms : Half → Store → List Bytes → Store
with_forms half s [] = s
with_forms half s (form ∷ forms) = with_forms half (with_form half s form) forms

-- these forms were stored under their hashes and, but for the counts, nothing else changed
abbrev pub HasForms : Half → List Bytes → Store → Store → Type 0
HasForms half forms s s' = Counted (with_forms half s forms) s'

-- why there is no outcome, and what is stored then: a clash is the outcome and stores nothing; after a fault, or for want of memory,
-- nothing is stored, or what the outcome stores
abbrev pub Refuses : {X : Type 0} → Half → Result X Clash → List Bytes → Store → OfferFault → Store → Type 0
Refuses half outcome forms s (faults.Clash h old new) s' = (outcome ≡ Err (record { hash = h; old = old; new = new })) × Counted s s'
Refuses half outcome forms s faults.Fault s' = Counted s s' ⊎ HasForms half forms s s'
Refuses half outcome forms s faults.Memory s' = Counted s s' ⊎ HasForms half forms s s'

-- no clash
abbrev pub IsPlain : OfferFault → Type 0
IsPlain (faults.Clash h old new) = ⊥
IsPlain _ = Unit {0}

-- what is held under the hash decides: nothing, this form, or another one; but first the form's own hash
abbrev pub Stores : Half → Store → Hash → Bytes → Result Stored OfferFault → Store → Type 0
Stores half s h form (Ok stored.New) s' = (half form ≡ h) × (map.get (nodes_of s) h ≡ None) × Counted (with_pair s h form) s'
Stores half s h form (Ok stored.Same) s' = (half form ≡ h) × (map.get (nodes_of s) h ≡ Some form) × Counted s s'
Stores half s h form (Ok (stored.WrongHash found)) s' = (half form ≢ h) × (found ≡ half form) × Counted s s'
Stores half s h form (Err (faults.Clash hash old new)) s' =
    (half form ≡ h) × (hash ≡ h) × (new ≡ form) × (map.get (nodes_of s) h ≡ Some old) × (old ≢ form) × Counted s s'
Stores half s h form (Err faults.Fault) s' = (half form ≡ h) × MayStore s h form s'
Stores half s h form (Err faults.Memory) s' = (half form ≡ h) × MayStore s h form s'
