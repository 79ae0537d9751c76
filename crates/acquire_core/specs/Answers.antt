-- What an answer to an offer says of the store.
use Rattle.std.specs.Prelude.{◌≡◌, List, ◌++◌, Result, Ok, Err}
use Rattle.std.specs.FinMap as map
use Rattle.ledger_spec.specs.Bytes.{Bytes, Half, Lookup}
use Rattle.ledger_spec.specs.Offers.{Clash}
use Rattle.rotating_store.specs.Stores.{Store, nodes_of}
use Rattle.node_offer.specs.declared.fault.OfferFault.{OfferFault}
use Rattle.node_offer.specs.declared.fault.OfferFault.TheVariants as faults
use Rattle.node_offer.specs.Stored.{HasForms}

-- what the store holds
abbrev pub forms_in : Store → Lookup
forms_in s = map.get (nodes_of s)

-- the first of these forms were stored under their hashes, the rest wasn't and, but for the counts, nothing else changed
pub record HasFront (half : Half) (forms : List Bytes) (s s' : Store) : Type 0 where
  pub front : List Bytes
  pub rest : List Bytes
  pub parts : forms ≡ front ++ rest
  pub stored : HasForms half front s s'

-- The answer is the outcome, a clash too, and then these forms were stored. After a fault, or for want of memory, at most the first of
-- them were.
abbrev pub Answers : {X : Type 0} → Half → Result X Clash → List Bytes → Store → Result X OfferFault → Store → Type 0
Answers half outcome forms s (Ok x) s' = (outcome ≡ Ok x) × HasForms half forms s s'
Answers half outcome forms s (Err (faults.Clash h old new)) s' =
    (outcome ≡ Err (record { hash = h; old = old; new = new })) × HasForms half forms s s'
Answers half outcome forms s (Err faults.Fault) s' = HasFront half forms s s'
Answers half outcome forms s (Err faults.Memory) s' = HasFront half forms s s'
