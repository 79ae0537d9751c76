-- What an offer answers of a node, and what it stores.
use Rattle.std.specs.Prelude.{◌≡◌, ℕ, Bool, IsTrue, List, Result, Ok, IfOk, IfErr}
use Rattle.std.specs.FinMap as map
use Rattle.ledger_spec.specs.declared.Kind.{Kind}
use Rattle.ledger_spec.specs.Bytes.{Bytes, Hash, Half, Lookup}
use Rattle.ledger_spec.specs.Forms.{Held}
use Rattle.ledger_spec.specs.Offers.{node_outcome, spot_outcome, stored_by}
use Rattle.ledger_spec.specs.Own.{AreStored}
use Rattle.ledger_spec.specs.Spots as way
use Rattle.ledger_spec.specs.Spots.{spot_of}
use Rattle.ledger_spec.specs.Wire.{read_wire}
use Rattle.rotating_store.specs.Stores.{Store, nodes_of}
use Rattle.node_offer.specs.declared.fault.OfferFault.{OfferFault}
use Rattle.node_offer.specs.declared.outcome.Offered.{Offered}
use Rattle.node_offer.specs.Outcomes.{numbered, HasCause, HasRule}
use Rattle.node_offer.specs.Stored.{HasForms, Refuses}

-- the answer for these bytes is the outcome that the definitions have, a cause is one of the bytes, and a rule one that the node breaks; of
-- the outcome and the rule this is said where all that is stored are forms under their own hashes
pub record AnswersOffer (tells : Bool) (half : Half) (nodes : Lookup) (target : Hash) (kind : Kind) (path : List ℕ) (blob : Bytes)
    (result : Result Offered OfferFault) : Type 0 where
  pub outcome : IsTrue tells → AreStored half nodes → IfOk result (λ o. node_outcome half nodes target kind path blob ≡ Ok (numbered o))
  pub cause : IfOk result (HasCause half blob)
  pub rule : IsTrue tells → AreStored half nodes → (n : Held) → read_wire half blob ≡ Ok n
      → IfOk result (HasRule n (spot_of nodes target kind path) kind path)

-- The answer for a node is the outcome at this spot, and a rule is the one that it breaks there. A node that is good, or that breaks a
-- rule, is stored under its hash, and nothing else changes; where there is no answer, at most what the outcome stores is.
pub record JudgesAt (tells : Bool) (half : Half) (s : Store) (n : Held) (spot : way.Spot) (kind : Kind) (path : List ℕ)
    (result : Result Offered OfferFault) (s' : Store) : Type 0 where
  pub outcome : IsTrue tells → IfOk result (λ o. spot_outcome half (map.get (nodes_of s)) kind path n spot ≡ Ok (numbered o))
  pub rule : IfOk result (HasRule n spot kind path)
  pub stored : IsTrue tells → IfOk result (λ o. HasForms half (stored_by (Ok n) (Ok (numbered o))) s s')
  pub err : IsTrue tells → IfErr result (λ e. Refuses half (spot_outcome half (map.get (nodes_of s)) kind path n spot)
      (stored_by (Ok n) (spot_outcome half (map.get (nodes_of s)) kind path n spot)) s e s')
