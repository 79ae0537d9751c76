-- The offers' names for what a backend and a store answer.
use Rattle.std.specs.Prelude.{Result, Ok, Err}
use Rattle.rotating_store.specs.declared.outcome.StoreFault.{StoreFault}
use Rattle.rotating_store.specs.declared.outcome.StoreFault.TheVariants as store
use Rattle.node_offer.specs.declared.store.Stored.{Stored}
use Rattle.node_offer.specs.declared.store.Stored.TheVariants as stored
use Rattle.node_backend.specs.declared.back.BackFault.{BackFault}
use Rattle.node_backend.specs.declared.back.BackFault.TheVariants as back
use Rattle.node_offer.specs.declared.fault.OfferFault.{OfferFault}
use Rattle.node_offer.specs.declared.fault.OfferFault.TheVariants as offer

abbrev pub offer_fault : BackFault → OfferFault
offer_fault back.Fault = offer.Fault
offer_fault back.Memory = offer.Memory

-- what a refusal of the store comes to
abbrev pub refused_by : StoreFault → Result Stored OfferFault
refused_by (store.WrongHash hash found) = Ok (stored.WrongHash found)
refused_by (store.Clash hash old new) = Err (offer.Clash hash old new)
refused_by store.Fault = Err offer.Fault
refused_by store.Memory = Err offer.Memory
