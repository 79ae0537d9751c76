-- The replies where a store has no answer.
use Rattle.node_backend.specs.declared.back.BackFault.{BackFault}
use Rattle.node_backend.specs.declared.back.BackFault.TheVariants as back
use Rattle.node_offer.specs.declared.fault.OfferFault.{OfferFault}
use Rattle.node_offer.specs.declared.fault.OfferFault.TheVariants as fault
use Rattle.missing_walk.specs.declared.fault.SearchFault.{SearchFault}
use Rattle.missing_walk.specs.declared.fault.SearchFault.TheVariants as search
use Rattle.ledger_machine.specs.declared.commands.Reply.{Reply}
use Rattle.ledger_machine.specs.declared.commands.Reply.TheVariants as says

-- the replies of a refusal
abbrev pub IsRefusal : Reply → Type 0
IsRefusal says.Fault = Unit {0}
IsRefusal says.Memory = Unit {0}
IsRefusal (says.Clash h old new) = Unit {0}
IsRefusal (says.ZeroHash form) = Unit {0}
IsRefusal _ = ⊥

-- the reply of a fault
abbrev pub refusal_of : OfferFault → Reply
refusal_of fault.Fault = says.Fault
refusal_of (fault.Clash h old new) = says.Clash h old new
refusal_of fault.Memory = says.Memory

abbrev pub search_refusal : SearchFault → Reply
search_refusal search.Fault = says.Fault
search_refusal search.Memory = says.Memory

abbrev pub read_refusal : BackFault → Reply
read_refusal back.Fault = says.Fault
read_refusal back.Memory = says.Memory
