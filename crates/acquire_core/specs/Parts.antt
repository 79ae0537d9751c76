-- What became of the parts of a base reply.
use Rattle.std.specs.Prelude.{Result, Ok, Err}
use Rattle.ledger_spec.specs.declared.outcomes.Offered.{Offered as Outcome}
use Rattle.ledger_spec.specs.Bases.{Judged}
use Rattle.node_offer.specs.declared.fault.OfferFault.{OfferFault}
use Rattle.node_offer.specs.declared.outcome.Offered.{Offered}
use Rattle.node_offer.specs.Outcomes.{numbered}
use Rattle.acquire_core.specs.declared.parts.Parts.{Parts}

-- what became of a node, with causes and rules by their numbers
abbrev pub said : Result Offered OfferFault → Result Outcome OfferFault
said (Ok o) = Ok (numbered o)
said (Err e) = Err e

-- the parts as the definitions have them
abbrev pub shown : Parts → Judged
shown p = record { header = p.header; state = p.state; tx = p.tx }

abbrev pub judged : Result Parts OfferFault → Result Judged OfferFault
judged (Ok p) = Ok (shown p)
judged (Err e) = Err e
