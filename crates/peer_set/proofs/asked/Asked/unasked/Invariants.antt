use Rattle.std.proofs.Common.{◌≡◌, take}
use Rattle.ledger_spec.specs.Peers.{most_asked, unasked as not_asked}
use Rattle.peer_set.proofs.asked.Asked.unasked.Given as goal

abbrev pub invariant-loop-place : goal.invariant-loop-place
invariant-loop-place l = l.places.items ≡ take most_asked (not_asked l.self (take l.place-index l.missing))
