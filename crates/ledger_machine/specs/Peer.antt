-- The row of `peer`.
use Rattle.std.specs.Prelude.{ℕ, Option, None, Some}
use Rattle.ledger_spec.specs.Maps.{hash_cmp, get_in}
use Rattle.ledger_spec.specs.Bytes.{Hash}
use Rattle.ledger_spec.specs.declared.replies.PeerReply.{PeerReply}
use Rattle.ledger_spec.specs.declared.replies.PeerReply.TheVariants.{NotOpen}
use Rattle.ledger_spec.specs.Peers.{added, after_adding}
use Rattle.ledger_spec.specs.Acquiring.{Acquiring}
use Rattle.ledger_spec.specs.Replies.{peer_said}
use Rattle.ledger_machine.specs.State.{State, with_peers}

abbrev pub peer_given : ℕ → Option Acquiring → PeerReply
peer_given p None = NotOpen
peer_given p (Some a) = peer_said (added a.peers p)

abbrev pub peer_reply : State → ℕ → Hash → PeerReply
peer_reply s p t = peer_given p (get_in hash_cmp s.wanted t)

-- a new peer has joined behind the others; one that is known changes nothing
abbrev pub after_peer : State → ℕ → Hash → State
after_peer s p t = with_peers s t (λ peers. after_adding peers p)
