-- The row of `tick`.
use Rattle.std.specs.Prelude.{Option, None, Some}
use Rattle.ledger_spec.specs.Maps.{hash_cmp, get_in}
use Rattle.ledger_spec.specs.Bytes.{Hash}
use Rattle.ledger_spec.specs.declared.replies.TickReply.{TickReply}
use Rattle.ledger_spec.specs.declared.replies.TickReply.TheVariants.{Timeout, GaveUp, NotOpen}
use Rattle.ledger_spec.specs.Peers as peers
use Rattle.ledger_spec.specs.Acquiring.{Acquiring}
use Rattle.ledger_spec.specs.Replies.{tick_said}
use Rattle.ledger_machine.specs.State.{State, with_peers, ended}

abbrev pub tick_given : Option Acquiring → TickReply
tick_given None = NotOpen
tick_given (Some a) = tick_said (peers.ticked a.peers)

abbrev pub tick_reply : State → Hash → TickReply
tick_reply s t = tick_given (get_in hash_cmp s.wanted t)

-- an acquisition that is given up ends
abbrev pub after_tick : State → Hash → TickReply → State
after_tick s t (Timeout n) = with_peers s t peers.after_tick
after_tick s t (GaveUp n) = ended s t
after_tick s t NotOpen = s
