-- What is answered to a peer's command over what is stored, for the peers of its acquisition, and what a check answers.
use Rattle.std.specs.Prelude.{ℕ, if◌then◌else◌, List, [], Option, Result, Ok, Err}
use Rattle.ledger_spec.specs.declared.Kind.{Kind}
use Rattle.ledger_spec.specs.declared.outcomes.Offered.{Offered}
use Rattle.ledger_spec.specs.declared.peers.Added.{Added}
use Rattle.ledger_spec.specs.declared.peers.Added.TheVariants as adds
use Rattle.ledger_spec.specs.declared.peers.Ask.{Ask}
use Rattle.ledger_spec.specs.declared.peers.Ask.TheVariants as asks
use Rattle.ledger_spec.specs.declared.peers.Tick.{Tick}
use Rattle.ledger_spec.specs.declared.peers.Tick.TheVariants as ticks
use Rattle.ledger_spec.specs.declared.replies.PeerReply.{PeerReply}
use Rattle.ledger_spec.specs.declared.replies.PeerReply.TheVariants as peer
use Rattle.ledger_spec.specs.declared.replies.BaseReply.{BaseReply}
use Rattle.ledger_spec.specs.declared.replies.BaseReply.TheVariants as base
use Rattle.ledger_spec.specs.declared.replies.NodeReply.{NodeReply}
use Rattle.ledger_spec.specs.declared.replies.NodeReply.TheVariants as node
use Rattle.ledger_spec.specs.declared.replies.CheckReply.{CheckReply}
use Rattle.ledger_spec.specs.declared.replies.CheckReply.TheVariants as check
use Rattle.ledger_spec.specs.declared.replies.TickReply.{TickReply}
use Rattle.ledger_spec.specs.declared.replies.TickReply.TheVariants as tick
use Rattle.ledger_spec.specs.Bytes.{Bytes, Hash, Half, Lookup}
use Rattle.ledger_spec.specs.Rules.{rule_number}
use Rattle.ledger_spec.specs.Wire.{read_wire}
use Rattle.ledger_spec.specs.Offers.{Clash, node_outcome, stored_by}
use Rattle.ledger_spec.specs.Bases.{Judged, base_outcome, base_forms}
use Rattle.ledger_spec.specs.Peers.{Peers, is_present}
use Rattle.ledger_spec.specs.Acquiring.{Verdict, complete, incomplete, seq_differs, zero_state, below_floor, malformed}
use Rattle.ledger_spec.specs.Acquiring.{is_bad, after_outcome, after_judging}

abbrev pub peer_said : Added → PeerReply
peer_said adds.Added = peer.Added
peer_said adds.Known = peer.Known

abbrev pub tick_said : Tick → TickReply
tick_said (ticks.Timeout n) = tick.Timeout n
tick_said (ticks.GaveUp n) = tick.GaveUp n

-- what is judged of a base reply, or the clash that it comes to
abbrev pub parts_said : Result Judged Clash → Result BaseReply Clash
parts_said (Ok j) = Ok (base.Parts j.header j.state j.tx)
parts_said (Err c) = Err c

abbrev pub node_said : Result Offered Clash → Result NodeReply Clash
node_said (Ok o) = Ok (node.One o)
node_said (Err c) = Err c

module _ (half : Half) (nodes : Lookup) (t : Hash) (peers : Peers) (p : ℕ) where
  -- a base reply: nothing is judged or stored of a peer that isn't present
  abbrev pub base_given : Bytes → Option Bytes → Option Bytes → Result BaseReply Clash
  base_given header state tx =
      if is_present peers p then parts_said (base_outcome half nodes t header state tx) else Ok base.Unasked

  abbrev pub base_stored : Bytes → Option Bytes → Option Bytes → List Bytes
  base_stored header state tx = if is_present peers p then base_forms half nodes t header state tx else []

  -- a node, likewise
  abbrev pub node_given : Kind → List ℕ → Bytes → Result NodeReply Clash
  node_given kind path blob =
      if is_present peers p then node_said (node_outcome half nodes t kind path blob) else Ok node.Unasked

  abbrev pub node_stored : Kind → List ℕ → Bytes → List Bytes
  node_stored kind path blob =
      if is_present peers p then stored_by (read_wire half blob) (node_outcome half nodes t kind path blob) else []

-- each bad part charges the peer
abbrev pub after_base : ℕ → BaseReply → Peers → Peers
after_base p (base.Parts header state tx) peers = after_judging p (record { header = header; state = state; tx = tx }) peers
after_base p base.Unasked peers = peers
after_base p base.NotOpen peers = peers

abbrev pub after_node : ℕ → NodeReply → Peers → Peers
after_node p (node.One o) peers = after_outcome p (is_bad o) peers
after_node p node.Unasked peers = peers
after_node p node.NotOpen peers = peers

abbrev pub ask_said : Ask → CheckReply
ask_said (asks.Send p places) = check.Need p places
ask_said (asks.Waiting n) = check.Waiting n
ask_said asks.NoPeer = check.NoPeer

-- what a check says, with a broken rule by its number
abbrev pub check_said : Verdict → CheckReply
check_said complete = check.Complete
check_said (incomplete ask) = ask_said ask
check_said (seq_differs asked found) = check.SeqDiffers asked found
check_said zero_state = check.ZeroState
check_said (below_floor floor) = check.BelowFloor floor
check_said (malformed place fault) = check.Malformed place (rule_number fault)
