-- Lines that a core takes.
use Rattle.std.specs.Prelude.{◌≡◌, ◌+◌, ◌≤◌, ◌<◌, ◌^◌, ℕ, IsTrue, List, length, map, Vec, vec_len}
use Rattle.std.specs.List.{range_with_len, All}
use Rattle.std.specs.declared.alloc.Global.{Global}
use Rattle.ledger_spec.specs.Bytes.{Hash, is_nonzero}
use Rattle.ledger_machine.specs.declared.commands.Line.{Line}
use Rattle.ledger_machine.specs.Scripts.{IsLedgerMap}
use Rattle.script_form.specs.Servable.{AreServable}
use Rattle.swarm_gen.specs.declared.lines.Head.{Head}
use Rattle.swarm_gen.specs.declared.lines.Sent.{Sent}
use Rattle.swarm_gen.specs.declared.plan.Plan.{Plan}
use Rattle.swarm_gen.specs.Plans.{IsPlan}

-- the lines are ones that a core takes, numbered from 1
pub record AreLines (lines : List Line) : Type 0 where
  pub servable : AreServable lines
  pub numbers : map (λ l. l.number) lines ≡ range_with_len 1 (length lines)

-- a node of a ledger's map
abbrev pub IsOfLedger : Sent → Type 0
IsOfLedger s = IsLedgerMap s.kind

-- an actor that a core knows asks for a ledger of the plan, whose hash isn't zero
pub record MayAsk (p : Plan) (n : ℕ) (hash : Hash) : Type 0 where
  pub plan : IsPlan p
  pub actor : n < 64
  pub target : IsTrue (is_nonzero hash)

-- a ledger that a core takes, with these nodes: its sequence and hash aren't zero, the nodes are of its maps, and 64 bits count them
pub record MaySend (head : Head) (state_nodes tx_nodes : Vec Sent Global) : Type 0 where
  pub seq : 1 ≤ head.seq
  pub few : vec_len state_nodes + vec_len tx_nodes < 2 ^ 64
  pub target : IsTrue (is_nonzero head.hash)
  pub state : All IsOfLedger state_nodes.items
  pub tx : All IsOfLedger tx_nodes.items
