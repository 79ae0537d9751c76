-- Lines that are added to those of a script.
use Rattle.std.specs.Prelude.{◌≡◌, ◌≤◌, ℕ, ◌+◌, IfOk, OnOk, List, ◌++◌, length, Result}
use Rattle.ledger_machine.specs.declared.commands.Command.{Command}
use Rattle.ledger_machine.specs.declared.commands.Line.{Line}
use Rattle.swarm_gen.specs.declared.lines.Head.{Head}
use Rattle.swarm_gen.specs.declared.lines.Sent.{Sent}
use Rattle.swarm_gen.specs.Script.{Said, Ledger, numbered}

-- these lines stand behind those that were there, numbered on
pub record Adds (before after : List Line) (more : List Said) : Type 0 where
  pub lines : after ≡ before ++ numbered (length before + 1) more

-- these lines stand behind those that were there, and the answer is n, the number of one of them all
pub record AddsLines {E : Type 0} (before after : List Line) (more : List Said) (n : ℕ) (result : Result ℕ E) : Type 0 where
  pub earlier : IfOk result (λ number. number ≤ length after)
  pub number : IfOk result (λ number. number ≡ n)
  pub lines : OnOk result (Adds before after more)

-- what an actor says, behind the line that it waits for
abbrev pub said : ℕ → ℕ → Command → Said
said actor after c = record { actor = actor; after = after; command = c }

-- a ledger, from its head and its nodes
abbrev pub ledger_from : Head → List Sent → List Sent → Ledger
ledger_from head state_nodes tx_nodes = record {
  seq = head.seq;
  hash = head.hash;
  header = head.header;
  state_root = head.state_root;
  tx_root = head.tx_root;
  state_nodes = state_nodes;
  tx_nodes = tx_nodes;
}
