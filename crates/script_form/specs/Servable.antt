-- The lines that a core takes.
use Rattle.std.specs.Prelude.{◌≢◌, ◌<◌, ◌^◌, List, length, map}
use Rattle.std.specs.List.{All, Contains}
use Rattle.ledger_machine.specs.declared.commands.Line.{Line}
use Rattle.ledger_machine.specs.Commands.{IsInRange}
use Rattle.ledger_machine.specs.Scripts.{Rises}

-- the line waits for none, or for an earlier one
abbrev pub WaitsForEarlier : List Line → Line → Type 0
WaitsForEarlier lines l = l.after ≢ 0 → (l.after < l.number) × Contains (map (λ x. x.number) lines) l.after

-- lines that a core takes: of known actors, with numbers that rise from 1, in range, and waiting for earlier ones alone
pub record AreServable (lines : List Line) : Type 0 where
  pub actors_known : All (λ l. l.actor < 64) lines
  pub numbers_rise : Rises 0 lines
  pub in_range : All (λ l. IsInRange l.command) lines
  pub waiting : All (WaitsForEarlier lines) lines
  pub few : length lines < 2 ^ 32
