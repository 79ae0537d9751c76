-- A step of a command that names no session is one whatever sessions are open.
use Rattle.std.proofs.Common.{ℕ, List}
use Rattle.ledger_spec.specs.Maps.{ForActor}
use Rattle.ledger_spec.specs.Bytes.{Half}
use Rattle.ledger_spec.specs.Forms.{Held}
use Rattle.ledger_machine.specs.declared.commands.Command.{Command}
use Rattle.ledger_machine.specs.declared.commands.Command.TheVariants as command
use Rattle.ledger_machine.specs.declared.commands.Reply.{Reply}
use Rattle.ledger_machine.specs.declared.commands.Reply.TheVariants as says
use Rattle.ledger_machine.specs.State.{State, Session, with_forms}
use Rattle.ledger_machine.specs.Commands.{IsBeside}
use Rattle.ledger_machine.specs.Steps.{Does, Refused, IsRow, Outcomes}
use Rattle.ledger_laws.proofs.EachCommand.{answered_beside}
use Rattle.ledger_laws.proofs.shared.Beside.{beside, forms_beside, after_beside}

module _ (half : Half) (es : ForActor Session) where
  refused_beside : (s : State) (a : ℕ) (c : Command) (s' : State) → IsBeside c → Refused half s a c s'
      → Refused half (beside half es s) a c (beside half es s')
  refused_beside s a (command.Close x given) s' is r = absurd is
  refused_beside s a c s' is r = record {
    forms = r.forms;
    own = r.own;
    same = after_beside half es (with_forms half s r.forms) (with_forms half (beside half es s) r.forms) s'
        (forms_beside half es s r.forms) r.same;
  }

  said_beside : (s : State) (a : ℕ) (c : Command) (reply : Reply) → IsBeside c → IsRow half s a c reply
      → IsRow half (beside half es s) a c reply
  said_beside s a (command.Close x given) reply is e = absurd is
  said_beside s a c reply is e = e

  outcome_beside : (s : State) (a : ℕ) (c : Command) (reply : Reply) (used : List Held) (s' : State) → IsBeside c
      → Outcomes half s a c reply used s' → Outcomes half (beside half es s) a c reply used (beside half es s')
  outcome_beside s a c says.Fault used s' is o = (o.0, refused_beside s a c s' is o.1)
  outcome_beside s a c says.Memory used s' is o = (o.0, refused_beside s a c s' is o.1)
  outcome_beside s a c (says.Clash h old new) used s' is o =
      (said_beside s a c (says.Clash h old new) is o.0, refused_beside s a c s' is o.1)
  outcome_beside s a c (says.ZeroHash form) used s' is o = (said_beside s a c (says.ZeroHash form) is o.0, refused_beside s a c s' is o.1)
  outcome_beside s a c reply used s' is o = answered_beside half es s a c reply used s' is o

  pub row_beside : (s s' : State) (a : ℕ) (c : Command) (reply : Reply) (used : List Held) → IsBeside c → Does half s a c reply used s'
      → Does half (beside half es s) a c reply used (beside half es s')
  row_beside s s' a c reply used is does = record { outcome = outcome_beside s a c reply used s' is does.outcome; uses = does.uses }
