-- The outcomes of a command, and reads, which leave the state. For proofs of other crates.
use Rattle.std.proofs.Common.{◌⊎◌, inl, inr, ℕ, List, Option, None, Some}
use Rattle.ledger_spec.specs.declared.Kind.{Kind}
use Rattle.ledger_spec.specs.Bytes.{Hash, Half}
use Rattle.ledger_spec.specs.Forms.{Held}
use Rattle.ledger_machine.specs.declared.commands.Command.{Command}
use Rattle.ledger_machine.specs.declared.commands.Reply.{Reply}
use Rattle.ledger_machine.specs.declared.commands.Reply.TheVariants as says
use Rattle.ledger_machine.specs.State.{State}
use Rattle.ledger_machine.specs.Steps.{Outcomes, Answered, Refused}
use Rattle.ledger_machine.specs.Steps.{Gets, Pages, IsAfter}

-- a command is refused, or answered by its row
pub outcome_cases : (half : Half) (s : State) (a : ℕ) (c : Command) (reply : Reply) (used : List Held) (s' : State)
    → Outcomes half s a c reply used s'
    → Refused half s a c s' ⊎ Answered half s a c reply used s'
outcome_cases half s a c says.Fault used s' o = inl o.1
outcome_cases half s a c says.Memory used s' o = inl o.1
outcome_cases half s a c (says.Clash h old new) used s' o = inl o.1
outcome_cases half s a c (says.ZeroHash form) used s' o = inl o.1
outcome_cases half s a c reply used s' o = inr o

-- a read leaves the state
pub gets_after : (half : Half) (s : State) (kind : Kind) (key : Hash) (root : Option Hash) (reply : Reply) (used : List Held) (s' : State)
    → Gets half s kind key root reply used s' → IsAfter s s'
gets_after half s kind key None reply used s' g = g.after
gets_after half s kind key (Some root) reply used s' g = g.1

-- so does a page
pub pages_after : (half : Half) (s : State) (kind : Kind) (key : Hash) (n : ℕ) (root : Option Hash) (reply : Reply) (used : List Held)
    (s' : State) → Pages half s kind key n root reply used s' → IsAfter s s'
pages_after half s kind key n None reply used s' g = g.after
pages_after half s kind key n (Some root) reply used s' g = g.1
