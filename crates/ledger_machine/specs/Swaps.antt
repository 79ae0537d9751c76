-- What the swaps of a run leave of what is stored.
use Rattle.std.specs.Prelude.{◌≡◌, ◌⊎◌, IsTrue, IsSome, List, [], ◌∷◌}
use Rattle.std.specs.FinSet as set
use Rattle.ledger_spec.specs.Bytes.{Hash, Half}
use Rattle.ledger_spec.specs.Reach.{Reach, Stored}
use Rattle.ledger_machine.specs.declared.commands.Command.{Command}
use Rattle.ledger_machine.specs.declared.commands.Command.TheVariants as command
use Rattle.ledger_machine.specs.declared.commands.Line.{Line}
use Rattle.ledger_machine.specs.declared.journal.Entry.{Entry}
use Rattle.ledger_machine.specs.declared.commands.SwapReply.TheVariants as swaps
use Rattle.ledger_machine.specs.declared.commands.Reply.{Reply}
use Rattle.ledger_machine.specs.declared.commands.Reply.TheVariants as says
use Rattle.ledger_machine.specs.State.{State, form_in, roots, Kept}
use Rattle.ledger_machine.specs.Steps.{own_hashes}
use Rattle.ledger_machine.specs.Runs.{Run}

-- the command is a swap, and a rotation ends by it
abbrev pub IsSwap : Command → Reply → Type 0
IsSwap command.Swap (says.Swap (swaps.Swapped epoch)) = Unit {0}
IsSwap _ _ = ⊥

-- what a rotation may keep after a step: what it might keep before, if it was under way, what the roots reach now, and what the command's
-- own forms reach
abbrev pub MayKeep : (Hash → Type 0) → State → List Hash → State → Hash → Type 0
MayKeep before s own s' h = (IsSome s.turning × before h) ⊎ (Reach (form_in s') (roots s') h ⊎ Reach (form_in s') own h)

-- a swap takes nothing that a retained ledger or an open acquisition reaches, and leaves nothing but what was kept, which the rotation
-- might keep, and what was born in the epoch that ended
pub record Sweeps (may : Hash → Type 0) (s s' : State) : Type 0 where
  pub stays : (h : Hash) → Reach (form_in s) (roots s) h → form_in s' h ≡ form_in s h
  pub left : (h : Hash) → Stored (form_in s') h → (Kept s h × may h) ⊎ IsTrue (set.contains s.born h)

-- each swap of a run does so, where the rotation that is under way at first may keep this
abbrev pub AllSwapsKeep : (half : Half) (lines : List Line) (may : Hash → Type 0) (s : State) (entries : List Entry) (s' : State)
    → Run half lines s entries s' → Type 0
AllSwapsKeep half lines may s [] s' run = Unit {0}
AllSwapsKeep half lines may s (e ∷ rest) s' run =
    (IsSwap run.1.line.command e.reply → Sweeps may s run.0)
    × AllSwapsKeep half lines (MayKeep may s (own_hashes half s e.actor run.1.line.command e.reply) run.0) run.0 rest s' run.2
