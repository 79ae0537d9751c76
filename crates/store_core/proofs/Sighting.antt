-- The views of a state along a step.
use Rattle.std.proofs.Common.{◌≡◌, ⊎_elim, ℕ, List}
use Rattle.ledger_spec.specs.Bytes.{Half}
use Rattle.ledger_spec.specs.Forms.{Held}
use Rattle.ledger_machine.specs.declared.commands.Command.{Command}
use Rattle.ledger_machine.specs.declared.commands.Reply.{Reply}
use Rattle.ledger_machine.specs.State.{State, with_forms}
use Rattle.ledger_machine.specs.Steps.{Refused, Outcomes}
use Rattle.ledger_laws.proofs.shared.SoundSteps.{outcome_cases}
use Rattle.ledger_laws.proofs.shared.EachCommand.{answer_views}
use Rattle.ledger_laws.proofs.shared.Views.{LeavesViews, forms_views, after_views}

module _ (half : Half) (s : State) (a : ℕ) where
  refused_views : (c : Command) (s' : State) → Refused half s a c s' → s'.views ≡ s.views
  refused_views c s' r = after_views s (with_forms half s r.forms) s' (forms_views half s r.forms) r.same

  -- each command
  pub row_views : (c : Command) (reply : Reply) (used : List Held) (s' : State) → LeavesViews c → Outcomes half s a c reply used s'
      → s'.views ≡ s.views
  row_views c reply used s' is o =
      ⊎_elim (λ r. refused_views c s' r) (λ g. answer_views half s a c reply used s' is g) (outcome_cases half s a c reply used s' o)

  -- one that is refused
  pub refused_view : (c : Command) (s' : State) → Refused half s a c s' → s'.views ≡ s.views
  refused_view = refused_views
