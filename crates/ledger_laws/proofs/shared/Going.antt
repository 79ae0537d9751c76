-- Each row but that of a swap stores its command's own forms and takes nothing, so what is found after a step was found before, or is one
-- of them. For proofs of other crates.
use Rattle.std.proofs.Common.{◌≡◌, ◌⊎◌, inl, ⊎_elim, ℕ, List}
use Rattle.std.proofs.Common.{Some, Contains, subst}
use Rattle.ledger_spec.specs.Bytes.{Bytes, Hash, Half}
use Rattle.ledger_spec.specs.Forms.{Held}
use Rattle.ledger_spec.proofs.shared.ReachLaws.{Grows}
use Rattle.ledger_machine.specs.declared.commands.Command.{Command}
use Rattle.ledger_machine.specs.declared.commands.Reply.{Reply}
use Rattle.ledger_machine.specs.State.{State, form_in}
use Rattle.ledger_machine.specs.Commands.{IsBeside}
use Rattle.ledger_machine.specs.Steps.{Outcomes, own_forms}
use Rattle.ledger_laws.proofs.shared.SoundSteps.{outcome_cases}
use Rattle.ledger_laws.proofs.EachCommand.{answer_goes}
use Rattle.ledger_laws.proofs.Stored.{refused_goes}
use Rattle.ledger_laws.proofs.shared.Stored.{Goes, on, begun, swapped}

module _ (half : Half) (s : State) (a : ℕ) where
  -- each command
  pub row_goes : (c : Command) (reply : Reply) (used : List Held) (s' : State) → Outcomes half s a c reply used s'
      → Goes half c (own_forms half s a c) s s'
  row_goes c reply used s' o =
      ⊎_elim (λ r. on (refused_goes half s a c s' r)) (λ g. answer_goes half s a c reply used s' g) (outcome_cases half s a c reply used s' o)

-- what is found after a step was found before, or is a form of the command's own under its hash
pub goes_adds : (half : Half) (c : Command) (own : List Bytes) (s s' : State) → Goes half c own s s' → (h : Hash) (form : Bytes)
    → form_in s' h ≡ Some form → (form_in s h ≡ Some form) ⊎ ((h ≡ half form) × Contains own form)
goes_adds half c own s s' (on g) h form e = g.stores.adds h form e
goes_adds half c own s s' (begun g shades) h form e = g.adds h form e
goes_adds half c own s s' (swapped is w) h form e = inl (w.fewer h form e)

-- what a command that sees no sessions finds stays
pub beside_grows : (half : Half) (s s' : State) (a : ℕ) (c : Command) (reply : Reply) (used : List Held) → IsBeside c
    → Outcomes half s a c reply used s' → Grows (form_in s) (form_in s')
beside_grows half s s' a c reply used is o = at (row_goes half s a c reply used s' o)
  where
    at : Goes half c (own_forms half s a c) s s' → Grows (form_in s) (form_in s')
    at (on g) = g.stores.grows
    at (begun g shades) = g.grows
    at (swapped same w) = absurd (subst IsBeside same is)
