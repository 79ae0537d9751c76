-- Each root stays one that was told to the rotation under way, as commands change what is listed, viewed, edited and wanted.
use Rattle.std.proofs.Common.{◌≡◌, ⊎_elim, ℕ, List}
use Rattle.std.proofs.Common.{Option, None, Some, Contains, is_some, IsSome, IfSome, refl, sym, ap, ◌∙◌, subst}
use Rattle.ledger_spec.specs.Bytes.{Hash, Half}
use Rattle.ledger_spec.specs.Forms.{Held}
use Rattle.ledger_machine.specs.declared.commands.Command.{Command}
use Rattle.ledger_machine.specs.declared.commands.Command.TheVariants as command
use Rattle.ledger_machine.specs.declared.commands.WantReply.TheVariants as want
use Rattle.ledger_machine.specs.declared.commands.CloseReply.TheVariants as close
use Rattle.ledger_machine.specs.declared.commands.Reply.{Reply}
use Rattle.ledger_machine.specs.declared.commands.Reply.TheVariants as says
use Rattle.ledger_machine.specs.State.{State, roots, with_forms}
use Rattle.ledger_machine.specs.Rotation.{WhileTurning}
use Rattle.ledger_machine.specs.Rotation.{AreShaded}
use Rattle.ledger_machine.specs.Rotation.{Tells}
use Rattle.ledger_machine.specs.Steps.{Refused, own_hashes}
use Rattle.ledger_machine.specs.Steps.{Does}
use Rattle.ledger_laws.proofs.shared.SoundSteps.{outcome_cases}
use Rattle.core_machine.specs.Telling.{AreTold, Carried}
use Rattle.ledger_machine.specs.Commands.{IsSteady}
use Rattle.ledger_laws.proofs.shared.EachCommand.{row_stands}
use Rattle.ledger_laws.proofs.shared.Roots.{Stands, stands_each, each_stands, after_stands, forms_stand}
use Rattle.core_machine.specs.Commands.{TellsRoot}

module _ (half : Half) (P : Hash → Type 0) (s : State) (each : (h : Hash) → Contains (roots s) h → P h) where
  does_stand : (a : ℕ) (c : Command) (r : Reply) (used : List Held) (s' : State) → IsSteady c
      → ((t : Hash) (seq : ℕ) → c ≡ command.Want t seq → r ≡ says.Want want.Opened → P t)
      → ((x : ℕ) (fields : List ℕ) (h : Hash) → c ≡ command.Close x fields → r ≡ says.Close (close.Closed h) → P h)
      → Does half s a c r used s' → Stands P s.turning s'
  does_stand a c r used s' is opened closes does =
      ⊎_elim
      (λ (f : Refused half s a c s'). after_stands P s.turning (with_forms half s f.forms) s' f.same
      (forms_stand P s.turning half s f.forms (stands_each P s each)))
      (λ g. row_stands half P s each a c r used s' is opened closes g)
      (outcome_cases half s a c r used s' does.outcome)

module _ (half : Half) (s s' : State) (a : ℕ) (c : Command) (r : Reply) (used : List Held) (is : IsSteady c)
    (does : Does half s a c r used s')
    (tells : Tells s s' (own_hashes half s a c r)) (names : TellsRoot s c r s') where
  -- the rotation under way is the same
  turns : s'.turning ≡ s.turning
  turns = (does_stand half (λ h. Unit {0}) s (λ h k. tt) a c r used s' is (λ t q e f. tt) (λ x q h e f. tt) does).4

  all_shaded : IsSome s.turning → AreShaded s → AreShaded s'
  all_shaded some all =
      each_stands (Contains s'.shaded) s.turning s'
      (does_stand half (Contains s'.shaded) s (λ h k. tells.stays h (all h k)) a c r used s' is
      (λ t q e f. subst (λ y. TellsRoot s (command.Want t q) y s') f (subst (λ x. TellsRoot s x r s') e names) some)
      (λ x q h e f. subst (λ y. TellsRoot s (command.Close x q) y s') f (subst (λ z. TellsRoot s z r s') e names) some)
      does)

  -- so each root was told to it, and it was told nothing else but roots and the command's own hashes
  pub told_on : AreTold s → AreTold s' × Carried half s a c r s'
  told_on told = at s.turning refl
    where
      X : Type 0
      X = AreShaded s' × Tells s s' (own_hashes half s a c r)

      at : (o : Option ℕ) → s.turning ≡ o → AreTold s' × Carried half s a c r s'
      at None e = (
        subst (λ p. IfSome p (λ v. AreShaded s')) (sym (turns ∙ e)) tt,
        subst (λ p. WhileTurning p s'.turning X) (sym e) tt,
      )
      at (Some v) e =
          let all : AreShaded s = subst (λ p. IfSome p (λ w. AreShaded s)) e told in
          let all' : AreShaded s' = all_shaded (ap is_some e) all in (
            subst (λ p. IfSome p (λ w. AreShaded s')) (sym (turns ∙ e)) all',
            subst (λ p. WhileTurning p s'.turning X) (sym e)
                (subst (λ q. WhileTurning (Some v) q X) (sym (turns ∙ e)) (all', tells)),
          )
