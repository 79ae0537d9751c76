-- Lines of one actor.
use Rattle.std.proofs.Common.{◌≡◌, ⊎_elim, ℕ, Bool, true, false, ◌||◌, List, [], ◌∷◌, Contains, refl, sym, ap, ◌∙◌, arith}
use Rattle.std.specs.List.{list_any}
use Rattle.std.proofs.lemmas.Bool.{false≢true}
use Rattle.std.proofs.lemmas.List.Elements.{Contains-append_left, Contains-append_right, Contains-append_cases}
use Rattle.ledger_spec.proofs.shared.Storing.{in_nothing, in_one}
use Rattle.ledger_machine.specs.declared.commands.Line.{Line}

-- where a test that finds other actors finds no line, all lines are of one actor, and the other way
module _ (a : ℕ) (test : Line → Bool) (alone : (l : Line) → test l ≡ false → l.actor ≡ a)
    (same : (l : Line) → l.actor ≡ a → test l ≡ false) where
  pub of_one : (lines : List Line) → list_any test lines ≡ false → (l : Line) → Contains lines l → l.actor ≡ a
  of_one [] none l c = absurd (in_nothing c)
  of_one (x ∷ lines) none l c = by (test x) refl none (of_one lines)
    where
      by : (b : Bool) → test x ≡ b → (b || list_any test lines) ≡ false
          → (list_any test lines ≡ false → (l : Line) → Contains lines l → l.actor ≡ a) → l.actor ≡ a
      by true is e rest = absurd (false≢true (sym e))
      by false is e rest =
          ⊎_elim (λ first. ap (λ (y : Line). y.actor) (in_one x l first) ∙ alone x is) (λ later. rest e l later)
          (Contains-append_cases (x ∷ []) lines l c)

  pub none_other : (lines : List Line) → ((l : Line) → Contains lines l → l.actor ≡ a) → list_any test lines ≡ false
  none_other [] all = refl
  none_other (x ∷ lines) all =
      ap (λ b. b || list_any test lines) (same x (all x (Contains-append_left (x ∷ []) lines x (0, omega arith, refl))))
      ∙ none_other lines (λ l c. all l (Contains-append_right (x ∷ []) lines l c))
