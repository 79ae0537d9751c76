use Rattle.std.proofs.Common.{◌≡◌, ℕ, ◌<◌, Bool, true, false, IsTrue, Option, Some, None, sym, refl, arith}
use Rattle.std.specs.Prelude.{MatchOption, is_some}
use mathlib.Core.Bool.{not}
use Rattle.std.proofs.lemmas.Bool.{false≢true}
use Rattle.store_core.proofs.Journals.{kept_done, kept_past, kept_undone, moved, moved_end}
use Rattle.store_core.proofs.core_calls.Core.is_finished.Goals as goal

-- a search for the actor's next line tells whether it is done
told_by : (o : Option ℕ) (r : Bool) (P D : Type 0) (Q : ℕ → Type 0) → is_some o ≡ not r → MatchOption o P Q → (P → D)
    → ((at : ℕ) → Q at → D → ⊥) → (IsTrue r → D) × (D → IsTrue r)
told_by None true P D Q is found none some = ((λ _. none found), (λ _. refl))
told_by None false P D Q is found none some = absurd (false≢true is)
told_by (Some at) true P D Q is found none some = absurd (false≢true (sym is))
told_by (Some at) false P D Q is found none some = ((λ t. absurd (false≢true t)), (λ d. absurd (some at found d)))

-- the lines are those of 64 actors, so an actor past the last one has none
pub returns-then-actor-len : goal.returns-then-actor-len
returns-then-actor-len g c = (
  (λ _. rw (← c.self.view_is)
      (kept_past _ _ _ _ _ _ _ _ _ _ _ _ c.self.invariant.0 c.args.actor
      (omega (arith, c.self.invariant.0.cursor_count, c.len.ensures, c.if-actor-len.true)))),
  (λ _. refl),
)

-- the actor has answered its lines before its cursor, so it is done exactly where none of its lines stands from there on
pub returns : goal.returns
returns g c =
    let k = c.self.invariant.0 in
    let lt : c.args.actor < 64 = omega (arith, k.cursor_count, c.len.ensures, c.if-actor-len.false) in
    told_by c.next_of.result c.is_none.result _ _ _ c.is_none.ensures c.next_of.ensures
    (λ none. rw (← c.self.view_is)
    (kept_done _ _ _ _ _ _ _ _ _ _ _ _ k c.args.actor lt
    (moved_end c.self.inside.cursors.items c.deref.ensures.value c.index-from.ensures refl refl
    (omega (arith, k.cursor_count, lt)) none)))
    (λ at next done. kept_undone _ _ _ _ _ _ _ _ _ _ _ _ k c.args.actor at lt
    (moved c.self.inside.cursors.items c.deref.ensures.value c.index-from.ensures refl refl (omega (arith, k.cursor_count, lt)) next)
    (rw (← c.self.view_is) at done))
