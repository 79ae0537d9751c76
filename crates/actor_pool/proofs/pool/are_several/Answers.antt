-- where no line is another actor's than the first line's, all are of one actor, and the first line is one of them
use Rattle.std.proofs.Common.{◌≡◌, ℕ, false, sym, ◌∙◌, arith}
use Rattle.ledger_machine.specs.declared.commands.Line.{Line}
use Rattle.std.specs.Prelude.{◌==◌, not}
use Rattle.std.proofs.lemmas.Bool.Decides.{nat_tests}
use Rattle.actor_pool.proofs.Several.{of_one, none_other}
use Rattle.actor_pool.proofs.pool.are_several.Goals as goal

alone : (a : ℕ) (l : Line) → not (l.actor == a) ≡ false → l.actor ≡ a
alone a l e = grind (arith, nat_tests)

same : (a : ℕ) (l : Line) → l.actor ≡ a → not (l.actor == a) ≡ false
same a l e = grind (arith, nat_tests)

pub returns-in-Some : goal.returns-in-Some
returns-in-Some c =
    let a = c.in-Some.first.now.actor in
    let it = c.in-Some.ensures.item in (
      (λ none. (a, of_one a (λ l. not (l.actor == a)) (alone a) (same a) c.args.lines.now (sym c.has_others.ensures ∙ none))),
      (λ one. c.has_others.ensures ∙ none_other a (λ l. not (l.actor == a)) (alone a) (same a) c.args.lines.now
          (λ l there. one.1 l there ∙ sym (one.1 c.in-Some.first.now (0, it.3.0, sym (it.3.1 c.in-Some.first.now))))),
    )
