use Rattle.std.proofs.Common.{◌≡◌, ◌≤◌, ◌<◌, ◌^◌, ◌+◌, List, length, arith, sym, subst}
use Rattle.std.proofs.lemmas.Grind.{common_steps}
use Rattle.ledger_machine.specs.declared.commands.Line.{Line}
use Rattle.swarm_gen.specs.Serving.{AreLines}
use Rattle.swarm_gen.proofs.Servings.{lines_more}
use Rattle.swarm_gen.proofs.lines.Lines.push.Goals as goal

-- the next number, of a known actor who waits for an earlier line
pub invariant_of-self-2 : goal.invariant_of-self-2
invariant_of-self-2 c =
    let number : c.in_ok-number.number ≡ length c.self.inside.lines.items + 1 = grind (arith, common_steps) in
    let few : c.in_ok-number.number < 2 ^ 32 = search in
    let earlier : c.args.after ≤ length c.self.inside.lines.items =
    subst (λ (xs : List Line). c.args.after ≤ length xs) (sym c.self.view_is) c.requires.earlier in
    subst AreLines (sym c.in_ok-push.ensures.items) (lines_more _ _ c.self.invariant c.requires.actor number few earlier c.requires.range)
