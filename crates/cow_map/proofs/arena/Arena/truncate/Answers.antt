use Rattle.std.proofs.Common.{◌∙◌, ap, sym, subst, take}
use Rattle.cow_map.specs.Bodies.{AreBodies}
use Rattle.cow_map.proofs.Pushing.{bodies_fewer, are_fewer}
use Rattle.cow_map.proofs.arena.Arena.truncate.Goals as goal

pub invariant_of-self : goal.invariant_of-self
invariant_of-self c = subst AreBodies (sym (bodies_fewer _ _ c.args.n c.truncate.ensures.items)) (are_fewer _ c.args.n c.self.invariant)

pub returns : goal.returns
returns c = bodies_fewer _ _ c.args.n c.truncate.ensures.items ∙ ap (take c.args.n) c.self.view_is
