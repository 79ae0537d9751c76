use Rattle.std.proofs.Common.{◌<◌, ◌∷◌, ◌++◌, [], List, ℕ, refl, ap, ◌∙◌, arith}
use Rattle.nib_path.specs.Paths.{length_of_view}
use Rattle.nib_path.proofs.Places.{child-IsNodeId, child-path}
use Rattle.nib_path.proofs.NodeId.child.Goals as goal

pub returns-then-self-eq64-clause-none : goal.returns-then-self-eq64-clause-none
returns-then-self-eq64-clause-none c =
    (λ _. length_of_view c.self.inside _ c.self.invariant c.self.view_is ∙ c.if-self-eq64.true, λ _. refl)

pub invariant_of-result : goal.invariant_of-result
invariant_of-result c =
    let room : c.self.inside.depth < 64 = omega (arith, c.self.invariant.shallow) in
    child-IsNodeId c.self.inside c.set_nibble.new.id c.args.b c.self.invariant room c.set_nibble.ensures c.set_nibble.array_long

pub returns-clause-below : goal.returns-clause-below
returns-clause-below c =
    let room : c.self.inside.depth < 64 = omega (arith, c.self.invariant.shallow) in
    child-path c.self.inside c.set_nibble.new.id c.args.b c.self.invariant room c.set_nibble.ensures
    ∙ ap (λ (r : List ℕ). r ++ c.args.b ∷ []) c.self.view_is
