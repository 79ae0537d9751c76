use Rattle.std.proofs.Common.{ap, ◌∙◌}
use Rattle.nib_path.specs.Paths.{nibble_of}
use Rattle.cow_map.proofs.shared.Keys.{under_branch}
use Rattle.cow_map.proofs.step.toward.Goals as goal

pub returns-clause-under : goal.returns-clause-under
returns-clause-under c under =
    under_branch c.args.id.now c.args.key.now c.nibble.result c.depth.result c.known.ensures under c.requires c.depth.ensures
    (c.nibble.ensures.value ∙ ap (λ k. nibble_of k c.depth.result) c.key.view_is)
