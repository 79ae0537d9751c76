use Rattle.std.proofs.Common.{refl, subst, ◌-◌, length}
use Rattle.half_hash.specs.Half.{sha512_half}
use Rattle.cow_map.specs.Edits.{SettlesAt}
use Rattle.cow_map.specs.Gathered.{nothing_held}
use Rattle.cow_map.proofs.shared.Gathered.{nothing_sub}
use Rattle.cow_map.proofs.gathering.top_over.Goals as goal

pub returns-in-Ok-clause-stands : goal.returns-in-Ok-clause-stands
returns-in-Ok-clause-stands c =
    subst (λ p. SettlesAt sha512_half nothing_held c.args.kind c.args.nodes.now c.settle.new.arena (63 - length p) p c.args.links
    c.in-Ok.top) c.root-root.ensures
    (c.in-Ok.ensures.stands.stands refl nothing_held (nothing_sub _))
