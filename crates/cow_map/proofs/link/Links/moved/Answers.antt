use Rattle.std.proofs.Common.{arith}
use Rattle.cow_map.specs.declared.link.Link.TheVariants.{Empty}
use Rattle.cow_map.specs.Gathered.{moved_link}
use Rattle.cow_map.proofs.Places.{mapped}
use Rattle.cow_map.proofs.link.Links.moved.Goals as goal

pub returns : goal.returns
returns c =
    mapped (moved_link c.args.n) c.args.self.now Empty c.loop-b.links c.loop-b.invariant.count c.known.ensures
    (λ k low. c.loop-b.invariant.done k (omega (arith, c.loop-b-test.false, low)))
