use Rattle.std.proofs.Common.{arith}
use Rattle.cow_map.proofs.Places.{of_hashes}
use Rattle.cow_map.proofs.link.Links.of_inner.Goals as goal

pub returns : goal.returns
returns c =
    of_hashes c.args.table c.args.inner.now.hashes c.loop-b.places c.requires c.loop-b.invariant.count c.args.inner.now.valid.count
    (λ k low. c.loop-b.invariant.done k (omega (arith, c.loop-b-test.false, low)))
