use Rattle.std.proofs.Common.{ap, refl, take, Bool}
use Rattle.log_shelf.specs.Backends.{nodes_of, held_in, pair_in_doubt}
use Rattle.log_shelf.proofs.Backends.{shows-empty}
use Rattle.log_shelf.proofs.backend.LogBackend.over.Goals as goal

pub invariant_of-result : goal.invariant_of-result
invariant_of-result g c = record {
  own = c.requires.numbered;
  indexed = shows-empty c.new.result (take c.args.log.tail (g.D.Disk.seen c.args.log.disk)) (held_in c.args.log.tail (g.D.Disk.seen
      c.args.log.disk)) c.new.ensures (ap nodes_of c.requires.told);
}

pub returns-clause-backend : goal.returns-clause-backend
returns-clause-backend g c = record {
  number = refl;
  empty = ap nodes_of c.requires.told;
  sure = ap (λ (b : Bool). pair_in_doubt c.args.log.tail b (g.D.Disk.seen c.args.log.disk)) c.requires.sure;
  uncounted = (refl, refl);
}
