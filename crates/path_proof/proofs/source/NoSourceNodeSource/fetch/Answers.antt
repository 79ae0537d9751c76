-- an empty map has nothing at a hash
use Rattle.std.specs.FinMap.{get-empty}
use Rattle.ledger_spec.specs.Maps.{hash_cmp}
use Rattle.path_proof.proofs.source.NoSourceNodeSource.fetch.Goals as goal

pub returns-clause-exact : goal.returns-clause-exact
returns-clause-exact g c = get-empty hash_cmp c.args.h.now
