use Rattle.std.specs.Prelude.{is_none}
use Rattle.std.proofs.Common.{arith, rules}
use Rattle.std.proofs.lemmas.Grind.{common_steps}
use Rattle.log_shelf.specs.Shelves.{numbers_of}
use Rattle.log_shelf.proofs.Manifests.{log-live}
use Rattle.log_shelf.proofs.shelf.LogShelfShelf.fresh.Goals as goal

pub returns-clause-left : goal.returns-clause-left
returns-clause-left g c =
    let shelf = c.make-outcome.new.self in
    record {
      counts = record {
        later = first_of (search rules, grind (arith, common_steps));
        cause = first_of (search rules, grind (arith, common_steps));
      };
      stop = log-live shelf.live.items (numbers_of shelf.spent.items) shelf.made (is_none shelf.broken) shelf.manifest shelf.listed;
    }
