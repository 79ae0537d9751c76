use Rattle.std.proofs.Common.{arith, rules}
use Rattle.std.proofs.lemmas.Grind.{common_steps}
use Rattle.log_shelf.proofs.Backends.{log-withstands}
use Rattle.log_shelf.proofs.backend.LogBackendBackend.next.Goals as goal

pub returns-clause-left : goal.returns-clause-left
returns-clause-left g c = record {
  device = record {
    numbered = first_of (search rules, grind (arith, common_steps));
    later = first_of (search rules, grind (arith, common_steps));
    cause = first_of (search rules, grind (arith, common_steps));
  };
  rose = first_of (search rules, grind (arith, common_steps));
  stop = log-withstands c.args.self.now.log;
}
