use Rattle.std.proofs.Common.{arith, rules}
use Rattle.std.proofs.lemmas.Grind.{common_steps}
use Rattle.log_shelf.proofs.Backends.{log-withstands}
use Rattle.log_shelf.proofs.backend.LogBackendBackend.get_into.Goals as goal

pub returns-in_err-room-in-Some-clause-left : goal.returns-in_err-room-in-Some-clause-left
returns-in_err-room-in-Some-clause-left g c = record {
  device = record {
    numbered = first_of (search rules, grind (arith, common_steps));
    later = first_of (search rules, grind (arith, common_steps));
    cause = first_of (search rules, grind (arith, common_steps));
  };
  rose = first_of (search rules, grind (arith, common_steps));
  stop = log-withstands c.bytes-outcome.new.self;
}

pub returns-in-None-clause-left : goal.returns-in-None-clause-left
returns-in-None-clause-left g c = record {
  device = record {
    numbered = first_of (search rules, grind (arith, common_steps));
    later = first_of (search rules, grind (arith, common_steps));
    cause = first_of (search rules, grind (arith, common_steps));
  };
  rose = first_of (search rules, grind (arith, common_steps));
  stop = log-withstands c.args.self.now.log;
}

pub returns-in_ok-room-in-Some-clause-left : goal.returns-in_ok-room-in-Some-clause-left
returns-in_ok-room-in-Some-clause-left g c = record {
  device = record {
    numbered = first_of (search rules, grind (arith, common_steps));
    later = first_of (search rules, grind (arith, common_steps));
    cause = first_of (search rules, grind (arith, common_steps));
  };
  rose = first_of (search rules, grind (arith, common_steps));
  stop = log-withstands c.bytes-outcome.new.self;
}
