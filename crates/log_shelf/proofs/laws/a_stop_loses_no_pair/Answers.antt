use Rattle.log_shelf.proofs.Stopped.{loses_no_pair}
use Rattle.log_shelf.proofs.laws.a_stop_loses_no_pair.Goals as goal

pub returns : goal.returns
returns g c = loses_no_pair c.args.shelf.now
