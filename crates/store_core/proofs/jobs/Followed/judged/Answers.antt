use Rattle.store_core.proofs.Handing.{judged_by}
use Rattle.store_core.proofs.jobs.Followed.judged.Goals as goal

pub returns-in-Some : goal.returns-in-Some
returns-in-Some g c = judged_by c.args.got c.in-Ok.answer c.in-Some.outcome c.new.result c.args.job.now c.in-Ok.is c.new.ensures
