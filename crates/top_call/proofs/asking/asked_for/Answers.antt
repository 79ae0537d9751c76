-- the words say nothing else, and what they say lies in its ranges
use Rattle.run_words.specs.Options.{texts}
use Rattle.top_call.proofs.Asked.{apart_by, planned_by, asks_nothing}
use Rattle.top_call.proofs.asking.asked_for.Goals as goal

pub returns-in-Ok-clause-plan : goal.returns-in-Ok-clause-plan
returns-in-Ok-clause-plan c = planned_by (texts c.args.words.now) c.in-Ok.asked c.in-Ok.ensures.says

pub returns-in-Ok-clause-apart : goal.returns-in-Ok-clause-apart
returns-in-Ok-clause-apart c = apart_by (texts c.args.words.now) c.in-Ok.asked c.in-Ok.ensures.says

pub returns-in-Err-clause-command : goal.returns-in-Err-clause-command
returns-in-Err-clause-command c = asks_nothing (texts c.args.words.now) c.in-Err.ensures.says
