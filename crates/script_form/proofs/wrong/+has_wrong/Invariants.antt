use Rattle.std.proofs.Common.{length}
use Rattle.script_form.proofs.wrong.+has_wrong.Given as goal

abbrev pub decreases-has_wrong : goal.decreases-has_wrong
decreases-has_wrong l = length l.arguments.now
