use Rattle.std.proofs.Common.{length}
use Rattle.script_form.proofs.Cuts.{Cuts}
use Rattle.script_form.proofs.words.put_words.Given as goal

abbrev pub invariant-loop-words : goal.invariant-loop-words
invariant-loop-words l = Cuts l.text l.words.items l.rest

abbrev pub decreases-loop-words : goal.decreases-loop-words
decreases-loop-words l = length l.rest
