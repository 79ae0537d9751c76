use Rattle.run_words.proofs.Reading.{SoFar}
use Rattle.run_words.proofs.options.read_options.Given as goal

abbrev pub invariant-loop-word : goal.invariant-loop-word
invariant-loop-word l = SoFar l.words l.word-index l.reader.given l.reader.awaiting
