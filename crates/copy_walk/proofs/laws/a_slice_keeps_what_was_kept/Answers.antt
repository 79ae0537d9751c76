use Rattle.copy_walk.proofs.Moving.{slice_kept}
use Rattle.copy_walk.proofs.laws.a_slice_keeps_what_was_kept.Goals as goal

pub returns : goal.returns
returns c = λ s s' slices rule h. slice_kept s s' slices rule h
