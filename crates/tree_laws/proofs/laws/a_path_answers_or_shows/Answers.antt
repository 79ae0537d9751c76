use Rattle.tree_laws.proofs.shared.PathLaw.{answers_or_shows}
use Rattle.tree_laws.proofs.laws.a_path_answers_or_shows.Goals as goal

pub returns : goal.returns
returns c = λ half is. answers_or_shows half is.size
