use Rattle.tree_laws.proofs.shared.MapPages.{page_or_shows}
use Rattle.tree_laws.proofs.laws.a_page_answers_or_shows.Goals as goal

pub returns : goal.returns
returns c = λ half is. page_or_shows half is.size
