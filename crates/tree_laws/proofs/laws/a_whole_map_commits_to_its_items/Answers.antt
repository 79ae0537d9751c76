use Rattle.tree_laws.proofs.shared.WholeLaw.{map_commits}
use Rattle.tree_laws.proofs.laws.a_whole_map_commits_to_its_items.Goals as goal

pub returns : goal.returns
returns c = map_commits
