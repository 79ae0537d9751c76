use Rattle.tree_laws.proofs.shared.WholeLaw.{ledger_commits}
use Rattle.tree_laws.proofs.laws.a_whole_ledger_commits_to_its_items.Goals as goal

pub returns : goal.returns
returns c = ledger_commits
