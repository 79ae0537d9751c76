use Rattle.tree_laws.proofs.shared.StorePages.{page_of_store}
use Rattle.tree_laws.proofs.laws.a_page_is_the_stores.Goals as goal

pub returns : goal.returns
returns c = page_of_store
