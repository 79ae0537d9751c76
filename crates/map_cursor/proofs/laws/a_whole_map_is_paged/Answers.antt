use Rattle.map_cursor.proofs.WholePages.{whole_page}
use Rattle.map_cursor.proofs.laws.a_whole_map_is_paged.Goals as goal

pub returns : goal.returns
returns c = whole_page
