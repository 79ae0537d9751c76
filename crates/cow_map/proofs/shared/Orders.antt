-- Keys below a later branch are greater. For proofs of other crates.
use Rattle.std.proofs.Common.{◌≡◌, ℕ, ◌<◌, List, [], ◌∷◌, ◌++◌, ap, ◌∙◌, IsTrue}
use Rattle.std.specs.Ordering.{ordering_reverse}
use Rattle.std.specs.declared.cmp.Ordering.TheVariants.{Greater}
use Rattle.std.specs.Cmp.Lexicographic.{nat_list_cmp_total}
use Rattle.ledger_spec.specs.Maps.{hash_cmp}
use Rattle.nib_path.specs.Paths.{lies_under}
use Rattle.cow_map.proofs.Orders.{branch_less}

pub branch_greater : (path : List ℕ) (b c : ℕ) (k l : List ℕ) → IsTrue (lies_under (path ++ b ∷ []) k)
    → IsTrue (lies_under (path ++ c ∷ []) l) → c < b → hash_cmp k l ≡ Greater
branch_greater path b c k l under over h = nat_list_cmp_total.antisymm k l ∙ ap ordering_reverse (branch_less path c b l k over under h)
