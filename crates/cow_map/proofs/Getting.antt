-- What is read of a link is what it stands for has.
use Rattle.std.proofs.Common.{◌≡◌, ◌≢◌, ℕ, suc, ◌-◌, ◌<◌, true, cond, List, [], ◌∷◌, ◌++◌, length, Option, None, Some, refl, sym, ap, ◌∙◌}
use Rattle.std.proofs.Common.{subst, IsTrue, slice_index_or}
use Rattle.std.specs.Ordering.{is_eq}
use Rattle.std.specs.BTreeMap.{is_at}
use Rattle.std.specs.declared.cmp.Ordering.{Ordering}
use Rattle.std.specs.declared.cmp.Ordering.TheVariants.{Less, Equal, Greater}
use Rattle.std.specs.FinMap.{nat_cmp-IsAntisymmetric, slice_cmp-IsAntisymmetric}
use Rattle.nib_path.specs.Paths.{lies_under}
use Rattle.ledger_spec.specs.declared.Kind.{Kind}
use Rattle.ledger_spec.specs.Bytes.{Bytes, Hash, Half, Lookup}
use Rattle.ledger_spec.specs.Maps.{hash_cmp, get_in}
use Rattle.cow_map.specs.declared.link.Link.{Link}
use Rattle.cow_map.specs.declared.link.Link.TheVariants.{Empty}
use Rattle.cow_map.specs.Bodies.{Body}
use Rattle.cow_map.specs.Trees.{none, one, fork, found_at, Forks, IsOne, StandsAt}
use Rattle.cow_map.specs.Edits.{Gets}
use Rattle.cow_map.proofs.Branches.{AllUnder, get_kids}
use Rattle.cow_map.proofs.shared.Standing.{Below, stands_into, stands_under}
use Rattle.cow_map.proofs.shared.Planting.{one_lower}
use Rattle.cow_map.proofs.Putting.{equal_self}

pub same_key : (own key : Hash) (bytes : Bytes) → own ≡ key → Some bytes ≡ get_in hash_cmp ((own, bytes) ∷ []) key
same_key own key bytes same =
    let equal : is_at (hash_cmp key) own ≡ true = ap (λ k. is_at (hash_cmp key) k) same ∙ ap is_eq (equal_self key) in
    sym (ap (λ t. cond t (Some bytes) None) equal)

pub other_key : (own key : Hash) (bytes : Bytes) → own ≢ key → None ≡ get_in hash_cmp ((own, bytes) ∷ []) key
other_key own key bytes apart = by (hash_cmp key own) refl
  where
    by : (o : Ordering) → hash_cmp key own ≡ o → None ≡ get_in hash_cmp ((own, bytes) ∷ []) key
    by Less is = sym (ap (λ o. cond (is_eq o) (Some bytes) None) is)
    by Equal is = absurd (apart (sym (slice_cmp-IsAntisymmetric nat_cmp-IsAntisymmetric key own is)))
    by Greater is = sym (ap (λ o. cond (is_eq o) (Some bytes) None) is)

module _ (half : Half) (stored : Lookup) (kind : Kind) (nodes : List Body) (path : List ℕ) (link : Link) (key : Hash) where
  pub none_gets : (left : ℕ) → found_at half stored kind nodes path link ≡ none → Gets half stored kind nodes left path link key None
  none_gets left found items stands =
      let nothing : items ≡ [] = stands_into half stored kind nodes left path link items none found stands in
      ap (λ es. get_in hash_cmp es key) (sym nothing)

  pub leaf_gets : (left : ℕ) (own : Hash) (bytes : Bytes) (r : Option Bytes) → found_at half stored kind nodes path link ≡ one own bytes
      → r ≡ get_in hash_cmp ((own, bytes) ∷ []) key → Gets half stored kind nodes left path link key r
  leaf_gets left own bytes r found is items stands =
      let leaf_is : IsOne path own bytes items = stands_into half stored kind nodes left path link items (one own bytes) found stands in
      is ∙ ap (λ es. get_in hash_cmp es key) (sym leaf_is.alone)

  pub fork_gets : (other : Lookup) (p : List ℕ) (l : Link) (links : List Link) (b : ℕ) (r : Option Bytes) → other ≡ stored
      → found_at half stored kind nodes path link ≡ fork links → length path < 64 → b < 16 → IsTrue (lies_under (path ++ b ∷ []) key)
      → p ≡ path ++ b ∷ [] → l ≡ slice_index_or links b Empty → Gets half other kind nodes (64 - length p) p l key r
      → Gets half stored kind nodes (64 - length path) path link key r
  fork_gets other p l links b r same found low in_16 under at_p at_l gets items stands =
      let q = path ++ b ∷ [] in
      let s1 = subst (λ st. Gets half st kind nodes (64 - length p) p l key r) same gets in
      let s2 = subst (λ u. Gets half stored kind nodes (64 - length u) u l key r) at_p s1 in
      let s3 = subst (λ x. Gets half stored kind nodes (64 - length q) q x key r) at_l s2 in
      let forks : Forks (Below half stored kind nodes (suc (64 - length q)) path) path links items =
      stands_into half stored kind nodes (suc (64 - length q)) path link items (fork links) found
      (subst (λ n. StandsAt half stored kind nodes n path link items) (one_lower path b low) stands) in
      let kids_under : (c : ℕ) → c < 16 → AllUnder (path ++ c ∷ []) (forks.kids c) =
      λ c in_c. stands_under half stored kind nodes (64 - length q) (path ++ c ∷ []) (slice_index_or links c Empty) (forks.kids c)
      (subst (λ n. StandsAt half stored kind nodes n (path ++ c ∷ []) (slice_index_or links c Empty) (forks.kids c)) refl
      (forks.each c in_c)) in
      s3 (forks.kids b) (forks.each b in_16)
      ∙ sym (ap (λ es. get_in hash_cmp es key) forks.joined ∙ get_kids path key b forks.kids in_16 under kids_under)
