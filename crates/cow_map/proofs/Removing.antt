-- A link that is left stands for the entries without the key.
use Rattle.std.proofs.Common.{◌≡◌, ◌≢◌, ℕ, suc, ◌-◌, ◌<◌, Bool, true, false, List, [], ◌∷◌, ◌++◌, length, Option, None, Some, refl, sym}
use Rattle.std.proofs.Common.{ap, ◌∙◌, subst, arith, IsTrue, IsSome, slice_index_or, append_assoc, length-append, cond}
use Rattle.std.specs.Prelude.{slice_set, MatchOption}
use Rattle.std.specs.BTreeMap.{is_at}
use Rattle.std.specs.Ordering.{is_eq}
use Rattle.nib_path.specs.Paths.{lies_under}
use Rattle.ledger_spec.specs.declared.Kind.{Kind}
use Rattle.ledger_spec.specs.Bytes.{Bytes, Hash, Half, Lookup}
use Rattle.ledger_spec.specs.Maps.{hash_cmp, get_in, remove_in}
use Rattle.ledger_spec.specs.Tree.{Entry}
use Rattle.cow_map.specs.declared.link.Link.{Link}
use Rattle.cow_map.specs.declared.link.Link.TheVariants.{Empty}
use Rattle.cow_map.specs.Bodies.{Body, IsBelow, AreBodies}
use Rattle.cow_map.specs.Trees.{none, one, fork, found_at, Forks, IsOne, StandsAt}
use Rattle.cow_map.specs.Edits.{IsSub, Settles, Removes, IsBelowIf, GrowsBy}
use Rattle.cow_map.proofs.Leading.{fork_below}
use Rattle.cow_map.proofs.Branches.{AllUnder, with_kid, get_kids, remove_kids}
use Rattle.cow_map.proofs.shared.Standing.{Below, stands_into, stands_under, stands_grows}
use Rattle.cow_map.proofs.Standing.{found_small, each_set}
use Rattle.cow_map.proofs.shared.Planting.{empty_stands, one_lower}
use Rattle.cow_map.proofs.Putting.{equal_self}
use Rattle.cow_map.proofs.Getting.{same_key, other_key, none_gets, leaf_gets, fork_gets}

-- without a key that isn't there
pub remove_absent : (items : List Entry) (key : Hash) → get_in hash_cmp items key ≡ None → remove_in hash_cmp items key ≡ items
remove_absent [] key none_there = refl
remove_absent (e ∷ items) key none_there = by (is_at (hash_cmp key) e.0) refl none_there (remove_absent items key)
  where
    by : (t : Bool) → is_at (hash_cmp key) e.0 ≡ t → get_in hash_cmp (e ∷ items) key ≡ None
        → (get_in hash_cmp items key ≡ None → remove_in hash_cmp items key ≡ items) → remove_in hash_cmp (e ∷ items) key ≡ e ∷ items
    by true is none_there rest = let some : Some e.1 ≡ None = sym (ap (λ t. cond t (Some e.1) (get_in hash_cmp items key)) is)
        ∙ none_there in cc
    by false is none_there rest =
        ap (λ t. cond t items (e ∷ remove_in hash_cmp items key)) is
        ∙ ap (λ es. e ∷ es) (rest (sym (ap (λ t. cond t (Some e.1) (get_in hash_cmp items key)) is) ∙ none_there))

remove_one : (own key : Hash) (bytes : Bytes) → own ≡ key → remove_in hash_cmp ((own, bytes) ∷ []) key ≡ []
remove_one own key bytes same =
    let equal : is_at (hash_cmp key) own ≡ true = ap (λ k. is_at (hash_cmp key) k) same ∙ ap is_eq (equal_self key) in
    ap (λ t. cond t [] ((own, bytes) ∷ [])) equal

some_is : (o : Option Bytes) (b : Bytes) → Some b ≡ o → IsSome o
some_is o b e = subst IsSome e refl

module _ (half : Half) (stored : Lookup) (kind : Kind) (before : List Body) (path : List ℕ) (link : Link) (key : Hash) where
  -- where nothing stands
  pub none_removes : (left : ℕ) → found_at half stored kind before path link ≡ none
      → Removes half stored kind before before left path link key None
  none_removes left found small sub items stands =
      sym (none_gets half small kind before path link key left
      (found_small half small stored kind before left path link items sub stands ∙ found) items stands)

  -- where a leaf stands
  pub leaf_removes : (left : ℕ) (own : Hash) (bytes : Bytes) (r : Option Link)
      → found_at half stored kind before path link ≡ one own bytes → MatchOption r (own ≢ key) (λ l. (l ≡ Empty) × (own ≡ key))
      → Removes half stored kind before before left path link key r
  leaf_removes left own bytes None found apart =
      λ small sub items stands. sym
      (leaf_gets half small kind before path link key left own bytes None
      (found_small half small stored kind before left path link items sub stands ∙ found) (other_key own key bytes apart) items stands)
  leaf_removes left own bytes (Some l) found same = λ small sub items stands.
      let found_is : found_at half small kind before path link ≡ one own bytes =
      found_small half small stored kind before left path link items sub stands ∙ found in
      let leaf_is : IsOne path own bytes items = stands_into half small kind before left path link items (one own bytes) found_is stands in
      let gone : remove_in hash_cmp items key ≡ [] = ap (λ (es : List Entry). remove_in hash_cmp es key) leaf_is.alone
      ∙ remove_one own key bytes same.1 in (
        some_is _ bytes (leaf_gets half small kind before path link key left own bytes (Some bytes) found_is
            (same_key own key bytes same.1) items stands),
        subst (λ (es : List Entry). StandsAt half small kind before left path l es) (sym gone)
            (subst (λ x. StandsAt half small kind before left path x []) (sym same.0) (empty_stands half small kind before left path)),
      )

  -- below a branch: it isn't there
  pub fork_absent : (other : Lookup) (after : List Body) (p : List ℕ) (l : Link) (links : List Link) (b : ℕ) → other ≡ stored
      → found_at half stored kind before path link ≡ fork links → length path < 64 → b < 16 → IsTrue (lies_under (path ++ b ∷ []) key)
      → p ≡ path ++ b ∷ [] → l ≡ slice_index_or links b Empty → Removes half other kind before after (64 - length p) p l key None
      → (end : List Body) → Removes half stored kind before end (64 - length path) path link key None
  fork_absent other after p l links b same found low in_16 under at_p at_l absent end small sub items stands =
      sym (fork_gets half small kind before path link key small p l links b None refl
      (found_small half small stored kind before (64 - length path) path link items sub stands ∙ found) low in_16 under at_p at_l
      (λ es at. sym (absent small (subst (IsSub small) (sym same) sub) es at)) items stands)

  -- it is there, and something is left
  pub fork_removes : (other third : Lookup) (mid after more : List Body) (p : List ℕ) (l next left_link : Link)
      (links changed : List Link) (b : ℕ) → other ≡ stored → third ≡ stored → mid ≡ before ++ more → AreBodies before
      → IsBelow (length before) link → found_at half stored kind before path link ≡ fork links → length path < 64 → b < 16
      → IsTrue (lies_under (path ++ b ∷ []) key) → p ≡ path ++ b ∷ [] → l ≡ slice_index_or links b Empty
      → changed ≡ slice_set links b next → Removes half other kind before mid (64 - length p) p l key (Some next)
      → Settles half third kind mid after (63 - length path) path changed left_link
      → Removes half stored kind before after (64 - length path) path link key (Some left_link)
  fork_removes other third mid after more p l next left_link links changed b same same_third grown bodies in_before found low in_16 under
      at_p at_l at_changed removes settles small sub items stands =
      let found_is : found_at half small kind before path link ≡ fork links =
      found_small half small stored kind before (64 - length path) path link items sub stands ∙ found in
      let q = path ++ b ∷ [] in
      let lower = 64 - length q in
      let s1 = subst (λ st. Removes half st kind before mid (64 - length p) p l key (Some next)) same removes in
      let s2 = subst (λ u. Removes half stored kind before mid (64 - length u) u l key (Some next)) at_p s1 in
      let s3 = subst (λ x. Removes half stored kind before mid lower q x key (Some next)) at_l s2 in
      let lower_is : 63 - length path ≡ lower = omega (arith, one_lower path b low) in
      let g1 = subst (λ st. Settles half st kind mid after (63 - length path) path changed left_link) same_third settles in
      let g2 = subst (λ n. Settles half stored kind mid after n path changed left_link) lower_is g1 in
      let g3 = subst (λ ls. Settles half stored kind mid after lower path ls left_link) at_changed g2 in
      let forks : Forks (Below half small kind before (suc lower) path) path links items =
      stands_into half small kind before (suc lower) path link items (fork links) found_is
      (subst (λ n. StandsAt half small kind before n path link items) (one_lower path b low) stands) in
      let kids_under : (c : ℕ) → c < 16 → AllUnder (path ++ c ∷ []) (forks.kids c) =
      λ c in_c. stands_under half small kind before lower (path ++ c ∷ []) (slice_index_or links c Empty) (forks.kids c)
      (forks.each c in_c) in
      let here = s3 small sub (forks.kids b) (forks.each b in_16) in
      let others : (c : ℕ) → c < 16 → StandsAt half small kind mid lower (path ++ c ∷ []) (slice_index_or links c Empty) (forks.kids c) =
      λ c in_c. subst (λ ns. StandsAt half small kind ns lower (path ++ c ∷ []) (slice_index_or links c Empty) (forks.kids c)) (sym grown)
      (stands_grows half small kind before more bodies lower (path ++ c ∷ []) (slice_index_or links c Empty) (forks.kids c)
      (fork_below half small kind before bodies path link links in_before found_is c) (forks.each c in_c)) in
      let within : b < length links = omega (arith, forks.width) in
      let joined = ap (λ (es : List Entry). remove_in hash_cmp es key) forks.joined
      ∙ remove_kids path key b forks.kids in_16 under kids_under in (
        subst IsSome (sym (ap (λ (es : List Entry). get_in hash_cmp es key) forks.joined
            ∙ get_kids path key b forks.kids in_16 under kids_under)) here.0,
        subst (λ n. StandsAt half small kind after n path left_link (remove_in hash_cmp items key)) (sym (one_lower path b low))
            (g3 small sub (remove_in hash_cmp items key) (with_kid b (remove_in hash_cmp (forks.kids b) key) forks.kids) (
              joined,
              λ c in_c. each_set (λ d x es. StandsAt half small kind mid lower (path ++ d ∷ []) x es) links forks.kids b next
                  (remove_in hash_cmp (forks.kids b) key) within here.1 c (λ apart. others c in_c),
            )),
      )

pub below_if : (n : ℕ) (r : Option Link) (own key : Hash) → MatchOption r (own ≢ key) (λ l. (l ≡ Empty) × (own ≡ key)) → IsBelowIf n r
below_if n None own key h = tt
below_if n (Some l) own key h = subst (IsBelow n) (sym h.0) tt

-- a list that has grown twice
pub grows_both : (before mid after : List Body) (path p : List ℕ) (b : ℕ) → length path < 64 → p ≡ path ++ b ∷ []
    → GrowsBy (64 - length p) before mid → GrowsBy 1 mid after → GrowsBy (64 - length path) before after
grows_both before mid after path p b low at first second = (
  first.0 ++ second.0,
  second.1 ∙ ap (λ ns. ns ++ second.0) first.1 ∙ append_assoc before first.0 second.0,
  omega (arith, first.2, second.2, ap length at, length-append path (b ∷ []), length-append first.0 second.0),
)
