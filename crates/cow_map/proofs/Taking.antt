-- Items that are taken from the end of a list whose keys rise, branch by branch from the last one on.
use Rattle.std.proofs.Common.{◌≡◌, ◌≢◌, inl, inr, ℕ, suc, ◌+◌, ◌-◌, ◌<◌, ◌≤◌, ◌==◌, Bool, true, false, List, [], ◌∷◌, ◌++◌, length}
use Rattle.std.proofs.Common.{take, None, refl, sym, ap, ◌∙◌, subst, arith, IsTrue, slice_index_or, append_assoc, length-append}
use Rattle.std.proofs.lemmas.Bool.Decides.{nat_tests}
use Rattle.std.specs.Prelude.{slice_set}
use Rattle.std.specs.List.{slice_get, flat_map, range_with_len, AllByRecursion}
use Rattle.std.proofs.Math.ListN.{length-set}
use Rattle.std.proofs.lemmas.List.{length-map}
use Rattle.nib_path.specs.Paths.{lies_under}
use Rattle.ledger_spec.specs.declared.Kind.{Kind}
use Rattle.ledger_spec.specs.declared.Kind.TheVariants.{State}
use Rattle.ledger_spec.specs.Bytes.{Half, Lookup}
use Rattle.ledger_spec.specs.Maps.{hash_cmp, IsMap}
use Rattle.ledger_spec.specs.Tree.{Entry}
use Rattle.shamap_node.specs.declared.parts.Item.{Item}
use Rattle.cow_map.specs.declared.link.Link.{Link}
use Rattle.cow_map.specs.declared.link.Link.TheVariants.{Empty, Own}
use Rattle.cow_map.specs.Bodies.{Body, leaf, inner, IsBelow, AreBodies}
use Rattle.cow_map.specs.Trees.{fewest, Forks, StandsAt}
use Rattle.cow_map.specs.Gathered.{entries_of}
use Rattle.cow_map.specs.Taking.{ends_under, EndUnder, Grows, Gathers}
use Rattle.cow_map.proofs.Leading.{get_last}
use Rattle.cow_map.proofs.shared.Leading.{weaker}
use Rattle.cow_map.proofs.Branches.{AllUnder, with_kid, kid_same, kid_other, flat_same, all_range}
use Rattle.cow_map.proofs.shared.Standing.{Below, stands_grows, stands_under}
use Rattle.cow_map.proofs.Standing.{each_set}
use Rattle.cow_map.proofs.shared.Planting.{below_set, inner_stands, leaf_stands, empty_stands, one_lower}
use Rattle.cow_map.proofs.shared.Gathered.{entries_append}
use Rattle.cow_map.proofs.Ends.{last_or_none, ends_last, front_is, enough_taken, sorted_rest, append_none, still_none}

-- The branches from b on have their items, which are taken, and none of those lies at the end of what is left. The links of the others are free.
pub record Halfway (path : List ℕ) (start rest : List Item) (nodes : List Body) (links : List Link) (b : ℕ) : Type 0 where
  pub taken : List Item
  pub split : start ≡ rest ++ taken
  pub kids : ℕ → List Entry
  pub joined : entries_of taken ≡ flat_map kids (range_with_len b (16 - b))
  pub each : (half : Half) (stored : Lookup) (kind : Kind) (c : ℕ) → b ≤ c → c < 16
      → StandsAt half stored kind nodes (64 - length (path ++ c ∷ [])) (path ++ c ∷ []) (slice_index_or links c Empty) (kids c)
  pub none : (c : ℕ) → b ≤ c → c < 16 → ends_under (path ++ c ∷ []) rest ≡ false
  pub width : length links ≡ 16
  pub below : (c : ℕ) → IsBelow (length nodes) (slice_index_or links c Empty)

no_kids : ℕ → List Entry
no_kids c = []

-- no branch has its items yet
pub halfway_none : (path : List ℕ) (start : List Item) (nodes : List Body) (links : List Link) (b : ℕ) → 16 ≤ b
    → length links ≡ 16 → ((c : ℕ) → IsBelow (length nodes) (slice_index_or links c Empty)) → Halfway path start start nodes links b
halfway_none path start nodes links b high width below =
    let none_of : 16 - b ≡ 0 = omega arith in
    record {
      taken = [];
      split = sym (append_none start);
      kids = no_kids;
      joined = sym (ap (λ n. flat_map no_kids (range_with_len b n)) none_of);
      each = λ half stored kind c low short. absurd (omega arith);
      none = λ c low short. absurd (omega arith);
      width = width;
      below = below;
    }

-- a branch more
pub halfway_more : (path : List ℕ) (start rest next : List Item) (nodes after : List Body) (links others : List Link) (b c : ℕ) (link : Link)
    → b ≡ c + 1 → b ≤ 16 → IsMap hash_cmp (entries_of start) → AreBodies nodes → Grows nodes after → IsBelow (length after) link
    → others ≡ slice_set links c link → Gathers (path ++ c ∷ []) rest next after link → Halfway path start rest nodes links b
    → Halfway path start next after others c
halfway_more path start rest next nodes after links others b c link is in_16 sorted bodies grown low set g h =
    let x = entries_of g.taken in
    let at_c : c < length links = omega (arith, h.width) in
    let lies : AllUnder (path ++ c ∷ []) x =
    stands_under (λ bs. []) (λ k. None) State after (64 - length (path ++ c ∷ [])) (path ++ c ∷ []) link x
    (g.stands (λ bs. []) (λ k. None) State) in
    let longer : length nodes ≤ length after =
    omega (arith, ap length grown.1, length-append nodes grown.0) in
    record {
      taken = g.taken ++ h.taken;
      split = h.split ∙ ap (λ xs. xs ++ h.taken) g.split ∙ append_assoc next g.taken h.taken;
      kids = with_kid c x h.kids;
      joined = entries_append g.taken h.taken ∙ ap (λ es. x ++ es) h.joined ∙ sym (front_kid c b x h.kids is in_16);
      each = λ half stored kind d at short.
          subst (λ ls. StandsAt half stored kind after (64 - length (path ++ d ∷ [])) (path ++ d ∷ []) (slice_index_or ls d Empty)
          (with_kid c x h.kids d)) (sym set)
          (each_set (λ e l es. StandsAt half stored kind after (64 - length (path ++ e ∷ [])) (path ++ e ∷ []) l es) links h.kids c link x at_c
          (g.stands half stored kind) d
          (λ other. subst (λ ns. StandsAt half stored kind ns (64 - length (path ++ d ∷ [])) (path ++ d ∷ []) (slice_index_or links d Empty)
          (h.kids d)) (sym grown.1)
          (stands_grows half stored kind nodes grown.0 bodies (64 - length (path ++ d ∷ [])) (path ++ d ∷ []) (slice_index_or links d Empty)
          (h.kids d) (h.below d) (h.each half stored kind d (omega arith) short))));
      none = λ d at short. none_of d at short;
      width = ap length set ∙ length-set links c link ∙ h.width;
      below = λ d. subst (λ ls. IsBelow (length after) (slice_index_or ls d Empty)) (sym set)
          (below_set (length after) links c link (λ e. weaker (length nodes) (length after) (slice_index_or links e Empty) longer (h.below e)) low d);
    }
  where
    front_kid : (c b : ℕ) (x : List Entry) (kids : ℕ → List Entry) → b ≡ c + 1 → b ≤ 16
        → flat_map (with_kid c x kids) (range_with_len c (16 - c)) ≡ x ++ flat_map kids (range_with_len b (16 - b))
    front_kid c b x kids is in_16 =
        let size : 16 - c ≡ suc (16 - b) = omega arith in
        ap (λ n. flat_map (with_kid c x kids) (range_with_len c n)) size
        ∙ (λ i. kid_same c x kids i ++ flat_map (with_kid c x kids) (range_with_len (sym is i) (16 - b)))
        ∙ ap (λ es. x ++ es) (flat_same (with_kid c x kids) kids (range_with_len b (16 - b))
        (all_range _ (16 - b) b (λ d low high. kid_other c d x kids (omega arith))))

    none_of : (d : ℕ) → c ≤ d → d < 16 → ends_under (path ++ d ∷ []) next ≡ false
    none_of d at short = by (d == c) refl
      where
        by : (t : Bool) → (d == c) ≡ t → ends_under (path ++ d ∷ []) next ≡ false
        by true e = let same : d ≡ c = grind (arith, nat_tests) in ap (λ n. ends_under (path ++ n ∷ []) next) same ∙ g.all
        by false e =
            let other : d ≢ c = grind (arith, nat_tests) in
            still_none path c d rest next g.taken (omega (arith, other)) g.split (sorted_rest start rest h.taken h.split sorted)
            (stands_under (λ bs. []) (λ k. None) State after (64 - length (path ++ c ∷ [])) (path ++ c ∷ []) link (entries_of g.taken)
            (g.stands (λ bs. []) (λ k. None) State)) (h.none d (omega (arith, other)) short)

-- the inner node over all branches
pub inner_gathers : (path : List ℕ) (start rest : List Item) (nodes after : List Body) (links : List Link) (b : ℕ) (link : Link)
    → b ≤ 0 → length path < 64 → AreBodies nodes → EndUnder (fewest path) path start → ends_under path rest ≡ false
    → link ≡ Own (length nodes) → after ≡ nodes ++ inner links ∷ [] → Halfway path start rest nodes links b
    → Gathers path start rest after link
inner_gathers path start rest nodes after links b link done deep bodies ending none at grown h =
    record {
      taken = h.taken;
      split = h.split;
      all = none;
      stands = λ half stored kind. stands half stored kind;
    }
  where
    stands : (half : Half) (stored : Lookup) (kind : Kind) → StandsAt half stored kind after (64 - length path) path link (entries_of h.taken)
    stands half stored kind =
        let items = entries_of h.taken in
        let first : b ≡ 0 = omega arith in
        let size : length items ≡ length h.taken = length-map h.taken (λ (i : Item). (i.key, i.value)) in
        let enough : fewest path ≤ length items =
        omega (arith, size, enough_taken (fewest path) path start rest h.taken h.split none ending) in
        let forks : Forks (Below half stored kind after (64 - length path) path) path links items = record {
          width = h.width;
          kids = h.kids;
          joined = h.joined ∙ (λ i. flat_map h.kids (range_with_len (first i) (16 - first i)));
          each = λ c short.
              subst (λ n. Below half stored kind after n path c (slice_index_or links c Empty) (h.kids c)) (sym (one_lower path c deep))
              (subst (λ ns. StandsAt half stored kind ns (64 - length (path ++ c ∷ [])) (path ++ c ∷ []) (slice_index_or links c Empty)
              (h.kids c)) (sym grown)
              (stands_grows half stored kind nodes (inner links ∷ []) bodies (64 - length (path ++ c ∷ [])) (path ++ c ∷ [])
              (slice_index_or links c Empty) (h.kids c) (h.below c) (h.each half stored kind c (omega arith) short)));
          enough = enough;
        } in
        subst (λ l. StandsAt half stored kind after (64 - length path) path l items) (sym at)
        (inner_stands half stored kind after (64 - length path) (length nodes) path links items
        (ap (λ ns. slice_get ns (length nodes)) grown ∙ get_last nodes (inner links)) deep forks)

-- nothing lies there
pub none_gathers : (path : List ℕ) (items : List Item) (nodes : List Body) (link : Link) → link ≡ Empty → ends_under path items ≡ false
    → Gathers path items items nodes link
none_gathers path items nodes link is none = record {
  taken = [];
  split = sym (append_none items);
  all = none;
  stands = λ half stored kind. subst (λ l. StandsAt half stored kind nodes (64 - length path) path l []) (sym is)
      (empty_stands half stored kind nodes (64 - length path) path);
}

-- one item alone lies there
pub leaf_gathers : (path : List ℕ) (items front : List Item) (item : Item) (nodes after : List Body) (link : Link) → items ≡ front ++ item ∷ []
    → 0 < length path → ends_under path items ≡ true → ends_under path (take (length items - 1) items) ≡ false
    → link ≡ Own (length nodes) → after ≡ nodes ++ leaf item.key item.value ∷ [] → Gathers path items front after link
leaf_gathers path items front item nodes after link is placed last second at grown =
    let cut : take (length items - 1) items ≡ front = ap (λ (xs : List Item). take (length xs - 1) xs) is ∙ front_is front item in
    let lies : IsTrue (lies_under path item.key) = sym (ends_last path front item) ∙ sym (ap (ends_under path) is) ∙ last in
    record {
      taken = item ∷ [];
      split = is;
      all = sym (ap (ends_under path) cut) ∙ second;
      stands = λ half stored kind. subst (λ l. StandsAt half stored kind after (64 - length path) path l ((item.key, item.value) ∷ [])) (sym at)
          (leaf_stands half stored kind after (64 - length path) (length nodes) path item.key item.value
          (ap (λ ns. slice_get ns (length nodes)) grown ∙ get_last nodes (leaf item.key item.value)) item.valid placed lies);
    }

-- what lies under none of the branches doesn't lie there
pub none_under : (path : List ℕ) (items : List Item)
    → (ends_under path items ≡ true → (b : ℕ) × (b < 16) × (ends_under (path ++ b ∷ []) items ≡ true))
    → ((c : ℕ) → c < 16 → ends_under (path ++ c ∷ []) items ≡ false) → ends_under path items ≡ false
none_under path items some none = by (ends_under path items) refl
  where
    by : (t : Bool) → ends_under path items ≡ t → ends_under path items ≡ false
    by false is = is
    by true is = let at = some is in let wrong : true ≡ false = sym at.2 ∙ none at.0 at.1 in cc

pub grows_twice : (before mid after : List Body) → Grows before mid → Grows mid after → Grows before after
grows_twice before mid after first second = (first.0 ++ second.0, second.1 ∙ ap (λ ns. ns ++ second.0) first.1 ∙ append_assoc before first.0 second.0)

-- every key lies under the root
root_under : (items : List Item) → AllByRecursion (λ (item : Item). IsTrue (lies_under [] item.key)) items
root_under [] = tt
root_under (x ∷ items) = (refl, root_under items)

pub root_end : (items : List Item) → 0 < length items → EndUnder 1 [] items
root_end items some = ([], items, refl, omega (arith, some), root_under items)

-- so all are taken there
pub root_takes : (items rest : List Item) (nodes : List Body) (link : Link) (g : Gathers [] items rest nodes link) → g.taken ≡ items
root_takes items rest nodes link g =
    elim (last_or_none rest) [
      | inl e ↦ sym (g.split ∙ ap (λ xs. xs ++ g.taken) e)
      | inr at ↦ (let wrong : true ≡ false = sym (ends_last [] at.0 at.1) ∙ sym (ap (ends_under []) at.2) ∙ g.all in cc)
    ]
