-- The end of a list of items whose keys rise: which of them lie under a place.
use Rattle.std.proofs.Common.{◌≡◌, ◌≢◌, ◌⊎◌, inl, inr, ℕ, ◌-◌, ◌<◌, ◌≤◌, Bool, true, false, List, [], ◌∷◌, ◌++◌, length}
use Rattle.std.proofs.Common.{take, Option, refl, sym, ap, ◌∙◌, subst, arith, IsTrue, append_assoc, length-append, nat_lt}
use Rattle.std.proofs.lemmas.Bool.Decides.{nat_tests}
use Rattle.std.specs.Option.{option_map_or}
use Rattle.std.specs.List.{slice_get, AllByRecursion}
use Rattle.std.specs.List.Sorted.{IsStrictlySortedBy}
use Rattle.std.specs.Map.{keys_of}
use Rattle.std.specs.Cmp.Lexicographic.{nat_list_cmp_total}
use Rattle.std.specs.Ordering.{ordering_reverse}
use Rattle.std.specs.declared.cmp.Ordering.TheVariants.{Less, Greater}
use Rattle.nib_path.specs.Paths.{lies_under}
use Rattle.ledger_spec.specs.Bytes.{Hash}
use Rattle.ledger_spec.specs.Maps.{hash_cmp, IsMap}
use Rattle.ledger_spec.specs.Tree.{Entry}
use Rattle.shamap_node.specs.declared.parts.Item.{Item}
use Rattle.cow_map.specs.Trees.{fewest}
use Rattle.cow_map.specs.Gathered.{entries_of}
use Rattle.cow_map.specs.Taking.{ends_under, EndUnder}
use Rattle.cow_map.proofs.Orders.{branch_less}
use Rattle.cow_map.proofs.shared.Keys.{differ_above}
use Rattle.cow_map.proofs.Leading.{get_last}
use Rattle.cow_map.proofs.Branches.{AllUnder}
use Rattle.cow_map.proofs.shared.Planting.{fewest_two}
use Rattle.cow_map.proofs.shared.Gathered.{entries_append, sorted_behind, first_less}

-- a list is empty, or has a last element
pub last_or_none : {X : Type 0} (xs : List X) → (xs ≡ []) ⊎ ((front : List X) × (x : X) × (xs ≡ front ++ x ∷ []))
last_or_none [] = inl refl
last_or_none (x ∷ xs) =
    elim (last_or_none xs)
    [ inl e ↦ inr ([], x, ap (λ ys. x ∷ ys) e) | inr at ↦ inr (x ∷ at.0, at.1, ap (λ ys. x ∷ ys) at.2) ]

last_at : {X : Type 0} (front : List X) (x : X) → length (front ++ x ∷ []) - 1 ≡ length front
last_at front x = omega (arith, length-append front (x ∷ []))

pub ends_last : (path : List ℕ) (front : List Item) (x : Item) → ends_under path (front ++ x ∷ []) ≡ lies_under path x.key
ends_last path front x =
    ap (λ (o : Option Item). option_map_or (λ (item : Item). lies_under path item.key) o false)
    (ap (slice_get (front ++ x ∷ [])) (last_at front x) ∙ get_last front x)

pub front_is : (front : List Item) (x : Item) → take (length (front ++ x ∷ []) - 1) (front ++ x ∷ []) ≡ front
front_is front x = ap (λ n. take n (front ++ x ∷ [])) (last_at front x) ∙ whole front
  where
    whole : (xs : List Item) → take (length xs) (xs ++ x ∷ []) ≡ xs
    whole [] = refl
    whole (y ∷ ys) = ap (λ zs. y ∷ zs) (whole ys)

-- a list whose last key lies somewhere has a last one
pub ends_true : (path : List ℕ) (xs : List Item) → ends_under path xs ≡ true
    → (front : List Item) × (x : Item) × (xs ≡ front ++ x ∷ []) × IsTrue (lies_under path x.key)
ends_true path xs is =
    elim (last_or_none xs) [
      | inl e ↦ (let wrong : false ≡ true = sym (ap (ends_under path) e) ∙ is in cc)
      | inr at ↦ (at.0, at.1, at.2, sym (ends_last path at.0 at.1) ∙ sym (ap (ends_under path) at.2) ∙ is)
    ]

-- where the keys of some at the end lie there, the last one's does
all_end : (path : List ℕ) (front mid : List Item) (x : Item) → AllByRecursion (λ (i : Item). IsTrue (lies_under path i.key)) (x ∷ mid)
    → ends_under path (front ++ x ∷ mid) ≡ true
all_end path front [] x all = ends_last path front x ∙ all.0
all_end path front (y ∷ mid) x all =
    ap (ends_under path) (sym (append_assoc front (x ∷ []) (y ∷ mid))) ∙ all_end path (front ++ x ∷ []) mid y all.1

front_all : {X : Type 0} (P : X → Type 0) (xs ys : List X) → AllByRecursion P (xs ++ ys) → AllByRecursion P xs
front_all P [] ys h = tt
front_all P (x ∷ xs) ys h = (h.0, front_all P xs ys h.1)

-- of two cuts of a list, the one with the longer end cuts the front of the other
two_cuts : {X : Type 0} (xs ys us vs : List X) → xs ++ ys ≡ us ++ vs → length vs < length ys
    → (mid : List X) × (x : X) × (us ≡ xs ++ x ∷ mid) × (ys ≡ (x ∷ mid) ++ vs)
two_cuts [] ys [] vs e h = let same : length ys ≡ length vs = ap length e in absurd (omega (arith, same))
two_cuts [] ys (u ∷ us) vs e h = (us, u, refl, e)
two_cuts (x ∷ xs) ys [] vs e h =
    let same : length (x ∷ xs ++ ys) ≡ length vs = ap length e in absurd (omega (arith, same, length-append xs ys))
two_cuts (x ∷ xs) ys (u ∷ us) vs e h =
    let rest : xs ++ ys ≡ us ++ vs = cc in
    let head : x ≡ u = cc in
    let cut = two_cuts xs ys us vs rest h in
    (cut.0, cut.1, (λ i. sym head i ∷ cut.2 i), cut.3)

-- all of those at the end were taken, so there are as many
pub enough_taken : (n : ℕ) (path : List ℕ) (before after taken : List Item) → before ≡ after ++ taken → ends_under path after ≡ false
    → EndUnder n path before → n ≤ length taken
enough_taken n path before after taken split all ending = by (nat_lt (length taken) n) refl
  where
    by : (t : Bool) → nat_lt (length taken) n ≡ t → n ≤ length taken
    by false is = grind (arith, nat_tests)
    by true is =
        let short : length taken < n = grind (arith, nat_tests) in
        let cut = two_cuts ending.0 ending.1 after taken (sym ending.2 ∙ split) (omega (arith, ending.3, short)) in
        let lies = front_all (λ (i : Item). IsTrue (lies_under path i.key)) (cut.1 ∷ cut.0) taken
        (subst (AllByRecursion (λ (i : Item). IsTrue (lies_under path i.key))) cut.3 ending.4) in
        let wrong : true ≡ false = sym (all_end path ending.0 cut.0 cut.1 lies) ∙ sym (ap (ends_under path) cut.2) ∙ all in
        cc

-- in a list whose keys rise, so do those of its front
pub sorted_front : (xs ys : List Entry) → IsMap hash_cmp (xs ++ ys) → IsMap hash_cmp xs
unfolding IsStrictlySortedBy
sorted_front [] ys h = tt
sorted_front (x ∷ xs) ys h = (fewer xs h.0, sorted_front xs ys h.1)
  where
    fewer : (zs : List Entry) → AllByRecursion (λ k. hash_cmp x.0 k ≡ Less) (keys_of (zs ++ ys))
        → AllByRecursion (λ k. hash_cmp x.0 k ≡ Less) (keys_of zs)
    fewer [] all = tt
    fewer (z ∷ zs) all = (all.0, fewer zs all.1)

pub sorted_rest : (all rest taken : List Item) → all ≡ rest ++ taken → IsMap hash_cmp (entries_of all) → IsMap hash_cmp (entries_of rest)
sorted_rest all rest taken e sorted =
    sorted_front (entries_of rest) (entries_of taken)
    (subst (λ es. IsMap hash_cmp es) (ap entries_of e ∙ entries_append rest taken) sorted)

-- of two neighbours the first has the lesser key
neighbours : (all front tail : List Item) (y x : Item) → all ≡ (front ++ y ∷ []) ++ x ∷ tail → IsMap hash_cmp (entries_of all)
    → hash_cmp y.key x.key ≡ Less
neighbours all front tail y x e sorted =
    let is : entries_of all ≡ entries_of front ++ entries_of (y ∷ x ∷ tail) =
    ap entries_of (e ∙ append_assoc front (y ∷ []) (x ∷ tail)) ∙ entries_append front (y ∷ x ∷ tail) in
    (first_less (y.key, y.value) (entries_of (x ∷ tail))
    (sorted_behind (entries_of front) (entries_of (y ∷ x ∷ tail)) (subst (λ es. IsMap hash_cmp es) is sorted))).0

-- a key that comes before one of a branch lies below no later branch
not_beyond : (path : List ℕ) (b c : ℕ) (x y : Hash) → b < c → IsTrue (lies_under (path ++ b ∷ []) x) → hash_cmp y x ≡ Less
    → lies_under (path ++ c ∷ []) y ≡ true → ⊥
not_beyond path b c x y h at_b less at_c =
    let wrong : Less ≡ Greater = sym less ∙ nat_list_cmp_total.antisymm y x ∙ ap ordering_reverse (branch_less path b c x y at_b at_c h) in
    cc

first_under : (path : List ℕ) (taken : List Item) → AllUnder path (entries_of taken)
    → (taken ≡ []) ⊎ ((x : Item) × (tail : List Item) × (taken ≡ x ∷ tail) × IsTrue (lies_under path x.key))
first_under path [] h = inl refl
first_under path (x ∷ tail) h = inr (x, tail, refl, h.0)

pub append_none : {X : Type 0} (xs : List X) → xs ++ [] ≡ xs
append_none [] = refl
append_none (x ∷ xs) = ap (λ ys. x ∷ ys) (append_none xs)

-- what lies below no later branch still doesn't once a branch's items are taken
pub still_none : (path : List ℕ) (b c : ℕ) (rest next taken : List Item) → b < c → rest ≡ next ++ taken
    → IsMap hash_cmp (entries_of rest) → AllUnder (path ++ b ∷ []) (entries_of taken)
    → ends_under (path ++ c ∷ []) rest ≡ false → ends_under (path ++ c ∷ []) next ≡ false
still_none path b c rest next taken h split sorted lies none = by (ends_under (path ++ c ∷ []) next) refl (first_under (path ++ b ∷ []) taken lies)
  where
    by : (t : Bool) → ends_under (path ++ c ∷ []) next ≡ t
        → (taken ≡ []) ⊎ ((x : Item) × (tail : List Item) × (taken ≡ x ∷ tail) × IsTrue (lies_under (path ++ b ∷ []) x.key))
        → ends_under (path ++ c ∷ []) next ≡ false
    by false is first = is
    by true is (inl empty) =
        ap (ends_under (path ++ c ∷ [])) (sym (append_none next) ∙ ap (λ xs. next ++ xs) (sym empty) ∙ sym split) ∙ none
    by true is (inr at) =
        let last = ends_true (path ++ c ∷ []) next is in
        absurd (not_beyond path b c at.0.key last.1.key h at.3
        (neighbours rest last.0 at.1 last.1 at.0 (split ∙ (λ i. last.2 i ++ at.2 i)) sorted) last.3)

less_differs : (k l : Hash) → hash_cmp k l ≡ Less → k ≢ l
less_differs k l less same =
    let wrong : Less ≡ Greater = sym less ∙ (λ i. hash_cmp (same i) (sym same i)) ∙ nat_list_cmp_total.antisymm l k ∙ ap ordering_reverse less in
    cc

-- a place under which the last two keys lie isn't at the bottom
pub two_under : (path : List ℕ) (items : List Item) → IsMap hash_cmp (entries_of items) → ends_under path items ≡ true
    → ends_under path (take (length items - 1) items) ≡ true → length path ≤ 64 → length path < 64
two_under path items sorted last second short =
    let a = ends_true path items last in
    let front : take (length items - 1) items ≡ a.0 = ap (λ (xs : List Item). take (length xs - 1) xs) a.2 ∙ front_is a.0 a.1 in
    let b = ends_true path a.0 (sym (ap (ends_under path) front) ∙ second) in
    let less = neighbours items b.0 [] b.1 a.1 (a.2 ∙ ap (λ xs. xs ++ a.1 ∷ []) b.2) sorted in
    differ_above path b.1.key a.1.key b.1.valid.key_size a.1.valid.key_size b.3 a.3 (less_differs b.1.key a.1.key less) short

-- the last two of a list, where both lie there
pub two_end : (path : List ℕ) (items : List Item) → ends_under path items ≡ true → ends_under path (take (length items - 1) items) ≡ true
    → EndUnder (fewest path) path items
two_end path items last second =
    let a = ends_true path items last in
    let front : take (length items - 1) items ≡ a.0 = ap (λ (xs : List Item). take (length xs - 1) xs) a.2 ∙ front_is a.0 a.1 in
    let b = ends_true path a.0 (sym (ap (ends_under path) front) ∙ second) in
    (b.0, b.1 ∷ a.1 ∷ [], a.2 ∙ ap (λ xs. xs ++ a.1 ∷ []) b.2 ∙ append_assoc b.0 (b.1 ∷ []) (a.1 ∷ []), fewest_two path, (b.3, (a.3, tt)))
