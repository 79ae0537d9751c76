-- Items in order whose keys stand once are a map.
use Rattle.std.specs.Prelude.{◌≡◌, ℕ, zero, suc, ◌+◌, ◌-◌, ◌<◌, ◌≤◌, Bool, true, false, if◌then◌else◌, Option, None, Some, MatchOption}
use Rattle.std.specs.Prelude.{List, [], ◌∷◌, take, length, refl}
use Rattle.std.proofs.Common.{sym, ap, ◌∙◌, subst, arith, get_or}
use Rattle.std.specs.List.Sorted.{IsSortedByKey, IsStrictlySortedBy, IsPermutation}
use Rattle.std.proofs.lemmas.List.Sorted.{sum_by-IsPermutation}
use Rattle.std.specs.Ordering.{is_lt, ordering_reverse}
use Rattle.std.specs.declared.cmp.Ordering.{Ordering}
use Rattle.std.specs.declared.cmp.Ordering.TheVariants.{Less, Equal, Greater}
use Rattle.std.specs.Map.{keys_of}
use Rattle.std.proofs.lemmas.Cmp.{nat_list_cmp_total}
use Rattle.std.proofs.lemmas.List.{take_all}
use Rattle.std.proofs.lemmas.List.Sums.{count_by_more_yes, count_by_more_no}
use Rattle.std.proofs.lemmas.Map.Keys.{sorted_from_all_adjacent}
use Rattle.std.proofs.lemmas.Map.Lookups.{exact_bytes}
use Rattle.std.proofs.lemmas.Slice.Eq.{bytes_eq-Decides}
use Rattle.ledger_spec.specs.Bytes.{Hash, same_bytes}
use Rattle.ledger_spec.specs.Maps.{hash_cmp, IsMap}
use Rattle.shamap_node.specs.declared.parts.Item.{Item}
use Rattle.cow_map.specs.Gathered.{entries_of}
use Rattle.cow_build.specs.Building.{times, IsLeastRepeated}

more_step : (items : List Item) (q : Hash) (i : ℕ) (d : Item) (b : Bool) → i < length items → same_bytes (get_or items i d).key q ≡ b
    → times q (take i items) ≤ times q (take (i + 1) items)
more_step items q i d true lt e = omega (arith, count_by_more_yes (λ (x : Item). same_bytes x.key q) items i d lt e)
more_step items q i d false lt e = omega (arith, count_by_more_no (λ (x : Item). same_bytes x.key q) items i d lt e)

-- a front has a key at most as often
grow : (items : List Item) (q : Hash) (i n : ℕ) (d : Item) → i + n ≤ length items → times q (take i items) ≤ times q (take (i + n) items)
grow items q i zero d le = let e : i + 0 ≡ i = omega arith in omega (arith, ap (λ m. times q (take m items)) e)
grow items q i (suc n) d le =
    let e : i + suc n ≡ i + n + 1 = omega arith in
    omega (
      arith,
      grow items q i n d (omega arith),
      more_step items q (i + n) d (same_bytes (get_or items (i + n) d).key q) (omega arith)
          refl,
      ap (λ m. times q (take m items)) e,
    )

-- two neighbours with one key
neighbours : (items : List Item) (i : ℕ) (d : Item) → i + 1 < length items → (get_or items i d).key ≡ (get_or items (i + 1) d).key
    → 2 ≤ times (get_or items i d).key items
neighbours items i d lt same =
    let q : Hash = (get_or items i d).key in
    let one = count_by_more_yes (λ (x : Item). same_bytes x.key q) items i d (omega arith) ((bytes_eq-Decides q q).1 refl) in
    let two = count_by_more_yes (λ (x : Item). same_bytes x.key q) items (i + 1) d lt
    ((bytes_eq-Decides (get_or items (i + 1) d).key q).1 (sym same)) in
    let room : ℕ = length items - (i + 1 + 1) in
    let sum : i + 1 + 1 + room ≡ length items = omega arith in
    let rest = grow items q (i + 1 + 1) room d (omega arith) in
    let whole : times q (take (i + 1 + 1 + room) items) ≡ times q items = ap (λ m. times q (take m items)) sum
    ∙ ap (times q) (take_all (length items) items (omega arith)) in
    omega (arith, one, two, rest, whole)

adjacent_step : (items : List Item) (i : ℕ) (d : Item) (o : Ordering) → i + 1 < length items → ((q : Hash) → times q items ≤ 1)
    → hash_cmp (get_or items (i + 1) d).key (get_or items i d).key ≡ o → is_lt o ≡ false
    → hash_cmp (get_or items i d).key (get_or items (i + 1) d).key ≡ Less
adjacent_step items i d Less lt once at no_less = absurd cc
adjacent_step items i d Equal lt once at no_less =
    let same : (get_or items (i + 1) d).key ≡ (get_or items i d).key =
    exact_bytes (get_or items (i + 1) d).key (get_or items i d).key at in
    absurd (omega (arith, neighbours items i d lt (sym same), once (get_or items i d).key))
adjacent_step items i d Greater lt once at no_less = nat_list_cmp_total.antisymm (get_or items i d).key (get_or items (i + 1) d).key
    ∙ ap ordering_reverse at

key_at : (items : List Item) (i : ℕ) (d : Item) → get_or (keys_of (entries_of items)) i d.key ≡ (get_or items i d).key
key_at [] i d = refl
key_at (x ∷ items) zero d = refl
key_at (x ∷ items) (suc i) d = key_at items i d

keys_long : (items : List Item) → length (keys_of (entries_of items)) ≡ length items
keys_long [] = refl
keys_long (x ∷ items) = ap suc (keys_long items)

-- keys that don't fall, each once, rise
pub rising : (items : List Item) (d : Item) → IsSortedByKey (λ (x : Item). x.key) hash_cmp items → ((q : Hash) → times q items ≤ 1)
    → IsMap hash_cmp (entries_of items)
rising items d sorted once = sorted_from_all_adjacent nat_list_cmp_total (keys_of (entries_of items)) d.key (λ i lt.
    let lt2 : i + 1 < length items = omega (arith, keys_long items) in
    (λ k. hash_cmp (key_at items i d k) (key_at items (i + 1) d k))
    ∙ adjacent_step items i d (hash_cmp (get_or items (i + 1) d).key (get_or items i d).key) lt2 once refl (sorted i d (omega arith) lt2))

pub rising_any : (items : List Item) → IsSortedByKey (λ (x : Item). x.key) hash_cmp items → ((q : Hash) → times q items ≤ 1)
    → IsMap hash_cmp (entries_of items)
unfolding IsStrictlySortedBy
rising_any [] sorted once = tt
rising_any (x ∷ items) sorted once = rising (x ∷ items) x sorted once

-- how often a key stands doesn't depend on the order
pub times_moved : (xs ys : List Item) (q : Hash) → IsPermutation xs ys → times q ys ≡ times q xs
times_moved xs ys q h = sum_by-IsPermutation (λ (x : Item). if same_bytes x.key q then 1 else 0) xs ys h

pub repeated_moved : (xs ys : List Item) (key : Hash) → IsPermutation xs ys → IsLeastRepeated ys key → IsLeastRepeated xs key
repeated_moved xs ys key h r = record {
  twice = omega (arith, r.twice, times_moved xs ys key h);
  least = λ other lt. omega (arith, r.least other lt, times_moved xs ys other h);
}

-- what was found of the items in order
pub none_found : (items found : List Item) (least : Option Hash) → found ≡ items → least ≡ None
    → MatchOption least ((q : Hash) → times q found ≤ 1) (IsLeastRepeated found) → (q : Hash) → times q items ≤ 1
none_found items found None e n h = λ q. subst (λ (x : List Item). times q x ≤ 1) e (h q)
none_found items found (Some k) e n h = absurd cc

pub some_found : (items found : List Item) (least : Option Hash) (key : Hash) → found ≡ items → least ≡ Some key
    → MatchOption least ((q : Hash) → times q found ≤ 1) (IsLeastRepeated found) → IsLeastRepeated items key
some_found items found None key e n h = absurd cc
some_found items found (Some k) key e n h =
    let same : k ≡ key = cc in
    subst (λ (x : List Item). IsLeastRepeated x key) e (subst (λ (q : Hash). IsLeastRepeated found q) same h)
