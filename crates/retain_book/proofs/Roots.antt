-- The roots from a floor on: the pinned ledgers, then the listed ones that aren't pinned.
use Rattle.std.proofs.Common.{◌≡◌, ◌≤◌, ◌∙◌, ◌⊎◌, ℕ, List, [], ◌∷◌, ◌++◌, Bool, true, false, not, cond, nat_le, Option, Some}
use Rattle.std.proofs.Common.{None, IsTrue, refl, sym, ap, subst, inl, inr, leb-true}
use Rattle.std.specs.Prelude.{IsSome, IsSomeAnd}
use Rattle.std.specs.List.{Contains, IsDistinct, AllByRecursion, All, filter, list_any}
use Rattle.std.specs.List.Sorted.{IsStrictlySortedBy}
use Rattle.std.specs.Map.{keys_of, lookup}
use Rattle.std.specs.Cmp.{eq_by_cmp_equiv}
use Rattle.std.specs.Cmp.Lexicographic.{nat_list_cmp_total}
use Rattle.std.specs.Ordering.{eq_by_cmp}
use Rattle.std.proofs.lemmas.Bool.{or_parts, le-leb}
use Rattle.std.proofs.lemmas.Bool.Decides.{same_from_decides}
use Rattle.std.proofs.lemmas.Slice.Eq.{bytes_eq-Decides}
use Rattle.std.proofs.lemmas.List.Elements.{All-head, All-tail, Contains-append_left, Contains-append_right, Contains-append_cases}
use Rattle.std.proofs.lemmas.Map.Entries.{option_filter, lookup-filter-keys, lookup-filter-values}
use Rattle.std.proofs.lemmas.Map.Keys.{IsDistinct-from_sorted, IsDistinct-cons, IsDistinct-head, IsDistinct-tail}
use Rattle.std.proofs.lemmas.Map.Lookups.{exact_bytes}
use Rattle.std.proofs.lemmas.Map.Made.{IsDistinct-keys_filter}
use Rattle.std.proofs.lemmas.Map.Views.{tells_apart, All-keys_from_lookup, Contains-keys_from_lookup, IsSome-lookup_from_Contains}
use Rattle.ledger_spec.specs.Maps.{ForHash, hash_cmp, get_in, has_in}
use Rattle.ledger_spec.specs.Bytes.{Hash, same_bytes}
use Rattle.ledger_spec.specs.Retaining.{Retention, listed_from, AreRootsFrom}

-- the entries whose key isn't pinned
abbrev pub unpinned : ForHash ℕ → ForHash ℕ → ForHash ℕ
unpinned pins es = filter (λ e. not (has_in hash_cmp pins e.0)) es

abbrev equal : Hash → Hash → Bool
equal = eq_by_cmp hash_cmp

exact : (x y : Hash) → equal x y ≡ true → x ≡ y
exact = tells_apart exact_bytes

same_is : (x y : Hash) → equal x y ≡ same_bytes x y
same_is x y = same_from_decides (equal x y) (same_bytes x y)
    (exact x y, λ e. subst (λ (z : Hash). equal x z ≡ true) e ((eq_by_cmp_equiv nat_list_cmp_total).refl x)) (bytes_eq-Decides x y)

-- ---- each once
all_append : {X : Type 0} (P : X → Type 0) (xs ys : List X) → AllByRecursion P xs → AllByRecursion P ys → AllByRecursion P (xs ++ ys)
all_append P [] ys a b = b
all_append P (x ∷ xs) ys a b = (a.0, all_append P xs ys a.1 b)

none_equal : (x : Hash) (ys : List Hash) → list_any (equal x) ys ≡ false → AllByRecursion (λ y. equal x y ≡ false) ys
none_equal x [] none = tt
none_equal x (y ∷ ys) none =
    let parts = or_parts (equal x y) (list_any (equal x) ys) none in
    (parts.0, none_equal x ys parts.1)

distinct_append : (xs ys : List Hash) → IsDistinct equal xs → IsDistinct equal ys → All (λ x. list_any (equal x) ys ≡ false) xs
    → IsDistinct equal (xs ++ ys)
distinct_append [] ys a b c = b
distinct_append (x ∷ xs) ys a b c =
    let P : Hash → Type 0 = λ x. list_any (equal x) ys ≡ false in
    IsDistinct-cons equal x (xs ++ ys)
    (all_append (λ y. equal x y ≡ false) xs ys (IsDistinct-head equal x xs a) (none_equal x ys (All-head P x xs c)))
    (distinct_append xs ys (IsDistinct-tail equal x xs a) b (All-tail P x xs c))

other_key : (pins : ForHash ℕ) (x k : Hash) → has_in hash_cmp pins x ≡ true → has_in hash_cmp pins k ≡ false
    → (b : Bool) → equal x k ≡ b → equal x k ≡ false
other_key pins x k held none true is = absurd (let e = ap (has_in hash_cmp pins) (exact x k is) in cc)
other_key pins x k held none false is = is

apart_by : (pins es : ForHash ℕ) (e : Hash × ℕ) (x : Hash) → has_in hash_cmp pins x ≡ true
    → list_any (equal x) (keys_of (unpinned pins es)) ≡ false → (b : Bool) → has_in hash_cmp pins e.0 ≡ b
    → list_any (equal x) (keys_of (unpinned pins (e ∷ es))) ≡ false
apart_by pins es e x held rest true is = rw is rest
apart_by pins es e x held rest false is = rw (is, other_key pins x e.0 held is (equal x e.0) refl) rest

-- no pinned ledger is among those that aren't
apart : (pins es : ForHash ℕ) (x : Hash) → has_in hash_cmp pins x ≡ true → list_any (equal x) (keys_of (unpinned pins es)) ≡ false
apart pins [] x held = refl
apart pins (e ∷ es) x held = apart_by pins es e x held (apart pins es x held) (has_in hash_cmp pins e.0) refl

distinct : (ks : List Hash) → IsDistinct equal ks → IsDistinct same_bytes ks
distinct ks is = subst (λ (f : Hash → Hash → Bool). IsDistinct f ks) (λ i x y. same_is x y i) is

-- the pinned ledgers, and the listed ones from a floor on that aren't pinned
abbrev pub roots_of : ForHash ℕ → ForHash ℕ → ℕ → List Hash
roots_of pins listed floor = keys_of pins ++ keys_of (unpinned pins (listed_from floor listed))

each_once : (pins listed : ForHash ℕ) (floor : ℕ) → IsStrictlySortedBy hash_cmp (keys_of pins)
    → IsStrictlySortedBy hash_cmp (keys_of listed) → IsDistinct same_bytes (roots_of pins listed floor)
each_once pins listed floor a b =
    let from = listed_from floor listed in
    let few : IsDistinct equal (keys_of from) =
    IsDistinct-keys_filter equal (λ e. nat_le floor e.1) listed (IsDistinct-from_sorted hash_cmp (keys_of listed) b) in
    distinct (roots_of pins listed floor) (distinct_append (keys_of pins) (keys_of (unpinned pins from))
    (IsDistinct-from_sorted hash_cmp (keys_of pins) a) (IsDistinct-keys_filter equal (λ e. not (has_in hash_cmp pins e.0)) from few)
    (All-keys_from_lookup (eq_by_cmp_equiv nat_list_cmp_total) (λ x. list_any (equal x) (keys_of (unpinned pins from)) ≡ false) pins
    (λ x held. apart pins from x held)))

-- ---- exactly the roots
-- what is found of a listed ledger that isn't pinned
found : (pins listed : ForHash ℕ) (floor : ℕ) (h : Hash) → IsStrictlySortedBy hash_cmp (keys_of listed)
    → lookup (equal h) (unpinned pins (listed_from floor listed))
    ≡ cond (not (has_in hash_cmp pins h)) (option_filter (nat_le floor) (get_in hash_cmp listed h)) None
found pins listed floor h sorted =
    lookup-filter-keys (equal h) (λ k. not (has_in hash_cmp pins k)) (not (has_in hash_cmp pins h))
    (λ k same. ap (λ (x : Hash). not (has_in hash_cmp pins x)) (sym (exact h k same))) (listed_from floor listed)
    ∙ ap (λ (o : Option ℕ). cond (not (has_in hash_cmp pins h)) o None)
    (lookup-filter-values (eq_by_cmp_equiv nat_list_cmp_total) (nat_le floor) h listed
    (IsDistinct-from_sorted hash_cmp (keys_of listed) sorted))

high_by : (floor seq : ℕ) (b : Bool) → nat_le floor seq ≡ b → IsSome (cond b (Some seq) None) → floor ≤ seq
high_by floor seq true is some = leb-true floor seq is
high_by floor seq false is some = absurd (cc)

high : (floor : ℕ) (o : Option ℕ) → IsSome (option_filter (nat_le floor) o) → IsSomeAnd o (λ seq. floor ≤ seq)
high floor None some = absurd (cc)
high floor (Some seq) some = high_by floor seq (nat_le floor seq) refl some

kept : (floor : ℕ) (o : Option ℕ) → IsSomeAnd o (λ seq. floor ≤ seq) → IsSome (option_filter (nat_le floor) o)
kept floor None none = absurd none
kept floor (Some seq) le = rw (le-leb floor seq le) refl

to_root : (pins listed : ForHash ℕ) (floor : ℕ) (h : Hash) → IsStrictlySortedBy hash_cmp (keys_of listed)
    → Contains (keys_of (unpinned pins (listed_from floor listed))) h → (b : Bool) → has_in hash_cmp pins h ≡ b
    → IsTrue (has_in hash_cmp pins h) ⊎ IsSomeAnd (get_in hash_cmp listed h) (λ seq. floor ≤ seq)
to_root pins listed floor h sorted among true is = inl is
to_root pins listed floor h sorted among false is =
    let some = IsSome-lookup_from_Contains (eq_by_cmp_equiv nat_list_cmp_total) h (unpinned pins (listed_from floor listed)) among in
    let F : Option ℕ → Type 0 = λ o. IsSome o in
    inr (high floor (get_in hash_cmp listed h) (rw is at (subst F (found pins listed floor h sorted) some)))

from_root : (pins listed : ForHash ℕ) (floor : ℕ) (h : Hash) → IsStrictlySortedBy hash_cmp (keys_of listed)
    → IsSomeAnd (get_in hash_cmp listed h) (λ seq. floor ≤ seq) → (b : Bool) → has_in hash_cmp pins h ≡ b
    → Contains (roots_of pins listed floor) h
from_root pins listed floor h sorted le true is =
    Contains-append_left (keys_of pins) (keys_of (unpinned pins (listed_from floor listed))) h (Contains-keys_from_lookup exact h pins is)
from_root pins listed floor h sorted le false is =
    let F : Option ℕ → Type 0 = λ o. IsSome o in
    let some : IsSome (cond (not (has_in hash_cmp pins h)) (option_filter (nat_le floor) (get_in hash_cmp listed h)) None) =
    rw is (kept floor (get_in hash_cmp listed h) le) in
    Contains-append_right (keys_of pins) (keys_of (unpinned pins (listed_from floor listed))) h
    (Contains-keys_from_lookup exact h (unpinned pins (listed_from floor listed)) (subst F (sym (found pins listed floor h sorted)) some))

pub are_roots : (b : Retention) (floor : ℕ) (hashes : List Hash) → IsStrictlySortedBy hash_cmp (keys_of b.pins)
    → IsStrictlySortedBy hash_cmp (keys_of b.listed) → hashes ≡ roots_of b.pins b.listed floor → AreRootsFrom b floor hashes
are_roots b floor hashes one two is =
    let rest : List Hash = keys_of (unpinned b.pins (listed_from floor b.listed)) in
    let roots : AreRootsFrom b floor (roots_of b.pins b.listed floor) = record {
      all = λ h. (
        λ among. elim (Contains-append_cases (keys_of b.pins) rest h among) [
          | inl held ↦ inl (IsSome-lookup_from_Contains (eq_by_cmp_equiv nat_list_cmp_total) h b.pins held)
          | inr listed ↦ to_root b.pins b.listed floor h two listed (has_in hash_cmp b.pins h) refl
        ],
        λ root. elim root [
          | inl held ↦ Contains-append_left (keys_of b.pins) rest h (Contains-keys_from_lookup exact h b.pins held)
          | inr le ↦ from_root b.pins b.listed floor h two le (has_in hash_cmp b.pins h) refl
        ],
      );
      once = each_once b.pins b.listed floor one two;
    } in
    subst (λ (hs : List Hash). AreRootsFrom b floor hs) (sym is) roots
