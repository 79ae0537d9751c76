-- Keys that stand twice among items.
use Rattle.std.specs.Prelude.{◌≡◌, ℕ, ◌+◌, ◌<◌, ◌≤◌, ◌||◌, nat_lt, Bool, true, false, if◌then◌else◌, is_some, List, [], ◌∷◌, take, length}
use Rattle.std.specs.Prelude.{Option, None, Some, MatchOption, refl}
use Rattle.std.proofs.Common.{sym, ap, ◌∙◌, subst, arith, get_or}
use Rattle.std.specs.Map.{lookup}
use Rattle.std.specs.BTreeMap.{is_at}
use Rattle.std.specs.Ordering.{match_ordering, ordering_reverse, is_eq}
use Rattle.std.specs.declared.cmp.Ordering.{Ordering}
use Rattle.std.specs.declared.cmp.Ordering.TheVariants.{Less, Equal, Greater}
use Rattle.ledger_spec.specs.Bytes.{Hash, same_bytes}
use Rattle.ledger_spec.specs.Maps.{hash_cmp, insert_in, has_in}
use Rattle.shamap_node.specs.declared.parts.Item.{Item}
use Rattle.cow_build.specs.Building.{times, IsLeastRepeated, lesser}
use Rattle.std.proofs.lemmas.Map.Lookups.{exact_bytes}
use Rattle.std.proofs.lemmas.Cmp.{nat_list_cmp_total}
use Rattle.std.proofs.lemmas.Slice.Eq.{bytes_eq-Decides}
use Rattle.std.proofs.lemmas.Bool.Decides.{nat_tests}
use Rattle.std.proofs.lemmas.List.{take_all}
use Rattle.std.proofs.lemmas.List.Sums.{count_by_more_yes, count_by_more_no}

-- what has been seen of the first i items: their keys, and the least of them that stands twice
pub record Seen (items : List Item) (i : ℕ) (keys : List (Hash × Unit {0})) (least : Option Hash) : Type 0 where
  pub has : (q : Hash) → has_in hash_cmp keys q ≡ nat_lt 0 (times q (take i items))
  pub least_is : MatchOption least ((q : Hash) → times q (take i items) ≤ 1) (IsLeastRepeated (take i items))

some_or : (b : Bool) (x : Unit {0}) (o : Option (Unit {0})) → is_some (if b then Some x else o) ≡ (b || is_some o)
some_or true x o = refl
some_or false x o = refl

has_cons : (q : Hash) (e : Hash × Unit {0}) (es : List (Hash × Unit {0}))
    → has_in hash_cmp (e ∷ es) q ≡ (is_eq (hash_cmp q e.0) || has_in hash_cmp es q)
has_cons q e es = some_or (is_eq (hash_cmp q e.0)) e.1 (lookup (is_at (hash_cmp q)) es)

or_twice : (a x : Bool) → (a || x) ≡ (a || (a || x))
or_twice true x = refl
or_twice false x = refl

or_swap : (a b x : Bool) → (a || (b || x)) ≡ (b || (a || x))
or_swap true true x = refl
or_swap true false x = refl
or_swap false true x = refl
or_swap false false x = refl

insert_step : (q k : Hash) (e : Hash × Unit {0}) (m m2 : List (Hash × Unit {0})) (o : Ordering) → hash_cmp k e.0 ≡ o
    → has_in hash_cmp m2 q ≡ (is_eq (hash_cmp q k) || has_in hash_cmp m q)
    → has_in hash_cmp (match_ordering o ((k, tt) ∷ e ∷ m) ((e.0, tt) ∷ m) (e ∷ m2)) q ≡ (is_eq (hash_cmp q k) || has_in hash_cmp (e ∷ m) q)
insert_step q k e m m2 Less at h = has_cons q (k, tt) (e ∷ m)
insert_step q k e m m2 Equal at h =
    let same : k ≡ e.0 = exact_bytes k e.0 at in
    has_cons q (e.0, tt) m ∙ or_twice (is_eq (hash_cmp q e.0)) (has_in hash_cmp m q)
    ∙ (λ i. is_eq (hash_cmp q (sym same i)) || sym (has_cons q e m) i)
insert_step q k e m m2 Greater at h =
    has_cons q e m2 ∙ ap (λ x. is_eq (hash_cmp q e.0) || x) h
    ∙ or_swap (is_eq (hash_cmp q e.0)) (is_eq (hash_cmp q k)) (has_in hash_cmp m q)
    ∙ ap (λ x. is_eq (hash_cmp q k) || x) (sym (has_cons q e m))

has_insert : (m : List (Hash × Unit {0})) (k q : Hash)
    → has_in hash_cmp (insert_in hash_cmp m k tt) q ≡ (is_eq (hash_cmp q k) || has_in hash_cmp m q)
has_insert [] k q = has_cons q (k, tt) []
has_insert (e ∷ m) k q = insert_step q k e m (insert_in hash_cmp m k tt) (hash_cmp k e.0) refl (has_insert m k q)

self_step : (o : Ordering) → o ≡ ordering_reverse o → o ≡ Equal
self_step Less e = absurd cc
self_step Equal e = refl
self_step Greater e = absurd cc

equal_self : (k : Hash) → hash_cmp k k ≡ Equal
equal_self k = self_step (hash_cmp k k) (nat_list_cmp_total.antisymm k k)

eq_step : (q k : Hash) (o : Ordering) (b : Bool) → hash_cmp q k ≡ o → same_bytes k q ≡ b → is_eq o ≡ b
eq_step q k Equal true at e = refl
eq_step q k Equal false at e =
    let same : q ≡ k = exact_bytes q k at in
    absurd (let t : same_bytes k q ≡ true = (bytes_eq-Decides k q).1 (sym same) in cc)
eq_step q k Less true at e =
    absurd (let same : k ≡ q = (bytes_eq-Decides k q).0 e in let s : hash_cmp q k ≡ Equal = ap (hash_cmp q) same ∙ equal_self q in cc)
eq_step q k Less false at e = refl
eq_step q k Greater true at e =
    absurd (let same : k ≡ q = (bytes_eq-Decides k q).0 e in let s : hash_cmp q k ≡ Equal = ap (hash_cmp q) same ∙ equal_self q in cc)
eq_step q k Greater false at e = refl

-- how often each key stands after one more
pub record Counts (key : Hash) (f g : Hash → ℕ) : Type 0 where
  pub same : (q : Hash) → same_bytes key q ≡ true → g q ≡ f q + 1
  pub other : (q : Hash) → same_bytes key q ≡ false → g q ≡ f q

has_step : (t t2 : ℕ) (b : Bool) → (b ≡ true → t2 ≡ t + 1) → (b ≡ false → t2 ≡ t) → (b || nat_lt 0 t) ≡ nat_lt 0 t2
has_step t t2 true this others = let e : t2 ≡ t + 1 = this refl in sym (let p : 0 < t2 = omega arith in grind (arith, nat_tests))
has_step t t2 false this others = ap (nat_lt 0) (sym (others refl))

grows_step : (t t2 : ℕ) (b : Bool) → (b ≡ true → t2 ≡ t + 1) → (b ≡ false → t2 ≡ t) → t ≤ t2
grows_step t t2 true this others = omega (arith, this refl)
grows_step t t2 false this others = omega (arith, others refl)

grows : (key : Hash) (f g : Hash → ℕ) (q : Hash) → Counts key f g → f q ≤ g q
grows key f g q c = grows_step (f q) (g q) (same_bytes key q) (c.same q) (c.other q)

once_step : (t t2 : ℕ) (b : Bool) → (b ≡ true → t2 ≡ t + 1) → (b ≡ false → t2 ≡ t) → (b ≡ true → t ≡ 0) → (b ≡ false → t ≤ 1) → t2 ≤ 1
once_step t t2 true this others zero_t small = omega (arith, this refl, zero_t refl)
once_step t t2 false this others zero_t small = omega (arith, others refl, small refl)

-- a lesser key is another one
lesser_apart : (key q : Hash) → hash_cmp q key ≡ Less → same_bytes key q ≡ false
lesser_apart key q lt = sym (eq_step q key Less (same_bytes key q) lt refl)

-- the least repeated key after one key more
abbrev pub Least : (Hash → ℕ) → Option Hash → Type 0
Least f None = (q : Hash) → f q ≤ 1
Least f (Some l) = (2 ≤ f l) × ((q : Hash) → hash_cmp q l ≡ Less → f q ≤ 1)

kept_step : (key : Hash) (f g : Hash → ℕ) (least : Option Hash) → Counts key f g → f key ≡ 0 → Least f least → Least g least
kept_step key f g None c none h =
    λ q. once_step (f q) (g q) (same_bytes key q) (c.same q) (c.other q) (λ e. ap f (sym ((bytes_eq-Decides key q).0 e)) ∙ none) (λ e. h q)
kept_step key f g (Some l) c none h = (
  omega (arith, h.0, grows key f g l c),
  λ q lt. once_step (f q) (g q) (same_bytes key q) (c.same q) (c.other q) (λ e. ap f (sym ((bytes_eq-Decides key q).0 e)) ∙ none)
      (λ e. h.1 q lt),
)

twice_now : (key : Hash) (f g : Hash → ℕ) → Counts key f g → 1 ≤ f key → 2 ≤ g key
twice_now key f g c some = omega (arith, some, c.same key ((bytes_eq-Decides key key).1 refl))

two_step : (key l : Hash) (f g : Hash → ℕ) (o : Ordering) → hash_cmp l key ≡ o → Counts key f g → 1 ≤ f key → Least f (Some l)
    → Least g (Some (match_ordering o l key key))
two_step key l f g Less at c some h = (
  omega (arith, h.0, grows key f g l c),
  λ q lt. omega (arith, h.1 q lt, c.other q (lesser_apart key q (nat_list_cmp_total.trans q l key lt at))),
)
two_step key l f g Equal at c some h =
    let same : l ≡ key = exact_bytes l key at in (
      twice_now key f g c some,
      λ q lt. let lt2 : hash_cmp q l ≡ Less = ap (hash_cmp q) same ∙ lt in omega (arith, h.1 q lt2, c.other q (lesser_apart key q lt)),
    )
two_step key l f g Greater at c some h =
    let below : hash_cmp key l ≡ Less = nat_list_cmp_total.antisymm key l ∙ ap ordering_reverse at in (
      twice_now key f g c some,
      λ q lt. omega (arith, h.1 q (nat_list_cmp_total.trans q key l lt below), c.other q (lesser_apart key q lt)),
    )

found_step : (key : Hash) (f g : Hash → ℕ) (least : Option Hash) → Counts key f g → 1 ≤ f key → Least f least
    → Least g (Some (lesser least key))
found_step key f g None c some h = (twice_now key f g c some, λ q lt. omega (arith, h q, c.other q (lesser_apart key q lt)))
found_step key f g (Some l) c some h = two_step key l f g (hash_cmp l key) refl c some h

least_step : (key : Hash) (f g : Hash → ℕ) (least : Option Hash) (was : Bool) → Counts key f g → was ≡ nat_lt 0 (f key) → Least f least
    → Least g (if was then Some (lesser least key) else least)
least_step key f g least true c e h = found_step key f g least c (let p : nat_lt 0 (f key) ≡ true = sym e in grind (arith, nat_tests)) h
least_step key f g least false c e h = kept_step key f g least c (let p : nat_lt 0 (f key) ≡ false = sym e in grind (arith, nat_tests)) h

as_least : (items : List Item) (least : Option Hash) → MatchOption least ((q : Hash) → times q items ≤ 1) (IsLeastRepeated items)
    → Least (λ q. times q items) least
as_least items None h = h
as_least items (Some l) h = (h.twice, h.least)

from_least : (items : List Item) (least : Option Hash) → Least (λ q. times q items) least
    → MatchOption least ((q : Hash) → times q items ≤ 1) (IsLeastRepeated items)
from_least items None h = h
from_least items (Some l) h = record { twice = h.0; least = h.1 }

pub seen_start : (items : List Item) (keys : List (Hash × Unit {0})) → keys ≡ [] → Seen items 0 keys None
seen_start items keys e = record { has = λ q. ap (λ (m : List (Hash × Unit {0})). has_in hash_cmp m q) e; least_is = λ q. omega arith }

pub seen_more : (items : List Item) (i : ℕ) (item : Item) (key : Hash) (keys next : List (Hash × Unit {0})) (least after : Option Hash)
    (was : Bool) → i < length items → get_or items i item ≡ item → key ≡ item.key
    → next ≡ insert_in hash_cmp keys key tt → was ≡ has_in hash_cmp keys key → after ≡ (if was then Some (lesser least key) else least)
    → Seen items i keys least → Seen items (i + 1) next after
seen_more items i item key keys next least after was lt at is ins w e s =
    let counts : Counts key (λ q. times q (take i items)) (λ q. times q (take (i + 1) items)) = record {
      same = λ q same. count_by_more_yes (λ (x : Item). same_bytes x.key q) items i item lt
          (ap (λ (x : Item). same_bytes x.key q) at ∙ ap (λ (k : Hash). same_bytes k q) (sym is) ∙ same);
      other = λ q other. count_by_more_no (λ (x : Item). same_bytes x.key q) items i item lt
          (ap (λ (x : Item). same_bytes x.key q) at ∙ ap (λ (k : Hash). same_bytes k q) (sym is) ∙ other);
    } in
    record {
      has = λ q. ap (λ (m : List (Hash × Unit {0})). has_in hash_cmp m q) ins ∙ has_insert keys key q
          ∙ (λ j. eq_step q key (hash_cmp q key) (same_bytes key q) refl refl j || s.has q j)
          ∙ has_step (times q (take i items)) (times q (take (i + 1) items)) (same_bytes key q) (counts.same q) (counts.other q);
      least_is = from_least (take (i + 1) items) after (subst (λ (x : Option Hash). Least (λ q. times q (take (i + 1) items)) x) (sym e)
          (least_step key (λ q. times q (take i items)) (λ q. times q (take (i + 1) items)) least was counts (w ∙ s.has key)
          (as_least (take i items) least s.least_is)));
    }

pub seen_all : (items : List Item) (i : ℕ) (keys : List (Hash × Unit {0})) (least : Option Hash) → length items ≤ i
    → Seen items i keys least → MatchOption least ((q : Hash) → times q items ≤ 1) (IsLeastRepeated items)
seen_all items i keys least le s =
    subst (λ (x : List Item). MatchOption least ((q : Hash) → times q x ≤ 1) (IsLeastRepeated x)) (take_all i items le) s.least_is
