-- Items in order, cut where the first nibble changes.
use Rattle.std.specs.Prelude.{◌≡◌, ◌≢◌, ◌⊎◌, ℕ, zero, suc, ◌+◌, ◌<◌, ◌≤◌, List, [], ◌∷◌, ◌++◌, take, drop, length, Vec, Some, refl}
use Rattle.std.proofs.Common.{sym, ap, ◌∙◌, subst, arith, append_assoc, append-nil, inl, inr}
use Rattle.std.specs.List.{flat_map, slice_get, AllByRecursion}
use Rattle.std.specs.List.Sorted.{IsStrictlySortedBy}
use Rattle.std.specs.Map.{keys_of}
use Rattle.std.specs.declared.alloc.Global.{Global}
use Rattle.std.specs.declared.cmp.Ordering.TheVariants.{Less, Greater}
use Rattle.std.proofs.lemmas.Bool.{cases_lt}
use Rattle.std.proofs.lemmas.List.{take-append-drop}
use Rattle.nib_path.specs.Paths.{nibble_of}
use Rattle.ledger_spec.specs.Bytes.{Hash}
use Rattle.ledger_spec.specs.Maps.{hash_cmp, IsMap}
use Rattle.ledger_spec.specs.Tree.{Entry}
use Rattle.shamap_node.specs.declared.parts.Item.{Item}
use Rattle.cow_map.specs.Gathered.{entry_of, entries_of}
use Rattle.cow_map.proofs.shared.Entries.{AllCompare}
use Rattle.cow_map.proofs.shared.Gathered.{sorted_behind, entries_append, first_less}
use Rattle.cow_map.proofs.shared.Keys.{under_branch}
use Rattle.cow_map.proofs.shared.Orders.{branch_greater}
use Rattle.cow_map.proofs.shared.Pushing.{get_more}
use Rattle.cow_build.specs.Building.{IsCut}

abbrev first_of : Item → ℕ
first_of item = nibble_of item.key 0

-- first nibbles don't fall where keys rise
first_rises : (k l : Item) → hash_cmp k.key l.key ≡ Less → first_of k ≤ first_of l
first_rises k l less = elim (cases_lt (first_of l) (first_of k)) [
  | inl falls ↦
      let under_k = under_branch [] k.key (first_of k) 0 k.valid.key_size refl (omega arith) refl refl in
      let under_l = under_branch [] l.key (first_of l) 0 l.valid.key_size refl (omega arith) refl refl in
      let wrong : Less ≡ Greater = sym less ∙ branch_greater [] (first_of k) (first_of l) k.key l.key under_k under_l falls in cc
  | inr rises ↦ rises
]

-- those behind an item have its first nibble or a greater one
behind_first : (b : ℕ) (e : Item) (es : List Item) → b ≤ first_of e → AllCompare Less e.key (entries_of es)
    → AllByRecursion (λ (x : Item). b ≤ first_of x) es
behind_first b e [] low h = tt
behind_first b e (x ∷ es) low h = (let more = first_rises e x h.0 in omega arith, behind_first b e es low h.1)

-- a list whose first item, if any, has another nibble than b
abbrev Ends : ℕ → List Item → Type 0
Ends b [] = Unit {0}
Ends b (e ∷ es) = (first_of e ≢ b) × (first_of e < 16)

all_back : {X : Type 0} (P : X → Type 0) (xs ys : List X) → AllByRecursion P (xs ++ ys) → AllByRecursion P ys
all_back P [] ys h = h
all_back P (x ∷ xs) ys h = all_back P xs ys h.1

all_append : {X : Type 0} (P : X → Type 0) (xs ys : List X) → AllByRecursion P xs → AllByRecursion P ys → AllByRecursion P (xs ++ ys)
all_append P [] ys a b = b
all_append P (x ∷ xs) ys a b = (a.0, all_append P xs ys a.1 b)

-- what is told of each place of a front
all_taken : {X : Type 0} (P : X → Type 0) (n : ℕ) (xs : List X) → ((i : ℕ) (x : X) → i < n → slice_get xs i ≡ Some x → P x)
    → AllByRecursion P (take n xs)
all_taken P zero xs f = tt
all_taken P (suc n) [] f = tt
all_taken P (suc n) (x ∷ xs) f = (f 0 x (omega arith) refl, all_taken P n xs (λ i y lt at. f (suc i) y (omega arith) at))

ends_there : (b n : ℕ) (xs : List Item) → ((x : Item) → slice_get xs n ≡ Some x → first_of x ≢ b)
    → ((x : Item) → slice_get xs n ≡ Some x → first_of x < 16) → Ends b (drop n xs)
ends_there b zero [] f g = tt
ends_there b zero (x ∷ xs) f g = (f x refl, g x refl)
ends_there b (suc n) [] f g = tt
ends_there b (suc n) (x ∷ xs) f g = ends_there b n xs f g

-- what is left has greater first nibbles
left_from : (b : ℕ) (xs : List Item) → IsMap hash_cmp (entries_of xs) → AllByRecursion (λ (x : Item). b ≤ first_of x) xs → Ends b xs
    → AllByRecursion (λ (x : Item). b + 1 ≤ first_of x) xs
left_from b [] rising from ends = tt
left_from b (e ∷ es) rising from ends =
    let more : b + 1 ≤ first_of e = omega (arith, from.0, ends.0) in
    (more, behind_first (b + 1) e es more (first_less (entry_of e) (entries_of es) rising))

left_end : (b : ℕ) (xs : List Item) → AllByRecursion (λ (x : Item). b ≤ first_of x) xs → Ends b xs → (xs ≡ []) ⊎ (b + 1 < 16)
left_end b [] from ends = inl refl
left_end b (e ∷ es) from ends = inr (omega (arith, from.0, ends.0, ends.1))

keys_front : (P : Hash → Type 0) (xs ys : List Entry) → AllByRecursion P (keys_of (xs ++ ys)) → AllByRecursion P (keys_of xs)
keys_front P [] ys h = tt
keys_front P (x ∷ xs) ys h = (h.0, keys_front P xs ys h.1)

sorted_front : (xs ys : List Entry) → IsMap hash_cmp (xs ++ ys) → IsMap hash_cmp xs
unfolding IsStrictlySortedBy
sorted_front [] ys h = tt
sorted_front (x ∷ xs) ys h = (keys_front _ xs ys h.0, sorted_front xs ys h.1)

flat_more : (parts : List (Vec Item Global)) (part : Vec Item Global)
    → flat_map (λ p. p.items) (parts ++ part ∷ []) ≡ flat_map (λ p. p.items) parts ++ part.items
flat_more [] part = append-nil part.items
flat_more (p ∷ parts) part = ap (λ xs. p.items ++ xs) (flat_more parts part)
    ∙ sym (append_assoc p.items (flat_map (λ q. q.items) parts) part.items)

-- the parts of the first b nibbles, and what is left
pub record Cutting (all : List Item) (parts : List (Vec Item Global)) (rest : List Item) (b : ℕ) : Type 0 where
  pub count : length parts ≡ b
  pub whole : flat_map (λ part. part.items) parts ++ rest ≡ all
  pub rising : AllByRecursion (λ part. IsMap hash_cmp (entries_of part.items)) parts
  pub first : (c : ℕ) (part : Vec Item Global) → slice_get parts c ≡ Some part
      → AllByRecursion (λ item. nibble_of item.key 0 ≡ c) part.items
  pub from : AllByRecursion (λ (x : Item). b ≤ nibble_of x.key 0) rest
  pub end : (rest ≡ []) ⊎ (b < 16)

from_none : (xs : List Item) → AllByRecursion (λ (x : Item). 0 ≤ first_of x) xs
from_none [] = tt
from_none (x ∷ xs) = (omega arith, from_none xs)

pub cut_start : (all : List Item) → Cutting all [] all 0
cut_start all = record {
  count = refl;
  whole = refl;
  rising = tt;
  first = λ c part at. cc;
  from = from_none all;
  end = inr (omega arith);
}

pub cut_done : (all : List Item) (parts : List (Vec Item Global)) (rest : List Item) (b : ℕ) → 16 ≤ b → Cutting all parts rest b
    → IsCut all parts
cut_done all parts rest b last cutting = record {
  whole = whole cutting.end;
  rising = cutting.rising;
  first = cutting.first;
}
  where
    whole : (rest ≡ []) ⊎ (b < 16) → flat_map (λ part. part.items) parts ≡ all
    whole (inl none_left) = sym (append-nil _) ∙ ap (λ xs. flat_map (λ part. part.items) parts ++ xs) (sym none_left) ∙ cutting.whole
    whole (inr more) = absurd (omega arith)

pub cut_more : (all : List Item) (parts more : List (Vec Item Global)) (rest behind : List Item) (b n : ℕ) (part : Vec Item Global)
    → IsMap hash_cmp (entries_of all) → more ≡ parts ++ part ∷ []
    → part.items ≡ take n rest → behind ≡ drop n rest
    → ((i : ℕ) (item : Item) → i < n → slice_get rest i ≡ Some item → nibble_of item.key 0 ≡ b)
    → ((item : Item) → slice_get rest n ≡ Some item → nibble_of item.key 0 ≢ b)
    → ((item : Item) → slice_get rest n ≡ Some item → nibble_of item.key 0 < 16)
    → Cutting all parts rest b → Cutting all more behind (b + 1)
cut_more all parts more rest behind b n part sorted are front_is back_is same other small cutting = record {
  count = ap length are ∙ length_more parts part ∙ ap (λ m. m + 1) cutting.count;
  whole =
      ap (λ ps. flat_map (λ p. p.items) ps ++ behind) are ∙ ap (λ xs. xs ++ behind) (flat_more parts part)
      ∙ append_assoc (flat_map (λ p. p.items) parts) part.items behind
      ∙ ap (λ xs. flat_map (λ p. p.items) parts ++ xs) ((λ i. front_is i ++ back_is i) ∙ take-append-drop n rest) ∙ cutting.whole;
  rising = subst (AllByRecursion (λ p. IsMap hash_cmp (entries_of p.items))) (sym are)
      (all_append (λ p. IsMap hash_cmp (entries_of p.items)) parts (part ∷ []) cutting.rising (front_sorted, tt));
  first = λ c p at. first_at c p (get_more parts part p c (ap (λ ps. slice_get ps c) (sym are) ∙ at));
  from = subst (AllByRecursion (λ (x : Item). b + 1 ≤ nibble_of x.key 0)) (sym back_is)
      (left_from b (drop n rest) back_sorted back_from (ends_there b n rest other small));
  end = subst (λ xs. (xs ≡ []) ⊎ (b + 1 < 16)) (sym back_is) (left_end b (drop n rest) back_from (ends_there b n rest other small));
}
  where
    length_more : (ps : List (Vec Item Global)) (p : Vec Item Global) → length (ps ++ p ∷ []) ≡ length ps + 1
    length_more [] p = refl
    length_more (q ∷ ps) p = let rest_is = length_more ps p in omega arith

    rest_sorted : IsMap hash_cmp (entries_of (take n rest) ++ entries_of (drop n rest))
    rest_sorted =
        subst (λ es. IsMap hash_cmp es) (ap entries_of (sym (take-append-drop n rest)) ∙ entries_append (take n rest) (drop n rest))
        (sorted_behind (entries_of (flat_map (λ p. p.items) parts)) (entries_of rest)
        (subst (λ es. IsMap hash_cmp es) (ap entries_of (sym cutting.whole) ∙ entries_append (flat_map (λ p. p.items) parts) rest) sorted))

    front_sorted : IsMap hash_cmp (entries_of part.items)
    front_sorted = subst (λ xs. IsMap hash_cmp (entries_of xs)) (sym front_is)
        (sorted_front (entries_of (take n rest)) (entries_of (drop n rest)) rest_sorted)

    back_sorted : IsMap hash_cmp (entries_of (drop n rest))
    back_sorted = sorted_behind (entries_of (take n rest)) (entries_of (drop n rest)) rest_sorted

    back_from : AllByRecursion (λ (x : Item). b ≤ first_of x) (drop n rest)
    back_from = all_back (λ (x : Item). b ≤ first_of x) (take n rest) (drop n rest)
        (subst (AllByRecursion (λ (x : Item). b ≤ first_of x)) (sym (take-append-drop n rest)) cutting.from)

    first_at : (c : ℕ) (p : Vec Item Global) → (slice_get parts c ≡ Some p) ⊎ ((c ≡ length parts) × (p ≡ part))
        → AllByRecursion (λ item. nibble_of item.key 0 ≡ c) p.items
    first_at c p (inl at) = cutting.first c p at
    first_at c p (inr last) =
        subst (λ q. AllByRecursion (λ item. nibble_of item.key 0 ≡ c) q.items) (sym last.1)
        (subst (λ d. AllByRecursion (λ item. nibble_of item.key 0 ≡ d) part.items) (sym (last.0 ∙ cutting.count))
        (subst (AllByRecursion (λ item. nibble_of item.key 0 ≡ b)) (sym front_is)
        (all_taken (λ item. nibble_of item.key 0 ≡ b) n rest same)))
