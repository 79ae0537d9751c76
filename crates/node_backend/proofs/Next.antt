-- The next hash of a list that rises.
use Rattle.std.proofs.Common.{◌≡◌, ◌≤◌, ◌<◌, ℕ, Bool, true, false, List, [], ◌∷◌, Option, Some, None, is_some, IsTrue, ◌⊎◌, inl, inr}
use Rattle.std.proofs.Common.{length, get_or, refl, sym, ◌∙◌, ap, subst, arith}
use Rattle.std.specs.Option.{IsSome}
use Rattle.std.specs.List.{slice_get, slice_index_or, list_any, Any}
use Rattle.std.specs.List.Sorted.{IsPermutation, IsSorted, IsPartitionedBy, IsPartitionPoint}
use Rattle.std.specs.Ordering.{nat_cmp, is_le, is_gt, is_lt, ordering_reverse, ordering_index}
use Rattle.std.specs.declared.cmp.Ordering.{Ordering}
use Rattle.std.specs.declared.cmp.Ordering.TheVariants.{Less, Equal, Greater}
use Rattle.std.specs.Cmp.Lexicographic.{slice_cmp, nat_list_cmp_total, texts_ties}
use Rattle.std.proofs.lemmas.List.Sorted.{ranks_by, sorted_far, searchable_from_sorted}
use Rattle.std.proofs.lemmas.List.Folds.{Any-from_list_any, list_any_at}
use Rattle.std.proofs.lemmas.Option.{slice_get_cases, get_or_from_slice_get}
use Rattle.std.proofs.lemmas.Cmp.{nat_list_eq_equiv}
use Rattle.std.proofs.lemmas.Bool.{cases_lt}
use Rattle.std.proofs.lemmas.Map.Lookups.{exact_bytes}
use Rattle.std.proofs.lemmas.Map.Views.{tells_apart}
use Rattle.std.specs.FinMap as map
use Rattle.ledger_spec.specs.Maps.{MapOf, hash_cmp}
use Rattle.ledger_spec.specs.Bytes.{Bytes, Hash, Nodes, same_bytes}
use Rattle.node_backend.specs.Order.{IsAfter, IsNext}
use Rattle.node_backend.specs.Rising.{IsRising}

-- of two hashes of the list the first is not greater
far : (order : List Hash) → IsSorted hash_cmp order → (i j : ℕ) (d : Hash) → i ≤ j → j < length order
    → is_lt (hash_cmp (get_or order j d) (get_or order i d)) ≡ false
far order up i j d le less = sorted_far (λ x y. is_lt (hash_cmp x y)) (ranks_by nat_list_cmp_total (λ x. x)) order up i j d le less

turned : (r s : Ordering) → r ≡ ordering_reverse s → is_lt r ≡ false → is_gt s ≡ false
turned r Less e not = refl
turned r Equal e not = refl
turned r Greater e not = let less : is_lt r ≡ true = ap is_lt e in cc

not_greater : (x y : Hash) → is_lt (hash_cmp y x) ≡ false → is_gt (hash_cmp x y) ≡ false
not_greater x y not = turned (hash_cmp y x) (hash_cmp x y) (nat_list_cmp_total.antisymm y x) not

-- a hash that the list has stands at a place
at_place : (order : List Hash) (h : Hash) → list_any (same_bytes h) order ≡ true
    → (k : ℕ) × (d : Hash) × (k < length order) × (get_or order k d ≡ h)
at_place order h has =
    let one : Any (λ x. same_bytes h x ≡ true) order = Any-from_list_any (same_bytes h) order has in
    (one.0, one.1, one.2, one.3 ∙ sym (tells_apart exact_bytes h one.1 (sym (texts_ties h one.1) ∙ one.4)))

-- from a place on the hashes come after the last one, and before it none does
pub record Parts (order : List Hash) (after : Option Hash) (i : ℕ) : Type 0 where
  pub before : (k : ℕ) (d : Hash) → k < i → IsAfter after (get_or order k d) → ⊥
  pub behind : (k : ℕ) (d : Hash) → i ≤ k → k < length order → IsAfter after (get_or order k d)

no_true : true ≡ false → ⊥
no_true e = cc

-- an entry that is held is among the keys, and one that comes after is none of those before the place
held_behind : {X : Type 0} (order : List Hash) (m : MapOf X) (after : Option Hash) (i : ℕ) → IsRising order m → Parts order after i
    → (h : Hash) → IsAfter after h → is_some (map.get m h) ≡ true
    → (k : ℕ) × (d : Hash) × (i ≤ k) × (k < length order) × (get_or order k d ≡ h)
held_behind order m after i r p h is held =
    let at : (k : ℕ) × (d : Hash) × (k < length order) × (get_or order k d ≡ h) = at_place order h (sym (r.has h) ∙ held) in
    elim (cases_lt at.0 i) [
      | inr le ↦ (at.0, at.1, le, at.2, at.3)
      | inl lt ↦ absurd (p.before at.0 at.1 lt (subst (λ (x : Hash). IsAfter after x) (sym at.3) is))
    ]

none_left : {X : Type 0} (order : List Hash) (m : MapOf X) (after : Option Hash) (i : ℕ) → IsRising order m → Parts order after i
    → length order ≤ i → (h : Hash) → IsAfter after h → (o : Option X) → map.get m h ≡ o → o ≡ None
none_left order m after i r p past h is None e = refl
none_left order m after i r p past h is (Some x) e =
    let at : (k : ℕ) × (d : Hash) × (i ≤ k) × (k < length order) × (get_or order k d ≡ h) =
    held_behind order m after i r p h is (ap is_some e) in
    let le : i ≤ at.0 = at.2 in
    let lt : at.0 < length order = at.3 in
    absurd (omega arith)

same_self : (h : Hash) → same_bytes h h ≡ true
same_self h = nat_list_eq_equiv.refl h

-- the hash at the place is the next one
pub next_of : {X : Type 0} (order : List Hash) (m : MapOf X) (after : Option Hash) (i : ℕ) → IsRising order m → Parts order after i
    → IsNext m after (slice_get order i)
next_of {X} order m after i r p =
    elim (slice_get_cases order i).1 [
      | inl is ↦ subst (λ (o : Option Hash). IsNext m after o) (sym is.2) (
        subst (λ (x : Hash). IsAfter after x) is.3 (p.behind i is.0 (omega arith) is.1),
        r.has is.0 ∙ list_any_at (same_bytes is.0) order i is.0 is.1 (ap (same_bytes is.0) is.3 ∙ same_self is.0),
        λ h after_it held.
            let at : (k : ℕ) × (d : Hash) × (i ≤ k) × (k < length order) × (get_or order k d ≡ h) =
            held_behind order m after i r p h after_it held in
            subst (λ (x : Hash). is_gt (hash_cmp is.0 x) ≡ false) at.4
            (subst (λ (x : Hash). is_gt (hash_cmp x (get_or order at.0 at.1)) ≡ false) (get_or_from_slice_get order i is.0 at.1 is.2)
            (not_greater (get_or order i at.1) (get_or order at.0 at.1) (far order r.up i at.0 at.1 at.2 at.3))),
      )
      | inr past ↦ subst (λ (o : Option Hash). IsNext m after o) (sym past.1)
          (λ h is. none_left order m after i r p past.0 h is (map.get m h) refl)
    ]

-- where a search ends

less_index : (r s : Ordering) → ordering_index r ≤ ordering_index s → is_le s ≡ true → is_le r ≡ true
less_index Less s le is = refl
less_index Equal s le is = refl
less_index Greater Less le is = absurd (omega arith)
less_index Greater Equal le is = absurd (omega arith)
less_index Greater Greater le is = is

abbrev pub is_up_to : Hash → Hash → Bool
is_up_to last h = is_le (hash_cmp h last)

pub parted : (order : List Hash) (last : Hash) → IsSorted hash_cmp order → IsPartitionedBy (is_up_to last) order
parted order last up i j d le less is =
    less_index (hash_cmp (get_or order i d) last) (hash_cmp (get_or order j d) last)
    (searchable_from_sorted nat_list_cmp_total (λ (x : Hash). x) order last up i j d le less) is

not_up_to : (r s : Ordering) → r ≡ ordering_reverse s → is_le r ≡ true → s ≡ Less → ⊥
not_up_to r s e is less = let greater : r ≡ Greater = e ∙ ap ordering_reverse less in no_true (sym is ∙ ap is_le greater)

comes_behind : (r s : Ordering) → s ≡ ordering_reverse r → is_le r ≡ false → s ≡ Less
comes_behind Less s e not = absurd (no_true not)
comes_behind Equal s e not = absurd (no_true not)
comes_behind Greater s e not = e

pub parts_at : (order : List Hash) (last : Hash) (i : ℕ) → IsPartitionPoint (λ y. is_up_to last y ≡ true)
    (λ y. is_up_to last y ≡ false) order i
    → Parts order (Some last) i
parts_at order last i p = record {
  before = λ k d lt is. not_up_to (hash_cmp (get_or order k d) last) (hash_cmp last (get_or order k d))
      (nat_list_cmp_total.antisymm (get_or order k d) last) (p.0 k d (omega arith) lt) is;
  behind = λ k d le lt. comes_behind (hash_cmp (get_or order k d) last) (hash_cmp last (get_or order k d))
      (nat_list_cmp_total.antisymm last (get_or order k d)) (p.1 k d le lt);
}

pub parts_first : (order : List Hash) → Parts order None 0
parts_first order = record { before = λ k d lt is. absurd (omega (arith, lt)); behind = λ k d le lt. tt }

pub parts_as : (order : List Hash) (after after' : Option Hash) (i i' : ℕ) → Parts order after i → after' ≡ after → i' ≡ i
    → Parts order after' i'
parts_as order after after' i i' p e f = subst (λ (x : Option Hash). Parts order x i') (sym e)
    (subst (λ (x : ℕ). Parts order after x) (sym f) p)
