-- How many places are met from those that are to be looked at, and how many there can be.
use Rattle.std.proofs.Common.{◌≡◌, ℕ, zero, suc, ◌+◌, ◌-◌, ◌*◌, ◌<◌, ◌≤◌, ◌==◌, Bool, true, false, is_some, if◌then◌else◌, List, [], ◌∷◌}
use Rattle.std.proofs.Common.{◌++◌, length, Option, None, Some, refl, sym, ap, ◌∙◌, subst, arith, length-append}
use Rattle.std.specs.List.{flat_map, range_with_len, slice_index_or}
use Rattle.std.proofs.lemmas.Bool.Decides.{nat_tests}
use Rattle.ledger_spec.specs.declared.Kind.{Kind}
use Rattle.ledger_spec.specs.declared.ShapeFault.{ShapeFault}
use Rattle.ledger_spec.specs.Bytes.{Bytes, Hash, Half, Lookup, zero_hash, is_zero}
use Rattle.ledger_spec.specs.Forms.{Held, inner}
use Rattle.ledger_spec.specs.Rules.{fault_of}
use Rattle.ledger_spec.specs.Findings.{missing, sound, walk, branches_of, sight_of, judged, seen_as, held_of}
use Rattle.tree_laws.specs.Walks.{at_place}
use Rattle.tree_laws.proofs.shared.Steps.{walks_below, walk_empty, walk_bottom, walk_step, walk_inner}
use Rattle.std.specs.declared.sync.Arc.{Arc}
use Rattle.std.specs.declared.alloc.Global.{Global}
use Rattle.tree_cache.specs.declared.cache.TreeCache.{TreeCache}
use Rattle.tree_cache.specs.Caching.{shown as cached_shown, cached, AreCached}
use Rattle.tree_cache.proofs.shared.Using.{cached_is}
use Rattle.shamap_node.specs.Nodes.{held}
use Rattle.shamap_node.specs.declared.Node.{Node}
use Rattle.shamap_node.specs.declared.Node.TheVariants as variant
use Rattle.missing_walk.specs.declared.sight.View.{View}
use Rattle.missing_walk.specs.declared.sight.View.TheVariants as view
use Rattle.missing_walk.specs.Pending.{Pending, kid, kids_from, kids_of, IsHeldAt, IsCachedTrue}
use Rattle.missing_walk.specs.Views.{ShowsAs, HasLevels}
use Rattle.missing_walk.specs.Rests.{weight, stored_weight, most_below, most_from, most_again, load, Weighs}
use Rattle.missing_walk.proofs.Seeing.{kids_are, inner_short, held_seen}

pub true_false : true ≡ false → ⊥
true_false e = cc

pub load_join : (f : Pending → ℕ) (xs ys : List Pending) → load f (xs ++ ys) ≡ load f xs + load f ys
load_join f [] ys = omega arith
load_join f (x ∷ xs) ys = omega (arith, load_join f xs ys)

module _ (half : Half) (nodes : Lookup) where
  one_met : (kind : Kind) (left : ℕ) (parent : Option (List Hash)) (path : List ℕ) (h : Hash) → is_zero h ≡ false
      → 1 ≤ length (walk half nodes kind left parent path h)
  one_met kind zero parent path h nonzero = omega (arith, ap length (walk_bottom half nodes kind parent path h nonzero))
  one_met kind (suc left) parent path h nonzero = omega (arith, ap length (walk_step half nodes kind left parent path h nonzero))

  -- a place is met itself
  pub weight_some : (p : Pending) → is_zero p.hash ≡ false → 1 ≤ weight half nodes p
  weight_some p nonzero = one_met p.kind (64 - length p.path) p.parent p.path p.hash nonzero

  only_met : (kind : Kind) (left : ℕ) (parent : Option (List Hash)) (path : List ℕ) (h : Hash) → is_zero h ≡ false
      → at_place half nodes kind parent path h ≡ missing → length (walk half nodes kind left parent path h) ≡ 1
  only_met kind zero parent path h nonzero is = ap length (walk_bottom half nodes kind parent path h nonzero)
  only_met kind (suc left) parent path h nonzero is =
      ap length (walk_step half nodes kind left parent path h nonzero)
      ∙ ap (λ s. suc (length (branches_of s (walks_below half nodes kind left path)))) is

  -- nothing is met below a missing place
  pub weight_missing : (p : Pending) → is_zero p.hash ≡ false → at_place half nodes p.kind p.parent p.path p.hash ≡ missing
      → weight half nodes p ≡ 1
  weight_missing p nonzero is = only_met p.kind (64 - length p.path) p.parent p.path p.hash nonzero is

  kid_load : (kind : Kind) (path : List ℕ) (hashes : List Hash) (left b : ℕ) → left ≡ 63 - length path → (z : Bool)
      → is_zero (slice_index_or hashes b zero_hash) ≡ z
      → length (walk half nodes kind left (Some hashes) (path ++ b ∷ []) (slice_index_or hashes b zero_hash))
      ≡ load (weight half nodes) (if z then [] else record {
        kind = kind;
        path = path ++ b ∷ [];
        hash = slice_index_or hashes b zero_hash;
        parent = Some hashes;
      } ∷ [])
  kid_load kind path hashes left b level true e =
      ap length (walk_empty half nodes kind left (Some hashes) (path ++ b ∷ []) (slice_index_or hashes b zero_hash) e)
  kid_load kind path hashes left b level false e =
      let below : left ≡ 64 - length (path ++ b ∷ []) = omega (arith, level, length-append path (b ∷ [])) in
      let same : length (walk half nodes kind left (Some hashes) (path ++ b ∷ []) (slice_index_or hashes b zero_hash))
      ≡ length (walk half nodes kind (64 - length (path ++ b ∷ [])) (Some hashes) (path ++ b ∷ []) (slice_index_or hashes b zero_hash)) =
      ap (λ l. length (walk half nodes kind l (Some hashes) (path ++ b ∷ []) (slice_index_or hashes b zero_hash))) below in
      omega (arith, same)

  kids_load : (kind : Kind) (path : List ℕ) (hashes : List Hash) (left : ℕ) (bs : List ℕ) → left ≡ 63 - length path
      → length (flat_map (λ b. walk half nodes kind left (Some hashes) (path ++ b ∷ []) (slice_index_or hashes b zero_hash)) bs)
      ≡ load (weight half nodes) (flat_map (kid kind path hashes) bs)
  kids_load kind path hashes left [] level = refl
  kids_load kind path hashes left (b ∷ bs) level =
      let one = kid_load kind path hashes left b level (is_zero (slice_index_or hashes b zero_hash)) refl in
      let rest = kids_load kind path hashes left bs level in
      let joined = length-append (walk half nodes kind left (Some hashes) (path ++ b ∷ []) (slice_index_or hashes b zero_hash))
      (flat_map (λ b. walk half nodes kind left (Some hashes) (path ++ b ∷ []) (slice_index_or hashes b zero_hash)) bs) in
      joined ∙ (λ i. one i + rest i) ∙ sym (load_join (weight half nodes) (kid kind path hashes b) (flat_map (kid kind path hashes) bs))

  -- an inner node weighs one more than its branches
  pub weight_inner : (p : Pending) (hashes : List Hash) → is_zero p.hash ≡ false → length p.path < 64
      → at_place half nodes p.kind p.parent p.path p.hash ≡ sound (inner hashes)
      → weight half nodes p ≡ suc (load (weight half nodes) (kids_from p.kind p.path hashes 0 16))
  unfolding kids_from
  weight_inner p hashes nonzero short is =
      let next : 64 - length p.path ≡ suc (63 - length p.path) = omega arith in
      ap (λ l. length (walk half nodes p.kind l p.parent p.path p.hash)) next
      ∙ ap length (walk_inner half nodes p.kind (63 - length p.path) p.parent p.path p.hash hashes nonzero is)
      ∙ ap suc (kids_load p.kind p.path hashes (63 - length p.path) (range_with_len 0 16) refl)

  -- nothing is stored where a place is missing
  absent_by : (rules : Held → Option ShapeFault) (o : Option Bytes) → sight_of half rules o ≡ missing → o ≡ None
  absent_by rules None is = refl
  absent_by rules (Some form) is = absurd (by_held (held_of half form) is)
    where
      by_fault : (n : Held) (e : Option ShapeFault) → seen_as n e ≡ missing → ⊥
      by_fault n None is = cc
      by_fault n (Some fault) is = cc

      by_held : (o : Option Held) → judged rules o ≡ missing → ⊥
      by_held None is = cc
      by_held (Some n) is = by_fault n (rules n) is

  none_stored : (p : Pending) (o : Option Bytes) → o ≡ None → (if is_some o then weight half nodes p else 0) ≡ 0
  none_stored p o e = ap (λ x. if is_some x then weight half nodes p else 0) e

  -- what is seen of a place leaves fewer
  pub weighs_seen : (p : Pending) (v : View) → is_zero p.hash ≡ false → length p.path ≤ 64
      → ShowsAs v (at_place half nodes p.kind p.parent p.path p.hash) → Weighs (weight half nodes) (stored_weight half nodes) p v
  weighs_seen p view.Missing nonzero short shows =
      let one = weight_missing p nonzero shows in
      let none = none_stored p (nodes p.hash) (absent_by (λ n. fault_of n p.parent p.kind p.path) (nodes p.hash) shows) in
      omega (arith, one, none)
  weighs_seen p (view.Broken fault) nonzero short shows = tt
  weighs_seen p (view.Below node) nonzero short shows =
      let whole = weight_inner p shows.hashes nonzero (inner_short half nodes p shows.hashes short shows.seen) shows.seen in
      let kids = ap (load (weight half nodes)) (kids_are half nodes p node.value shows.hashes shows.inner_node) in
      omega (arith, whole, kids)
  weighs_seen p view.Nothing nonzero short shows = weight_some p nonzero

  -- a cached node is held, so what is seen of it is what is seen in the store
  pub weighs_cached : (c : TreeCache) (p : Pending) (o : Option (Arc Node Global)) (node : Arc Node Global) (v : View)
      → AreCached (IsCachedTrue half nodes) c → cached_shown o ≡ cached c p.hash c.generation → o ≡ Some node
      → is_zero p.hash ≡ false → length p.path ≤ 64
      → ShowsAs v (seen_as (held node.value) (fault_of (held node.value) p.parent p.kind p.path))
      → Weighs (weight half nodes) (stored_weight half nodes) p v
  weighs_cached c p o node v all value is nonzero short shows =
      let at : IsHeldAt half nodes p.hash (held node.value) =
      cached_is (IsCachedTrue half nodes) c p.hash all c.generation node.value (sym value ∙ ap cached_shown is) in
      weighs_seen p v nonzero short (subst (ShowsAs v) (held_seen half nodes p.kind p.parent p.path p.hash (held node.value) at) shows)

  zero_weight : (p : Pending) → is_zero p.hash ≡ true → weight half nodes p ≡ 0
  zero_weight p z = ap length (walk_empty half nodes p.kind (64 - length p.path) p.parent p.path p.hash z)

  one_at_most : (p : Pending) (z : Bool) → is_zero p.hash ≡ z → nodes p.hash ≡ None → weight half nodes p ≤ 1
  one_at_most p true z none = omega (arith, zero_weight p z)
  one_at_most p false z none =
      omega (arith, weight_missing p z (ap (sight_of half (λ n. fault_of n p.parent p.kind p.path)) none))

  again_by : (p : Pending) (o : Option Bytes) → nodes p.hash ≡ o
      → weight half nodes p ≤ (if is_some o then weight half nodes p else 0) + 1
  again_by p None none = one_at_most p (is_zero p.hash) refl none
  again_by p (Some form) there = omega arith

  -- a noted place counts at most one more on the stack
  pub stored_again : (p : Pending) → weight half nodes p ≤ stored_weight half nodes p + 1
  stored_again p = again_by p (nodes p.hash) refl

most_some_by : (left : ℕ) → 1 ≤ most_below left
unfolding most_below
most_some_by zero = omega arith
most_some_by (suc left) = omega arith

pub most_some : (p : Pending) → 1 ≤ most_from p
most_some p = most_some_by (64 - length p.path)

pub noted_again : (p : Pending) → most_from p ≤ most_again p + 1
noted_again p = omega (arith, most_some p)

most_kid : (kind : Kind) (path : List ℕ) (hashes : List Hash) (left b : ℕ) → left ≡ 63 - length path → (z : Bool)
    → load most_from (if z then [] else record {
      kind = kind;
      path = path ++ b ∷ [];
      hash = slice_index_or hashes b zero_hash;
      parent = Some hashes;
    } ∷ []) ≤ most_below left
most_kid kind path hashes left b level true = omega arith
most_kid kind path hashes left b level false =
    let below : 64 - length (path ++ b ∷ []) ≡ left = omega (arith, level, length-append path (b ∷ [])) in
    omega (arith, ap most_below below)

-- so many times, one after the other
abbrev times : ℕ → ℕ → ℕ
times zero m = 0
times (suc n) m = m + times n m

sixteen : (m : ℕ) → times 16 m ≡ 16 * m
sixteen m = omega arith

most_kids : (kind : Kind) (path : List ℕ) (hashes : List Hash) (left : ℕ) → left ≡ 63 - length path → (b n : ℕ)
    → load most_from (flat_map (kid kind path hashes) (range_with_len b n)) ≤ times n (most_below left)
most_kids kind path hashes left level b zero = omega arith
most_kids kind path hashes left level b (suc n) =
    let one = most_kid kind path hashes left b level (is_zero (slice_index_or hashes b zero_hash)) in
    let rest = most_kids kind path hashes left level (b + 1) n in
    let joined = load_join most_from (kid kind path hashes b) (flat_map (kid kind path hashes) (range_with_len (b + 1) n)) in
    omega (arith, one, rest, joined)

most_step : (left n : ℕ) → n ≤ 16 * most_below left → n + 1 ≤ most_below (suc left)
unfolding most_below
most_step left n le = omega (arith, le)

most_inner : (kind : Kind) (path : List ℕ) (hashes : List Hash) → length path < 64
    → load most_from (kids_from kind path hashes 0 16) + 1 ≤ most_below (64 - length path)
unfolding kids_from
most_inner kind path hashes short =
    let next : 64 - length path ≡ suc (63 - length path) = omega (arith, short) in
    subst (λ l. load most_from (flat_map (kid kind path hashes) (range_with_len 0 16)) + 1 ≤ most_below l) (sym next)
    (most_step (63 - length path) _
    (omega (arith, sixteen (most_below (63 - length path)), most_kids kind path hashes (63 - length path) refl 0 16)))

short_by : (n : ℕ) → (n == 64) ≡ false → n ≤ 64 → n < 64
short_by n e le = grind (arith, nat_tests)

most_below_node : (p : Pending) (node : Node) → length p.path < 64 → load most_from (kids_of p.kind p.path node) + 1 ≤ most_from p
most_below_node p (variant.Inner i) short = most_inner p.kind p.path i.hashes short
most_below_node p (variant.Leaf l) short = most_some p

-- so it does of the most that there can be
pub weighs_most : (p : Pending) (v : View) → length p.path ≤ 64 → HasLevels (length p.path) v → Weighs most_from most_again p v
weighs_most p view.Missing short levels = omega (arith, most_some p)
weighs_most p (view.Broken fault) short levels = tt
weighs_most p (view.Below node) short levels = most_below_node p node.value (short_by (length p.path) levels short)
weighs_most p view.Nothing short levels = most_some p
