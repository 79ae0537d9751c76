-- The shelf's numbers that are of none of the store's own backends, and the count of faults.
use Rattle.std.proofs.Common.{◌≡◌, ◌∙◌, ◌≤◌, ◌<◌, ◌+◌, ◌-◌, ◌⊎◌, inl, inr, ◌++◌, ◌==◌, ℕ, true, false, cond, not, List, [], ◌∷◌}
use Rattle.std.proofs.Common.{Option, Some, None, IsTrue, refl, sym, ap, subst, arith}
use Rattle.std.specs.Prelude.{is_some, min, ◌^◌}
use Rattle.std.specs.Option.{option_map, option_map_or}
use Rattle.std.proofs.lemmas.Bool.{eqb-true, eq-eqb, ltb-true}
use Rattle.node_backend.specs.Numbers.{is_among, exceeds, without}
use Rattle.node_backend.specs.Counts.{held_sum}
use Rattle.node_backend.proofs.shared.Lists.{and_left, and_right, exceeds_more, exceeds_without, below_among, among_last}
use Rattle.rotating_store.specs.Stores.{spare_of, sum_of, AddsAtMostOne}

-- a number above all of them isn't among those that can be taken out
without_above : (n : ℕ) (xs : List ℕ) → IsTrue (exceeds n xs) → without xs n ≡ xs
without_above n [] h = refl
without_above n (x ∷ xs) h =
    let less : x < n = ltb-true x n (and_left _ _ h) in
    elim (x == n) as (λ b. (x == n) ≡ b → cond (not b) (x ∷ without xs n) (without xs n) ≡ x ∷ xs) [
      | true ↦ λ e. absurd (omega (arith, eqb-true x n e, less))
      | false ↦ λ e. ap (λ (ys : List ℕ). x ∷ ys) (without_above n xs (and_right _ _ h))
    ] refl

-- the last one is taken out
without_last : (n : ℕ) (xs : List ℕ) → IsTrue (exceeds n xs) → without (xs ++ n ∷ []) n ≡ xs
without_last n [] h = rw (eq-eqb n n refl) refl
without_last n (x ∷ xs) h =
    let less : x < n = ltb-true x n (and_left _ _ h) in
    elim (x == n) as (λ b. (x == n) ≡ b → cond (not b) (x ∷ without (xs ++ n ∷ []) n) (without (xs ++ n ∷ []) n) ≡ x ∷ xs) [
      | true ↦ λ e. absurd (omega (arith, eqb-true x n e, less))
      | false ↦ λ e. ap (λ (ys : List ℕ). x ∷ ys) (without_last n xs (and_right _ _ h))
    ] refl

-- another one is taken out
without_other : (k n : ℕ) (xs : List ℕ) → k < n → without (xs ++ n ∷ []) k ≡ without xs k ++ n ∷ []
without_other k n [] less =
    elim (n == k) as (λ b. (n == k) ≡ b → cond (not b) (n ∷ []) [] ≡ n ∷ []) [
      | true ↦ λ e. absurd (omega (arith, eqb-true n k e, less))
      | false ↦ λ e. refl
    ] refl
without_other k n (x ∷ xs) less =
    elim (x == k) as (λ b. cond (not b) (x ∷ without (xs ++ n ∷ []) k) (without (xs ++ n ∷ []) k)
    ≡ cond (not b) (x ∷ without xs k) (without xs k) ++ n ∷ []) [
      | true ↦ without_other k n xs less
      | false ↦ ap (λ (ys : List ℕ). x ∷ ys) (without_other k n xs less)
    ]

-- where a store is opened its shelf has the numbers that it had, and the store's own two
pub spare_open : (live live1 live2 : List ℕ) (a w : ℕ) → IsTrue (exceeds a live) → live1 ≡ live ++ a ∷ [] → IsTrue (exceeds w live1)
    → live2 ≡ live1 ++ w ∷ [] → spare_of live2 a w None ≡ live
spare_open live live1 live2 a w above listed higher listed2 =
    let first : IsTrue (is_among live1 a) = subst (λ (xs : List ℕ). IsTrue (is_among xs a)) (sym listed) (among_last a live) in
    let rises : a < w = below_among w a live1 higher first in
    let left : without live2 a ≡ live ++ w ∷ [] = ap (λ (xs : List ℕ). without xs a) listed2 ∙ without_other a w live1 rises
    ∙ ap (λ (xs : List ℕ). without xs a ++ w ∷ []) listed ∙ ap (λ (xs : List ℕ). xs ++ w ∷ []) (without_last a live above) in
    ap (λ (xs : List ℕ). without xs w) left ∙ without_last w live (exceeds_more a w live (omega arith) above)

-- one more is ready
pub spare_ready : (live live' : List ℕ) (a w n : ℕ) → IsTrue (exceeds n live) → IsTrue (is_among live a) → IsTrue (is_among live w)
    → live' ≡ live ++ n ∷ [] → spare_of live' a w (Some n) ≡ spare_of live a w None
spare_ready live live' a w n above has has2 listed =
    ap (λ (xs : List ℕ). without (without (without xs a) w) n) listed
    ∙ ap (λ (xs : List ℕ). without (without xs w) n) (without_other a n live (below_among n a live above has))
    ∙ ap (λ (xs : List ℕ). without xs n) (without_other w n (without live a) (below_among n w live above has2))
    ∙ without_last n (without (without live a) w) (exceeds_without n w (without live a) (exceeds_without n a live above))

pub spare_same : (live : List ℕ) (a w a' w' : ℕ) (ready : Option ℕ) → a' ≡ a → w' ≡ w → spare_of live a' w' ready ≡ spare_of live a w ready
spare_same live a w a' w' ready e f = ap (λ (x : ℕ). spare_of live x w' ready) e ∙ ap (λ (x : ℕ). spare_of live a x ready) f

-- sums

flat_at : (top a b c : ℕ) → min (min (a + b) top + c) top ≡ min (a + b + c) top
flat_at top a b c = omega arith

flat : (a b c : ℕ) → held_sum (held_sum a b) c ≡ held_sum (a + b) c
flat a b c = flat_at _ a b c

-- the sum of all, cut once
pub flat_sum : (p s w a r : ℕ) → sum_of (held_sum p s) w a r ≡ held_sum (p + s + w + a) r
flat_sum p s w a r =
    ap (λ (x : ℕ). held_sum (held_sum x a) r) (flat p s w) ∙ ap (λ (x : ℕ). held_sum x r) (flat (p + s) w a) ∙ flat (p + s + w) a r

rise_at : (top x y more : ℕ) → y ≡ x + more → min y top ≡ min (min x top + more) top
rise_at top x y more e = omega arith

rise : (x y more : ℕ) → y ≡ x + more → held_sum y 0 ≡ held_sum (held_sum x 0) more
rise x y more e = rise_at _ (x + 0) (y + 0) more (omega arith)

-- a number of which one part rose
pub sum_rose : (p s w a r p' s' w' a' r' : ℕ) → s ≤ s' → p' + s' + w' + a' + r' ≡ p + s + w + a + r + (s' - s)
    → sum_of (held_sum p' s') w' a' r' ≡ held_sum (sum_of (held_sum p s) w a r) (s' - s)
sum_rose p s w a r p' s' w' a' r' le e =
    flat_sum p' s' w' a' r' ∙ rise_at _ (p + s + w + a + r) (p' + s' + w' + a' + r') (s' - s) e
    ∙ ap (λ (x : ℕ). held_sum x (s' - s)) (sym (flat_sum p s w a r))

past_at : (top p a rest : ℕ) → min (min (p + a) top + rest) top ≡ min (p + a + rest) top
past_at top p a rest = omega arith

-- the same where the past took up one that was discarded
pub sum_swapped : (p s w a r past s' : ℕ) → s ≤ s' → past ≡ held_sum p a
    → sum_of (held_sum past s') r w 0 ≡ held_sum (sum_of (held_sum p s) w a r) (s' - s)
sum_swapped p s w a r past s' le is =
    ap (λ (x : ℕ). sum_of (held_sum x s') r w 0) is
    ∙ ap (λ (x : ℕ). sum_of x r w 0) (flat p a s')
    ∙ sum_rose p s w a r (p + a) s' r w 0 le (omega arith)

cut : (s x : ℕ) → s < 2 ^ 64 → x ≡ s → min x (2 ^ 64 - 1) ≡ s
cut s x fits e = omega arith

-- of a store that was opened, all of which is the shelf's
pub sum_opened : (s w a : ℕ) → s < 2 ^ 64 → w ≡ 0 → a ≡ 0 → sum_of (held_sum 0 s) w a 0 ≡ s
sum_opened s w a fits e f = flat_sum 0 s w a 0 ∙ cut s (0 + s + w + a + 0) fits (omega arith)

not_so : true ≡ false → ⊥
not_so e = cc

module _ {B : Type 0} (number : B → ℕ) where
  -- where none was ready
  pub spare_unready : (live : List ℕ) (a w : ℕ) (ready : Option B) → is_some ready ≡ false
      → spare_of live a w None ≡ spare_of live a w (option_map number ready)
  spare_unready live a w None e = refl
  spare_unready live a w (Some b) e = absurd (not_so e)

  -- a swap takes the archive's number out of both
  pub spare_swapped : (live live' : List ℕ) (writable archive fresh old w' a' : B) (ready ready' : Option B)
      → ready ≡ Some fresh → ready' ≡ None → w' ≡ fresh → a' ≡ writable → old ≡ archive → live' ≡ without live (number old)
      → spare_of live' (number a') (number w') (option_map number ready')
      ≡ spare_of live (number archive) (number writable) (option_map number ready)
  spare_swapped live live' writable archive fresh old w' a' ready ready' is none p q same gone =
      ap (λ (o : Option B). spare_of live' (number a') (number w') (option_map number o)) none
      ∙ ap (λ (xs : List ℕ). without (without xs (number a')) (number w')) gone
      ∙ ap (λ (b : B). without (without (without live (number b)) (number a')) (number w')) same
      ∙ ap (λ (b : B). without (without (without live (number archive)) (number b)) (number w')) q
      ∙ ap (λ (b : B). without (without (without live (number archive)) (number writable)) (number b)) p
      ∙ sym (ap (λ (o : Option B). spare_of live (number archive) (number writable) (option_map number o)) is)

pub adds_one : (undone undone' : List ℕ) (n : ℕ) → (undone' ≡ undone) ⊎ (undone' ≡ undone ++ n ∷ []) → AddsAtMostOne undone undone'
adds_one undone undone' n (inl e) = inl e
adds_one undone undone' n (inr e) = inr (n, e)

pub none_counted : {B : Type 0} (count : B → ℕ) (ready : Option B) → is_some ready ≡ false → option_map_or count ready 0 ≡ 0
none_counted count None e = refl
none_counted count (Some b) e = absurd (not_so e)
