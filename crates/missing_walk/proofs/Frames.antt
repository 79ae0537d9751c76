-- The inner nodes that a search has gone below, as the stack changes above them.
use Rattle.std.proofs.Common.{◌≡◌, ℕ, suc, ◌+◌, ◌-◌, ◌<◌, ◌≤◌, List, [], ◌∷◌, ◌++◌, length, take, drop}
use Rattle.std.proofs.Common.{None, sym, ap, ◌∙◌, subst, arith, length-append, append-nil}
use Rattle.ledger_spec.specs.Bytes.{Half, Lookup}
use Rattle.ledger_spec.proofs.shared.ReachLaws.{Grows}
use Rattle.missing_walk.specs.declared.todo.Open.{Open}
use Rattle.missing_walk.specs.Pending.{Pending, placed, FoundAs, IsOpen, IsFull, Within, Around}
use Rattle.missing_walk.proofs.shared.Places.{found_step, found_full, found_grows, open_grows}

take_past : (ks ps : List Pending) (m : ℕ) → take (length ks + m) (ks ++ ps) ≡ ks ++ take m ps
take_past [] ps m = let e : 0 + m ≡ m = omega arith in ap (λ n. take n ps) e
take_past (k ∷ ks) ps m =
    let e : length (k ∷ ks) + m ≡ suc (length ks + m) = omega arith in
    ap (λ n. take n (k ∷ ks ++ ps)) e ∙ ap (λ l. k ∷ l) (take_past ks ps m)

drop_past : (ks ps : List Pending) (m : ℕ) → drop (length ks + m) (ks ++ ps) ≡ drop m ps
drop_past [] ps m = let e : 0 + m ≡ m = omega arith in ap (λ n. drop n ps) e
drop_past (k ∷ ks) ps m =
    let e : length (k ∷ ks) + m ≡ suc (length ks + m) = omega arith in
    ap (λ n. drop n (k ∷ ks ++ ps)) e ∙ drop_past ks ps m

past : (ks ps : List Pending) (h : ℕ) → h ≤ length ps → length (ks ++ ps) - h ≡ length ks + (length ps - h)
past ks ps h le = omega (arith, le, length-append ks ps)

take_above : (ks ps : List Pending) (h : ℕ) → h ≤ length ps → take (length (ks ++ ps) - h) (ks ++ ps) ≡ ks ++ take (length ps - h) ps
take_above ks ps h le = ap (λ n. take n (ks ++ ps)) (past ks ps h le) ∙ take_past ks ps (length ps - h)

drop_above : (ks ps : List Pending) (h : ℕ) → h ≤ length ps → drop (length (ks ++ ps) - h) (ks ++ ps) ≡ drop (length ps - h) ps
drop_above ks ps h le = ap (λ n. drop n (ks ++ ps)) (past ks ps h le) ∙ drop_past ks ps (length ps - h)

below_top : (p : Pending) (ps : List Pending) (h : ℕ) → h < length (p ∷ ps) → h ≤ length ps
below_top p ps h lt = omega arith

longer : (ks ps : List Pending) (h : ℕ) → h ≤ length ps → h ≤ length (ks ++ ps)
longer ks ps h le = omega (arith, le, length-append ks ps)

module _ (half : Half) (nodes : Lookup) where
  -- the top place gives way to those that it stands for
  pub within_step : (os : List Open) (p : Pending) (ks ps : List Pending) → FoundAs half nodes p ks → Within half nodes os (p ∷ ps)
      → Around half nodes os (ks ++ ps)
  within_step [] p ks ps f w = tt
  within_step (o ∷ os) p ks ps f w =
      let le : o.height ≤ length ps = below_top p ps o.height w.0 in
      let whole : FoundAs half nodes (placed o.at None) (p ∷ take (length ps - o.height) ps) =
      subst (FoundAs half nodes (placed o.at None)) (take_above (p ∷ []) ps o.height le) w.2 in (
        longer ks ps o.height le,
        w.1,
        subst (FoundAs half nodes (placed o.at None)) (sym (take_above ks ps o.height le))
            (found_step half nodes (placed o.at None) p ks (take (length ps - o.height) ps) whole f),
        subst (λ l. Within half nodes os (placed o.at None ∷ l))
            (drop_above (p ∷ []) ps o.height le ∙ sym (drop_above ks ps o.height le)) w.3,
      )

  -- the top place gives way to another one
  pub within_swap : (os : List Open) (p q : Pending) (ps : List Pending) → FoundAs half nodes p (q ∷ []) → Within half nodes os (p ∷ ps)
      → Within half nodes os (q ∷ ps)
  within_swap [] p q ps f w = tt
  within_swap (o ∷ os) p q ps f w = (let s = within_step (o ∷ os) p (q ∷ []) ps f w in (w.0, s.1, s.2, s.3))

  -- the search goes below the top place
  pub within_open : (os : List Open) (o : Open) (p : Pending) (ks ps : List Pending) → FoundAs half nodes p (placed o.at None ∷ [])
      → FoundAs half nodes (placed o.at None) ks → IsOpen half nodes o → o.height ≡ length ps
      → Within half nodes os (p ∷ ps) → Around half nodes (o ∷ os) (ks ++ ps)
  within_open os o p ks ps same f at top w =
      let le : o.height ≤ length ps = omega (arith, top) in
      let none_left : length ps - o.height ≡ 0 = omega (arith, top) in (
        longer ks ps o.height le,
        at,
        subst (FoundAs half nodes (placed o.at None))
            (sym (take_above ks ps o.height le ∙ ap (λ n. ks ++ take n ps) none_left ∙ append-nil ks)) f,
        subst (λ l. Within half nodes os (placed o.at None ∷ l)) (sym (drop_above ks ps o.height le ∙ ap (λ n. drop n ps) none_left))
            (within_swap os p (placed o.at None) ps same w),
      )

  -- nothing is left above the last one: it is full, and the search is back above it
  pub around_close : (os : List Open) (o : Open) (ps : List Pending) → o.height ≡ length ps → Around half nodes (o ∷ os) ps
      → IsFull half nodes o.at × Around half nodes os ps
  around_close os o ps top a =
      let zero_left : length ps - o.height ≡ 0 = omega (arith, top) in
      let none : FoundAs half nodes (placed o.at None) [] =
      subst (λ n. FoundAs half nodes (placed o.at None) (take n ps)) zero_left a.2 in (
        found_full half nodes o.at a.1.inner_there none,
        within_step os (placed o.at None) [] ps none
            (subst (λ n. Within half nodes os (placed o.at None ∷ drop n ps)) zero_left a.3),
      )

  pub around_within : (os : List Open) (o : Open) (ps : List Pending) → (o.height ≡ length ps → ⊥) → Around half nodes (o ∷ os) ps
      → Within half nodes (o ∷ os) ps
  around_within os o ps below a = (omega (arith, below, a.0), a.1, a.2, a.3)

  pub within_grows : (more : Lookup) → Grows nodes more → (os : List Open) (ps : List Pending) → Within half nodes os ps
      → Within half more os ps
  within_grows more up [] ps w = tt
  within_grows more up (o ∷ os) ps w = (
    w.0,
    open_grows half nodes more o up w.1,
    found_grows half nodes more (placed o.at None) _ up w.2,
    within_grows more up os _ w.3,
  )
