-- Who stays present through a charge.
use Rattle.std.proofs.Common.{◌≡◌, ◌≢◌, ◌∙◌, ◌+◌, ◌<◌, ◌==◌, ◌&&◌, ℕ, List, Bool, true, false, not, cond, nat_lt, Option, Some}
use Rattle.std.proofs.Common.{None, refl, sym, ap, subst, arith}
use Rattle.std.specs.List.{list_any}
use Rattle.std.specs.Option.{option_map_or, unwrap_or, IsSome}
use Rattle.std.specs.Ordering.{nat_cmp, eq_by_cmp}
use Rattle.std.specs.Cmp.{nat_cmp_total, eq_by_cmp_equiv}
use Rattle.std.specs.BTreeMap.{is_at}
use Rattle.std.proofs.lemmas.Bool.{eqb-true, eq-eqb, ltb-true, lt-ltb}
use Rattle.std.proofs.lemmas.Map.{lookup-set_value}
use Rattle.std.proofs.lemmas.Map.Lookups.{exact_unsigned}
use Rattle.std.proofs.lemmas.Map.Views.{tells_apart, any-filter_same}
use Rattle.ledger_spec.specs.Maps.{ForPeer, get_in, set_in}
use Rattle.ledger_spec.specs.Peers.{without}

-- a peer with these charges is present
abbrev pub stays : Option ℕ → Bool
stays charges = option_map_or (λ n. nat_lt n 4) charges false

some_charges : (o : Option ℕ) → stays o ≡ true → IsSome o
some_charges None e = absurd (cc)
some_charges (Some n) e = refl

few_charges : (o : Option ℕ) → stays o ≡ true → unwrap_or o 0 < 4
few_charges None e = absurd (cc)
few_charges (Some n) e = ltb-true n 4 e

other_peer : (p q : ℕ) → is_at (nat_cmp p) q ≡ false → (b : Bool) → (q == p) ≡ b → (q == p) ≡ false
other_peer p q apart true e =
    let same : q ≡ p = eqb-true q p e in
    let at : is_at (nat_cmp p) q ≡ true =
    subst (λ (r : ℕ). eq_by_cmp nat_cmp p r ≡ true) (sym same) ((eq_by_cmp_equiv nat_cmp_total).refl p) in
    absurd (cc)
other_peer p q apart false e = e

module _ (turn : List ℕ) (charges : ForPeer ℕ) (p count : ℕ)
    (present : (q : ℕ) → list_any (λ r. r == q) turn ≡ stays (get_in nat_cmp charges q))
    (held : list_any (λ r. r == p) turn ≡ true) where
  some_of : IsSome (get_in nat_cmp charges p)
  some_of = some_charges (get_in nat_cmp charges p) (sym (present p) ∙ held)

  -- the charges after one more
  after : (q : ℕ) → get_in nat_cmp (set_in nat_cmp charges p count) q ≡ cond (is_at (nat_cmp p) q) (Some count) (get_in nat_cmp charges q)
  after q =
      lookup-set_value (eq_by_cmp_equiv nat_cmp_total) (is_at (nat_cmp p)) (λ x y e. (eq_by_cmp_equiv nat_cmp_total).congr p x y e)
      q count charges some_of

  without_is : (q : ℕ) → list_any (λ r. r == q) (without p turn) ≡ (not (q == p) && list_any (λ r. r == q) turn)
  without_is q =
      any-filter_same (λ r. r == q) (λ r. not (r == p)) (not (q == p))
      (λ k e. ap (λ (r : ℕ). not (r == p)) (eqb-true k q e)) turn

  dropped_at : count ≡ 4 → (q : ℕ) (b : Bool) → is_at (nat_cmp p) q ≡ b
      → (not (q == p) && list_any (λ r. r == q) turn) ≡ stays (cond b (Some count) (get_in nat_cmp charges q))
  dropped_at last q true e =
      let same : (q == p) ≡ true = eq-eqb q p (sym (tells_apart exact_unsigned p q e)) in
      rw (same, last) refl
  dropped_at last q false e = rw (other_peer p q e (q == p) refl) (present q)

  -- the last charge drops it
  pub dropped : count ≡ 4 → (q : ℕ) → list_any (λ r. r == q) (without p turn) ≡ stays (get_in nat_cmp (set_in nat_cmp charges p count) q)
  dropped last q = without_is q ∙ dropped_at last q (is_at (nat_cmp p) q) refl ∙ ap stays (sym (after q))

  kept_at : count ≡ unwrap_or (get_in nat_cmp charges p) 0 + 1 → count ≢ 4 → (q : ℕ) (b : Bool) → is_at (nat_cmp p) q ≡ b
      → list_any (λ r. r == q) turn ≡ stays (cond b (Some count) (get_in nat_cmp charges q))
  kept_at more other q true e =
      let few : unwrap_or (get_in nat_cmp charges p) 0 < 4 = few_charges (get_in nat_cmp charges p) (sym (present p) ∙ held) in
      let lt : count < 4 = omega (arith, few, more, other) in
      let at : list_any (λ r. r == q) turn ≡ true =
      subst (λ (r : ℕ). list_any (λ t. t == r) turn ≡ true) (tells_apart exact_unsigned p q e) held in
      at ∙ sym (lt-ltb count 4 lt)
  kept_at more other q false e = present q

  -- an earlier one doesn't
  pub kept : count ≡ unwrap_or (get_in nat_cmp charges p) 0 + 1 → count ≢ 4
      → (q : ℕ) → list_any (λ r. r == q) turn ≡ stays (get_in nat_cmp (set_in nat_cmp charges p count) q)
  kept more other q = kept_at more other q (is_at (nat_cmp p) q) refl ∙ ap stays (sym (after q))
