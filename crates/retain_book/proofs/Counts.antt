-- What a book keeps of its sequences and pins through a change.
use Rattle.std.proofs.Common.{◌≡◌, ◌≢◌, ◌<◌, ◌≤◌, ◌-◌, ℕ, List, Bool, true, false, nat_le, nat_eq, Option, Some, None, IsTrue}
use Rattle.std.proofs.Common.{refl, arith, leb-true}
use Rattle.std.proofs.lemmas.Bool.{eqb-false}
use Rattle.std.specs.List.{All, filter}
use Rattle.std.specs.Map.{values_of}
use Rattle.std.specs.Option.{unwrap_or, is_some, IfSome}
use Rattle.std.specs.BTreeMap.{is_at}
use Rattle.std.proofs.lemmas.List.Elements.{All-map, All-weaker, filter_passes}
use Rattle.std.proofs.lemmas.Map.Views.{All-map-remove_entry, All-values-set_value, IfSome-lookup_from_All}
use Rattle.ledger_spec.specs.Maps.{ForHash, hash_cmp, get_in, has_in}
use Rattle.ledger_spec.specs.Bytes.{Hash}
use Rattle.ledger_spec.specs.Retaining.{listed_from, pin_count, with_pin_less}

-- what is not dropped isn't below the floor
pub listed_from_high : (floor : ℕ) (es : ForHash ℕ) → All (λ seq. floor ≤ seq) (values_of (listed_from floor es))
listed_from_high floor es =
    let p : List ℕ × ℕ → Bool = λ e. nat_le floor e.1 in
    All-map (λ seq. floor ≤ seq) (λ (e : List ℕ × ℕ). e.1) (filter p es)
    (All-weaker (λ e. p e ≡ true) (λ e. floor ≤ e.1) (λ e t. leb-true floor e.1 t) (filter p es) (filter_passes p es))

some_pins : (o : Option ℕ) → IsTrue (is_some o) → IfSome o (λ n. 0 < n) → 0 < unwrap_or o 0
some_pins None none lt = absurd (cc)
some_pins (Some n) some lt = lt

-- a pinned ledger is pinned at least once
pinned_once : (pins : ForHash ℕ) (h : Hash) → All (λ n. 0 < n) (values_of pins) → IsTrue (has_in hash_cmp pins h)
    → 0 < pin_count pins h
pinned_once pins h all pinned =
    some_pins (get_in hash_cmp pins h) pinned (IfSome-lookup_from_All (λ n. 0 < n) (is_at (hash_cmp h)) pins all)

less_by : (pins : ForHash ℕ) (h : Hash) → All (λ n. 0 < n) (values_of pins) → (n : ℕ) → 0 < n → (b : Bool) → nat_eq n 1 ≡ b
    → All (λ n. 0 < n) (values_of (with_pin_less pins h n))
less_by pins h all n some true last = rw last (All-map-remove_entry (is_at (hash_cmp h)) (λ (e : List ℕ × ℕ). e.1) (λ n. 0 < n) pins all)
less_by pins h all n some false more =
    let ne : n ≢ 1 = eqb-false n 1 more in
    let left : 0 < n - 1 = omega arith in
    rw more (All-values-set_value (is_at (hash_cmp h)) (λ n. 0 < n) pins (n - 1) all left)

-- one pin less leaves no ledger with none
pub less_pinned : (pins : ForHash ℕ) (h : Hash) → All (λ n. 0 < n) (values_of pins) → IsTrue (has_in hash_cmp pins h)
    → All (λ n. 0 < n) (values_of (with_pin_less pins h (pin_count pins h)))
less_pinned pins h all pinned =
    let some = pinned_once pins h all pinned in
    less_by pins h all (pin_count pins h) some (nat_eq (pin_count pins h) 1) refl
