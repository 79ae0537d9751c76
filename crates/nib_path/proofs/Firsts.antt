-- The first nibble that isn't zero, by halves of bytes.
use Rattle.std.proofs.Common.{◌≡◌, ℕ, suc, ◌+◌, ◌*◌, ◌<◌, ◌≤◌, List, ◌∷◌, length, drop, sym, ap, ◌∙◌, arith}
use Rattle.std.specs.Prelude.{slice_index, nat_lt, Some}
use Rattle.std.specs.List.{position_from}
use Rattle.std.proofs.lemmas.Bool.{cond-true, lt-ltb}
use Rattle.std.proofs.lemmas.List.{drop_more}
use Rattle.nib_path.specs.Paths.{nibbles, first_set_from, length-nibbles}
use Rattle.nib_path.proofs.Nibbles.{nibbles-high, nibbles-low}

is_set : (n i : ℕ) (more : List ℕ) → 0 < n → position_from (λ k. nat_lt 0 k) i (n ∷ more) ≡ Some i
is_set n i more lt = cond-true _ _ _ (lt-ltb 0 n lt)

is_zero : (n i : ℕ) (more : List ℕ) → n ≡ 0
    → position_from (λ k. nat_lt 0 k) i (n ∷ more) ≡ position_from (λ k. nat_lt 0 k) (i + 1) more
is_zero n i more e = ap (λ k. position_from (λ k. nat_lt 0 k) i (k ∷ more)) e

-- a nibble that is set is the first from its place on
pub here : (d : ℕ) (ns : List ℕ) → d < length ns → 0 < slice_index ns d → first_set_from d ns ≡ Some d
here d ns lt set = ap (position_from (λ n. nat_lt 0 n) d) (drop_more ns d 0 lt) ∙ is_set (slice_index ns d) d (drop (d + 1) ns) set

-- a nibble that is zero is passed over
pub further : (d next : ℕ) (ns : List ℕ) → d < length ns → next ≡ d + 1 → slice_index ns d ≡ 0
    → first_set_from d ns ≡ first_set_from next ns
further d next ns lt to none =
    ap (position_from (λ n. nat_lt 0 n) d) (drop_more ns d 0 lt) ∙ is_zero (slice_index ns d) d (drop (d + 1) ns) none
    ∙ ap (λ k. first_set_from k ns) (sym to)

within : (id : List ℕ) (at : ℕ) → length id ≡ 32 → at < 32 → suc (2 * at) < length (nibbles id)
within id at size lt = omega (arith, length-nibbles id)

-- a byte whose high half is set
pub high_half : (id : List ℕ) (at n : ℕ) → length id ≡ 32 → at < 32 → 16 ≤ slice_index id at → n ≡ 2 * at
    → Some n ≡ first_set_from (2 * at) (nibbles id)
high_half id at n size lt set is =
    ap Some is ∙ sym (here (2 * at) (nibbles id) (omega (arith, within id at size lt)) (omega (arith, nibbles-high id at)))

high_zero : (id : List ℕ) (at : ℕ) → length id ≡ 32 → at < 32 → slice_index id at < 16
    → first_set_from (2 * at) (nibbles id) ≡ first_set_from (suc (2 * at)) (nibbles id)
high_zero id at size lt low =
    further (2 * at) (suc (2 * at)) (nibbles id) (omega (arith, within id at size lt)) (omega arith) (omega (arith, nibbles-high id at))

-- a byte whose low half alone is set
pub low_half : (id : List ℕ) (at n : ℕ) → length id ≡ 32 → at < 32 → slice_index id at < 16 → 0 < slice_index id at → n ≡ 2 * at + 1
    → Some n ≡ first_set_from (2 * at) (nibbles id)
low_half id at n size lt low set is =
    let m : n ≡ suc (2 * at) = omega (arith, is) in
    ap Some m
    ∙ sym (here (suc (2 * at)) (nibbles id) (within id at size lt) (omega (arith, nibbles-low id at)))
    ∙ sym (high_zero id at size lt low)

-- a byte that is zero is passed over
pub past_byte : (id : List ℕ) (at next : ℕ) → length id ≡ 32 → at < 32 → next ≡ 2 * at + 2 → slice_index id at ≡ 0
    → first_set_from (2 * at) (nibbles id) ≡ first_set_from next (nibbles id)
past_byte id at next size lt to none =
    high_zero id at size lt (omega (arith, none))
    ∙ further (suc (2 * at)) next (nibbles id) (within id at size lt) (omega (arith, to)) (omega (arith, nibbles-low id at, none))
