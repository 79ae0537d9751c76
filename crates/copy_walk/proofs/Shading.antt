-- The lists of a walk, as hashes are shaded and become black.
use Rattle.std.proofs.Common.{◌≡◌, inl, inr, ⊎_elim, ◌++◌, ◌∷◌, ◌+◌, ◌^◌, ◌≤◌, ◌<◌, [], ℕ, suc, List}
use Rattle.std.proofs.Common.{Some, Contains, length, get_or, slice_get, sym}
use Rattle.std.proofs.Common.{ap, ◌∙◌, subst}
use Rattle.std.proofs.Common.{arith, append_assoc, length-append}
use Rattle.std.specs.List.{swap_remove}
use Rattle.std.specs.List.Sorted.{IsPermutation}
use Rattle.std.proofs.lemmas.List.{append-nil, get_or_append_left}
use Rattle.std.proofs.lemmas.List.Elements.{Contains-append_left, Contains-append_right, Contains-append_cases, Contains-push}
use Rattle.std.proofs.lemmas.List.Sorted.{IsPermutation-swap_remove, length_permutation}
use Rattle.std.proofs.lemmas.Option.{get_or_from_slice_get, slice_get_within}
use Rattle.ledger_spec.specs.Bytes.{Hash}
use Rattle.ledger_spec.proofs.shared.Storing.{in_one}
use Rattle.copy_walk.specs.Walks.{Walk, shaded, left_of, Shades, ShadesSome, HasToo}
use Rattle.copy_walk.specs.Strides.{Leaves}
use Rattle.copy_walk.specs.Slices.{Blackens}
use Rattle.copy_walk.proofs.Lists.{in_none, grey_shaded, black_shaded, shaded_cases}
use Rattle.copy_walk.proofs.shared.Lists.{is_shaded}

-- ---- shading
-- one hash is shaded
module _ (w : Walk) (h : Hash) (v : Walk) (s : Shades w h v) where
  pub one_shaded : ShadesSome w (h ∷ []) v
  one_shaded = ⊎_elim
      (λ same. record {
        more = [];
        black = s.black;
        grey = same.0 ∙ sym (append-nil w.grey);
        only = λ q c. absurd (in_none q c);
        few = omega arith;
      })
      (λ more. record { more = h ∷ []; black = s.black; grey = more; only = λ q c. c; few = omega arith }) s.grey

  pub all_shaded : (q : Hash) → Contains (h ∷ []) q → Contains (shaded v) q
  all_shaded q c = subst (Contains (shaded v)) (sym (in_one h q c)) (is_shaded w h v s)

-- some of a front of the hashes are some of them
pub front_shaded : (w : Walk) (front more hashes : List Hash) (v : Walk) → front ++ more ≡ hashes → ShadesSome w front v
    → ShadesSome w hashes v
front_shaded w front more hashes v whole some = record {
  more = some.more;
  black = some.black;
  grey = some.grey;
  only = λ q c. subst (λ (hs : List Hash). Contains hs q) whole (Contains-append_left front more q (some.only q c));
  few = omega (arith, some.few, ap length whole, length-append front more);
}

-- some hashes after others
module _ (w : Walk) (front : List Hash) (v : Walk) (more : List Hash) (u : Walk) (some : ShadesSome w front v)
    (next : ShadesSome v more u) where
  pub more_shaded : ShadesSome w (front ++ more) u
  more_shaded = record {
    more = some.more ++ next.more;
    black = next.black ∙ some.black;
    grey = next.grey ∙ ap (λ (hs : List Hash). hs ++ next.more) some.grey ∙ append_assoc w.grey some.more next.more;
    only = λ q c. ⊎_elim (λ old. Contains-append_left front more q (some.only q old))
        (λ new. Contains-append_right front more q (next.only q new)) (Contains-append_cases some.more next.more q c);
    few = omega (arith, some.few, next.few, length-append front more, length-append some.more next.more);
  }

  -- what was shaded still is
  still : (q : Hash) → Contains (shaded v) q → Contains (shaded u) q
  still q c = ⊎_elim
      (λ grey. grey_shaded u q (subst (λ (hs : List Hash). Contains hs q) (sym next.grey) (Contains-append_left v.grey next.more q grey)))
      (λ black. black_shaded u q (subst (λ (hs : List Hash). Contains hs q) (sym next.black) black))
      (shaded_cases v q c)

  pub all_more : ((q : Hash) → Contains front q → Contains (shaded v) q) → ((q : Hash) → Contains more q → Contains (shaded u) q)
      → (q : Hash) → Contains (front ++ more) q → Contains (shaded u) q
  all_more all rest q c = ⊎_elim (λ old. still q (all q old)) (λ new. rest q new) (Contains-append_cases front more q c)

-- ---- a place of the grey list
-- the hash stands at this place
abbrev pub StandsAt : List Hash → ℕ → Hash → Type 0
StandsAt hs place h = (place < length hs) × ((d : Hash) → get_or hs place d ≡ h)

pub stands_at : (hs : List Hash) (place : ℕ) (h : Hash) → slice_get hs place ≡ Some h → StandsAt hs place h
stands_at hs place h at = (slice_get_within hs place h at, λ d. get_or_from_slice_get hs place h d at)

-- and still does, where more are behind
pub stands_still : (hs more hs' : List Hash) (place : ℕ) (h : Hash) → StandsAt hs place h → hs' ≡ hs ++ more → StandsAt hs' place h
stands_still hs more hs' place h at is =
    subst (λ (xs : List Hash). StandsAt xs place h) (sym is) (
      omega (arith, at.0, length-append hs more),
      λ d. get_or_append_left hs more d place at.0 ∙ at.1 d,
    )

pub leaves_at : (w v : Walk) (place : ℕ) (h r : Hash) → StandsAt w.grey place h → r ≡ get_or w.grey place r
    → v.grey ≡ swap_remove w.grey place r → Leaves w h v
leaves_at w v place h r at is gone =
    let same : r ≡ h = is ∙ at.1 r in
    subst (λ (x : Hash). IsPermutation w.grey (x ∷ v.grey)) same
    (subst (λ (hs : List Hash). IsPermutation w.grey (r ∷ hs)) (sym gone) (IsPermutation-swap_remove w.grey place r at.0 is))

pub grey_at : (w : Walk) (place : ℕ) (h : Hash) → slice_get w.grey place ≡ Some h → Contains w.grey h
grey_at w place h at = (place, slice_get_within w.grey place h at, get_or_from_slice_get w.grey place h h at)

left_length : (w : Walk) (h : Hash) (v : Walk) → Leaves w h v → suc (length v.grey) ≡ length w.grey
left_length w h v leaves = length_permutation w.grey (h ∷ v.grey) leaves

-- ---- what is left
pub left_less : (w : Walk) (h : Hash) (v : Walk) → Leaves w h v → v.black ≡ w.black → left_of v < left_of w
unfolding left_of
left_less w h v leaves same =
    let shorter = left_length w h v leaves in
    let black : length v.black ≡ length w.black = ap length same in
    omega (arith, shorter, black)

pub black_less : (w : Walk) (h : Hash) (hashes : List Hash) (v : Walk) → Blackens w h hashes v → length hashes ≤ 16
    → length w.black < 2 ^ 63 → length v.black ≡ length w.black + 1 → left_of v < left_of w
unfolding left_of
black_less w h hashes v b few room more =
    let shorter = left_length b.mid h v b.leaves in
    let grown : length b.mid.grey ≡ length w.grey + length b.shades.more = ap length b.shades.grey ∙ length-append w.grey b.shades.more in
    omega (arith, shorter, grown, b.shades.few, few, room, more)

-- a list with one hash behind has this hash too
pub has_too : (old new : List Hash) (h : Hash) → new ≡ old ++ h ∷ [] → HasToo new old h
has_too old new h is q = (
  λ has. ⊎_elim (λ before. inl before) (λ one. inr (in_one h q one))
      (Contains-append_cases old (h ∷ []) q (subst (λ (hs : List Hash). Contains hs q) is has)),
  λ has. subst (λ (hs : List Hash). Contains hs q) (sym is) (⊎_elim (λ before. Contains-append_left old (h ∷ []) q before)
      (λ same. subst (λ (x : Hash). Contains (old ++ h ∷ []) x) (sym same) (Contains-push old h)) has),
)

-- and is one longer
pub one_more : (old new : List Hash) (h : Hash) → new ≡ old ++ h ∷ [] → length new ≡ length old + 1
one_more old new h is = ap length is ∙ length-append old (h ∷ [])

-- the hash at a place becomes black, after some were shaded
pub blackened : (w mid v : Walk) (h r : Hash) (hashes : List Hash) (place : ℕ) → ShadesSome w hashes mid
    → ((k : Hash) → Contains hashes k → Contains (shaded mid) k) → slice_get w.grey place ≡ Some h → r ≡ get_or mid.grey place r
    → v.grey ≡ swap_remove mid.grey place r → HasToo v.black mid.black h → Blackens w h hashes v
blackened w mid v h r hashes place some all at is gone too = record {
  mid = mid;
  shades = some;
  all = all;
  leaves = leaves_at mid v place h r (stands_still w.grey some.more mid.grey place h (stands_at w.grey place h at) some.grey) is gone;
  black = subst (λ (hs : List Hash). HasToo v.black hs h) some.black too;
}
