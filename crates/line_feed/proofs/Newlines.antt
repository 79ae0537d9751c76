-- A part of bytes, cut at its first newline.
use Rattle.std.proofs.Common.{◌≡◌, ◌≢◌, ℕ, zero, suc, ◌+◌, ◌-◌, ◌<◌, List, [], ◌∷◌, ◌++◌, length, take, drop, slice_index}
use Rattle.std.proofs.Common.{sym, ap, ◌∙◌, subst, arith}
use Rattle.std.proofs.lemmas.List.{drop-take, drop-drop, take_all}
use Rattle.std.proofs.Math.Seq.{split_at}
use Rattle.line_feed.specs.Lines.{IsOneLine}
use Rattle.line_feed.specs.Feeding.{CutsLine, TakesAll}

pub one_line : (w : List ℕ) (n : ℕ) → ((k : ℕ) → k < n → slice_index w k ≢ 10) → IsOneLine (take n w)
one_line w zero before = tt
one_line [] (suc n) before = tt
one_line (x ∷ w) (suc n) before = (before 0 (omega arith), one_line w n (λ k lt. before (suc k) (omega arith)))

-- what waits behind the newline
pub behind_newline : (xs : List ℕ) (a n e : ℕ) → a + n < e
    → take (e - (a + (n + 1))) (drop (a + (n + 1)) xs) ≡ drop (suc n) (take (e - a) (drop a xs))
behind_newline xs a n e within =
    let all : suc n + (e - (a + (n + 1))) ≡ e - a = omega arith in
    let next : a + suc n ≡ a + (n + 1) = omega arith in
    sym (ap (λ i. drop (suc n) (take i (drop a xs))) (sym all) ∙ drop-take (suc n) (e - (a + (n + 1))) (drop a xs)
    ∙ ap (take (e - (a + (n + 1)))) (drop-drop (suc n) a xs ∙ ap (λ i. drop i xs) next))

pub cuts_line : (w line new now : List ℕ) (n : ℕ) → n < length w → ((k : ℕ) → k < n → slice_index w k ≢ 10) → slice_index w n ≡ 10
    → new ≡ line ++ take n w → now ≡ drop (suc n) w → CutsLine w line new now
cuts_line w line new now n within before at is rest = record {
  more = take n w;
  was_is = split_at w n 0 within ∙ ap (λ x. take n w ++ x ∷ drop (suc n) w) at ∙ ap (λ (r : List ℕ). take n w ++ 10 ∷ r) (sym rest);
  line_is = is;
  one = one_line w n before;
}

pub takes_all : (w line new now : List ℕ) (n : ℕ) → n ≡ length w → ((k : ℕ) → k < n → slice_index w k ≢ 10)
    → new ≡ line ++ take n w → now ≡ [] → TakesAll w line new now
takes_all w line new now n all before is rest =
    let whole : take n w ≡ w = take_all n w (omega arith) in
    record { now_is = rest; line_is = is ∙ ap (λ (r : List ℕ). line ++ r) whole; one = subst IsOneLine whole (one_line w n before) }

pub none_waits : (xs : List ℕ) (a e : ℕ) → a ≡ e → take (e - a) (drop a xs) ≡ []
none_waits xs a e same = let none : e - a ≡ 0 = omega arith in ap (λ i. take i (drop a xs)) none
