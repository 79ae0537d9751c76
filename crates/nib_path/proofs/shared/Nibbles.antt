-- Lists of nibbles: those of bytes, some packed into bytes, and parts of them. For proofs of other crates.
use Rattle.std.proofs.Common.{◌≡◌, ℕ, suc, zero, ◌+◌, ◌*◌, ◌/◌, ◌%◌, ◌<◌, List, [], ◌∷◌, ◌++◌, length, take, replicate}
use Rattle.std.proofs.Common.{refl, arith}
use Rattle.std.specs.Prelude.{slice_index, IsTrue, nat_lt, Bool, ◌&&◌}
use Rattle.std.specs.List.{list_all}
use Rattle.std.proofs.lemmas.Bool.{and_parts, and_from, lt-ltb, ltb-true}
use Rattle.nib_path.specs.Paths.{nibbles, packed}

pub nibbles-below : (bs : List ℕ) → ((k : ℕ) → k < length bs → slice_index bs k < 256) → IsTrue (list_all (λ n. nat_lt n 16) (nibbles bs))
nibbles-below [] h = refl
nibbles-below (b ∷ bs) h =
    let small : b < 256 = h 0 (omega arith) in
    let rest = nibbles-below bs (λ k l. h (suc k) (omega arith)) in
    and_from _ _ (lt-ltb (b / 16) 16 (omega arith)) (and_from _ _ (lt-ltb (b % 16) 16 (omega arith)) rest)

pub nibbles-packed : (k : ℕ) (ns : List ℕ) → length ns ≡ 2 * k → IsTrue (list_all (λ n. nat_lt n 16) ns) → nibbles (packed ns) ≡ ns
nibbles-packed k [] e h = refl
nibbles-packed k (n ∷ []) e h = absurd (omega arith)
nibbles-packed zero (n ∷ m ∷ ns) e h = absurd (omega arith)
nibbles-packed (suc k) (n ∷ m ∷ ns) e h =
    let both = and_parts (nat_lt n 16) (nat_lt m 16 && list_all (λ n. nat_lt n 16) ns) h in
    let more = and_parts (nat_lt m 16) (list_all (λ n. nat_lt n 16) ns) both.1 in
    let small : m < 16 = ltb-true m 16 more.0 in
    let high : (n * 16 + m) / 16 ≡ n = omega (arith, small) in
    let low : (n * 16 + m) % 16 ≡ m = omega (arith, small) in
    let rest : nibbles (packed ns) ≡ ns = nibbles-packed k ns (omega arith) more.1 in
    λ i. high i ∷ low i ∷ rest i

pub list_all-take : (p : ℕ → Bool) (d : ℕ) (ns : List ℕ) → IsTrue (list_all p ns) → IsTrue (list_all p (take d ns))
list_all-take p zero ns h = refl
list_all-take p (suc d) [] h = refl
list_all-take p (suc d) (n ∷ ns) h =
    let both = and_parts (p n) (list_all p ns) h in and_from _ _ both.0 (list_all-take p d ns both.1)

pub list_all-append_zeros : (ns : List ℕ) (k : ℕ) → IsTrue (list_all (λ n. nat_lt n 16) ns)
    → IsTrue (list_all (λ n. nat_lt n 16) (ns ++ replicate k 0))
list_all-append_zeros [] zero h = refl
list_all-append_zeros [] (suc k) h = list_all-append_zeros [] k h
list_all-append_zeros (n ∷ ns) k h =
    let both = and_parts (nat_lt n 16) (list_all (λ m. nat_lt m 16) ns) h in and_from _ _ both.0 (list_all-append_zeros ns k both.1)
