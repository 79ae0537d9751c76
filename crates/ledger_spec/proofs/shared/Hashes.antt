-- Hashes of 32 bytes, joined and taken apart. For proofs of other crates.
use Rattle.std.proofs.Common.{◌≡◌, ◌≤◌, ◌<◌, ◌+◌, ◌*◌, ◌==◌, ◌&&◌, ◌||◌, not, set, ℕ, zero, suc, Bool, true, false, List, [], ◌∷◌, ◌++◌}
use Rattle.std.proofs.Common.{length, take, drop, get_or, IsTrue, refl, sym, ap, ◌∙◌, arith, length-append, length-drop}
use Rattle.std.proofs.lemmas.List.{append-nil, append_assoc, drop-drop, take_at, drop_at, take_all, take_more, take_more_set}
use Rattle.std.proofs.lemmas.List.{length-take-le}
use Rattle.std.proofs.lemmas.Bool.{not-false, not-true, eqb-true, eq-eqb, and_parts, and_from}
use Rattle.std.proofs.lemmas.Slice.{take-put_mid}
use borrow.Rule.Slice.PartMut.{put_mid}
use Rattle.std.specs.List.{concat, list_all, list_any}
use Rattle.half_hash.specs.Zero.{zero_hash, is_zero, is_nonzero}
use Rattle.ledger_spec.specs.Bytes.{hashes_of}

-- one more list at the end
pub concat_push : (xs : List (List ℕ)) (y : List ℕ) → concat (xs ++ y ∷ []) ≡ concat xs ++ y
concat_push [] y = append-nil y
concat_push (x ∷ xs) y = ap (λ z. x ++ z) (concat_push xs y) ∙ sym (append_assoc x (concat xs) y)

-- one more of the first lists
pub concat_more : (hs : List (List ℕ)) (b : ℕ) (d : List ℕ) → b < length hs → concat (take (b + 1) hs) ≡ concat (take b hs) ++ get_or hs b d
concat_more hs b d lt = ap concat (take_more hs b d lt) ∙ concat_push (take b hs) (get_or hs b d)

-- one more piece of 32 bytes
pub hashes_of_push : (n : ℕ) (b : List ℕ) → hashes_of (suc n) b ≡ hashes_of n b ++ take 32 (drop (32 * n) b) ∷ []
hashes_of_push zero b = refl
hashes_of_push (suc n) b =
    let at : 32 + 32 * n ≡ 32 * suc n = omega arith in
    ap (λ t. take 32 b ∷ t) (hashes_of_push n (drop 32 b))
    ∙ ap (λ t. take 32 b ∷ (hashes_of n (drop 32 b) ++ take 32 t ∷ [])) (drop-drop (32 * n) 32 b ∙ ap (λ m. drop m b) at)

pub hashes_of_more : (n : ℕ) (b : List ℕ) → hashes_of (n + 1) b ≡ hashes_of n b ++ take 32 (drop (32 * n) b) ∷ []
hashes_of_more n b = let e : n + 1 ≡ suc n = omega arith in ap (λ m. hashes_of m b) e ∙ hashes_of_push n b

pub length-hashes_of : (n : ℕ) (b : List ℕ) → length (hashes_of n b) ≡ n
length-hashes_of zero b = refl
length-hashes_of (suc n) b = ap suc (length-hashes_of n (drop 32 b))

take_two : (m n : ℕ) (l : List ℕ) → take m l ++ take n (drop m l) ≡ take (m + n) l
take_two zero n l = let e : n ≡ 0 + n = omega arith in ap (λ k. take k l) e
take_two (suc m) zero [] = let e : suc m + 0 ≡ suc m = omega arith in sym (ap (λ k. take k []) e)
take_two (suc m) (suc n) [] = let e : suc m + suc n ≡ suc (m + suc n) = omega arith in sym (ap (λ k. take k []) e)
take_two (suc m) n (x ∷ l) = let e : suc (m + n) ≡ suc m + n = omega arith in ap (λ t. x ∷ t) (take_two m n l) ∙ ap (λ k. take k (x ∷ l)) e

-- the pieces joined are the bytes
pub concat-hashes_of : (n : ℕ) (b : List ℕ) → concat (hashes_of n b) ≡ take (32 * n) b
concat-hashes_of zero b = refl
concat-hashes_of (suc n) b =
    let e : 32 + 32 * n ≡ 32 * suc n = omega arith in
    ap (λ t. take 32 b ++ t) (concat-hashes_of n (drop 32 b)) ∙ take_two 32 (32 * n) b ∙ ap (λ k. take k b) e

-- not all of them are zero where one is not
or_not : (a b c : Bool) → b ≡ not c → (not a || b) ≡ not (a && c)
or_not true b c e = e
or_not false b c e = refl

pub any_nonzero : (hs : List (List ℕ)) → list_any is_nonzero hs ≡ not (list_all is_zero hs)
any_nonzero [] = refl
any_nonzero (h ∷ hs) = or_not (is_zero h) (list_any is_nonzero hs) (list_all is_zero hs) (any_nonzero hs)

pub all_zero : (hs : List (List ℕ)) → list_any is_nonzero hs ≡ false → IsTrue (list_all is_zero hs)
all_zero hs none = not-false (list_all is_zero hs) (sym (any_nonzero hs) ∙ none)

pub none_nonzero : (hs : List (List ℕ)) → IsTrue (list_all is_zero hs) → list_any is_nonzero hs ≡ false
none_nonzero hs all = any_nonzero hs ∙ ap not all

pub some_not_all : (hs : List (List ℕ)) → IsTrue (list_any is_nonzero hs) → list_all is_zero hs ≡ false
some_not_all hs some = not-true (list_all is_zero hs) (sym (any_nonzero hs) ∙ some)

-- one more hash read
pub read_step : (hs : List (List ℕ)) (b : ℕ) (h rest front body : List ℕ) → b < length hs → rest ≡ drop (32 * b) body → front ≡ take 32 rest
    → h ≡ front
    → take b hs ≡ hashes_of b body → take (b + 1) (set hs b h) ≡ hashes_of (b + 1) body
read_step hs b h rest front body lt left piece read before =
    take_more_set hs b h lt
    ∙ ap (λ t. t ++ h ∷ []) before
    ∙ ap (λ t. hashes_of b body ++ t ∷ []) (read ∙ piece ∙ ap (take 32) left)
    ∙ sym (hashes_of_more b body)

pub left_step : (b : ℕ) (rest back body : List ℕ) → rest ≡ drop (32 * b) body → back ≡ drop 32 rest → back ≡ drop (32 * (b + 1)) body
left_step b rest back body left cut =
    let e : 32 * b + 32 ≡ 32 * (b + 1) = omega arith in
    cut ∙ ap (drop 32) left ∙ drop-drop 32 (32 * b) body ∙ ap (λ n. drop n body) e

pub read_all : (hs : List (List ℕ)) (n b : ℕ) (body : List ℕ) → length hs ≡ n → b ≡ n → take b hs ≡ hashes_of b body → hs ≡ hashes_of n body
read_all hs n b body size end read =
    let within : length hs ≤ b = omega arith in
    sym (take_all b hs within) ∙ read ∙ ap (λ m. hashes_of m body) end

-- one more hash written
pub write_step : (body h : List ℕ) (hs : List (List ℕ)) (b at k : ℕ) → at ≡ b * 32 → k ≡ 32 → at ≤ length body → length h ≡ 32
    → b < length hs → h ≡ get_or hs b zero_hash
    → take (32 * b) body ≡ concat (take b hs) → take (32 * (b + 1)) (put_mid at k body h) ≡ concat (take (b + 1) hs)
write_step body h hs b at k place width within size lt is before =
    let end : 32 * (b + 1) ≡ at + length h = omega arith in
    let start : at ≡ 32 * b = omega arith in
    take-put_mid at k body h (32 * (b + 1)) end within
    ∙ ap (λ n. take n body ++ h) start
    ∙ ap (λ t. t ++ h) before
    ∙ ap (λ t. concat (take b hs) ++ t) is
    ∙ sym (concat_more hs b zero_hash lt)

pub write_all : (body : List ℕ) (hs : List (List ℕ)) (n b : ℕ) → length hs ≡ n → length body ≡ 32 * n → b ≡ n
    → take (32 * b) body ≡ concat (take b hs) → body ≡ concat hs
write_all body hs n b count size end written =
    let all : length body ≤ 32 * b = omega arith in
    let both : length hs ≤ b = omega arith in
    sym (take_all (32 * b) body all) ∙ written ∙ ap concat (take_all b hs both)

-- a write leaves the size
pub write_size : (body h : List ℕ) (at k : ℕ) → k ≡ 32 → at + 32 ≤ length body → length h ≡ 32 → length (put_mid at k body h) ≡ length body
write_size body h at k wide within size =
    let front : length (take at body) ≡ at = length-take-le at body (omega arith) in
    omega (
      arith,
      length-append (take at body) (h ++ drop k (drop at body)),
      length-append h (drop k (drop at body)),
      length-drop k
          (drop at body),
      length-drop at body,
      front,
    )

-- hashes of 32 bytes, joined: their size, and how they are taken apart
head_size : (h : List ℕ) (hs : List (List ℕ)) → IsTrue (list_all (λ h. length h == 32) (h ∷ hs)) → length h ≡ 32
head_size h hs sizes = eqb-true (length h) 32 (and_parts (length h == 32) (list_all (λ h. length h == 32) hs) sizes).0

tail_sizes : (h : List ℕ) (hs : List (List ℕ)) → IsTrue (list_all (λ h. length h == 32) (h ∷ hs))
    → IsTrue (list_all (λ h. length h == 32) hs)
tail_sizes h hs sizes = (and_parts (length h == 32) (list_all (λ h. length h == 32) hs) sizes).1

pub length-concat : (hs : List (List ℕ)) → IsTrue (list_all (λ h. length h == 32) hs) → length (concat hs) ≡ 32 * length hs
length-concat [] sizes = refl
length-concat (h ∷ hs) sizes = omega (arith, length-append h (concat hs), head_size h hs sizes, length-concat hs (tail_sizes h hs sizes))

pub hashes_of-concat : (hs : List (List ℕ)) → IsTrue (list_all (λ h. length h == 32) hs) → hashes_of (length hs) (concat hs) ≡ hs
hashes_of-concat [] sizes = refl
hashes_of-concat (h ∷ hs) sizes =
    let size : length h ≡ 32 = head_size h hs sizes in
    ap (λ t. t ∷ hashes_of (length hs) (drop 32 (h ++ concat hs))) (take_at h (concat hs) 32 size)
    ∙ ap (λ t. h ∷ hashes_of (length hs) t) (drop_at h (concat hs) 32 size)
    ∙ ap (λ t. h ∷ t) (hashes_of-concat hs (tail_sizes h hs sizes))

pub sizes-hashes_of : (n : ℕ) (b : List ℕ) → 32 * n ≤ length b → IsTrue (list_all (λ h. length h == 32) (hashes_of n b))
sizes-hashes_of zero b le = refl
sizes-hashes_of (suc n) b le =
    and_from (length (take 32 b) == 32) (list_all (λ h. length h == 32) (hashes_of n (drop 32 b)))
    (eq-eqb (length (take 32 b)) 32 (length-take-le 32 b (omega arith)))
    (sizes-hashes_of n (drop 32 b) (omega (arith, length-drop 32 b)))
