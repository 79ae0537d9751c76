-- What the code's comparisons say of keys and places.
use Rattle.std.proofs.Common.{◌≡◌, ◌-◌, ◌≤◌, ℕ, List, [], ◌∷◌, ◌++◌, length, take, drop, replicate, false, refl, sym, ap, ◌∙◌, arith}
use Rattle.std.proofs.lemmas.List.{length-take-le, take-append-drop}
use Rattle.std.specs.declared.cmp.Ordering.{Ordering}
use Rattle.std.specs.declared.cmp.Ordering.TheVariants.{Less, Equal, Greater}
use Rattle.std.specs.Ordering.{is_lt, nat_cmp, ordering_then}
use Rattle.std.specs.Cmp.Lexicographic.{slice_cmp}
use Rattle.nib_path.specs.Paths.{IsPath, nibbles, id_of, length-nibbles}
use Rattle.nib_path.proofs.shared.Reading.{nibbles-id_of}
use Rattle.nib_path.proofs.shared.Nibbles.{list_all-take}
use Rattle.ledger_spec.specs.Maps.{hash_cmp}
use Rattle.ledger_spec.specs.Reads.{IsKey}
use Rattle.ledger_spec.specs.Pages.{is_passed}
use Rattle.tree_laws.proofs.shared.Orders.{nibbles_cmp, equal}

same_cmp : (z : List ℕ) → slice_cmp nat_cmp z z ≡ Equal
same_cmp [] = refl
same_cmp (x ∷ z) = ap (λ o. ordering_then o (slice_cmp nat_cmp z z)) (equal x x refl) ∙ same_cmp z

-- an end in common doesn't count for fronts of one length
end_cmp : (p q z : List ℕ) → length p ≡ length q → slice_cmp nat_cmp (p ++ z) (q ++ z) ≡ slice_cmp nat_cmp p q
end_cmp [] [] z same = same_cmp z
end_cmp [] (y ∷ q) z same = absurd (omega arith)
end_cmp (x ∷ p) [] z same = absurd (omega arith)
end_cmp (x ∷ p) (y ∷ q) z same = ap (ordering_then (nat_cmp x y)) (end_cmp p q z (omega arith))

-- two IDs of one depth are ordered as their paths
id_cmp : (p q : List ℕ) → IsPath p → IsPath q → length p ≡ length q → hash_cmp (id_of p) (id_of q) ≡ hash_cmp p q
id_cmp p q is_p is_q same =
    sym (nibbles_cmp (id_of p) (id_of q)) ∙ ap (λ x. slice_cmp nat_cmp x (nibbles (id_of q))) (nibbles-id_of p is_p)
    ∙ ap (slice_cmp nat_cmp (p ++ replicate (64 - length p) 0)) (nibbles-id_of q is_q)
    ∙ ap (λ n. slice_cmp nat_cmp (p ++ replicate (64 - length p) 0) (q ++ replicate (64 - n) 0)) (sym same)
    ∙ end_cmp p q (replicate (64 - length p) 0) same

pub passed_is : (path reached after id own : List ℕ) → IsPath path → IsKey after → reached ≡ take (length path) (nibbles after)
    → id ≡ id_of path → own ≡ id_of reached → is_lt (hash_cmp id own) ≡ is_passed after path
passed_is path reached after id own is_path is_key at is_id is_own =
    let short : length path ≤ length (nibbles after) = omega (arith, is_path.short, length-nibbles after, is_key.size) in
    let size : length path ≡ length (take (length path) (nibbles after)) = sym (length-take-le (length path) (nibbles after) short) in
    let is_front : IsPath (take (length path) (nibbles after)) = record {
      short = omega (arith, size, is_path.short);
      nibbles_below = list_all-take _ (length path) (nibbles after) is_key.path.nibbles_below;
    } in
    ap (λ x. is_lt (hash_cmp x own)) is_id ∙ ap (λ x. is_lt (hash_cmp (id_of path) x)) (is_own ∙ ap id_of at)
    ∙ ap is_lt (id_cmp path (take (length path) (nibbles after)) is_path is_front size)

then_first : (o p q : Ordering) → ordering_then o (ordering_then p q) ≡ ordering_then (ordering_then o p) q
then_first Less p q = refl
then_first Equal p q = refl
then_first Greater p q = refl

-- fronts of one length are compared first
front_cmp : (p q x y : List ℕ) → length p ≡ length q
    → slice_cmp nat_cmp (p ++ x) (q ++ y) ≡ ordering_then (slice_cmp nat_cmp p q) (slice_cmp nat_cmp x y)
front_cmp [] [] x y same = refl
front_cmp [] (b ∷ q) x y same = absurd (omega arith)
front_cmp (a ∷ p) [] x y same = absurd (omega arith)
front_cmp (a ∷ p) (b ∷ q) x y same =
    ap (ordering_then (nat_cmp a b)) (front_cmp p q x y (omega arith))
    ∙ then_first (nat_cmp a b) (slice_cmp nat_cmp p q) (slice_cmp nat_cmp x y)

first_counts : (o p : Ordering) → is_lt (ordering_then o p) ≡ false → is_lt o ≡ false
first_counts Less p other = other
first_counts Equal p other = refl
first_counts Greater p other = refl

-- a place whose first key is no less than the key isn't passed
pub not_passed : (path after id : List ℕ) → IsPath path → IsKey after → id ≡ id_of path → is_lt (hash_cmp id after) ≡ false
    → false ≡ is_passed after path
not_passed path after id is_path is_key is_id other =
    let short : length path ≤ length (nibbles after) = omega (arith, is_path.short, length-nibbles after, is_key.size) in
    let size : length path ≡ length (take (length path) (nibbles after)) = sym (length-take-le (length path) (nibbles after) short) in
    let zeros : List ℕ = replicate (64 - length path) 0 in
    let rest : List ℕ = drop (length path) (nibbles after) in
    let split : hash_cmp id after ≡ ordering_then (hash_cmp path (take (length path) (nibbles after))) (slice_cmp nat_cmp zeros rest) =
    sym (nibbles_cmp id after) ∙ ap (λ x. slice_cmp nat_cmp (nibbles x) (nibbles after)) is_id
    ∙ ap (λ x. slice_cmp nat_cmp x (nibbles after)) (nibbles-id_of path is_path)
    ∙ ap (slice_cmp nat_cmp (path ++ zeros)) (sym (take-append-drop (length path) (nibbles after)))
    ∙ front_cmp path (take (length path) (nibbles after)) zeros rest size in
    sym (first_counts (hash_cmp path (take (length path) (nibbles after))) (slice_cmp nat_cmp zeros rest) (ap is_lt (sym split) ∙ other))
