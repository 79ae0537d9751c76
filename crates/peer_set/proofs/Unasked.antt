-- Which missing places are asked for.
use Rattle.std.proofs.Common.{◌≡◌, ◌<◌, ◌≤◌, ℕ, ◌+◌, List, [], ◌∷◌, ◌++◌, length, take, get_or, true, false, not, Bool, refl}
use Rattle.std.proofs.Common.{sym, ◌∙◌, ap, arith}
use Rattle.std.specs.Prelude.{nat_eq, ◌&&◌}
use Rattle.std.specs.List.{All, list_any}
use Rattle.std.specs.Str.{bytes_eq}
use Rattle.std.proofs.lemmas.Slice.Eq.{bytes_eq-Decides}
use Rattle.std.proofs.lemmas.Bool.{not-true}
use Rattle.std.proofs.lemmas.Bool.Decides.{same_from_decides}
use Rattle.std.proofs.lemmas.List.{append-nil, length-take, take_all, take-append-le, length-append, take_more}
use Rattle.std.proofs.lemmas.List.Elements.{filter-append, filter_passes, All-take, All-weaker}
use Rattle.ledger_spec.specs.declared.Place.{Place}
use Rattle.ledger_spec.specs.Bytes.{same_bytes}
use Rattle.ledger_spec.specs.Peers.{same_place, unasked}
use Rattle.nib_path.specs.Paths.{IsPath, id_of}
use Rattle.nib_path.proofs.shared.Reading.{same_path-Decides}

-- paths are one where their fields are
pub same_ids : (p q : List ℕ) → IsPath p → IsPath q → (nat_eq (length p) (length q) && bytes_eq (id_of p) (id_of q)) ≡ same_bytes p q
same_ids p q h k =
    same_from_decides (nat_eq (length p) (length q) && bytes_eq (id_of p) (id_of q)) (same_bytes p q)
    (same_path-Decides p q h k) (bytes_eq-Decides p q)

-- none of those that are asked for was asked
pub none_asked : (asked missing : List Place) (n : ℕ) → All (λ p. list_any (same_place p) asked ≡ false) (take n (unasked asked missing))
none_asked asked missing n =
    let new : Place → Bool = λ p. not (list_any (same_place p) asked) in
    All-take (λ p. list_any (same_place p) asked ≡ false) n (unasked asked missing)
    (All-weaker (λ p. new p ≡ true) (λ p. list_any (same_place p) asked ≡ false)
    (λ p is. not-true (list_any (same_place p) asked) is) (unasked asked missing) (filter_passes new missing))

one_more : (asked missing : List Place) (i : ℕ) (x : Place) → i < length missing → x ≡ get_or missing i x
    → unasked asked (take (i + 1) missing) ≡ unasked asked (take i missing) ++ unasked asked (x ∷ [])
one_more asked missing i x lt is =
    ap (unasked asked) (take_more missing i x lt ∙ ap (λ (y : Place). take i missing ++ y ∷ []) (sym is))
    ∙ filter-append (λ p. not (list_any (same_place p) asked)) (take i missing) (x ∷ [])

full : (n : ℕ) (xs more : List Place) → n ≤ length (take n xs) → take n (xs ++ more) ≡ take n xs
full n xs more le = take-append-le n xs more (omega (arith, le, length-take n xs))

open_still : (n : ℕ) (xs more : List Place) → length (take n xs) < n → length (xs ++ more) ≤ n → take n (xs ++ more) ≡ take n xs ++ more
open_still n xs more lt le =
    take_all n (xs ++ more) le ∙ ap (λ (ys : List Place). ys ++ more) (sym (take_all n xs (omega (arith, lt, length-take n xs))))

-- one place more, which was not asked, while there is room
pub taken : (asked missing : List Place) (i : ℕ) (x : Place) (places : List Place)
    → i < length missing → x ≡ get_or missing i x → places ≡ take 128 (unasked asked (take i missing))
    → length places < 128 → list_any (same_place x) asked ≡ false → places ++ x ∷ [] ≡ take 128 (unasked asked (take (i + 1) missing))
taken asked missing i x places lt is so_far room new =
    let F : List Place = unasked asked (take i missing) in
    let one : unasked asked (x ∷ []) ≡ x ∷ [] = rw new refl in
    let less : length (take 128 F) < 128 = rw (← so_far) room in
    let few : length (F ++ x ∷ []) ≤ 128 = omega (arith, less, length-take 128 F, length-append F (x ∷ [])) in
    ap (λ (ys : List Place). ys ++ x ∷ []) so_far ∙ sym (open_still 128 F (x ∷ []) less few)
    ∙ ap (take 128) (ap (λ (ys : List Place). F ++ ys) (sym one) ∙ sym (one_more asked missing i x lt is))

-- a place that was asked
pub passed : (asked missing : List Place) (i : ℕ) (x : Place) (places : List Place)
    → i < length missing → x ≡ get_or missing i x → places ≡ take 128 (unasked asked (take i missing))
    → list_any (same_place x) asked ≡ true → places ≡ take 128 (unasked asked (take (i + 1) missing))
passed asked missing i x places lt is so_far old =
    let F : List Place = unasked asked (take i missing) in
    let none : unasked asked (x ∷ []) ≡ [] = rw old refl in
    so_far ∙ ap (take 128) (sym (one_more asked missing i x lt is ∙ ap (λ (ys : List Place). F ++ ys) none ∙ append-nil F))

-- no room
pub filled : (asked missing : List Place) (i : ℕ) (x : Place) (places : List Place)
    → i < length missing → x ≡ get_or missing i x → places ≡ take 128 (unasked asked (take i missing))
    → 128 ≤ length places → places ≡ take 128 (unasked asked (take (i + 1) missing))
filled asked missing i x places lt is so_far all =
    let F : List Place = unasked asked (take i missing) in
    let le : 128 ≤ length (take 128 F) = rw (← so_far) all in
    so_far ∙ sym (full 128 F (unasked asked (x ∷ [])) le) ∙ ap (take 128) (sym (one_more asked missing i x lt is))
