-- Entries under a test, and a part of a part of a map. For proofs of other crates.
use Rattle.std.proofs.Common.{◌≡◌, ℕ, Bool, true, false, List, [], ◌∷◌, ◌++◌, length, take, refl, sym, ap}
use Rattle.std.proofs.Common.{◌∙◌, arith, length-append}
use Rattle.std.proofs.lemmas.Bool.{cond-true, cond-false}
use Rattle.std.proofs.lemmas.List.{same_from_push}
use Rattle.std.specs.List.{filter, AllByRecursion}
use Rattle.nib_path.specs.Paths.{nibbles, lies_under}
use Rattle.ledger_spec.specs.Bytes.{Hash, Items}
use Rattle.ledger_spec.specs.Tree.{Entry, part}
use Rattle.tree_laws.proofs.shared.Trees.{under_begins}
use Rattle.tree_laws.proofs.Parts.{filter_twice, under_front}

-- a list under a test that lets all through, or nothing
pub filter_all : (test : Entry → Bool) (xs : Items) → AllByRecursion (λ e. test e ≡ true) xs → filter test xs ≡ xs
filter_all test [] all = refl
filter_all test (x ∷ xs) all = cond-true (test x) _ _ all.0 ∙ ap (λ l. x ∷ l) (filter_all test xs all.1)

pub filter_none : (test : Entry → Bool) (xs : Items) → AllByRecursion (λ e. test e ≡ false) xs → filter test xs ≡ []
filter_none test [] all = refl
filter_none test (x ∷ xs) all = cond-false (test x) _ _ all.0 ∙ filter_none test xs all.1

pub under_other : (path : List ℕ) (b c : ℕ) (k : Hash) → (b ≡ c → ⊥) → lies_under (path ++ b ∷ []) k ≡ true
    → lies_under (path ++ c ∷ []) k ≡ false
under_other path b c k differ under = by_test (lies_under (path ++ c ∷ []) k) refl
  where
    by_test : (t : Bool) → lies_under (path ++ c ∷ []) k ≡ t → lies_under (path ++ c ∷ []) k ≡ false
    by_test false is = is
    by_test true is =
        let sizes : length (path ++ b ∷ []) ≡ length (path ++ c ∷ []) = omega
        (arith, length-append path (b ∷ []), length-append path (c ∷ [])) in
        let one : path ++ b ∷ [] ≡ path ++ c ∷ [] = under_begins (path ++ b ∷ []) k under ∙ ap (λ n. take n (nibbles k)) sizes
        ∙ sym (under_begins (path ++ c ∷ []) k is) in
        let same : b ≡ c = (same_from_push path path b c one).1 in
        absurd (differ same)

-- a part of a part is that part of the whole
pub part_of_part : (items : List Entry) (path more : List ℕ) → part (part items path) (path ++ more) ≡ part items (path ++ more)
part_of_part items path more =
    filter_twice (λ e. lies_under path e.0) (λ e. lies_under (path ++ more) e.0) (λ e under. under_front path more e.0 under) items
