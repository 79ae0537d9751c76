-- What is true of each of sixteen branches, and joins in which nothing is found. For proofs of other crates.
use Rattle.std.proofs.Common.{◌≡◌, ◌<◌, ℕ}
use Rattle.std.proofs.Common.{List, [], ◌∷◌, get_or, Option}
use Rattle.std.proofs.Common.{sym, ◌∙◌, subst, arith, filter_map, flat_map}
use Rattle.std.proofs.lemmas.List.Elements.{filter_map-append, All-from_recursion, All-get_or}
use Rattle.std.proofs.lemmas.List.FromFn.{get_or-range_with_len, length-range_with_len}
use Rattle.std.specs.List.{AllByRecursion}
use Rattle.ledger_spec.specs.Bytes.{branches}
use Rattle.ledger_spec.proofs.shared.Growth.{both_nil}

-- nothing is found in a join where nothing is found in each part
pub clean_each : {A B F : Type 0} (find : B → Option F) (f : A → List B) (xs : List A) → filter_map find (flat_map f xs) ≡ []
    → AllByRecursion (λ x. filter_map find (f x) ≡ []) xs
clean_each find f [] clean = tt
clean_each find f (x ∷ xs) clean =
    let both : (filter_map find (f x) ≡ []) × (filter_map find (flat_map f xs) ≡ []) =
    both_nil _ _ (sym (filter_map-append find (f x) (flat_map f xs)) ∙ clean) in
    (both.0, clean_each find f xs both.1)

-- what is true of each branch
pub at_branch : (P : ℕ → Type 0) → AllByRecursion P branches → (b : ℕ) → b < 16 → P b
at_branch P all b below =
    let is : get_or branches b 0 ≡ b = get_or-range_with_len 0 16 b 0 below ∙ Rattle.std.proofs.Common.zero-add b in
    subst P is (All-get_or P branches b 0 (omega (arith, length-range_with_len 0 16)) (All-from_recursion P branches all))
