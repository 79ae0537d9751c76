-- What is true of each value of a table is true of one that is found. For proofs of other crates.
use Rattle.std.proofs.Common.{◌≡◌, suc, arith, Bool, true, false, cond, List, [], ◌∷◌, Some, subst}
use Rattle.std.specs.List.{All}
use Rattle.std.specs.Map.{values_of, lookup}
use Rattle.std.proofs.lemmas.Option.{none-some}
use Rattle.ledger_laws.proofs.SoundTables.{same_some}

-- what is true of each value is true of one that is found
pub all_found : {K X : Type 0} (P : X → Type 0) (test : K → Bool) (m : List (K × X)) (x : X) → All P (values_of m) → lookup test m ≡ Some x
    → P x
all_found P test [] x all e = absurd (none-some _ e)
all_found {K} {X} P test (e ∷ m) x all is = by (test e.0) (all_found P test m x (λ k d lt. all (suc k) d (omega arith))) is
  where
    by : (b : Bool) → (lookup test m ≡ Some x → P x) → cond b (Some e.1) (lookup test m) ≡ Some x → P x
    by true rest same = subst P (same_some same) (all 0 e.1 (omega arith))
    by false rest later = rest later
