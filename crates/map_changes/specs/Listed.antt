-- What two lists of forms have in common.
use Rattle.std.specs.Prelude.{◌≡◌, ℕ, ◌+◌, Bool, if◌then◌else◌, List, [], ◌∷◌}
use Rattle.ledger_spec.specs.Bytes.{Bytes}

-- how many of the forms pass a test
abbrev pub count : (Bytes → Bool) → List Bytes → ℕ
count test [] = 0
count test (form ∷ forms) = (if test form then 1 else 0) + count test forms

-- both lists have the same forms, each as often: every test is passed by as many of them
abbrev pub HaveSameForms : List Bytes → List Bytes → Type 0
HaveSameForms forms others = (test : Bytes → Bool) → count test forms ≡ count test others
