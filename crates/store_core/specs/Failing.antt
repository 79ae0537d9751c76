-- The actors whose fetch failed since their last entry, each once.
use Rattle.std.specs.Prelude.{ℕ, ◌==◌, not, List, [], ◌∷◌, ◌++◌, if◌then◌else◌, Bool, Result, Ok, Err}
use Rattle.std.specs.List.{filter, list_any}
use Rattle.path_proof.specs.declared.source.FetchFault.{FetchFault}
use Rattle.path_proof.specs.declared.source.FetchFault.TheVariants as faults

-- whether the actor is one of them
abbrev pub is_among : ℕ → List ℕ → Bool
is_among a failed = list_any (λ b. b == a) failed

-- with this actor
abbrev pub with_failed : ℕ → List ℕ → List ℕ
with_failed a failed = if is_among a failed then failed else failed ++ a ∷ []

-- without it
abbrev pub without : ℕ → List ℕ → List ℕ
without a failed = filter (λ b. not (b == a)) failed

-- an actor is added exactly where its fetch ends in a fault
abbrev pub with_fault : ℕ → List ℕ → FetchFault → List ℕ
with_fault a failed faults.Fault = with_failed a failed
with_fault a failed _ = failed

abbrev pub failed_after : {X : Type 0} → ℕ → List ℕ → Result X FetchFault → List ℕ
failed_after a failed (Ok x) = failed
failed_after a failed (Err why) = with_fault a failed why
