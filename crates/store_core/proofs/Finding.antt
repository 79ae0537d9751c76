-- Lines whose numbers rise.
use Rattle.std.proofs.Common.{◌≡◌, ◌≢◌, ◌⊎◌, inl, inr, ℕ, zero, suc, ◌+◌, ◌<◌, ◌≤◌, List, [], ◌∷◌, length, get_or, Some, None, true}
use Rattle.std.proofs.Common.{false, refl, sym, ◌∙◌, ap, arith}
use Rattle.std.specs.Prelude.{◌==◌, nat_lt}
use Rattle.std.proofs.lemmas.List.{get_or_default}
use Rattle.store_core.specs.Journal.{AllBefore, AllFrom}
use Rattle.std.proofs.lemmas.Bool.Decides.{nat_tests}
use Rattle.ledger_machine.specs.declared.commands.Line.{Line}
use Rattle.ledger_machine.specs.Scripts.{Rises, line_of}

-- a later line has a higher number than all before, and than the bound
above_bound : (n : ℕ) (lines : List Line) → Rises n lines → (k : ℕ) (d : Line) → k < length lines → n < (get_or lines k d).number
above_bound n [] rise k d lt = absurd (omega arith)
above_bound n (l ∷ lines) rise zero d lt = rise.0
above_bound n (l ∷ lines) rise (suc k) d lt = omega (arith, rise.0, above_bound l.number lines rise.1 k d (omega arith))

pub rising : (n : ℕ) (lines : List Line) → Rises n lines → (j k : ℕ) (d e : Line) → j < k → k < length lines
    → (get_or lines j d).number < (get_or lines k e).number
rising n [] rise j k d e before lt = absurd (omega arith)
rising n (l ∷ lines) rise zero zero d e before lt = absurd (omega arith)
rising n (l ∷ lines) rise zero (suc k) d e before lt = above_bound l.number lines rise.1 k e (omega arith)
rising n (l ∷ lines) rise (suc j) zero d e before lt = absurd (omega arith)
rising n (l ∷ lines) rise (suc j) (suc k) d e before lt = rising l.number lines rise.1 j k d e (omega arith) (omega arith)

-- the first line with the number
pub found_at : (lines : List Line) (at number : ℕ) (d : Line) → at < length lines → ((k : ℕ) → k < at → (get_or lines k d).number ≢ number)
    → (get_or lines at d).number ≡ number → line_of lines number ≡ Some (get_or lines at d)
found_at [] at number d lt before here = absurd (omega arith)
found_at (l ∷ lines) zero number d lt before here = let is : (l.number == number) ≡ true = grind (arith, nat_tests) in rw is refl
found_at (l ∷ lines) (suc at) number d lt before here =
    let apart : l.number ≢ number = before 0 (omega arith) in
    let other : (l.number == number) ≡ false = grind (arith, nat_tests) in
    rw other (found_at lines at number d (omega arith) (λ k le. before (suc k) (omega arith)) here)

-- no line has the number
pub found_none : (lines : List Line) (number : ℕ) → ((k : ℕ) (d : Line) → k < length lines → (get_or lines k d).number ≢ number)
    → line_of lines number ≡ None
found_none [] number none = refl
found_none (l ∷ lines) number none =
    let apart : l.number ≢ number = none 0 l (omega arith) in
    let other : (l.number == number) ≡ false = grind (arith, nat_tests) in
    rw other (found_none lines number (λ k d lt. none (suc k) d (omega arith)))

-- the middle line has a lower number, and so have those before it
pub below_middle : (lines : List Line) → Rises 0 lines → (middle number : ℕ) (d : Line) → middle < length lines
    → (get_or lines middle d).number < number → AllBefore lines (middle + 1) number
below_middle lines rise middle number d lt less k e before within =
    elim (cases_lt k middle (omega arith)) [
      | inl earlier ↦ omega (arith, rising 0 lines rise k middle e d earlier lt, less)
      | inr here ↦
          let same : (get_or lines k e).number ≡ (get_or lines middle d).number = ap (λ (n : ℕ). (get_or lines n e).number) here
          ∙ ap (λ (l : Line). l.number) (get_or_default lines middle e d lt) in
          omega (arith, same, less)
    ]
  where
    cases_lt : (k n : ℕ) → k ≤ n → (k < n) ⊎ (k ≡ n)
    cases_lt k n le = elim (nat_lt k n) as (λ b. nat_lt k n ≡ b → (k < n) ⊎ (k ≡ n)) [
      | true ↦ λ e. inl (grind (arith, nat_tests))
      | false ↦ λ e. inr (grind (arith, nat_tests))
    ] refl

-- it hasn't, and so have not those after it
pub above_middle : (lines : List Line) → Rises 0 lines → (middle number : ℕ) (d : Line) → middle < length lines
    → number ≤ (get_or lines middle d).number → AllFrom lines middle number
above_middle lines rise middle number d lt more k e after within =
    elim (nat_lt middle k) as (λ b. nat_lt middle k ≡ b → number ≤ (get_or lines k e).number) [
      | true ↦ λ h. let later : middle < k = grind (arith, nat_tests) in omega (arith, rising 0 lines rise middle k d e later within, more)
      | false ↦ λ h.
          let here : k ≡ middle = grind (arith, nat_tests) in
          let same : (get_or lines k e).number ≡ (get_or lines middle d).number = ap (λ (n : ℕ). (get_or lines n e).number) here
          ∙ ap (λ (l : Line). l.number) (get_or_default lines middle e d lt) in
          omega (arith, same, more)
    ] refl

pub line_there : (lines : List Line) (at number : ℕ) (l : Line) → at < length lines → AllBefore lines at number → l ≡ get_or lines at l
    → l.number ≡ number → Some l ≡ line_of lines number
line_there lines at number l lt below is here =
    ap Some is ∙ sym (found_at lines at number l lt
    (λ k before. λ same. absurd (omega (arith, below k l before (omega (arith, before, lt)), same)))
    (ap (λ (x : Line). x.number) (sym is) ∙ here))

pub line_nowhere : (lines : List Line) → Rises 0 lines → (at number : ℕ) (l : Line) → at < length lines → AllBefore lines at number
    → AllFrom lines at number → l ≡ get_or lines at l → l.number ≢ number → None ≡ line_of lines number
line_nowhere lines rise at number l lt below above is other =
    let more : number < (get_or lines at l).number = let le = above at l (omega arith) lt in
    let e : l.number ≡ (get_or lines at l).number = ap (λ (x : Line). x.number) is in
    let apart : l.number ≡ number → ⊥ = other in
    grind (arith) in
    sym (found_none lines number (λ k d within same. elim (nat_lt k at) as (λ b. nat_lt k at ≡ b → ⊥) [
      | true ↦ λ h. let before : k < at = grind (arith, nat_tests) in absurd (omega (arith, below k d before within, same))
      | false ↦ λ h.
          let after : at ≤ k = grind (arith, nat_tests) in
          absurd (omega (arith, above_middle lines rise at (number + 1) l lt (omega (arith, more)) k d after within, same))
    ] refl))

pub line_past : (lines : List Line) (number : ℕ) → AllBefore lines (length lines) number → None ≡ line_of lines number
line_past lines number below = sym (found_none lines number (λ k d within same. absurd (omega (arith, below k d within within, same))))
