-- Bytes as lines, each ended by a newline, and what stands behind the last of them.
use Rattle.std.specs.Prelude.{◌≢◌, ℕ, ◌==◌, if◌then◌else◌, List, [], ◌∷◌}
use Rattle.std.specs.List.{AllByRecursion}

-- x before the first line, or before what no newline ends
abbrev pub onto : ℕ → List (List ℕ) × List ℕ → List (List ℕ) × List ℕ
onto x ([], rest) = ([], x ∷ rest)
onto x (line ∷ lines, rest) = ((x ∷ line) ∷ lines, rest)

-- the lines, without their newlines, and the rest, which no newline ends
unfoldable pub cut : List ℕ → List (List ℕ) × List ℕ
cut [] = ([], [])
cut (x ∷ xs) = if x == 10 then ([] ∷ (cut xs).0, (cut xs).1) else onto x (cut xs)

-- there is no newline in it
abbrev pub IsOneLine : List ℕ → Type 0
IsOneLine text = AllByRecursion (λ (b : ℕ). b ≢ 10) text
