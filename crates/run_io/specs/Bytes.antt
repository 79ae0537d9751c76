-- What reading takes, what writing adds, and how faults are counted.
use Rattle.std.specs.Prelude.{◌≡◌, ◌⊎◌, ◌+◌, ◌-◌, ◌^◌, ℕ, ◌<◌, ◌≤◌, min, List, ◌++◌, length, take, drop, Option, Some, IfSome}
use Rattle.std.specs.Prelude.{Result, IfOk, OnErr}
use mathlib.Core.List.{IsPrefix}

-- a count rose, or stands at the last value of a u64
abbrev pub Rose : ℕ → ℕ → Type 0
Rose before now = (before < now) ⊎ (now ≡ 2 ^ 64 - 1)

-- a count of faults doesn't fall, and where the device failed it rose
pub record CountsFaults (Where : Type 0 → Type 0) (before after : ℕ) : Type 0 where
  pub later : before ≤ after
  pub cause : Where (Rose before after)

-- one more, held at the last value of a u64
abbrev pub next_count : ℕ → ℕ
next_count n = min (n + 1) (2 ^ 64 - 1)

-- n bytes went from the front of the input into the buffer, and none only at the end of input
pub record Takes (bytes : List ℕ) (n : ℕ) (buf : List ℕ) (room : ℕ) (rest : Option (List ℕ)) : Type 0 where
  pub few : n ≤ length bytes
  pub front : take n buf ≡ take n bytes
  pub left : rest ≡ Some (drop n bytes)
  pub ended : n ≡ 0 → 0 < room → length bytes ≡ 0

-- what a read gives: bytes of the buffer, which come from the front of the input where the source tells what is left
pub record Reads {E : Type 0} (old new : Option (List ℕ)) (before after : List ℕ) (result : Result ℕ E) : Type 0 where
  pub within : IfOk result (λ n. n ≤ length before)
  pub taken : IfOk result (λ n. IfSome old (λ bytes. Takes bytes n after (length before) new))

-- exactly n bytes of the input are gone, where the source tells what is left, or all of it where there are fewer
abbrev pub Took : Option (List ℕ) → Option (List ℕ) → ℕ → Type 0
Took old new n = IfSome old (λ bytes. new ≡ Some (drop n bytes))

-- a front of the input, of at most `most` bytes, is gone, where the source tells what is left
abbrev pub TookPart : Option (List ℕ) → Option (List ℕ) → ℕ → Type 0
TookPart old new most = IfSome old (λ bytes. (n : ℕ) × (n ≤ most) × (new ≡ Some (drop n bytes)))

-- the sink holds the text besides, where it tells what it holds
abbrev pub Wrote : Option (List ℕ) → Option (List ℕ) → List ℕ → Type 0
Wrote old new text = IfSome old (λ held. new ≡ Some (held ++ text))

-- the sink holds a front of the text besides
abbrev pub WrotePart : Option (List ℕ) → Option (List ℕ) → List ℕ → Type 0
WrotePart old new text = IfSome old (λ held. (front : List ℕ) × IsPrefix front text × (new ≡ Some (held ++ front)))

-- what a write takes: a front of the piece, of one that isn't empty at least one byte; one that fails may have taken some
pub record Writes {E : Type 0} (old new : Option (List ℕ)) (piece : List ℕ) (result : Result ℕ E) : Type 0 where
  pub within : IfOk result (λ n. n ≤ length piece)
  pub some : IfOk result (λ n. 0 < length piece → 0 < n)
  pub wrote : IfOk result (λ n. Wrote old new (take n piece))
  pub part : OnErr result (WrotePart old new piece)
