-- What callers see of a source and of a sink in memory, and what they do beyond others.
use Rattle.std.specs.Prelude.{◌≡◌, ◌⊎◌, ◌↔◌, ◌-◌, ◌<◌, ◌≤◌, ◌++◌, ℕ, List, length, take, drop, min}
use Rattle.std.specs.Prelude.{Contains, Result, IsErr, IfOk, OnErr}
use Rattle.run_io.specs.Bytes.{next_count}

-- a source in memory: the bytes left, the most that one read gives, how many reads there were, the numbers of those that fail, and the
-- faults so far
pub record SourceState : Type 0 where
  pub left : List ℕ
  pub piece : ℕ
  pub calls : ℕ
  pub failing : List ℕ
  pub faults : ℕ

-- a sink in memory: the bytes held, how many it can hold, how many writes there were, the numbers of those that fail, and the faults so far
pub record SinkState : Type 0 where
  pub held : List ℕ
  pub most : ℕ
  pub calls : ℕ
  pub failing : List ℕ
  pub faults : ℕ

-- a read gives as many bytes as there are and as fit, at most a piece, and fails exactly in the calls whose numbers stand in the list
pub record ReadsByPlan {E : Type 0} (s t : SourceState) (room : ℕ) (result : Result ℕ E) : Type 0 where
  pub fails : IsErr result ↔ Contains s.failing (next_count s.calls)
  pub count : IfOk result (λ n. n ≡ min s.piece (min room (length s.left)))
  pub ok : IfOk result (λ n. t ≡ record s { left = drop n s.left; calls = next_count s.calls })
  pub err : OnErr result (t ≡ record s { calls = next_count s.calls; faults = next_count s.faults })

-- a write takes what fits, and fails exactly in the calls whose numbers stand in the list and where nothing of a piece fits
pub record WritesByPlan {E : Type 0} (s t : SinkState) (piece : List ℕ) (result : Result ℕ E) : Type 0 where
  pub fails : IsErr result ↔ (Contains s.failing (next_count s.calls) ⊎ ((0 < length piece) × (s.most ≤ length s.held)))
  pub count : IfOk result (λ n. n ≡ min (s.most - length s.held) (length piece))
  pub ok : IfOk result (λ n. t ≡ record s { held = s.held ++ take n piece; calls = next_count s.calls })
  pub err : OnErr result (t ≡ record s { calls = next_count s.calls; faults = next_count s.faults })
