-- A disk in memory: what was synced, and the writes since then.
use Rattle.std.specs.Prelude.{◌≡◌, ℕ, List, [], ◌∷◌, ◌++◌, length, Result, OnOk, OnErr}
use Rattle.log_shelf.specs.Disks.{Torn, overwritten}
use Rattle.log_shelf.specs.declared.span.Span.{Span}

-- a file after these writes, one after another
abbrev pub applied : List Span → List ℕ → List ℕ
applied [] file = file
applied (span ∷ spans) file = applied spans (overwritten file span.at span.bytes.items)

-- a file after these writes, one after another, each of which may have been cut short
abbrev pub IsOutcome : List Span → List ℕ → List ℕ → Type 0
IsOutcome [] file left = left ≡ file
IsOutcome (span ∷ spans) file left = (mid : List ℕ) × Torn span.at (length span.bytes.items) file mid × IsOutcome spans mid left

-- reads give the write, and it is the last of those that were not synced; where that failed neither has changed
pub record KeepsWrite {X E : Type 0} (at : ℕ) (bytes shown shown' : List ℕ) (spans spans' : List Span) (result : Result X E) : Type 0 where
  pub written : OnOk result (shown' ≡ overwritten shown at bytes)
  pub pending : OnOk result ((span : Span) × (span.at ≡ at) × (span.bytes.items ≡ bytes) × (spans' ≡ spans ++ span ∷ []))
  pub unwritten : OnErr result ((shown' ≡ shown) × (spans' ≡ spans))
