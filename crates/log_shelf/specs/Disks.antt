-- What the calls of a disk do to its bytes, and what a stop may leave of them.
use Rattle.std.specs.Prelude.{◌≡◌, ℕ, ◌+◌, ◌-◌, ◌<◌, ◌≤◌, List, ◌++◌, length, take, drop, replicate, slice_index, Result, OnOk, OnErr}
use Rattle.node_backend.specs.declared.back.BackFault.{BackFault}

-- the file has these bytes at this place
pub record Holds (file : List ℕ) (at : ℕ) (bytes : List ℕ) : Type 0 where
  pub within : at + length bytes ≤ length file
  pub each : (i : ℕ) → i < length bytes → slice_index file (at + i) ≡ slice_index bytes i

-- the file with zeros up to a place that lies past its end
abbrev pub padded : List ℕ → ℕ → List ℕ
padded file at = file ++ replicate (at - length file) 0

-- the file with these bytes at this place
abbrev pub overwritten : List ℕ → ℕ → List ℕ → List ℕ
overwritten file at bytes = take at (padded file at) ++ (bytes ++ drop (at + length bytes) file)

-- after a write of n bytes that may have been cut short: any bytes in the range and past the old end, the others as before
pub record Torn (at n : ℕ) (old new : List ℕ) : Type 0 where
  pub no_shorter : length old ≤ length new
  pub below : (i : ℕ) → i < length old → i < at → slice_index new i ≡ slice_index old i
  pub above : (i : ℕ) → i < length old → at + n ≤ i → slice_index new i ≡ slice_index old i

-- each outcome of a stop now is one from before, after a step
abbrev pub Follows : (List ℕ → List ℕ → Type 0) → (List ℕ → Type 0) → (List ℕ → Type 0) → Type 0
Follows step old new = (c : List ℕ) → new c → (d : List ℕ) × old d × step d c

-- a stop leaves nothing else than before
abbrev pub NoMore : (List ℕ → Type 0) → (List ℕ → Type 0) → Type 0
NoMore old new = (c : List ℕ) → new c → old c

-- a stop leaves these bytes alone
abbrev pub Only : List ℕ → (List ℕ → Type 0) → Type 0
Only file outcomes = (c : List ℕ) → outcomes c → c ≡ file

-- reads give what they gave, and a stop leaves nothing else than before
pub record KeepsBytes {D : Type 0} (shows : D → List ℕ) (leaves : D → List ℕ → Type 0) (old new : D) : Type 0 where
  pub seen : shows new ≡ shows old
  pub stop : NoMore (leaves old) (leaves new)

-- the bytes are written at the place; a write that failed may have been cut short, and a stop may leave any write cut short
pub record WritesBytes {D X : Type 0} (shows : D → List ℕ) (leaves : D → List ℕ → Type 0) (at : ℕ) (bytes : List ℕ) (old new : D)
    (result : Result X BackFault) : Type 0 where
  pub written : OnOk result (shows new ≡ overwritten (shows old) at bytes)
  pub torn : OnErr result (Torn at (length bytes) (shows old) (shows new))
  pub stop : Follows (Torn at (length bytes)) (leaves old) (leaves new)
