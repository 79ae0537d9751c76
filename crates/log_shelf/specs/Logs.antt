-- One log on a disk: whole entries, and then a gate that is closed, or in doubt.
use Rattle.std.specs.Prelude.{◌≡◌, ◌≢◌, ◌⊎◌, ℕ, ◌+◌, ◌^◌, ◌<◌, ◌≤◌, Bool, true, false, List, [], ◌∷◌, ◌++◌, length, take, drop}
use Rattle.std.specs.Prelude.{slice_index, Option, None, Some, if◌then◌else◌}
use Rattle.log_shelf.specs.Disks.{Holds}
use Rattle.log_shelf.specs.Entries.{number_bytes, number_in, entries_of, texts_of}

-- what an append writes behind its gate: the length, the entry and a closed gate
abbrev pub body_of : List ℕ → List ℕ
body_of entry = number_bytes (length entry) ++ (entry ++ 0 ∷ [])

-- the entry that stands behind the gate at `tail`, be it open or closed
unfoldable pub behind : ℕ → List ℕ → List ℕ
behind tail file = take (number_in (drop (tail + 1) file)) (drop 8 (drop (tail + 1) file))

-- what every outcome of a stop has of a log whose gate is at `tail`
pub record IsImage (tail : ℕ) (doubt : Bool) (seen file : List ℕ) : Type 0 where
  pub within : tail < length file
  pub front : take tail file ≡ take tail seen
  pub closed : doubt ≡ false → slice_index file tail ≢ 1
  pub in_doubt : doubt ≡ true → Holds file (tail + 1) (body_of (behind tail seen))

-- the disk has a log: in front of the gate are whole entries, and every outcome of a stop has them
pub record IsLog (tail : ℕ) (doubt : Bool) (seen : List ℕ) (may_leave : List ℕ → Type 0) : Type 0 where
  pub low : tail < 2 ^ 63
  pub whole : texts_of (entries_of (take tail seen)) ≡ take tail seen
  pub images : (file : List ℕ) → may_leave file → IsImage tail doubt seen file
  pub small : doubt ≡ true → tail + 10 + length (behind tail seen) ≤ 2 ^ 63

-- the entries in front of the gate
abbrev pub told_entries : ℕ → List ℕ → List (List ℕ)
told_entries tail seen = entries_of (take tail seen)

-- the entry in doubt, if there is one
abbrev pub doubted : ℕ → Bool → List ℕ → Option (List ℕ)
doubted tail doubt seen = if doubt then Some (behind tail seen) else None

-- these entries with the one in doubt at their end
abbrev pub with_doubted : List (List ℕ) → Option (List ℕ) → List (List ℕ)
with_doubted told None = told
with_doubted told (Some entry) = told ++ entry ∷ []

-- in doubt is no entry, the one before, or the one that was to be added
abbrev pub MayDoubtEntry : Option (List ℕ) → List ℕ → Option (List ℕ) → Type 0
MayDoubtEntry before entry now = (now ≡ None) ⊎ ((now ≡ before) ⊎ (now ≡ Some entry))

-- a file reads as these entries, or as they are with the one in doubt at their end
abbrev pub ReadsAs : List ℕ → List (List ℕ) → Option (List ℕ) → Type 0
ReadsAs file told doubt = (entries_of file ≡ told) ⊎ (entries_of file ≡ with_doubted told doubt)

-- what stands in front of the gate and behind it is as before
pub record KeepsAround (tail : ℕ) (old new : List ℕ) : Type 0 where
  pub front : take tail new ≡ take tail old
  pub same : behind tail new ≡ behind tail old
