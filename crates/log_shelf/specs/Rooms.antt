-- The disks of a room, by their numbers.
use Rattle.std.specs.Prelude.{◌≡◌, ℕ, List, Option}
use Rattle.std.specs.Ordering.{nat_cmp}
use Rattle.std.specs.FinMap as map
use Rattle.std.specs.FinMap.{FinMap}

-- a byte string for each number
abbrev pub Files : Type 0
Files = FinMap nat_cmp (List ℕ)

abbrev pub file_in : Files → ℕ → Option (List ℕ)
file_in files number = map.get files number

-- the files that these entries make
abbrev pub files_of : List (ℕ × List ℕ) → Files
files_of entries = map.from_entries entries

-- a disk as its room gives it: it has this number, and hasn't failed
pub record IsAttached {D : Type 0} (number faults : D → ℕ) (n : ℕ) (d : D) : Type 0 where
  pub numbered : number d ≡ n
  pub uncounted : faults d ≡ 0
