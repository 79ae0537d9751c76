-- What a search may answer at all: few missing places, and no header alone where none was found.
use Rattle.std.specs.Prelude.{◌≡◌, ◌≤◌, ◌⊎◌, List, [], ◌∷◌, length, Option, None, Some}
use Rattle.ledger_spec.specs.declared.Place.{Place}
use Rattle.ledger_spec.specs.declared.Place.TheVariants as places
use Rattle.ledger_spec.specs.declared.ShapeFault.{ShapeFault}
use Rattle.missing_walk.specs.declared.Found.{Found}
use Rattle.missing_walk.specs.Sees.{most_missing}

-- the header's place is the one that is missing, or the broken one
abbrev pub HasNoHeader : List Place → Option (Place × ShapeFault) → Type 0
HasNoHeader missing broken = (missing ≡ places.Header ∷ []) ⊎ ((fault : ShapeFault) × (broken ≡ Some (places.Header, fault)))

-- few places are missing, and where no header was found its own place is missing or broken
pub record IsFound (f : Found) : Type 0 where
  pub few : length f.missing ≤ most_missing
  pub header : f.header ≡ None → HasNoHeader f.missing f.broken
