-- What a search keeps while it runs, and how a finding changes it.
use Rattle.std.specs.Prelude.{◌≡◌, ℕ, ◌||◌, Bool, true, false, is_some, nat_le, if◌then◌else◌, List, [], ◌∷◌, ◌++◌, length}
use Rattle.std.specs.Prelude.{Option}
use Rattle.std.specs.Prelude.{None, Some, IfSome}
use Rattle.std.specs.Option.{option_map}
use Rattle.std.specs.List.{filter_map}
use Rattle.ledger_spec.specs.declared.Place.{Place}
use Rattle.ledger_spec.specs.declared.ShapeFault.{ShapeFault}
use Rattle.ledger_spec.specs.declared.Kind.TheVariants.{State, Tx}
use Rattle.ledger_spec.specs.Bytes.{Bytes, Hash, Half, Lookup}
use Rattle.ledger_spec.specs.Header.{header_bytes, state_root_of, tx_root_of}
use Rattle.ledger_spec.specs.Spots.{header_in}
use Rattle.ledger_header.specs.declared.Header.{Header}
use Rattle.ledger_header.specs.Fields.{fields, Reads}
use Rattle.ledger_spec.specs.Forms.{leaf}
use Rattle.ledger_spec.specs.Findings.{Sight, sound, walk_map, Finding, lacks, breaks}
use Rattle.ledger_spec.specs.Findings.{missing_of, first_broken, seen}
use Rattle.tree_laws.specs.Walks.{finding_of}
use Rattle.missing_walk.specs.declared.Found.{Found}

-- the missing places so far, and the broken place that ended the search
pub record Seen : Type 0 where
  pub missing : List Place
  pub broken : Option (Place × ShapeFault)

abbrev pub shown : Found → Seen
shown f = record { missing = f.missing; broken = f.broken }

abbrev pub nothing_seen : Seen
nothing_seen = record { missing = []; broken = None }

-- the search ends at a broken place, or at this many missing ones
abbrev pub most_missing : ℕ
most_missing = 256

abbrev pub is_over : Seen → Bool
is_over s = is_some s.broken || nat_le most_missing (length s.missing)

-- with one finding more
abbrev pub noted : Seen → Finding → Seen
noted s (lacks place) = record s { missing = s.missing ++ place ∷ [] }
noted s (breaks place fault) = record s { broken = Some (place, fault) }

-- a search that is over takes no more
abbrev pub note : Seen → Finding → Seen
note s f = if is_over s then s else noted s f

-- after the findings of a part of the walk
abbrev pub sees : Seen → List Finding → Seen
sees s [] = s
sees s (f ∷ rest) = sees (note s f) rest

-- the header that is stored under the target, its fields read by the definitions
pub record IsHeaderOf (nodes : Lookup) (target : Hash) (head : Option Header) : Type 0 where
  pub bytes : option_map (λ h. header_bytes (fields h)) head ≡ header_in nodes target
  pub reads : IfSome head (λ h. Reads (header_bytes (fields h)) h)

-- what is found of a ledger: its header, the missing places and the broken one
pub record Finds (half : Half) (nodes : Lookup) (target : Hash) (f : Found) : Type 0 where
  pub header : IsHeaderOf nodes target f.header
  pub missing : f.missing ≡ filter_map missing_of (seen half nodes target)
  pub broken : f.broken ≡ first_broken (seen half nodes target)

abbrev pub is_sound_leaf : Sight → Bool
is_sound_leaf (sound (leaf kind key bytes)) = true
is_sound_leaf _ = false

-- the findings in the two maps that a header names
unfoldable pub found_in_maps : Half → Lookup → Bytes → List Finding
found_in_maps half nodes bytes =
    filter_map finding_of (walk_map half nodes State (state_root_of bytes) ++ walk_map half nodes Tx (tx_root_of bytes))
