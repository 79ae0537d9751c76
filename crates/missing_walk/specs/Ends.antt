-- The end of a search.
use Rattle.std.specs.Prelude.{◌≡◌, ◌⊎◌, ◌&&◌, ◌==◌, not, is_some, Bool, [], length, if◌then◌else◌, Option, None, Some}
use Rattle.ledger_spec.specs.declared.Kind.{Kind}
use Rattle.ledger_spec.specs.declared.Kind.TheVariants.{State, Tx}
use Rattle.ledger_spec.specs.Bytes.{Hash, is_zero}
use Rattle.ledger_header.specs.declared.Header.{Header}
use Rattle.full_below.specs.declared.key.MarkKey.{MarkKey}
use Rattle.full_below.specs.declared.marks.Marks.{Marks}
use Rattle.full_below.specs.Marking.{after_mark, is_marked}
use Rattle.std.specs.Bool.{⊤}
use Rattle.std.specs.Prelude.{true, false}
use Rattle.missing_walk.specs.declared.Found.{Found}
use Rattle.missing_walk.specs.declared.search.Search.{Search}

-- nothing is missing or broken
abbrev pub found_whole : Search → Bool
found_whole s = (length s.missing.items == 0) && not (is_some s.broken)

-- the root of a map
abbrev pub root_key : Kind → Hash → MarkKey
root_key kind h = record { hash = h; kind = kind; id = [] }

-- with the root of a map marked, unless the map is empty
abbrev pub with_root : Kind → Hash → Marks → Marks
with_root kind h m = if is_zero h then m else after_mark m (root_key kind h)

-- with the roots of the header's two maps marked
abbrev pub marks_of_roots : Option Header → Marks → Marks
marks_of_roots None m = m
marks_of_roots (Some header) m = with_root State header.state_root (with_root Tx header.tx_root m)

-- with none of them marked, or the transaction map's
abbrev pub MarksRoot : Option Header → Marks → Marks → Type 0
MarksRoot None m m' = m' ≡ m
MarksRoot (Some header) m m' = (m' ≡ m) ⊎ (m' ≡ with_root Tx header.tx_root m)

-- no finding
pub record IsClean (f : Found) : Type 0 where
  pub missing : f.missing ≡ []
  pub broken : f.broken ≡ None

-- the roots of the header's two maps are marked, unless the maps are empty
abbrev pub AreRootsMarked : Option Header → Marks → Type 0
AreRootsMarked None m = ⊤
AreRootsMarked (Some header) m =
    (is_zero header.state_root ≡ false → is_marked m (root_key State header.state_root) ≡ true)
    × (is_zero header.tx_root ≡ false → is_marked m (root_key Tx header.tx_root) ≡ true)
