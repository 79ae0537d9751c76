-- The beginning of a search below its header.
use Rattle.std.specs.Prelude.{◌≡◌, List, [], ◌∷◌, ◌++◌, if◌then◌else◌, None, Some}
use Rattle.ledger_spec.specs.declared.Kind.{Kind}
use Rattle.ledger_spec.specs.declared.Kind.TheVariants.{State, Tx}
use Rattle.ledger_spec.specs.Bytes.{Hash, is_zero}
use Rattle.ledger_header.specs.declared.Header.{Header}
use Rattle.missing_walk.specs.declared.search.Search.{Search}
use Rattle.missing_walk.specs.Pending.{Pending, stacked}

-- the root of a map, unless the map is empty
abbrev pub root_place : Kind → Hash → List Pending
root_place kind h = if is_zero h then [] else record { kind = kind; path = []; hash = h; parent = None } ∷ []

-- the two roots of the header are to be looked at, the state's first
pub record Begins (header : Header) (s s' : Search) : Type 0 where
  pub header_is : s'.header ≡ Some header
  pub places : stacked s'.stack.items ≡ root_place State header.state_root ++ root_place Tx header.tx_root
  pub opened : s'.opened.items ≡ []
  pub missing : s'.missing.items ≡ []
  pub broken : s'.broken ≡ None
