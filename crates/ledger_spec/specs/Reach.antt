-- What the roots reach in the stored forms.
use Rattle.std.specs.Prelude.{◌≡◌, List, [], ◌∷◌, Option, None, Some}
use Rattle.std.specs.List.{filter, Contains}
use Rattle.ledger_spec.specs.Bytes.{Bytes, Hash, Lookup, is_nonzero}
use Rattle.ledger_spec.specs.Forms.{inner_of, header_of}
use Rattle.ledger_spec.specs.Header.{state_root_of, tx_root_of}

-- something is stored under the hash
abbrev pub Stored : Lookup → Hash → Type 0
Stored nodes h = (form : Bytes) × (nodes h ≡ Some form)

-- an inner node's branches, a header's roots, the zero hash left out
abbrev pub named_by : Option (List Hash) → Option Bytes → List Hash
named_by (Some hashes) _ = hashes
named_by None (Some header) = state_root_of header ∷ tx_root_of header ∷ []
named_by None None = []

-- the hashes that a form names
abbrev pub kids : Bytes → List Hash
kids form = filter is_nonzero (named_by (inner_of form) (header_of form))

-- the least set with each stored root and each stored kid of its members
pub data Reach (nodes : Lookup) (roots : List Hash) : Hash → Type 0 where
  root : {h : Hash} → Contains roots h → Stored nodes h → Reach nodes roots h
  kid : {h k : Hash} {form : Bytes} → Reach nodes roots h → nodes h ≡ Some form → Contains (kids form) k → Stored nodes k
      → Reach nodes roots k
