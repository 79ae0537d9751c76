-- The ledger that a draft closes into.
use Rattle.std.specs.Prelude.{◌≡◌, ◌≢◌, ◌+◌, List, [], ◌∷◌, ◌++◌, map, Some, IsTrue, Result}
use Rattle.ledger_spec.specs.declared.Kind.TheVariants.{State, Tx}
use Rattle.ledger_spec.specs.Bytes.{Bytes, Hash, Half, Lookup, Items, is_nonzero}
use Rattle.ledger_spec.specs.Forms.{header_prefix}
use Rattle.ledger_spec.specs.Header.{header_bytes}
use Rattle.ledger_spec.specs.Tree.{root_of, forms_of}
use Rattle.ledger_header.specs.declared.Header.{Header}
use Rattle.ledger_header.specs.Fields.{fields}
use Rattle.cow_map.specs.declared.fault.MapFault.{MapFault}
use Rattle.cow_map.specs.Bodies.{CowTree}
use Rattle.cow_map.specs.Trees.{StandsFor}
use Rattle.cow_map.specs.Seals.{Picks}
use Rattle.cow_map.specs.Sealing.{AreNamed, named, first_zero, made_of_map, NamesZero}
use Rattle.cow_map.specs.declared.seal.FormOf.{FormOf}
use Rattle.edit_session.specs.declared.close.Fields.{Fields}
use Rattle.edit_session.specs.declared.close.Closed.{Closed}
use Rattle.edit_session.specs.Drafts.{Draft}

-- the tree stands for no empty map
abbrev pub IsOccupied : CowTree → Type 0
IsOccupied m = (half : Half) (stored : Lookup) (items : Items) → StandsFor half stored m items → items ≢ []

-- nothing is held under the zero hash
abbrev pub IsNoneAtZero : Lookup → Type 0
IsNoneAtZero stored = (h : Hash) (form : Bytes) → stored h ≡ Some form → IsTrue (is_nonzero h)

-- the header after the parent's, with these roots: the next sequence, the parent's hash and its close time
abbrev pub header_after : Draft → Fields → Hash → Hash → Header
header_after d given state_root tx_root = record {
  seq = d.parent.seq + 1;
  drops = given.drops;
  parent = d.base;
  tx_root = tx_root;
  state_root = state_root;
  parent_close = d.parent.close;
  close = given.close;
  resolution = given.resolution;
  flags = given.flags;
}

-- the header of the ledger with these two maps
abbrev pub closing_header : Half → Draft → Fields → Items → Items → Header
closing_header half d given accounts txs = header_after d given (root_of half State accounts) (root_of half Tx txs)

-- a header's form
abbrev pub header_form : Header → Bytes
header_form header = header_prefix ++ header_bytes (fields header)

-- the forms of the ledger with these two maps: the account state's, the transactions', then the header's
abbrev pub closing_forms : Half → Items → Items → Header → List Bytes
closing_forms half accounts txs header = forms_of half State accounts ++ forms_of half Tx txs ++ header_form header ∷ []

-- the ledger with this header: its hash is the header's, and the header's form stands behind those of its two maps, each under its own hash
pub record EndsWith (half : Half) (h : Header) (accounts txs : List FormOf) (c : Closed) : Type 0 where
  pub header : c.header ≡ h
  pub hash : c.hash ≡ half (header_form h)
  pub forms : c.forms.items ≡ accounts ++ txs ++ named half (header_form h) ∷ []
  pub named : AreNamed half c.forms.items

-- those of them that the draft has made
abbrev pub new_forms : Half → Draft → Header → List Bytes
new_forms half d header = made_of_map half d.state ++ made_of_map half d.txs ++ header_form header ∷ []

-- the header follows the parent's, the hash is the header's, and each form is given with its own hash, whatever maps the draft has
pub record Follows (half : Half) (d : Draft) (given : Fields) (c : Closed) : Type 0 where
  pub header : c.header ≡ header_after d given c.header.state_root c.header.tx_root
  pub hash : c.hash ≡ half (header_form c.header)
  pub named : AreNamed half c.forms.items

-- the ledger has these two maps; its forms that the draft has made are given under their hashes, in their order, and the source holds the
-- others; the state root isn't zero, where the source holds nothing under the zero hash
pub record Closes (half : Half) (stored : Lookup) (d : Draft) (given : Fields) (accounts txs : Items) (c : Closed) : Type 0 where
  pub header : c.header ≡ closing_header half d given accounts txs
  pub forms : c.forms.items ≡ map (named half) (new_forms half d c.header)
  pub all : Picks half stored (new_forms half d c.header) (closing_forms half accounts txs c.header)
  pub root : IsNoneAtZero stored → IsTrue (is_nonzero c.header.state_root)

-- the first form whose hash is zero is the fault, exactly: of those that the draft has made, and of all, where the source holds nothing
-- under the zero hash
pub record NamesFirst (half : Half) (stored : Lookup) (d : Draft) (given : Fields) (accounts txs : Items) (result : Result Closed MapFault)
    : Type 0 where
  pub made : NamesZero (first_zero half (new_forms half d (closing_header half d given accounts txs))) result
  pub all : IsNoneAtZero stored
      → NamesZero (first_zero half (closing_forms half accounts txs (closing_header half d given accounts txs))) result
