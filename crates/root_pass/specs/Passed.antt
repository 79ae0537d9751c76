-- What a pass has seen.
use Rattle.std.specs.Prelude.{◌≡◌, ℕ, ◌<◌, [], ◌∷◌, ◌++◌, length, Option, None, Some}
use Rattle.ledger_spec.specs.declared.Kind.{Kind}
use Rattle.ledger_spec.specs.Bytes.{Bytes, Hash, Half, Items, zero_hash}
use Rattle.ledger_spec.specs.Forms.{leaf_form}
use Rattle.root_pass.specs.declared.pass.Last.{Last}
use Rattle.root_pass.specs.declared.pass.Pass.{Pass}
use Rattle.root_pass.specs.declared.rows.Rows.{Rows}
use Rattle.root_pass.specs.Rows.{cell, IsBehind, IsOpen, IsShared}

-- the items are those of a map and one more behind them, which waits for its place
pub record Waits (half : Half) (kind : Kind) (rows : Rows) (items : Items) (last : Last) : Type 0 where
  pub front : Items
  pub bytes : Bytes
  pub items_are : items ≡ front ++ (last.key, bytes) ∷ []
  pub leaf : last.hash ≡ half (leaf_form kind last.key bytes)
  pub size : length last.key ≡ 32
  pub behind : IsBehind front last.key
  pub opened : IsOpen half kind front last.key rows.cells.items rows.depth
  pub shared : IsShared front last.key rows.depth

-- no item came, and the root is empty
pub record IsEmpty (rows : Rows) (items : Items) : Type 0 where
  pub none : items ≡ []
  pub root : rows.depth ≡ 1
  pub zero : (b : ℕ) → b < 16 → cell rows.cells.items 0 b ≡ zero_hash

-- the items that came, by the last of them
abbrev pub SeenBy : Half → Kind → Rows → Items → Option Last → Type 0
SeenBy half kind rows items None = IsEmpty rows items
SeenBy half kind rows items (Some last) = Waits half kind rows items last

-- these items came, in this order
abbrev pub HasPassed : Half → Pass → Items → Type 0
HasPassed half pass items = SeenBy half pass.kind pass.rows items pass.last

-- the key is that of the last item
pub record IsLast (items : Items) (key : Hash) : Type 0 where
  pub front : Items
  pub bytes : Bytes
  pub items_are : items ≡ front ++ (key, bytes) ∷ []
