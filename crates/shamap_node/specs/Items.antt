-- Items, and why a key and data are none.
use Rattle.std.specs.Prelude.{◌≡◌, ◌<◌, length, IsTrue}
use Rattle.ledger_spec.specs.Bytes.{Bytes, Hash, is_zero, is_nonzero}
use Rattle.ledger_spec.specs.Forms.{data_limit}
use Rattle.shamap_node.specs.declared.parts.Item.{Item}
use Rattle.shamap_node.specs.declared.parts.ItemFault.{ItemFault}
use Rattle.shamap_node.specs.declared.parts.ItemFault.TheVariants.{ZeroKey, TooLong}

-- the item has this key and this data
pub record Keeps (item : Item) (key : Hash) (bytes : Bytes) : Type 0 where
  pub key_is : item.key ≡ key
  pub data_is : item.value ≡ bytes

-- a zero key, and else data over the limit
abbrev pub HasItemCause : Hash → Bytes → ItemFault → Type 0
HasItemCause key bytes ZeroKey = IsTrue (is_zero key)
HasItemCause key bytes (TooLong n) = IsTrue (is_nonzero key) × (n ≡ length bytes) × (data_limit < n)
