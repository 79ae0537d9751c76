-- Two ledgers with one hash: they are one ledger, or their forms show that the half is broken.
use Rattle.std.specs.Prelude.{◌≡◌, ◌≢◌, ◌⊎◌, List, ◌∷◌, ◌++◌, Option, Some}
use Rattle.std.specs.List.{Contains}
use Rattle.ledger_spec.specs.declared.Kind.TheVariants.{State, Tx}
use Rattle.ledger_spec.specs.Bytes.{Bytes, Half, Items, IsHalf, zero_hash}
use Rattle.ledger_spec.specs.Forms.{header_prefix}
use Rattle.ledger_spec.specs.Tree.{AreItems, forms_of}
use Rattle.audit_core.specs.Said.{Said, items_or_none}
use Rattle.audit_core.specs.Verdicts.{ledger_hash, IsOwnState, IsOwnTx}

-- the forms of a ledger: its header's, and those of all nodes of its maps
abbrev pub forms_in : Half → Said → List Bytes
forms_in half s = (header_prefix ++ s.header) ∷ (forms_of half State s.items ++ forms_of half Tx (items_or_none s.txs))

-- two different ones of these forms have one hash
pub record Collide (half : Half) (forms : List Bytes) : Type 0 where
  pub one : Bytes
  pub other : Bytes
  pub first : Contains forms one
  pub second : Contains forms other
  pub different : one ≢ other
  pub same : half one ≡ half other

-- one of them has the hash of the empty node
pub record IsZeroHashed (half : Half) (forms : List Bytes) : Type 0 where
  pub form : Bytes
  pub has : Contains forms form
  pub zero : half form ≡ zero_hash

-- one or the other
abbrev pub IsBroken : Half → List Bytes → Type 0
IsBroken half forms = Collide half forms ⊎ IsZeroHashed half forms

-- the transactions are the same, where both are given
abbrev pub AreSame : Option Items → Option Items → Type 0
AreSame (Some txs) (Some others) = txs ≡ others
AreSame _ _ = Unit {0}

-- the two are one ledger
pub record IsSame (s t : Said) : Type 0 where
  pub header : s.header ≡ t.header
  pub items : s.items ≡ t.items
  pub txs : AreSame s.txs t.txs

-- the maps of a ledger are finite maps of items
pub record AreMaps (half : Half) (s : Said) : Type 0 where
  pub state : AreItems half State s.items
  pub txs : AreItems half Tx (items_or_none s.txs)

-- a ledger's maps have the roots that its header names, where they are given
pub record IsWhole (half : Half) (s : Said) : Type 0 where
  pub maps : AreMaps half s
  pub own : IsOwnState half s
  pub own_txs : IsOwnTx half s

-- whole ledgers of one hash are one ledger, or their forms break the half
abbrev pub WholesAreOne : Type 0
WholesAreOne = (half : Half) → IsHalf half → (s t : Said) → IsWhole half s → IsWhole half t → ledger_hash half s ≡ ledger_hash half t
    → IsSame s t ⊎ IsBroken half (forms_in half s ++ forms_in half t)
