-- What a call makes of a draft.
use Rattle.std.specs.Prelude.{◌≡◌, ℕ, Bool, IfErr, Option, Result}
use Rattle.ledger_spec.specs.Bytes.{Bytes, Hash, Half, Lookup, Items}
use Rattle.ledger_spec.specs.Maps.{hash_cmp, insert_in, has_in, remove_in}
use Rattle.cow_map.specs.declared.fault.MapFault.{MapFault}
use Rattle.cow_map.specs.Edits.{GrowsBy, IsSub}
use Rattle.cow_map.specs.Ways.{Stop, Goes, IsFailure}
use Rattle.edit_session.specs.Drafts.{Draft, Edits, LeavesToParent}

-- only the account state may be another one: the nodes that were there are as they were, and at most so many are new
pub record ChangesState (most : ℕ) (old new : Draft) : Type 0 where
  pub rest : new ≡ record old { state = new.state }
  pub grows : GrowsBy most old.state.nodes new.state.nodes

-- the same of the transactions
pub record ChangesTxs (most : ℕ) (old new : Draft) : Type 0 where
  pub rest : new ≡ record old { txs = new.txs }
  pub grows : GrowsBy most old.txs.nodes new.txs.nodes

-- where the old draft has maps over the source and leaves to it what belongs to its parent, so does the new one
abbrev pub KeepsLeaving : Half → Lookup → Draft → Draft → Type 0
KeepsLeaving half stored old new = (accounts txs : Items) → Edits half stored old accounts txs → LeavesToParent half stored old
    → LeavesToParent half stored new

-- whatever maps the old draft has, over what the source holds or over less of it, the new one has them with the item set in the account
-- state
pub record SetsAccount (half : Half) (stored : Lookup) (old new : Draft) (key : Hash) (value : Bytes) : Type 0 where
  pub maps : (small : Lookup) → IsSub small stored → (accounts txs : Items) → Edits half small old accounts txs
      → Edits half small new (insert_in hash_cmp accounts key value) txs
  pub left : KeepsLeaving half stored old new

-- the same without the key in the account state, and whether it was there
pub record RemovesAccount (half : Half) (stored : Lookup) (old new : Draft) (key : Hash) (there : Bool) : Type 0 where
  pub maps : (small : Lookup) → IsSub small stored → (accounts txs : Items) → Edits half small old accounts txs
      → (there ≡ has_in hash_cmp accounts key) × Edits half small new (remove_in hash_cmp accounts key) txs
  pub left : KeepsLeaving half stored old new

-- the same with the item set in the transactions, over any source
pub record SetsTx (old new : Draft) (key : Hash) (value : Bytes) : Type 0 where
  pub maps : (half : Half) (stored : Lookup) (accounts txs : Items) → Edits half stored old accounts txs
      → Edits half stored new accounts (insert_in hash_cmp txs key value)
  pub left : (half : Half) (stored : Lookup) → KeepsLeaving half stored old new

-- a call goes all the way, or names what stops it; where the draft has maps over the source nothing does, so only a failure of the source
-- or want of memory comes
pub record GoesBy {X : Type 0} (half : Half) (stored : Lookup) (d : Draft) (stop : Option Stop) (result : Result X MapFault)
    : Type 0 where
  pub way : Goes stop result
  pub free : (accounts txs : Items) → Edits half stored d accounts txs → IfErr result IsFailure
