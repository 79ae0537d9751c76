-- What a session has so far, and which two finite maps that is.
use Rattle.std.specs.Prelude.{◌≡◌, ◌<◌, [], ◌∷◌}
use Rattle.std.specs.List.{Contains}
use Rattle.ledger_spec.specs.declared.Kind.TheVariants.{State, Tx}
use Rattle.ledger_spec.specs.Bytes.{Hash, Half, Lookup, Items}
use Rattle.ledger_spec.specs.Reach.{Reach}
use Rattle.ledger_header.specs.declared.Header.{Header}
use Rattle.cow_map.specs.Bodies.{CowTree}
use Rattle.cow_map.specs.Trees.{link_to, StandsFor}
use Rattle.cow_map.specs.Unloaded.{unloaded, LeavesWhole}

-- the ledger that is edited, its header, and the trees of the next ledger's account state and transactions
pub record Draft : Type 0 where
  pub base : Hash
  pub parent : Header
  pub state : CowTree
  pub txs : CowTree

-- a tree stands for these items whatever a source holds: it leaves nothing to one
abbrev pub StandsAlone : CowTree → Items → Type 0
StandsAlone m items = (half : Half) (stored : Lookup) → StandsFor half stored m items

-- what each session keeps: the ledger has a next one, and its transactions leave nothing to a source
pub record Keeps (d : Draft) : Type 0 where
  pub next : d.parent.seq < 4294967295
  pub state : d.state.kind ≡ State
  pub txs : d.txs.kind ≡ Tx
  pub alone : (items : Items) × StandsAlone d.txs items

-- the draft of a session on the ledger with this hash and header: its account state is the parent's, and it has no transactions
pub record IsOpened (ledger : Hash) (header : Header) (d : Draft) : Type 0 where
  pub base : d.base ≡ ledger
  pub parent : d.parent ≡ header
  pub state : d.state ≡ record { kind = State; nodes = []; top = link_to header.state_root }
  pub txs : StandsAlone d.txs []

-- these are the account state and the transactions of the draft, over what a source holds
pub record Edits (half : Half) (stored : Lookup) (d : Draft) (accounts txs : Items) : Type 0 where
  pub state : StandsFor half stored d.state accounts
  pub alone : StandsAlone d.txs txs

-- what the draft leaves to the source belongs to its parent: the hashes that the account state leaves are reached from the parent's
-- state root, with trees that are whole at their places, and the transactions leave none
pub record LeavesToParent (half : Half) (stored : Lookup) (d : Draft) : Type 0 where
  pub reached : (h : Hash) → Contains (unloaded d.state) h → Reach stored (d.parent.state_root ∷ []) h
  pub whole : LeavesWhole half stored d.state
  pub none : unloaded d.txs ≡ []

-- a draft that leaves to the source what belongs to its parent has the same maps over any other source that has the same there
abbrev pub StaysOverParent : Type 0
StaysOverParent = (half : Half) (stored other : Lookup) (d : Draft) (accounts txs : Items) → Edits half stored d accounts txs
    → LeavesToParent half stored d → ((h : Hash) → Reach stored (d.parent.state_root ∷ []) h → other h ≡ stored h)
    → Edits half other d accounts txs × LeavesToParent half other d
