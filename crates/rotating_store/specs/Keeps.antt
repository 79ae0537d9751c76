-- What a store keeps of its backends.
use Rattle.std.specs.Prelude.{◌≡◌, ℕ, ◌<◌, List, Option, None, Some, IsTrue, IfSome}
use Rattle.std.specs.FinMap as finite
use Rattle.ledger_spec.specs.Bytes.{Bytes, Nodes}
use Rattle.node_backend.specs.Numbers.{is_among, exceeds}
use Rattle.node_backend.specs.Doubts.{Pair}
use Rattle.rotating_store.specs.Stores.{Agree}

-- the backends' numbers stand in the shelf's first list, and rise from those of its second list to the archive's,
-- the writable one's and the ready one's
pub record Numbered (live undone : List ℕ) (archive writable : ℕ) (ready : Option ℕ) : Type 0 where
  pub archive_live : IsTrue (is_among live archive)
  pub writable_live : IsTrue (is_among live writable)
  pub ready_live : IfSome ready (λ n. IsTrue (is_among live n))
  pub above_undone : IsTrue (exceeds archive undone)
  pub rises : archive < writable
  pub ready_rises : IfSome ready (λ n. writable < n)

-- the map doesn't hold the hash of the pair in doubt with another value
abbrev pub Allows : Nodes → Option Pair → Type 0
Allows held None = Unit {0}
Allows held (Some pair) = (form : Bytes) → finite.get held pair.0 ≡ Some form → form ≡ pair.1

-- the two maps agree, the ready one is empty, and no pair in doubt would change what is held
pub record Keeps (writable archive : Nodes) (written old : Option Pair) (ready : Option Nodes)
    (fresh : Option (Option Pair)) : Type 0 where
  pub agree : Agree writable archive
  pub archive_own : Allows archive old
  pub archive_allows : Allows archive written
  pub writable_own : Allows writable written
  pub ready_empty : IfSome ready (λ m. m ≡ finite.empty)
  pub ready_sure : IfSome fresh (λ doubt. doubt ≡ None)
