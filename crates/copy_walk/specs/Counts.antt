-- How many hashes a section copies.
use Rattle.std.specs.Prelude.{◌≡◌, ◌≢◌, ◌≤◌, ℕ, List, None, length}
use Rattle.std.specs.List.{Contains}
use Rattle.ledger_spec.specs.Bytes.{Hash, Lookup}

-- The hash was copied: it was stored, the writable backend hadn't it, and now has it. Behind a swap that is the backend that was the
-- writable one.
pub record IsCopied (nodes before now : Lookup) (h : Hash) : Type 0 where
  pub stored : nodes h ≢ None
  pub lacked : before h ≡ None
  pub there : now h ≢ None

-- at most so many hashes were copied
pub record CopiesAtMost (n : ℕ) (nodes before now : Lookup) : Type 0 where
  pub copied : List Hash
  pub few : length copied ≤ n
  pub all : (h : Hash) → IsCopied nodes before now h → Contains copied h
