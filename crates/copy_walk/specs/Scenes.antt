-- The rule of a rotation, over plain values.
use Rattle.std.specs.Prelude.{◌≡◌, Bool, true, false, List, [], Some}
use Rattle.std.specs.List.{Contains}
use Rattle.std.specs.Option.{option_or}
use Rattle.ledger_spec.specs.Bytes.{Bytes, Hash, Lookup}
use Rattle.ledger_spec.specs.Reach.{Stored, kids}
use Rattle.copy_walk.specs.Walks.{Walk, shaded, Keeps, Colours}

-- What the rule speaks of: what is stored, what the writable backend and the archive hold of it, whether a rotation is under way, its walk,
-- and the roots.
pub record Scene : Type 0 where
  pub nodes : Lookup
  pub written : Lookup
  pub old : Lookup
  pub turning : Bool
  pub walk : Walk
  pub roots : List Hash

-- what is stored is what the writable backend holds, and for other hashes what the archive does
abbrev pub IsOneMap : Scene → Type 0
IsOneMap s = (h : Hash) → s.nodes h ≡ option_or (s.written h) (s.old h)

-- What holds of a rotation under way, where this is what it keeps: the colours are as they should be; each root is shaded, where it is
-- stored; a black hash, a grey one that is stored, and one that stands in both backends, is kept; and what is kept is closed under what
-- its forms name.
pub record IsTurning (s : Scene) (kept : Hash → Type 0) : Type 0 where
  pub colours : Colours s.nodes s.written s.walk
  pub roots : (h : Hash) → Contains s.roots h → Stored s.nodes h → Contains (shaded s.walk) h
  pub black : (h : Hash) → Contains s.walk.black h → kept h
  pub grey : (h : Hash) → Contains s.walk.grey h → Stored s.nodes h → kept h
  pub copies : (h : Hash) → Stored s.written h → Stored s.old h → kept h
  pub closed : (h k : Hash) (form : Bytes) → kept h → s.nodes h ≡ Some form → Contains (kids form) k → Stored s.nodes k → kept k

-- outside of a rotation nothing is shaded, and the writable backend holds only what was born in the epoch
pub record IsIdle (s : Scene) : Type 0 where
  pub grey : s.walk.grey ≡ []
  pub black : s.walk.black ≡ []
  pub born : (h : Hash) → Stored s.written h → Stored s.old h → ⊥

-- what is kept is what the shaded hashes reach
abbrev pub RuleWhile : Bool → Scene → Type 0
RuleWhile true s = IsTurning s (Keeps s.nodes s.walk)
RuleWhile false s = IsIdle s

-- the rule, which holds each time that the lock is free
pub record Rule (s : Scene) : Type 0 where
  pub one_map : IsOneMap s
  pub now : RuleWhile s.turning s
