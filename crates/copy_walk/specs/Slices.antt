-- What a walk does to a store, and what its calls answer.
use Rattle.std.specs.Prelude.{◌≡◌, ◌⊎◌, ◌↔◌, ◌≢◌, ◌<◌, ◌≤◌, ℕ, List, [], Some}
use Rattle.std.specs.List.{Contains}
use Rattle.std.specs.FinMap as finite
use Rattle.ledger_spec.specs.Bytes.{Bytes, Hash}
use Rattle.ledger_spec.specs.Reach.{Stored}
use Rattle.rotating_store.specs.Stores.{Store, nodes_of, SamePast}
use Rattle.copy_walk.specs.Walks.{Walk, Keeps, Colours, ShadesSome, HasToo, shaded}
use Rattle.copy_walk.specs.Walks as walks
use Rattle.copy_walk.specs.Strides.{Strides, Copies, Leaves}
use Rattle.copy_walk.specs.Counts.{CopiesAtMost}
use Rattle.copy_walk.specs.declared.walk.Left.{Left}
use Rattle.copy_walk.specs.declared.walk.Left.TheVariants as left

-- the store's one map and its archive stay, and at most this hash's form was copied
pub record CopiesOne (h : Hash) (s s' : Store) : Type 0 where
  pub nodes : nodes_of s' ≡ nodes_of s
  pub archive : s'.archive ≡ s.archive
  pub copies : Copies (finite.get (nodes_of s)) h (finite.get s.writable) (finite.get s'.writable)

-- So many hashes were taken, and at most so many copied. The store's one map and its archive stay.
pub record Strode (taken copied : ℕ) (w : Walk) (s : Store) (w' : Walk) (s' : Store) : Type 0 where
  pub nodes : nodes_of s' ≡ nodes_of s
  pub archive : s'.archive ≡ s.archive
  pub strides : Strides (finite.get (nodes_of s)) w (finite.get s.writable) taken w' (finite.get s'.writable)
  pub few : CopiesAtMost copied (finite.get (nodes_of s)) (finite.get s.writable) (finite.get s'.writable)

-- the hash at this place of the grey list becomes black, once all that it names is shaded
pub record Blackens (w : Walk) (h : Hash) (named : List Hash) (w' : Walk) : Type 0 where
  pub mid : Walk
  pub shades : ShadesSome w named mid
  pub all : (k : Hash) → Contains named k → Contains (shaded mid) k
  pub leaves : Leaves mid h w'
  pub black : HasToo w'.black w.black h

-- how far a slice of n hashes came: something is left exactly where it took all n of them, and grey ones are left
abbrev pub IsFar : ℕ → ℕ → Left → Walk → Type 0
IsFar n taken left.More w' = (taken ≡ n) × (w'.grey ≢ [])
IsFar n taken left.Done w' = (taken ≤ n) × (w'.grey ≡ [])

-- a slice of n hashes
pub record Slices (n : ℕ) (w : Walk) (s : Store) (l : Left) (w' : Walk) (s' : Store) : Type 0 where
  pub taken : ℕ
  pub far : IsFar n taken l w'
  pub strode : Strode taken n w s w' s'

-- one that was refused: fewer were taken
pub record IsCutShort (n : ℕ) (w : Walk) (s : Store) (w' : Walk) (s' : Store) : Type 0 where
  pub taken : ℕ
  pub fewer : taken < n
  pub strode : Strode taken n w s w' s'

-- What no call of a walk breaks, whether it is refused or not: the rule of the colours; that what is shaded and stored is shaded, so that
-- no grey hash is lost; what is kept; and that nothing but what is kept is copied.
pub record KeepsRule (w : Walk) (s : Store) (w' : Walk) (s' : Store) : Type 0 where
  pub colours : Colours (finite.get (nodes_of s)) (finite.get s.writable) w → Colours (finite.get (nodes_of s')) (finite.get s'.writable) w'
  pub shaded : (h : Hash) → Contains (walks.shaded w) h → Stored (finite.get (nodes_of s)) h → Contains (walks.shaded w') h
  pub kept : (h : Hash) → Keeps (finite.get (nodes_of s)) w h ↔ Keeps (finite.get (nodes_of s')) w' h
  pub copies : (h : Hash) (form : Bytes) → finite.get s'.writable h ≡ Some form
      → (finite.get s.writable h ≡ Some form) ⊎ Keeps (finite.get (nodes_of s)) w h

-- some hashes were taken
pub record Drains (w : Walk) (s : Store) (w' : Walk) (s' : Store) : Type 0 where
  pub taken : ℕ
  pub copied : ℕ
  pub strode : Strode taken copied w s w' s'

-- nothing is left exactly where nothing is grey
abbrev pub LeftBy : Left → Walk → Type 0
LeftBy left.More w = w.grey ≢ []
LeftBy left.Done w = w.grey ≡ []

-- the epoch, what is past, what is ready and what is noted are as before
abbrev pub SameRest : Store → Store → Type 0
SameRest s s' = SamePast s s' × (s'.ready ≡ s.ready) × (s'.noted ≡ s.noted)
