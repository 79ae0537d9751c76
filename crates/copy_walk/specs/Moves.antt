-- The kinds of move of which a section consists, over plain values.
use Rattle.std.specs.Prelude.{◌≡◌, ◌⊎◌, ◌↔◌, ℕ, Bool, true, false, [], None, Some}
use Rattle.std.specs.List.{Contains}
use Rattle.ledger_spec.specs.Bytes.{Bytes, Hash, Lookup}
use Rattle.copy_walk.specs.Walks.{Walk, Shades}
use Rattle.copy_walk.specs.Strides.{Strides}
use Rattle.copy_walk.specs.Scenes.{Scene}

-- the hash is shaded, where a rotation is under way
abbrev pub ShadesWhile : Bool → Walk → Hash → Walk → Type 0
ShadesWhile true w h w' = Shades w h w'
ShadesWhile false w h w' = w' ≡ w

-- this pair is there now, and what stands under other hashes is as before
pub record HasPair (m : Lookup) (h : Hash) (form : Bytes) (m' : Lookup) : Type 0 where
  pub this : m' h ≡ Some form
  pub others : (q : Hash) → (q ≡ h) ⊎ (m' q ≡ m q)

-- a write with its shade: the hash is shaded, and then a form is written under it, where none was stored
pub record Writes (s : Scene) (h : Hash) (form : Bytes) (s' : Scene) : Type 0 where
  pub new : s.nodes h ≡ None
  pub walk : ShadesWhile s.turning s.walk h s'.walk
  pub nodes : HasPair s.nodes h form s'.nodes
  pub written : HasPair s.written h form s'.written
  pub rest : s' ≡ record s { nodes = s'.nodes; written = s'.written; walk = s'.walk }

-- a new root, which is shaded; it needn't be stored, and may be none after all
pub record AddsRoot (s : Scene) (h : Hash) (s' : Scene) : Type 0 where
  pub walk : ShadesWhile s.turning s.walk h s'.walk
  pub roots : (q : Hash) → Contains s'.roots q → Contains s.roots q ⊎ (q ≡ h)
  pub rest : s' ≡ record s { walk = s'.walk; roots = s'.roots }

-- a slice, refused or not: some strides of the walk
pub record Slices (s : Scene) (s' : Scene) : Type 0 where
  pub turning : s.turning ≡ true
  pub taken : ℕ
  pub strides : Strides s.nodes s.walk s.written taken s'.walk s'.written
  pub rest : s' ≡ record s { written = s'.written; walk = s'.walk }

-- a rotation begins, with the roots shaded, of which there may be fewer now
pub record Begins (s : Scene) (s' : Scene) : Type 0 where
  pub idle : s.turning ≡ false
  pub turning : s'.turning ≡ true
  pub black : s'.walk.black ≡ []
  pub grey : (h : Hash) → Contains s'.walk.grey h ↔ Contains s'.roots h
  pub rest : s' ≡ record s { turning = s'.turning; walk = s'.walk; roots = s'.roots }

-- A swap, where nothing is grey: what the writable backend held is what is stored now, in the archive.
pub record Swaps (s : Scene) (s' : Scene) : Type 0 where
  pub turning : s.turning ≡ true
  pub drained : s.walk.grey ≡ []
  pub nodes : s'.nodes ≡ s.written
  pub old : s'.old ≡ s.written
  pub written : (h : Hash) → s'.written h ≡ None
  pub over : s'.turning ≡ false
  pub walk : s'.walk ≡ record { grey = []; black = [] }
  pub roots : s'.roots ≡ s.roots

-- roots end
pub record EndsRoots (s : Scene) (s' : Scene) : Type 0 where
  pub roots : (h : Hash) → Contains s'.roots h → Contains s.roots h
  pub rest : s' ≡ record s { roots = s'.roots }

-- one move; one that only fetches leaves all of this as it is
pub data Move (s s' : Scene) : Type 0 where
  write : (h : Hash) (form : Bytes) → Writes s h form s' → Move s s'
  new_root : (h : Hash) → AddsRoot s h s' → Move s s'
  slice : Slices s s' → Move s s'
  start : Begins s s' → Move s s'
  swap : Swaps s s' → Move s s'
  end_roots : EndsRoots s s' → Move s s'
  fetch : s' ≡ s → Move s s'

-- a section is a list of moves
pub data Section (s : Scene) : Scene → Type 0 where
  still : Section s s
  also : {t u : Scene} → Section s t → Move t u → Section s u
