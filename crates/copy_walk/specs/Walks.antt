-- A walk over all that some hashes reach. A hash is grey while it is still to be taken, and black once it was taken and found stored.
use Rattle.std.specs.Prelude.{◌≡◌, ◌⊎◌, ◌↔◌, ◌≤◌, ◌++◌, ◌∷◌, ◌+◌, ◌-◌, ◌*◌, ◌^◌, [], ℕ, List, Some, length}
use Rattle.std.specs.List.{Contains}
use Rattle.ledger_spec.specs.Bytes.{Bytes, Hash, Lookup}
use Rattle.ledger_spec.specs.Reach.{Reach, Stored, kids}

-- what contracts see of a walk: the hashes that are to be taken, the next one last, and those that were taken and found stored
pub record Walk : Type 0 where
  pub grey : List Hash
  pub black : List Hash

-- what was told it, and what it found, so far: but for hashes that weren't stored as they were taken
abbrev pub shaded : Walk → List Hash
shaded w = w.grey ++ w.black

-- what such a walk keeps: all that is reached from what is shaded
abbrev pub Keeps : Lookup → Walk → Hash → Type 0
Keeps nodes w h = Reach nodes (shaded w) h

-- the hash is to be taken, unless it was taken before
pub record Shades (w : Walk) (h : Hash) (w' : Walk) : Type 0 where
  pub black : w'.black ≡ w.black
  pub grey : ((w'.grey ≡ w.grey) × Contains w.black h) ⊎ (w'.grey ≡ w.grey ++ h ∷ [])

-- some of these hashes are
pub record ShadesSome (w : Walk) (hashes : List Hash) (w' : Walk) : Type 0 where
  pub more : List Hash
  pub black : w'.black ≡ w.black
  pub grey : w'.grey ≡ w.grey ++ more
  pub only : (h : Hash) → Contains more h → Contains hashes h
  pub few : length more ≤ length hashes

-- the first list has the hashes of the second, and this one
abbrev pub HasToo : List Hash → List Hash → Hash → Type 0
HasToo more hashes h = (q : Hash) → Contains more q ↔ (Contains hashes q ⊎ (q ≡ h))

-- What is left to do at most, whatever the store answers: each hash that becomes black may shade sixteen others, and there are fewer than
-- 2 ^ 63 black ones.
unfoldable pub left_of : Walk → ℕ
left_of w = 17 * (2 ^ 63 - length w.black) + length w.grey

-- The rule of the colours, over what is stored and what the writable backend holds: a black hash is stored, and its form is in the
-- writable backend; what it names is shaded, where it is stored.
pub record Colours (nodes written : Lookup) (w : Walk) : Type 0 where
  pub copied : (h : Hash) → Contains w.black h → (form : Bytes) × (nodes h ≡ Some form) × (written h ≡ Some form)
  pub named : (h k : Hash) (form : Bytes) → Contains w.black h → nodes h ≡ Some form → Contains (kids form) k → Stored nodes k
      → Contains (shaded w) k
