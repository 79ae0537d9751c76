-- How a walk goes on, over what is stored: by copies, by shading what is named, and by taking hashes.
use Rattle.std.specs.Prelude.{◌≡◌, ◌⊎◌, ℕ, zero, suc, ◌∷◌, None, Some}
use Rattle.std.specs.List.{Contains}
use Rattle.std.specs.List.Sorted.{IsPermutation}
use Rattle.ledger_spec.specs.Bytes.{Bytes, Hash, Lookup}
use Rattle.ledger_spec.specs.Reach.{kids}
use Rattle.copy_walk.specs.Walks.{Walk, shaded, Shades, HasToo}

-- at most the form that is stored under this hash is held too
pub record Copies (nodes : Lookup) (h : Hash) (held held' : Lookup) : Type 0 where
  pub kept : (q : Hash) (form : Bytes) → held q ≡ Some form → held' q ≡ Some form
  pub only : (q : Hash) (form : Bytes) → held' q ≡ Some form → (held q ≡ Some form) ⊎ ((q ≡ h) × (nodes q ≡ Some form))

-- the hash leaves one place of the grey list
abbrev pub Leaves : Walk → Hash → Walk → Type 0
Leaves w h w' = IsPermutation w.grey (h ∷ w'.grey)

-- The strides from a walk to another one, and from what the writable backend held to what it holds; the number is how many hashes were
-- taken. Each hash that is copied is grey, and each that is shaded is named by a grey one. A grey hash that was black already, or isn't
-- stored, is let go; one whose form was copied, and all of whose kids are shaded, becomes black.
pub data Strides (nodes : Lookup) (w : Walk) (held : Lookup) : ℕ → Walk → Lookup → Type 0 where
  here : Strides nodes w held zero w held
  copied : {n : ℕ} {v : Walk} {m m' : Lookup} → Strides nodes w held n v m → (h : Hash) → Contains v.grey h → Copies nodes h m m'
      → Strides nodes w held n v m'
  named : {n : ℕ} {v v' : Walk} {m : Lookup} → Strides nodes w held n v m → (h k : Hash) (form : Bytes) → Contains v.grey h
      → nodes h ≡ Some form → Contains (kids form) k → Shades v k v' → Strides nodes w held n v' m
  again : {n : ℕ} {v v' : Walk} {m : Lookup} → Strides nodes w held n v m → (h : Hash) → Leaves v h v' → Contains v.black h
      → v'.black ≡ v.black → Strides nodes w held (suc n) v' m
  absent : {n : ℕ} {v v' : Walk} {m : Lookup} → Strides nodes w held n v m → (h : Hash) → Leaves v h v' → nodes h ≡ None
      → v'.black ≡ v.black → Strides nodes w held (suc n) v' m
  found : {n : ℕ} {v v' : Walk} {m : Lookup} → Strides nodes w held n v m → (h : Hash) (form : Bytes) → Leaves v h v'
      → nodes h ≡ Some form → m h ≡ Some form → ((k : Hash) → Contains (kids form) k → Contains (shaded v) k)
      → HasToo v'.black v.black h → Strides nodes w held (suc n) v' m
