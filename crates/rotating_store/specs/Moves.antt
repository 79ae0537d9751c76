-- What a copy forward answers.
use Rattle.std.specs.Prelude.{◌≡◌, ◌⊎◌, Bool, true, false, IsTrue, Option, None, Some, Result, Ok, Err, IsSome, OnOk}
use Rattle.std.specs.FinMap as finite
use Rattle.ledger_spec.specs.Bytes.{Bytes, Hash, Nodes}
use Rattle.node_backend.specs.Doubts.{Pair, FailedPut}
use Rattle.rotating_store.specs.Stores.{Store, nodes_of}
use Rattle.rotating_store.specs.declared.pair.Moved.{Moved}
use Rattle.rotating_store.specs.declared.pair.Moved.TheVariants as moved

-- the archive alone has the form
abbrev pub IsOld : Nodes → Nodes → Hash → Bytes → Type 0
IsOld writable archive h form = (finite.get writable h ≡ None) × (finite.get archive h ≡ Some form)

-- copied is what the archive alone has
abbrev pub Moves : {E : Type 0} → Nodes → Nodes → Hash → Result Moved E → Nodes → Type 0
Moves w a h (Ok moved.Copied) w' = (form : Bytes) × IsOld w a h form × (w' ≡ finite.insert w h form)
Moves w a h (Ok moved.There) w' = IsSome (finite.get w h) × (w' ≡ w)
Moves w a h (Ok moved.Nowhere) w' = (finite.get w h ≡ None) × (finite.get a h ≡ None) × (w' ≡ w)
Moves w a h (Err e) w' = (w' ≡ w) ⊎ ((form : Bytes) × IsOld w a h form × (w' ≡ finite.insert w h form))

-- one of the two has the form
abbrev pub is_found : Moved → Bool
is_found moved.Copied = true
is_found moved.There = true
is_found moved.Nowhere = false

-- the backend that is written, and its pair in doubt, are as before, or after a put of what the archive alone has
abbrev pub Writes : Nodes → Nodes → Option Pair → Hash → Nodes → Option Pair → Type 0
Writes w a doubt h w' doubt' = ((w' ≡ w) × (doubt' ≡ doubt)) ⊎ ((form : Bytes) × IsOld w a h form × FailedPut w doubt (h, form) w' doubt')

-- A form is copied to the writable backend, where that lacks it: the store's one map and its archive stay, and the writable map has what
-- they hold under the hash, or after an error may have it.
pub record Forwards {E : Type 0} (tells : Bool) (s : Store) (h : Hash) (result : Result Moved E) (s' : Store) : Type 0 where
  pub nodes : IsTrue tells → nodes_of s' ≡ nodes_of s
  pub moves : IsTrue tells → Moves s.writable s.archive h result s'.writable
  pub there : IsTrue tells → OnOk result (finite.get s'.writable h ≡ finite.get (nodes_of s) h)
  pub archive : IsTrue tells → s'.archive ≡ s.archive
