-- A pair of which a device doesn't know whether it is stored.
use Rattle.std.specs.Prelude.{◌≡◌, ◌⊎◌, Option, None, Some, Result, OnOk, OnErr}
use Rattle.std.specs.FinMap as map
use Rattle.ledger_spec.specs.Bytes.{Bytes, Hash, Nodes}

-- a hash and a form
abbrev pub Pair : Type 0
Pair = Hash × Bytes

-- in doubt is no pair, the one before, or the one that was to be put
abbrev pub MayDoubt : Option Pair → Pair → Option Pair → Type 0
MayDoubt before pair now = (now ≡ None) ⊎ ((now ≡ before) ⊎ (now ≡ Some pair))

-- a put that failed left the map as it was, or has set the pair, and then none is in doubt
abbrev pub FailedPut : Nodes → Option Pair → Pair → Nodes → Option Pair → Type 0
FailedPut held doubt pair held' doubt' =
    ((held' ≡ held) × MayDoubt doubt pair doubt')
    ⊎ ((held' ≡ map.insert held pair.0 pair.1) × (doubt' ≡ None))

-- a put sets the pair; where it failed nothing has changed
pub record SetsPair {X E : Type 0} (held held' : Nodes) (h : Hash) (form : Bytes) (result : Result X E) : Type 0 where
  pub set : OnOk result (held' ≡ map.insert held h form)
  pub unset : OnErr result (held' ≡ held)

-- after a put no pair is in doubt; where it failed there may be one: the one before, or this one
pub record Doubts {X E : Type 0} (before : Option Pair) (pair : Pair) (now : Option Pair) (result : Result X E) : Type 0 where
  pub sure : OnOk result (now ≡ None)
  pub doubted : OnErr result (MayDoubt before pair now)
