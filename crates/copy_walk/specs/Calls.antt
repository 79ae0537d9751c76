-- What calls of a walk promise alike.
use Rattle.std.specs.Prelude.{◌<◌, ℕ, Bool, IsTrue, List, Result, IfOk, IfErr, OnOk, OnErr}
use Rattle.std.specs.List.{Contains}
use Rattle.ledger_spec.specs.Bytes.{Hash}
use Rattle.rotating_store.specs.Stores.{Store}
use Rattle.rotating_store.specs.Puts.{IsPlain}
use Rattle.rotating_store.specs.declared.outcome.StoreFault.{StoreFault}
use Rattle.copy_walk.specs.Walks.{Walk, ShadesSome, shaded, left_of}
use Rattle.copy_walk.specs.Slices.{Strode, Blackens, Slices, IsCutShort, Drains, KeepsRule, LeftBy}
use Rattle.copy_walk.specs.declared.walk.Left.{Left}

-- some of these hashes are shaded, and each of them where nothing is refused
pub record ShadesEach {X E : Type 0} (w : Walk) (hashes : List Hash) (result : Result X E) (w' : Walk) : Type 0 where
  pub some : ShadesSome w hashes w'
  pub all : OnOk result ((h : Hash) → Contains hashes h → Contains (shaded w') h)

-- the hash becomes black, and less is left; or some of what it names was shaded
pub record GoesBlack {X E : Type 0} (w : Walk) (h : Hash) (named : List Hash) (result : Result X E) (w' : Walk) : Type 0 where
  pub ok : OnOk result (Blackens w h named w')
  pub err : OnErr result (ShadesSome w named w')
  pub less : OnOk result (left_of w' < left_of w)

-- one hash is taken, and less is left; or none was, though its form may be copied
pub record TakesOne {X E : Type 0} (tells : Bool) (w : Walk) (s : Store) (result : Result X E) (w' : Walk) (s' : Store) : Type 0 where
  pub ok : IsTrue tells → OnOk result (Strode 1 1 w s w' s')
  pub err : IsTrue tells → OnErr result (Strode 0 1 w s w' s')
  pub less : OnOk result (left_of w' < left_of w)

-- a slice of n hashes, or one that was refused, for want of memory or by a fault; it keeps the rule, and tells whether something is left
pub record AnswersSlice (tells : Bool) (n : ℕ) (w : Walk) (s : Store) (result : Result Left StoreFault) (w' : Walk) (s' : Store)
    : Type 0 where
  pub ok : IsTrue tells → IfOk result (λ l. Slices n w s l w' s')
  pub err : IsTrue tells → OnErr result (IsCutShort n w s w' s')
  pub rule : IsTrue tells → KeepsRule w s w' s'
  pub left : IfOk result (λ l. LeftBy l w')
  pub kind : IfErr result IsPlain

-- some hashes are taken, and the rule is kept
pub record DrainsBy (tells : Bool) (w : Walk) (s : Store) (w' : Walk) (s' : Store) : Type 0 where
  pub strode : IsTrue tells → Drains w s w' s'
  pub rule : IsTrue tells → KeepsRule w s w' s'
