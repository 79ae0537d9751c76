-- The rows of `begin` and `swap`, and what a rotation keeps meanwhile.
use Rattle.std.specs.Prelude.{◌≡◌, ◌≢◌, ◌⊎◌, ℕ, ◌+◌, IsTrue, List, Option, None, Some}
use Rattle.std.specs.List.{Contains}
use Rattle.std.specs.FinSet as set
use Rattle.ledger_spec.specs.Bytes.{Bytes, Hash}
use Rattle.ledger_spec.specs.Reach.{Reach}
use Rattle.ledger_spec.specs.Retaining.{floor_behind, listed_from}
use Rattle.ledger_machine.specs.declared.commands.BeginReply.{BeginReply}
use Rattle.ledger_machine.specs.declared.commands.BeginReply.TheVariants as begins
use Rattle.ledger_machine.specs.State.{State, form_in, roots, due, Kept}

abbrev pub begin_given : State → Option ℕ → Option ℕ → BeginReply
begin_given s (Some v) _ = begins.Busy
begin_given s None None = begins.NotDue
begin_given s None (Some v) = begins.Begun v (floor_behind s.last)

abbrev pub begin_reply : State → BeginReply
begin_reply s = begin_given s s.turning (due s)

-- the floor rises, and lower ledgers are listed no more
abbrev pub after_begin : State → BeginReply → State
after_begin s (begins.Begun v floor) =
    record s { floor = floor; listed = listed_from floor s.listed; turning = Some v }
after_begin s _ = s

-- what is shaded first reaches what the roots reach
pub record ShadesRoots (s' : State) : Type 0 where
  pub only : (h : Hash) → Kept s' h → Reach (form_in s') (roots s') h
  pub all : (h : Hash) → Reach (form_in s') (roots s') h → Kept s' h

abbrev pub Begins : BeginReply → State → Type 0
Begins (begins.Begun v floor) s' = ShadesRoots s'
Begins _ s' = Unit {0}

-- a swap: what the roots reach stays, and nothing but what is kept and what is new
pub record Swapped (s s' : State) : Type 0 where
  pub fewer : (h : Hash) (form : Bytes) → form_in s' h ≡ Some form → form_in s h ≡ Some form
  pub reached : (h : Hash) → Reach (form_in s) (roots s) h → form_in s' h ≡ form_in s h
  pub only : (h : Hash) → form_in s' h ≢ None → Kept s h ⊎ IsTrue (set.contains s.born h)
  pub rest : s' ≡ record s { nodes = s'.nodes; born = set.empty; epoch = s.epoch + 1; last = s.turning; turning = None; shaded = s'.shaded }

-- what a rotation keeps only grows: by what the roots reach, and by what the command's own forms reach
pub record Carries (s s' : State) (own : List Hash) : Type 0 where
  pub before : (h : Hash) → Kept s h → Kept s' h
  pub roots_kept : (h : Hash) → Reach (form_in s') (roots s') h → Kept s' h
  pub only : (h : Hash) → Kept s' h → Kept s h ⊎ (Reach (form_in s') (roots s') h ⊎ Reach (form_in s') own h)

-- each root was told to the rotation
abbrev pub AreShaded : State → Type 0
AreShaded s = (h : Hash) → Contains (roots s) h → Contains s.shaded h

-- what the rotation was told stays told, and it was told nothing else but roots and these
pub record Tells (s s' : State) (own : List Hash) : Type 0 where
  pub stays : (h : Hash) → Contains s.shaded h → Contains s'.shaded h
  pub only : (h : Hash) → Contains s'.shaded h → Contains s.shaded h ⊎ (Contains (roots s') h ⊎ Contains own h)

-- a fact of two states that are both turning
abbrev pub WhileTurning : Option ℕ → Option ℕ → Type 0 → Type 0
WhileTurning (Some v) (Some w) P = P
WhileTurning _ _ P = Unit {0}
