-- How the listed ledgers grow.
use Rattle.std.specs.List.{filter}
use Rattle.std.proofs.Common.{Bool, true, false, cond, nat_le, ◌≡◌, ◌≤◌, ℕ, suc, List, [], ◌∷◌, length, refl, arith}
use Rattle.std.specs.Ordering.{match_ordering}
use Rattle.std.specs.declared.cmp.Ordering.TheVariants.{Less, Equal, Greater}
use Rattle.ledger_spec.specs.Bytes.{Hash}
use Rattle.ledger_spec.specs.Maps.{hash_cmp, insert_in}
use Rattle.ledger_machine.specs.declared.commands.WantReply.{WantReply}
use Rattle.ledger_machine.specs.declared.commands.WantReply.TheVariants as want
use Rattle.ledger_spec.specs.declared.replies.TickReply.{TickReply}
use Rattle.ledger_spec.specs.declared.replies.TickReply.TheVariants as tick
use Rattle.ledger_machine.specs.Ticks.{after_tick}
use Rattle.ledger_spec.specs.declared.replies.CheckReply.{CheckReply}
use Rattle.ledger_spec.specs.declared.replies.CheckReply.TheVariants as check
use Rattle.ledger_machine.specs.State.{State}
use Rattle.ledger_machine.specs.Want.{after_want}
use Rattle.ledger_machine.specs.declared.commands.BeginReply.{BeginReply}
use Rattle.ledger_machine.specs.declared.commands.BeginReply.TheVariants as begins
use Rattle.ledger_machine.specs.Rotation.{after_begin}
use Rattle.core_machine.specs.Wanting.{settled}

-- a new entry makes a table longer by one, or takes the place of another
pub insert_few : {X : Type 0} (m : List (Hash × X)) (k : Hash) (x : X) → length (insert_in hash_cmp m k x) ≤ suc (length m)
insert_few [] k x = omega arith
insert_few (e ∷ m) k x =
    elim (hash_cmp k e.0) as (λ o. length (match_ordering o ((k, x) ∷ e ∷ m) ((e.0, x) ∷ m) (e ∷ insert_in hash_cmp m k x)) ≤ suc
    (suc (length m))) [
      | Less ↦ omega arith
      | Equal ↦ omega arith
      | Greater ↦ omega (arith, insert_few m k x)
    ]

-- at most one more ledger is listed
abbrev pub ListsFew : State → State → Type 0
ListsFew s s' = length s'.listed ≤ suc (length s.listed)

pub want_listed : (s : State) (t : Hash) (seq : ℕ) (r : WantReply) → (after_want s t seq r).listed ≡ s.listed
want_listed s t seq want.Opened = refl
want_listed s t seq _ = refl

-- what passes a test is no more
filter_few : {X : Type 0} (p : X → Bool) (xs : List X) → length (filter p xs) ≤ length xs
filter_few p [] = omega arith
filter_few p (x ∷ xs) = elim (p x) as (λ b. length (cond b (x ∷ filter p xs) (filter p xs)) ≤ suc (length xs)) [
  | true ↦ omega (arith, filter_few p xs)
  | false ↦ omega (arith, filter_few p xs)
]

-- a rotation that begins lists none
pub begin_few : (s : State) (r : BeginReply) → ListsFew s (after_begin s r)
begin_few s (begins.Begun v floor) = omega (arith, filter_few (λ (e : Hash × ℕ). nat_le floor e.1) s.listed)
begin_few s begins.NotDue = omega arith
begin_few s begins.Busy = omega arith

-- only a complete ledger is listed
pub settled_few : (s : State) (t : Hash) (seq : ℕ) (r : CheckReply) → ListsFew s (settled s t seq r)
settled_few s t seq check.Complete = insert_few s.listed t seq
settled_few s t seq (check.Need p places) = omega arith
settled_few s t seq check.NoPeer = omega arith
settled_few s t seq (check.Waiting n) = omega arith
settled_few s t seq (check.SeqDiffers x y) = omega arith
settled_few s t seq check.ZeroState = omega arith
settled_few s t seq (check.BelowFloor f) = omega arith
settled_few s t seq (check.Malformed place rule) = omega arith
settled_few s t seq check.NotOpen = omega arith

pub tick_few : (s : State) (t : Hash) (r : TickReply) → ListsFew s (after_tick s t r)
tick_few s t (tick.Timeout n) = omega arith
tick_few s t (tick.GaveUp n) = omega arith
tick_few s t tick.NotOpen = omega arith
