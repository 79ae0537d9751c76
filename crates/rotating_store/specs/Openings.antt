-- What a store is as it is opened, and by its parts.
use Rattle.std.specs.Prelude.{◌≡◌, ◌≤◌, ℕ, Bool, IsTrue, false, List, Option, is_some}
use Rattle.std.specs.FinMap as finite
use Rattle.std.specs.FinSet as set
use Rattle.std.specs.Option.{option_map, option_map_or}
use Rattle.ledger_spec.specs.Bytes.{Nodes}
use Rattle.node_backend.specs.Counts.{held_sum}
use Rattle.node_backend.specs.Doubts.{Pair}
use Rattle.rotating_store.specs.Stores.{Store, sum_of, spare_of}
use Rattle.rotating_store.specs.Keeps.{Numbered, Keeps}

-- a store that was opened over a shelf of these lists and this count of faults: it holds and counts nothing yet, but the shelf's faults,
-- and the shelf's numbers are as they were, but for those of its own backends
pub record IsOpened (tells : Bool) (shelf_live shelf_undone : List ℕ) (before : ℕ) (s : Store) : Type 0 where
  pub empty : IsTrue tells → (s.writable ≡ finite.empty) × (s.archive ≡ finite.empty)
  pub state : (s.epoch ≡ 0) × (s.ready ≡ false)
  pub count : (before ≤ s.shelf_faults) × (s.faults ≡ s.shelf_faults)
  pub lists : (s.spare ≡ shelf_live) × (s.undone ≡ shelf_undone)
  pub gets : s.gets ≡ 0
  pub past : (s.past_faults ≡ 0) × (s.past_gets ≡ 0) × (s.noted ≡ set.empty)

-- A store by its parts: by its shelf's lists and count of faults, by what contracts see of a backend, and by the writable backend, the
-- archive, and the ready one, if there is one, as `at` gives it.
pub record HasParts {B R : Type 0} (tells : Bool) (held_of : B → Nodes) (doubt_of : B → Option Pair) (number_of faults_of gets_of : B → ℕ)
    (shelf_live shelf_undone : List ℕ) (shelf_count : ℕ) (written old : B) (at : R → B) (fresh : Option R) (s : Store) : Type 0 where
  pub numbers : Numbered shelf_live shelf_undone (number_of old) (number_of written) (option_map (λ b. number_of (at b)) fresh)
  pub keeps : IsTrue tells → Keeps (held_of written) (held_of old) (doubt_of written) (doubt_of old)
      (option_map (λ b. held_of (at b)) fresh) (option_map (λ b. doubt_of (at b)) fresh)
  pub maps : IsTrue tells → (held_of written ≡ s.writable) × (held_of old ≡ s.archive)
  pub ready : is_some fresh ≡ s.ready
  pub faults : s.faults ≡ sum_of (held_sum s.past_faults shelf_count) (faults_of written) (faults_of old)
      (option_map_or (λ b. faults_of (at b)) fresh 0)
  pub gets : s.gets ≡ sum_of s.past_gets (gets_of written) (gets_of old) (option_map_or (λ b. gets_of (at b)) fresh 0)
  pub shelf : s.shelf_faults ≡ shelf_count
  pub lists : (s.spare ≡ spare_of shelf_live (number_of old) (number_of written) (option_map (λ b. number_of (at b)) fresh))
      × (s.undone ≡ shelf_undone)
