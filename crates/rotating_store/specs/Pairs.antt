-- What calls on two backends promise alike, by what contracts see of one.
use Rattle.std.specs.Prelude.{◌≡◌, ◌≤◌, Bool, IsTrue, ℕ, Option, Result, IfOk}
use Rattle.std.specs.FinMap as finite
use Rattle.ledger_spec.specs.Bytes.{Bytes, Hash, Nodes}
use Rattle.node_backend.specs.Doubts.{Pair}
use Rattle.node_backend.specs.Filling.{filled}
use Rattle.rotating_store.specs.declared.pair.Moved.{Moved}
use Rattle.rotating_store.specs.Stores.{merged}
use Rattle.rotating_store.specs.Moves.{Moves, Writes, is_found}

-- a backend was only asked: it holds the same, if it tells what, with the same pair in doubt, and its count of faults doesn't fall
pub record WasAsked {B : Type 0} (tells : Bool) (held_of : B → Nodes) (doubt_of : B → Option Pair) (number_of faults_of : B → ℕ)
    (b b' : B) : Type 0 where
  pub held : IsTrue tells → held_of b' ≡ held_of b
  pub doubt : doubt_of b' ≡ doubt_of b
  pub number : number_of b' ≡ number_of b
  pub later : faults_of b ≤ faults_of b'

-- it is of the same number, and its count of faults doesn't fall
pub record IsLaterBackend {B : Type 0} (number_of faults_of : B → ℕ) (b b' : B) : Type 0 where
  pub number : number_of b' ≡ number_of b
  pub later : faults_of b ≤ faults_of b'

-- the form of a hash is copied to the first of two maps, where that lacks it, and is written into a room: what the two hold together; the
-- first has it then, or after a put that failed may have it
pub record CopiesForm {E : Type 0} (tells : Bool) (first second : Nodes) (doubt : Option Pair) (h : Hash)
    (result : Result Moved E) (room : Bytes) (first' : Nodes) (doubt' : Option Pair) : Type 0 where
  pub moves : IsTrue tells → Moves first second h result first'
  pub form : IsTrue tells → IfOk result (λ m. filled (is_found m) room ≡ finite.get (merged first second) h)
  pub writes : IsTrue tells → Writes first second doubt h first' doubt'
