-- The lines of a script: their numbers, and the ranges of what they say.
use Rattle.std.specs.Prelude.{◌≡◌, ℕ, ◌<◌, ◌^◌, ◌==◌, List, [], ◌∷◌, length, map, slice_index, IsTrue, Option, None, Some}
use Rattle.std.specs.List.{filter, find}
use Rattle.ledger_spec.specs.Bytes.{Bytes, Hash, is_nonzero, are_bytes}
use Rattle.ledger_spec.specs.declared.Kind.{Kind}
use Rattle.ledger_spec.specs.declared.Kind.TheVariants.{State, Tx, Set}
use Rattle.ledger_machine.specs.declared.commands.Line.{Line}

-- the script's line of this number
abbrev pub line_of : List Line → ℕ → Option Line
line_of lines number = find (λ l. l.number == number) lines

-- the numbers of an actor's lines, in order
abbrev pub numbers_of : ℕ → List Line → List ℕ
numbers_of actor lines = map (λ l. l.number) (filter (λ l. l.actor == actor) lines)

-- the lines' numbers rise from above n
abbrev pub Rises : ℕ → List Line → Type 0
Rises n [] = Unit {0}
Rises n (line ∷ lines) = (n < line.number) × Rises line.number lines

-- the four numbers of a close, by name
abbrev pub drops_in : List ℕ → ℕ
drops_in fields = slice_index fields 0

abbrev pub close_in : List ℕ → ℕ
close_in fields = slice_index fields 1

abbrev pub resolution_in : List ℕ → ℕ
resolution_in fields = slice_index fields 2

abbrev pub flags_in : List ℕ → ℕ
flags_in fields = slice_index fields 3

-- a map of a ledger
abbrev pub IsLedgerMap : Kind → Type 0
IsLedgerMap State = Unit {0}
IsLedgerMap Tx = Unit {0}
IsLedgerMap Set = ⊥

-- what a close says of its header: total drops, close time, resolution and flags
pub record AreFields (fields : List ℕ) : Type 0 where
  pub count : length fields ≡ 4
  pub drops : drops_in fields < 2 ^ 64
  pub close : close_in fields < 2 ^ 32
  pub resolution : resolution_in fields < 2 ^ 8
  pub flags : flags_in fields < 2 ^ 8

-- what peers and edits bring is bytes
abbrev pub AreBytes : Bytes → Type 0
AreBytes bytes = IsTrue (are_bytes bytes)

abbrev pub IfBytes : Option Bytes → Type 0
IfBytes None = Unit {0}
IfBytes (Some bytes) = AreBytes bytes

-- what a base reply brings: a target that isn't zero, and parts of bytes
abbrev pub AreOffered : Hash → Bytes → Option Bytes → Option Bytes → Type 0
AreOffered t head state tx = IsTrue (is_nonzero t) × AreBytes head × IfBytes state × IfBytes tx

-- a key that is read or removed: 32 bytes, not all zero
abbrev pub IsNamedKey : Hash → Type 0
IsNamedKey key = IsTrue (is_nonzero key) × (length key ≡ 32) × AreBytes key
