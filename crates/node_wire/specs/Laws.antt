-- Laws of the wire forms.
use Rattle.std.specs.Prelude.{◌≡◌, ◌↔◌, length, IsTrue, Ok}
use Rattle.ledger_spec.specs.Bytes.{Bytes, Half}
use Rattle.ledger_spec.specs.Forms.{Held, IsHeld}
use Rattle.ledger_spec.specs.Wire.{Wire, read_wire, wire_of}
use Rattle.shamap_node.specs.Laws.{is_node}

-- bytes are a wire form of at most one node
abbrev pub OneNode : Type 0
OneNode = (half : Half) (a b : Held) (w : Bytes) → Wire half a w → Wire half b w → a ≡ b

-- what is read of bytes, by a half of 32 bytes, is the node whose wire form they are
abbrev pub ReadByWire : Type 0
ReadByWire = (half : Half) → ((x : Bytes) → length (half x) ≡ 32) → (n : Held) (w : Bytes) → (read_wire half w ≡ Ok n) ↔ Wire half n w

-- what is written of a node is a wire form of it, and is read as it
abbrev pub WrittenIsRead : Type 0
WrittenIsRead = (half : Half) (n : Held) → IsTrue (is_node n) → IsHeld half n
    → Wire half n (wire_of n) × (read_wire half (wire_of n) ≡ Ok n)
