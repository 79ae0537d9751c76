-- Laws of the prefix forms.
use Rattle.std.specs.Prelude.{◌≡◌, ◌↔◌, not, length, Bool, true, false, Option, None, Some}
use Rattle.ledger_spec.specs.Bytes.{Bytes, Half}
use Rattle.ledger_spec.specs.Forms.{Held, inner, leaf, header, Form}
use Rattle.ledger_spec.specs.Findings.{held_of}

-- a node of a map, and no header
abbrev pub is_node : Held → Bool
is_node (inner hashes) = true
is_node (leaf kind key bytes) = true
is_node (header bytes) = false

-- bytes are the form of at most one node or header
abbrev pub OneForm : Type 0
OneForm = (half : Half) (a b : Held) (bytes : Bytes) → Form half a bytes → Form half b bytes → a ≡ b

-- nothing, or a header
abbrev pub is_no_node : Option Held → Bool
is_no_node None = true
is_no_node (Some n) = not (is_node n)

-- what bytes hold is what they are the form of, by a half of 32 bytes
abbrev pub HeldByForm : Type 0
HeldByForm = (half : Half) → ((x : Bytes) → length (half x) ≡ 32)
    → (n : Held) (bytes : Bytes) → Form half n bytes ↔ (held_of half bytes ≡ Some n)
