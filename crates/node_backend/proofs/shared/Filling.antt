-- Whether a room was filled, and what it holds then. For proofs of other crates.
use Rattle.std.proofs.Common.{◌≡◌, Bool, true, false, Option, None, Some, sym, ap, ◌∙◌}
use Rattle.ledger_spec.specs.Bytes.{Bytes}
use Rattle.node_backend.specs.Filling.{filled}

-- a room that was filled has what is there
pub has_some : (b : Bool) (room : Bytes) (o : Option Bytes) → filled b room ≡ o → b ≡ true → o ≡ Some room
has_some b room o is at = sym is ∙ ap (λ x. filled x room) at

-- where it wasn't, nothing is there
pub has_none : (b : Bool) (room : Bytes) (o : Option Bytes) → filled b room ≡ o → b ≡ false → o ≡ None
has_none b room o is at = sym is ∙ ap (λ x. filled x room) at
