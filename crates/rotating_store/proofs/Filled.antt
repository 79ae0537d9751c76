-- What is read into a room from the one map of two backends.
use Rattle.std.proofs.Common.{◌≡◌, Bool, true, false, Option, None, Some, sym, ap, ◌∙◌}
use Rattle.std.specs.FinMap as map
use Rattle.ledger_spec.specs.Bytes.{Bytes, Hash, Nodes}
use Rattle.node_backend.specs.Filling.{filled}
use Rattle.rotating_store.specs.Stores.{merged}
use Rattle.rotating_store.proofs.shared.Merging.{found_first, found_second}

-- the first of the two has it
pub from_first : (w a : Nodes) (h : Hash) (b : Bool) (room : Bytes) → filled b room ≡ map.get w h → b ≡ true
    → Some room ≡ map.get (merged w a) h
from_first w a h b room is at = found_first w a h (filled b room) room is (ap (λ x. filled x room) at)

-- the first hasn't, and the second was asked
pub from_second : (w a : Nodes) (h : Hash) (b : Bool) (room : Bytes) (o : Option Bytes) → filled b room ≡ map.get w h → b ≡ false
    → o ≡ map.get a h → o ≡ map.get (merged w a) h
from_second w a h b room o is at there = found_second w a h (filled b room) o is (ap (λ x. filled x room) at) there

-- and has it
pub in_second : (w a : Nodes) (h : Hash) (b c : Bool) (room room' : Bytes) → filled b room ≡ map.get w h → b ≡ false
    → filled c room' ≡ map.get a h → c ≡ true → Some room' ≡ map.get (merged w a) h
in_second w a h b c room room' is at there has =
    sym (ap (λ x. filled x room') has) ∙ from_second w a h b room (filled c room') is at there

-- nor has it
pub in_neither : (w a : Nodes) (h : Hash) (b c : Bool) (room room' : Bytes) → filled b room ≡ map.get w h → b ≡ false
    → filled c room' ≡ map.get a h → c ≡ false → None ≡ map.get (merged w a) h
in_neither w a h b c room room' is at there lacks =
    sym (ap (λ x. filled x room') lacks) ∙ from_second w a h b room (filled c room') is at there
