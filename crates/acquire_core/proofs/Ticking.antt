-- No tick passes where a peer joins, and in a check.
use Rattle.std.proofs.Common.{◌≡◌, ℕ, Bool, true, false, if◌then◌else◌, refl}
use Rattle.ledger_spec.specs.declared.peers.Ask.TheVariants.{Send, Waiting, NoPeer}
use Rattle.ledger_spec.specs.Peers.{Peers, was_added, after_adding}
use Rattle.ledger_spec.specs.Acquiring.{Acquiring, Verdict, complete, incomplete, seq_differs, zero_state, below_floor, malformed}
use Rattle.ledger_spec.specs.Acquiring.{after_verdict}

pub ticks_stay : (a : Acquiring) (v : Verdict) → (after_verdict a v).peers.ticks ≡ a.peers.ticks
ticks_stay a complete = refl
ticks_stay a (incomplete (Send p places)) = refl
ticks_stay a (incomplete (Waiting n)) = refl
ticks_stay a (incomplete NoPeer) = refl
ticks_stay a (seq_differs asked found) = refl
ticks_stay a zero_state = refl
ticks_stay a (below_floor floor) = refl
ticks_stay a (malformed place fault) = refl

either_ticks : (b : Bool) (s t : Peers) → t.ticks ≡ s.ticks → (if b then s else t).ticks ≡ s.ticks
either_ticks true s t e = refl
either_ticks false s t e = e

pub joining_stays : (s : Peers) (p : ℕ) → (after_adding s p).ticks ≡ s.ticks
joining_stays s p = either_ticks (was_added s p) s _ refl
