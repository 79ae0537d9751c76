use Rattle.std.proofs.Common.{◌≡◌, ℕ, length, None}
use Rattle.ledger_searches.specs.Hunting.{hunt_of}
use Rattle.ledger_searches.proofs.searches.none_begun.Given as goal

-- as many as were pushed, and each is none
abbrev pub invariant-loop-actor : goal.invariant-loop-actor
invariant-loop-actor l = record {
  slots : length l.hunts.items ≡ l._actor;
  none : (a : ℕ) → hunt_of l.hunts.items a ≡ None;
}
