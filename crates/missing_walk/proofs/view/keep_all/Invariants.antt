use Rattle.std.proofs.Common.{◌≡◌, All}
use Rattle.ledger_spec.specs.Bytes.{Half, Lookup}
use Rattle.missing_walk.specs.Pending.{IsOpen, IsCachedTrue}
use Rattle.missing_walk.specs.Views.{KeepsCache}
use Rattle.missing_walk.proofs.view.keep_all.Given as goal

-- what was put so far is held
abbrev pub invariant-loop-one : goal.invariant-loop-one
invariant-loop-one l = record {
  entries : (half : Half) (nodes : Lookup) → All (IsOpen half nodes) l.opened
      → KeepsCache (IsCachedTrue half nodes) l.fn.cache l.cache;
  generation : l.cache.generation ≡ l.fn.cache.generation;
}
