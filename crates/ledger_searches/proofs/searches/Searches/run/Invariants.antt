use Rattle.std.proofs.Common.{◌≡◌, ◌≤◌, length}
use Rattle.ledger_spec.specs.Bytes.{Lookup}
use Rattle.rotating_store.specs.Reading.{WasRead}
use Rattle.missing_walk.specs.Passes.{HasMarkedRoots}
use Rattle.missing_walk.specs.Rests.{bound}
use Rattle.missing_walk.specs.Searching.{Rule}
use Rattle.missing_walk.specs.Views.{Tells}
use Rattle.ledger_searches.specs.Sharing.{IsPaired, AreTrueOf}
use Rattle.ledger_searches.proofs.Running.{IsPresent}
use Rattle.ledger_searches.proofs.searches.Searches.run.Given as goal

-- the search has gone on within its generation; where the roots are marked it isn't begun
abbrev pub invariant-loop-search : goal.invariant-loop-search
invariant-loop-search g l = record {
  rule : (nodes : Lookup) → Tells g.Sh.B.Backend.tells g.H.NodeHash.half l.fn.store nodes
      → AreTrueOf g.H.NodeHash.half nodes l.fn.self → Rule g.H.NodeHash.half nodes l.search l.self.cache l.self.marks;
  first : (nodes : Lookup) → Tells g.Sh.B.Backend.tells g.H.NodeHash.half l.fn.store nodes
      → HasMarkedRoots nodes l.fn.search.target l.fn.self.marks
      → (l.search ≡ l.fn.search) × (l.self ≡ l.fn.self) × (l.store ≡ l.fn.store);
  present : IsPresent l.search.generation l.self.marks.generation;
  target : l.search.target ≡ l.fn.search.target;
  few : length l.search.missing.items ≤ 256;
  paired : IsPaired l.self;
  hunts : l.self.hunts.items ≡ l.fn.self.hunts.items;
  generation : l.self.marks.generation ≡ l.fn.self.marks.generation;
  read : WasRead g.Sh.B.Backend.tells g.H.NodeHash.half l.fn.store l.store;
}

-- less is left
abbrev pub decreases-loop-search : goal.decreases-loop-search
decreases-loop-search g l = bound l.search
