use Rattle.std.proofs.Common.{◌≡◌, ◌≤◌, ◌+◌, ◌*◌, length}
use Rattle.ledger_spec.specs.Bytes.{Lookup}
use Rattle.rotating_store.specs.Reading.{WasRead}
use Rattle.missing_walk.specs.Views.{Tells}
use Rattle.missing_walk.specs.Passes.{IsIdle}
use Rattle.missing_walk.specs.Searching.{Going, SameSearch}
use Rattle.missing_walk.specs.Rests.{weight, stored_weight, most_from, most_again, Lighter}
use Rattle.missing_walk.proofs.search.Search.run.Given as goal

-- so far as the search has come
abbrev pub invariant-loop : goal.invariant-loop
invariant-loop g l = record {
  going : (nodes : Lookup) → Tells g.Sh.B.Backend.tells g.H.NodeHash.half l.fn.store nodes
      → Going g.H.NodeHash.half nodes l.fn.self l.fn.cache l.fn.marks → Going g.H.NodeHash.half nodes l.self l.cache l.marks;
  rests : (nodes : Lookup) → Tells g.Sh.B.Backend.tells g.H.NodeHash.half l.fn.store nodes
      → Going g.H.NodeHash.half nodes l.fn.self l.fn.cache l.fn.marks
      → Lighter (weight g.H.NodeHash.half nodes) (stored_weight g.H.NodeHash.half nodes) l.counter l.fn.self l.self;
  bounds : Lighter most_from most_again l.counter l.fn.self l.self;
  same : SameSearch l.fn.self l.self;
  few : length l.fn.self.missing.items ≤ 256 → length l.self.missing.items ≤ 256;
  cache : l.cache.generation ≡ l.fn.cache.generation;
  marks : l.marks.generation ≡ l.fn.marks.generation;
  room : l.marks.entries.cap ≡ l.fn.marks.entries.cap;
  idle : IsIdle l.fn.self l.fn.marks → IsIdle l.self l.marks;
  shorter : IsIdle l.fn.self l.fn.marks → length l.self.stack.items + l.counter ≡ length l.fn.self.stack.items;
  no_gets : IsIdle l.fn.self l.fn.marks → l.store.gets ≡ l.fn.store.gets;
  read : WasRead g.Sh.B.Backend.tells g.H.NodeHash.half l.fn.store l.store;
  gets : l.store.gets ≤ l.fn.store.gets + 2 * l.counter;
}
