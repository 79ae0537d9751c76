use Rattle.std.proofs.Common.{◌≡◌, IsTrue}
use Rattle.std.specs.Option.{option_copied}
use Rattle.rotating_store.specs.Reading.{WasRead}
use Rattle.ledger_spec.specs.Bytes.{Hash}
use Rattle.core_machine.specs.Dumping.{Follows, IsHashOrNone, left_after}
use Rattle.core_machine.proofs.records.next_record.Given as goal

-- the store was only read, and each hash came after those before; where the store tells what it holds, the first one is an answer
abbrev pub invariant-loop-hash : goal.invariant-loop-hash
invariant-loop-hash g l = record {
  read : WasRead g.Sh.B.Backend.tells g.H.NodeHash.half l.initial.store l.store;
  first : IsTrue g.Sh.B.Backend.tells → l.last ≡ option_copied l.fn.after;
  hash : IsHashOrNone l.last;
  later : (h : Hash) → Follows l.last h → Follows (option_copied l.fn.after) h;
}

abbrev pub decreases-loop-hash : goal.decreases-loop-hash
decreases-loop-hash g l = left_after l.last
