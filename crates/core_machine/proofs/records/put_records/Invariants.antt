use Rattle.std.proofs.Common.{IsTrue}
use Rattle.rotating_store.specs.Reading.{IsLater}
use Rattle.rotating_store.specs.Stores.{nodes_of}
use Rattle.core_machine.specs.Dumping.{HoldsOf}
use Rattle.core_machine.proofs.Putting.{ArePut}
use Rattle.core_machine.proofs.records.put_records.Given as goal

-- the records up to here were put
abbrev pub invariant-loop-one : goal.invariant-loop-one
invariant-loop-one g l = record {
  put : ArePut g.Sh.B.Backend.tells l.records l.one-index l.store;
  held : IsTrue g.Sh.B.Backend.tells → HoldsOf l.records (nodes_of l.store);
  later : IsLater l.fn.store l.store;
}
