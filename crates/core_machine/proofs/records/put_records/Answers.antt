use Rattle.std.proofs.Common.{◌<◌, length, sym, arith}
use Rattle.rotating_store.proofs.shared.Reading.{later_same, later_then}
use Rattle.core_machine.proofs.Putting.{none_put, none_held, held_more, held_maybe, next_absent, one_put}
use Rattle.core_machine.proofs.records.put_records.Goals as goal

pub loop-one-init : goal.loop-one-init
loop-one-init g c = record {
  put = none_put _ c.args.records.now c.args.store.now c.requires.empty;
  held = none_held _ c.args.records.now c.args.store.now c.requires.empty;
  later = later_same c.args.store.now;
}

-- the record's hash is none of the others', so with it put the hashes of those behind it are still absent
pub loop-one-preserved : goal.loop-one-preserved
loop-one-preserved g c =
    let lt : c.loop-one.one-index < length c.args.records.now = omega (arith, c.loop-one-test.true) in
    record {
      put = one_put c.args.records.now c.loop-one.one-index c.one-item.result lt c.one-item.is g.Sh.B.Backend.tells c.loop-one.store
          c.put_record.new.store c.requires.records.distinct c.loop-one.invariant.put c.in_ok-put_record.ensures.stored;
      held = λ t. held_more c.args.records.now c.one-item.result c.loop-one.store c.put_record.new.store
          (c.loop-one.one-index, lt, sym c.one-item.is) (c.in_ok-put_record.ensures.stored t) (c.loop-one.invariant.held t);
      later = later_then _ _ _ c.loop-one.invariant.later c.put_record.ensures.later;
    }

pub put_record-requires-clause-absent : goal.put_record-requires-clause-absent
put_record-requires-clause-absent g c _ _ =
    next_absent c.args.records.now c.loop-one.one-index c.one-item.result (omega (arith, c.loop-one-test.true)) c.one-item.is
    g.Sh.B.Backend.tells c.loop-one.store c.loop-one.invariant.put

-- the records before this one are there, and it may be
pub returns-in_err-put_record-clause-held : goal.returns-in_err-put_record-clause-held
returns-in_err-put_record-clause-held g c t =
    held_maybe c.args.records.now c.one-item.result c.loop-one.store c.put_record.new.store
    (c.loop-one.one-index, omega (arith, c.loop-one-test.true), sym c.one-item.is) (c.in_err-put_record.ensures.unstored t)
    (c.loop-one.invariant.held t)
