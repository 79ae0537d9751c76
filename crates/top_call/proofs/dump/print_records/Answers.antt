use Rattle.std.proofs.Common.{refl, ◌∙◌, arith}
use Rattle.core_machine.proofs.shared.Numbering.{left_falls}
use Rattle.top_call.proofs.Dumping.{dump_starts, dump_goes, dump_cut, lists_none, lists_then, next_of_core, follows_as, cut_by}
use Rattle.top_call.proofs.dump.print_records.Goals as goal

-- nothing is printed yet, all records are left, and the core is as it was
pub loop-one-init : goal.loop-one-init
loop-one-init g c = record {
  going = dump_starts g.Sh.B.Backend.tells c.args.core.now.state.nodes (g.K.Sink.held c.args.sink.now);
  lists = lists_none g.Sh.B.Backend.tells c.args.core.now;
  missed = refl;
  later = omega arith;
  hash = tt;
}

-- the records before this one are printed whole, and of its own line at most a front, which together is a cut dump
pub returns-in_err-print_record-clause-dumps : goal.returns-in_err-print_record-clause-dumps
returns-in_err-print_record-clause-dumps g c =
    cut_by g.Sh.B.Backend.tells c.args.core.now.state.nodes (g.K.Sink.held c.args.sink.now) (g.K.Sink.held c.print_record.new.sink)
    c.from_residual-in_err-print_record.result c.in_err-print_record.field-0.0 c.from_residual-in_err-print_record.ensures.1
    (dump_cut g.Sh.B.Backend.tells c.args.core.now.state.nodes c.loop-one.last (g.K.Sink.held c.args.sink.now)
    (g.K.Sink.held c.loop-one.sink) c.loop-one.invariant.going (g.K.Sink.held c.print_record.new.sink) c.in-Some.one
    (follows_as _ c.loop-one.last _ c.in-Some.one c.as_ref.ensures.value c.in-Some.is c.in_ok-one.ensures.follows)
    (λ t. next_of_core c.args.core.now.state c.loop-one.core.state _ c.loop-one.last _ c.in-Some.one
    (c.loop-one.invariant.lists.state t) c.as_ref.ensures.value c.in-Some.is (c.in_ok-one.ensures.next t))
    c.in_err-print_record.ensures.part)

pub loop-one-smaller : goal.loop-one-smaller
loop-one-smaller g c =
    left_falls c.loop-one.last c.in-Some.one.hash c.loop-one.invariant.hash
    (follows_as _ c.loop-one.last _ c.in-Some.one c.as_ref.ensures.value c.in-Some.is c.in_ok-one.ensures.follows)

-- the record is the next one that is stored, so its line is the next of the dump, and those behind its hash are left
pub loop-one-preserved : goal.loop-one-preserved
loop-one-preserved g c =
    let follows = follows_as _ c.loop-one.last _ c.in-Some.one c.as_ref.ensures.value c.in-Some.is c.in_ok-one.ensures.follows in
    record {
      going = dump_goes g.Sh.B.Backend.tells c.args.core.now.state.nodes c.loop-one.last (g.K.Sink.held c.args.sink.now)
          (g.K.Sink.held c.loop-one.sink) c.loop-one.invariant.going (g.K.Sink.held c.print_record.new.sink) c.in-Some.one follows
          (λ t. next_of_core c.args.core.now.state c.loop-one.core.state _ c.loop-one.last _ c.in-Some.one
          (c.loop-one.invariant.lists.state t) c.as_ref.ensures.value c.in-Some.is (c.in_ok-one.ensures.next t))
          c.in_ok-print_record.ensures.wrote;
      lists = lists_then g.Sh.B.Backend.tells c.args.core.now c.loop-one.core c.next_stored.new.self c.loop-one.invariant.lists
          c.next_stored.ensures.lists;
      missed = c.in_ok-one.ensures.missed ∙ c.loop-one.invariant.missed;
      later = omega (arith, c.loop-one.invariant.later, c.print_record.ensures.later);
      hash = (follows.size, follows.bytes);
    }
