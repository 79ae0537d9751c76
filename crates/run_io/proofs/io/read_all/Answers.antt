use Rattle.std.proofs.Common.{arith}
use Rattle.std.proofs.lemmas.List.{append-nil, length-take}
use Rattle.std.proofs.lemmas.Result.{err_from_is_err_and}
use Rattle.run_io.proofs.Bytes.{reading_start, reading_step, reading_full, reading_ended, took_ended, took_full, took_part}
use Rattle.run_io.proofs.shared.Bytes.{rose_later}
use Rattle.run_io.proofs.io.read_all.Goals as goal

-- nothing was read yet, so nothing is held and the whole input is left
pub loop-held-init : goal.loop-held-init
loop-held-init g c = record {
  reading = rw c.new-held.ensures.items (reading_start (g.S.Source.left c.args.source.now));
  most =
      omega arith;
  room = c.in_ok-buf.ensures.len;
  later = omega arith;
}

-- what this read took goes behind what is held, and it asked for no more than is still wanted
pub loop-held-preserved : goal.loop-held-preserved
loop-held-preserved g c =
    let i = c.loop-held.invariant in
    let n = c.in_ok-n.ensures in
    record {
      reading = rw n.held (reading_step _ _ _ _ _ _ _ i.reading n.read.taken);
      most = omega (
        arith,
        n.len,
        n.read.within,
        length-take c.min-room.result c.deref_mut.result.now,
        c.min-room.ensures,
        c.len-in-loop-held.ensures,
        i.most,
      );
      room = i.room;
      later = omega (arith, n.counts.later, i.later);
    }

pub returns-in_err-n-clause-counts : goal.returns-in_err-n-clause-counts
returns-in_err-n-clause-counts g c =
    let p = err_from_is_err_and c.from_residual-in_err-n.result c.from_residual-in_err-n.ensures.1 in
    record {
      later = omega (arith, c.in_err-n.ensures.counts.later, c.loop-held.invariant.later);
      cause = rw (p.1, p.2) (λ e. rose_later _ _ _ c.loop-held.invariant.later (c.in_err-n.ensures.counts.cause e));
    }

-- a read of nothing into room for some is the end of input, so what is held is all of it, and no more than was wanted
pub returns-then-n-eq0-clause-read : goal.returns-then-n-eq0-clause-read
returns-then-n-eq0-clause-read g c =
    let i = c.loop-held.invariant in
    let n = c.in_ok-n.ensures in
    let room = length-take c.min-room.result c.deref_mut.result.now in
    let all = reading_ended _ _ _ c.loop-held.held.items _ c.in_ok-n.n _ c.args.most i.reading n.read.taken c.if-n-eq0.true
    (omega (
      arith,
      room,
      c.deref_mut.ensures.len,
      i.room,
      c.min-room.ensures,
      c.len-in-loop-held.ensures,
      c.loop-held-test.true,
      c.len.ensures,
    )) (omega (arith, i.most, c.loop-held.held.ok.0)) in
    rw (n.held, c.if-n-eq0.true, append-nil) all

pub returns-clause-read : goal.returns-clause-read
returns-clause-read g c = reading_full _ _ _ _
    (omega (arith, c.loop-held-test.false, c.len.ensures, c.loop-held.invariant.most, c.loop-held.held.ok.0)) c.loop-held.invariant.reading

pub returns-clause-rest : goal.returns-clause-rest
returns-clause-rest g c = took_full _ _ c.loop-held.held.items _
    (omega (arith, c.loop-held-test.false, c.len.ensures, c.loop-held.invariant.most, c.loop-held.held.ok.0)) c.loop-held.invariant.reading

-- at the end of input all of it is held, no more than was wanted, so nothing is left behind that many bytes
pub returns-then-n-eq0-clause-rest : goal.returns-then-n-eq0-clause-rest
returns-then-n-eq0-clause-rest g c =
    let i = c.loop-held.invariant in
    let room = length-take c.min-room.result c.deref_mut.result.now in
    took_ended _ _ _ c.loop-held.held.items _ c.in_ok-n.n _ c.args.most i.reading c.in_ok-n.ensures.read.taken c.if-n-eq0.true
    (omega (
      arith,
      room,
      c.deref_mut.ensures.len,
      i.room,
      c.min-room.ensures,
      c.len-in-loop-held.ensures,
      c.loop-held-test.true,
      c.len.ensures,
    )) (omega (arith, i.most, c.loop-held.held.ok.0))

-- behind what is held, the failed read took at most the room that was left, so together no more than was wanted
pub returns-in_err-n-clause-part : goal.returns-in_err-n-clause-part
returns-in_err-n-clause-part g c =
    let p = err_from_is_err_and c.from_residual-in_err-n.result c.from_residual-in_err-n.ensures.1 in
    let i = c.loop-held.invariant in
    let room = length-take c.min-room.result c.deref_mut.result.now in
    rw p.1 (took_part _ _ _ c.loop-held.held.items _ c.args.most i.reading c.in_err-n.ensures.part
    (omega (
      arith,
      room,
      c.min-room.ensures,
      c.len-in-loop-held.ensures,
      c.loop-held-test.true,
      c.len.ensures,
      i.most,
      c.loop-held.held.ok.0,
    )))
