use Rattle.std.proofs.Common.{arith, sym, ap, subst, ◌∙◌, [], ◌∷◌, ℕ, List, true, slice_index, take}
use Rattle.log_shelf.specs.Disks.{Only}
use Rattle.log_shelf.specs.Logs.{behind}
use Rattle.log_shelf.proofs.Steps.{log-gate, gate-front, gate-behind, log-settled, written-torn, written-holds, holds-byte}
use Rattle.std.proofs.lemmas.Result.{on_ok_weaker}
use Rattle.log_shelf.proofs.log.write_gate.Goals as goal

-- the write was cut short
pub returns-in_err-write_at-clause-log : goal.returns-in_err-write_at-clause-log
returns-in_err-write_at-clause-log g c =
    log-gate c.args.tail (g.D.Disk.seen c.args.disk.now) (g.D.Disk.seen c.write_at.new.self) (g.D.Disk.may_leave c.args.disk.now)
    (g.D.Disk.may_leave c.write_at.new.self)
    c.requires.log (g.met.D.Disk.seen_stays c.args.disk.now) c.in_err-write_at.ensures.wrote.torn c.write_at.ensures.wrote.stop

pub returns-in_err-write_at-clause-around : goal.returns-in_err-write_at-clause-around
returns-in_err-write_at-clause-around g c =
    record {
      front = gate-front c.args.tail true (g.D.Disk.seen c.args.disk.now) (g.D.Disk.seen c.write_at.new.self) (g.D.Disk.may_leave
          c.args.disk.now)
          1 c.args.tail
          c.requires.log (g.met.D.Disk.seen_stays c.args.disk.now) c.in_err-write_at.ensures.wrote.torn (omega arith);
      same = gate-behind c.args.tail (g.D.Disk.seen c.args.disk.now) (g.D.Disk.seen c.write_at.new.self) (g.D.Disk.may_leave
          c.args.disk.now)
          c.requires.log (g.met.D.Disk.seen_stays c.args.disk.now) c.in_err-write_at.ensures.wrote.torn;
    }

-- it was written to the end, and then synced or not
pub returns-clause-log : goal.returns-clause-log
returns-clause-log g c =
    let seen = g.D.Disk.seen c.args.disk.now in
    let stays = g.met.D.Disk.seen_stays c.args.disk.now in
    let torn = written-torn c.args.tail c.args.tail true seen (g.D.Disk.seen c.write_at.new.self) (c.args.gate ∷ []) (g.D.Disk.may_leave
    c.args.disk.now)
    c.requires.log stays (omega arith) c.in_ok-write_at.ensures.wrote.written in
    log-settled c.args.tail true (g.D.Disk.seen c.write_at.new.self) (g.D.Disk.seen c.settle.new.disk) (g.D.Disk.may_leave
    c.write_at.new.self) (g.D.Disk.may_leave c.settle.new.disk)
    (log-gate c.args.tail seen (g.D.Disk.seen c.write_at.new.self) (g.D.Disk.may_leave c.args.disk.now) (g.D.Disk.may_leave
    c.write_at.new.self)
    c.requires.log stays torn c.write_at.ensures.wrote.stop)
    c.settle.ensures.kept.seen c.settle.ensures.kept.stop

pub returns-clause-around : goal.returns-clause-around
returns-clause-around g c =
    let seen = g.D.Disk.seen c.args.disk.now in
    let stays = g.met.D.Disk.seen_stays c.args.disk.now in
    let torn = written-torn c.args.tail c.args.tail true seen (g.D.Disk.seen c.write_at.new.self) (c.args.gate ∷ []) (g.D.Disk.may_leave
    c.args.disk.now)
    c.requires.log stays (omega arith) c.in_ok-write_at.ensures.wrote.written in
    record {
      front = ap (take c.args.tail) c.settle.ensures.kept.seen
          ∙ gate-front c.args.tail true seen (g.D.Disk.seen c.write_at.new.self) (g.D.Disk.may_leave c.args.disk.now) 1 c.args.tail
          c.requires.log stays torn (omega arith);
      same = ap (behind c.args.tail) c.settle.ensures.kept.seen
          ∙ gate-behind c.args.tail seen (g.D.Disk.seen c.write_at.new.self) (g.D.Disk.may_leave c.args.disk.now) c.requires.log stays torn;
    }

pub returns-clause-ok : goal.returns-clause-ok
returns-clause-ok g c =
    let seen = g.D.Disk.seen c.args.disk.now in
    let held = written-holds c.args.tail c.args.tail true seen (g.D.Disk.seen c.write_at.new.self) (c.args.gate ∷ [])
    (g.D.Disk.may_leave c.args.disk.now)
    c.requires.log (g.met.D.Disk.seen_stays c.args.disk.now) (omega arith) c.in_ok-write_at.ensures.wrote.written in
    on_ok_weaker c.settle.result
    (λ only. (
      subst (λ (x : List ℕ). Only x (g.D.Disk.may_leave c.settle.new.disk)) (sym c.settle.ensures.kept.seen) only,
      ap (λ (x : List ℕ). slice_index x c.args.tail) c.settle.ensures.kept.seen
          ∙ holds-byte c.args.tail c.args.gate (g.D.Disk.seen c.write_at.new.self) held,
    ))
    c.settle.ensures.durable
