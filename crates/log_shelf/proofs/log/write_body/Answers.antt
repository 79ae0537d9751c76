use Rattle.std.proofs.Common.{arith, sym, subst, ◌+◌, ◌^◌, ℕ, List, false, length}
use Rattle.log_shelf.specs.Disks.{Holds, Only}
use Rattle.log_shelf.proofs.Steps.{gate-front, log-body, log-settled, written-torn, written-holds, not_above}
use Rattle.std.proofs.lemmas.Result.{on_ok_weaker}
use Rattle.log_shelf.proofs.log.write_body.Goals as goal

-- the write was cut short
pub returns-in_err-write_at-clause-log : goal.returns-in_err-write_at-clause-log
returns-in_err-write_at-clause-log g c =
    log-body c.args.tail (length c.args.body.now) (g.D.Disk.seen c.args.disk.now) (g.D.Disk.seen c.write_at.new.self)
    (g.D.Disk.may_leave c.args.disk.now) (g.D.Disk.may_leave c.write_at.new.self)
    c.requires.log (g.met.D.Disk.seen_stays c.args.disk.now) c.in_err-write_at.ensures.wrote.torn c.write_at.ensures.wrote.stop

pub returns-in_err-write_at-clause-front : goal.returns-in_err-write_at-clause-front
returns-in_err-write_at-clause-front g c =
    gate-front c.args.tail false (g.D.Disk.seen c.args.disk.now) (g.D.Disk.seen c.write_at.new.self) (g.D.Disk.may_leave
    c.args.disk.now) (length c.args.body.now) (c.args.tail + 1)
    c.requires.log (g.met.D.Disk.seen_stays c.args.disk.now) c.in_err-write_at.ensures.wrote.torn (omega arith)

-- it was written to the end, and then synced or not
pub returns-clause-log : goal.returns-clause-log
returns-clause-log g c =
    let seen = g.D.Disk.seen c.args.disk.now in
    let stays = g.met.D.Disk.seen_stays c.args.disk.now in
    let torn = written-torn c.args.tail (c.args.tail + 1) false seen (g.D.Disk.seen c.write_at.new.self) c.args.body.now
    (g.D.Disk.may_leave c.args.disk.now)
    c.requires.log stays (omega arith) c.in_ok-write_at.ensures.wrote.written in
    log-settled c.args.tail false (g.D.Disk.seen c.write_at.new.self) (g.D.Disk.seen c.settle.new.disk) (g.D.Disk.may_leave
    c.write_at.new.self) (g.D.Disk.may_leave c.settle.new.disk)
    (log-body c.args.tail (length c.args.body.now) seen (g.D.Disk.seen c.write_at.new.self) (g.D.Disk.may_leave c.args.disk.now)
    (g.D.Disk.may_leave c.write_at.new.self)
    c.requires.log stays torn c.write_at.ensures.wrote.stop)
    c.settle.ensures.kept.seen c.settle.ensures.kept.stop

pub returns-clause-ok : goal.returns-clause-ok
returns-clause-ok g c =
    let seen = g.D.Disk.seen c.args.disk.now in
    let held = written-holds c.args.tail (c.args.tail + 1) false seen (g.D.Disk.seen c.write_at.new.self) c.args.body.now
    (g.D.Disk.may_leave c.args.disk.now)
    c.requires.log (g.met.D.Disk.seen_stays c.args.disk.now) (omega arith) c.in_ok-write_at.ensures.wrote.written in
    on_ok_weaker c.settle.result
    (λ only. (
      subst (λ (x : List ℕ). Only x (g.D.Disk.may_leave c.settle.new.disk)) (sym c.settle.ensures.kept.seen) only,
      subst (λ (x : List ℕ). Holds x (c.args.tail + 1) c.args.body.now) (sym c.settle.ensures.kept.seen) held,
      not_above (2 ^ 63) (c.args.tail + 1 + length c.args.body.now) (λ h. absurd (cc (c.in_ok-write_at.ensures.far h))),
    ))
    c.settle.ensures.durable
