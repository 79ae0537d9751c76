use Rattle.std.proofs.Common.{arith, sym, ap, subst, inr, ◌∙◌, ◌+◌, ◌++◌, [], ◌∷◌, ℕ, List, length, take}
use Rattle.std.proofs.lemmas.Result.{on_ok_weaker, on_err_weaker}
use Rattle.log_shelf.specs.Disks.{Holds}
use Rattle.log_shelf.specs.Entries.{entries_of}
use Rattle.log_shelf.specs.Logs.{behind, told_entries}
use Rattle.log_shelf.proofs.Logs.{behind-holds}
use Rattle.log_shelf.proofs.Steps.{log-ready, length-body_of, doubted-true}
use Rattle.log_shelf.proofs.log.Log.add.Goals as goal

-- the entry stands behind the closed gate
pub publish-requires-clause-ready : goal.publish-requires-clause-ready
publish-requires-clause-ready g c =
    let disk = c.write_body.new.disk in
    let body = c.requires.body in
    log-ready c.close.new.self.tail (g.D.Disk.seen disk) c.args.entry.now (g.D.Disk.may_leave disk) (g.D.Disk.may_leave disk)
    c.write_body.ensures.log
    (g.met.D.Disk.seen_stays disk)
    (subst (λ (b : List ℕ). Holds (g.D.Disk.seen disk) (c.close.new.self.tail + 1) b) body c.in_ok-write_body.ensures.ok.1)
    (omega (arith, c.in_ok-write_body.ensures.ok.2, ap length body, length-body_of c.args.entry.now))
    c.in_ok-write_body.ensures.ok.0

pub publish-requires-clause-len : goal.publish-requires-clause-len
publish-requires-clause-len g c =
    let disk = c.write_body.new.disk in
    let body = c.requires.body in
    ap length (sym (behind-holds c.close.new.self.tail (g.D.Disk.seen disk) c.args.entry.now
    (omega (arith, c.in_ok-write_body.ensures.ok.2, ap length body, length-body_of c.args.entry.now))
    (subst (λ (b : List ℕ). Holds (g.D.Disk.seen disk) (c.close.new.self.tail + 1) b) body c.in_ok-write_body.ensures.ok.1)))

-- what was told is the same, and the entry comes to it
pub returns-clause-added : goal.returns-clause-added
returns-clause-added g c =
    let disk = c.write_body.new.disk in
    let body = c.requires.body in
    let same = behind-holds c.close.new.self.tail (g.D.Disk.seen disk) c.args.entry.now
    (omega (arith, c.in_ok-write_body.ensures.ok.2, ap length body, length-body_of c.args.entry.now))
    (subst (λ (b : List ℕ). Holds (g.D.Disk.seen disk) (c.close.new.self.tail + 1) b) body c.in_ok-write_body.ensures.ok.1) in
    let front = c.write_body.ensures.front
    ∙ (ap (λ (n : ℕ). take n (g.D.Disk.seen c.close.new.self.disk)) c.close.ensures.tail ∙ c.close.ensures.front) in
    record {
      told = on_ok_weaker c.publish.result
          (λ h. h ∙ (ap (λ (told : List (List ℕ)). told ++ behind c.close.new.self.tail (g.D.Disk.seen disk) ∷ []) (ap entries_of front)
          ∙ ap (λ (e : List ℕ). told_entries c.args.self.now.tail (g.D.Disk.seen c.args.self.now.disk) ++ e ∷ []) same))
          c.publish.ensures.opened.told;
      ok = on_ok_weaker c.publish.result
          (λ h. (h.0, h.1 ∙ ap (λ (n : ℕ). n + 9 + length c.args.entry.now) c.close.ensures.tail))
          c.publish.ensures.opened.ok;
      front = sym (ap (λ (n : ℕ). take n (g.D.Disk.seen c.publish.new.self.disk)) c.close.ensures.tail)
          ∙ (c.publish.ensures.around.front ∙ front);
      err = on_err_weaker c.publish.result
          (λ h. (
            h.1 ∙ c.close.ensures.tail,
            inr (inr (doubted-true c.close.new.self.tail c.publish.new.self.tail c.publish.new.self.doubt (g.D.Disk.seen
                c.publish.new.self.disk)
                c.args.entry.now h.0 h.1 (c.publish.ensures.around.same ∙ same))),
          ))
          c.publish.ensures.opened.err;
    }
