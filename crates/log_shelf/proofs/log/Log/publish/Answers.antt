use Rattle.std.proofs.Common.{arith, ap, refl, ◌∙◌, ◌≡◌, ◌+◌, ◌++◌, [], ◌∷◌, ℕ, List, length}
use Rattle.log_shelf.specs.Entries.{entries_of}
use Rattle.log_shelf.specs.Logs.{behind, told_entries}
use Rattle.log_shelf.proofs.Steps.{log-opened, told-opened}
use Rattle.log_shelf.proofs.log.Log.publish.Goals as goal

-- the gate is open on the disk, so the entry counts
pub invariant_of-self-2 : goal.invariant_of-self-2
invariant_of-self-2 g c =
    let disk = c.write_gate.new.disk in
    record {
      kept = log-opened c.args.self.now.tail (c.args.self.now.tail + (9 + c.args.len)) (g.D.Disk.seen disk) (g.D.Disk.may_leave disk)
          (g.D.Disk.may_leave disk)
          c.write_gate.ensures.log
          (g.met.D.Disk.seen_stays disk)
          c.in_ok-write_gate.ensures.ok.1 c.in_ok-write_gate.ensures.ok.0
          (omega (arith, c.requires.len, ap length c.write_gate.ensures.around.same));
    }

pub returns-clause-opened : goal.returns-clause-opened
returns-clause-opened g c =
    let disk = c.write_gate.new.disk in
    let log = c.write_gate.ensures.log in
    let image = log.images (g.D.Disk.seen disk) (g.met.D.Disk.seen_stays disk) in
    let next : c.args.self.now.tail + (9 + c.args.len) ≡ c.args.self.now.tail + 9 + length (behind c.args.self.now.tail (g.D.Disk.seen
    disk)) =
    omega (arith, c.requires.len, ap length c.write_gate.ensures.around.same) in
    record {
      told = told-opened c.args.self.now.tail (c.args.self.now.tail + (9 + c.args.len)) (g.D.Disk.seen disk) (behind c.args.self.now.tail
          (g.D.Disk.seen disk))
          log.whole image.within c.in_ok-write_gate.ensures.ok.1 (image.in_doubt refl) next (omega (arith, log.small refl))
          ∙ (ap (λ (told : List (List ℕ)). told ++ behind c.args.self.now.tail (g.D.Disk.seen disk) ∷ []) (ap entries_of
          c.write_gate.ensures.around.front)
          ∙ ap (λ (e : List ℕ). told_entries c.args.self.now.tail (g.D.Disk.seen c.args.self.now.disk) ++ e ∷ [])
          c.write_gate.ensures.around.same);
      ok = (refl, omega arith);
      err = tt;
    }
