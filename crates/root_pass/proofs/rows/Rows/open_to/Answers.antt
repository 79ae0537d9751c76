use Rattle.std.proofs.Common.{arith, ◌+◌, sym, subst, ℕ}
use Rattle.root_pass.specs.Rows.{IsOpen}
use Rattle.root_pass.proofs.Steps.{opened}
use Rattle.root_pass.proofs.rows.Rows.open_to.Goals as goal

pub loop-self-preserved : goal.loop-self-preserved
loop-self-preserved c = record {
  within = λ below. omega (arith, c.clear.ensures.depth);
  kept = λ above. absurd (omega (arith, c.loop-self.invariant.kept above, c.loop-self-test.true));
  stays = λ half kind items key size was.
      subst (λ (n : ℕ). IsOpen half kind items key c.clear.new.self.cells.items (n + 1)) (sym c.clear.ensures.depth)
      (opened half kind key size items c.loop-self.self.cells.items c.clear.new.self.cells.items c.loop-self.self.depth (omega arith)
      c.clear.ensures.zero c.clear.ensures.others (c.loop-self.invariant.stays half kind items key size was));
}
