use Rattle.std.proofs.Common.{arith, ◌-◌, ◌≤◌, ap, ◌∙◌, sym, subst, ℕ}
use Rattle.nib_path.specs.Paths.{nibble_of}
use Rattle.ledger_spec.specs.declared.Kind.TheVariants.{State}
use Rattle.root_pass.specs.Rows.{IsCrowded}
use Rattle.root_pass.proofs.Steps.{Sets, closing, crowd_up}
use Rattle.root_pass.proofs.rows.Rows.close_to.Goals as goal

pub loop-self-preserved : goal.loop-self-preserved
loop-self-preserved g c =
    let n : ℕ = c.loop-self.self.depth in
    let row : ℕ = n - 1 - 1 in
    let few : c.loop-self.self.depth ≤ 64 = c.loop-self.self.few in
    let sets : Sets c.loop-self.self.cells.items c.set.new.self.cells.items row (nibble_of c.args.key.now row) c.lowest_hash-hash.result =
    subst (λ b. Sets c.loop-self.self.cells.items c.set.new.self.cells.items row b c.lowest_hash-hash.result)
    (c.nibble.ensures.value ∙ ap (λ k. nibble_of k row) c.key.view_is)
    (record { this = c.set.ensures.this; others = c.set.ensures.others }) in
    record {
      within = λ above. omega (arith, c.set.ensures.depth);
      most = omega (arith, c.set.ensures.depth, c.loop-self.invariant.most);
      full = λ kind items crowded full.
          closing g.H.NodeHash.half kind c.args.key.now c.known.ensures items c.lowest_hash-hash.result c.loop-self.self.cells.items
          c.set.new.self.cells.items
          n c.set.new.self.depth row (omega arith) (omega arith) few c.lowest_hash-hash.ensures.long c.lowest_hash-hash.ensures.hash sets
          (c.loop-self.invariant.crowded items ((crowded (omega (arith, c.loop-self.invariant.most, c.loop-self-test.true)))))
          (c.loop-self.invariant.full kind items crowded full);
      crowded = λ items crowded.
          subst (λ (m : ℕ). IsCrowded items c.args.key.now m) (sym c.set.ensures.depth)
          (crowd_up g.H.NodeHash.half State c.args.key.now c.known.ensures items n (omega arith) few
          (c.loop-self.invariant.crowded items crowded));
    }
