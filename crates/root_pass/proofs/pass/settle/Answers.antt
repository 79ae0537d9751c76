use Rattle.std.proofs.Common.{arith, sym, ◌≡◌, subst, ℕ, ◌<◌, ◌≤◌, Bool, true, false, nat_lt, refl}
use Rattle.std.proofs.lemmas.Bool.Decides.{nat_tests}
use Rattle.root_pass.specs.Rows.{IsFull}
use Rattle.root_pass.proofs.Passing.{settled}
use Rattle.root_pass.proofs.pass.settle.Goals as goal

pub returns-clause-full : goal.returns-clause-full
returns-clause-full g c kind items waits =
    let half = g.H.NodeHash.half in
    settled half kind c.args.rows.now items c.args.last.now c.open_to.new.self.cells.items c.put_leaf.new.self.cells.items
    c.close_to.new.self.cells.items
    c.open_to.new.self.depth c.put_leaf.new.self.depth c.args.depth waits
    (λ items key size was. c.open_to.ensures.stays half kind items key size was)
    (λ items bytes is was. c.put_leaf.ensures.full half kind items bytes is was)
    (λ items crowded full. subst (λ (n : ℕ). IsFull half kind items c.args.last.now.key c.close_to.new.self.cells.items n)
    (c.close_to.ensures.depth (omega (arith, c.open_to.ensures.at_least, c.put_leaf.ensures.depth)))
    (c.close_to.ensures.full kind items crowded full))
    c.put_leaf.ensures.depth (λ deep. by (nat_lt c.args.rows.now.depth c.args.depth) refl deep) c.open_to.new.self.few
  where
    by : (t : Bool) → nat_lt c.args.rows.now.depth c.args.depth ≡ t → c.args.depth < c.open_to.new.self.depth
        → c.args.rows.now.depth ≡ c.open_to.new.self.depth
    by true is deep =
        let less : c.args.rows.now.depth < c.args.depth = grind (arith, nat_tests) in
        absurd (omega (arith, c.open_to.ensures.opened less, deep))
    by false is deep =
        let more : c.args.depth ≤ c.args.rows.now.depth = grind (arith, nat_tests) in
        sym (c.open_to.ensures.kept more)
