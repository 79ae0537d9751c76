use Rattle.std.proofs.Common.{arith, ◌-◌, ap, ◌∙◌, sym, subst, ℕ, ◌++◌, ◌∷◌, []}
use Rattle.nib_path.specs.Paths.{nibble_of}
use Rattle.root_pass.specs.Rows.{IsFull}
use Rattle.root_pass.proofs.Steps.{Sets, leaf_put}
use Rattle.root_pass.proofs.rows.Rows.put_leaf.Goals as goal

pub returns-clause-full : goal.returns-clause-full
returns-clause-full c half kind items bytes is was =
    let row : ℕ = c.args.self.now.depth - 1 in
    let sets : Sets c.args.self.now.cells.items c.set.new.self.cells.items row (nibble_of c.args.key.now row) c.args.hash =
    subst (λ b. Sets c.args.self.now.cells.items c.set.new.self.cells.items row b c.args.hash)
    (c.nibble.ensures.value ∙ ap (λ k. nibble_of k row) c.key.view_is)
    (record { this = c.set.ensures.this; others = c.set.ensures.others }) in
    subst (λ (n : ℕ). IsFull half kind (items ++ (c.args.key.now, bytes) ∷ []) c.args.key.now c.set.new.self.cells.items n)
    (sym c.set.ensures.depth)
    (leaf_put half kind c.args.key.now c.known.ensures items bytes c.args.hash c.args.self.now.cells.items c.set.new.self.cells.items
    c.args.self.now.depth
    row (omega arith) (omega arith) is sets was)
