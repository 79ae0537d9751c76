use Rattle.std.proofs.Common.{arith, ap, ◌∙◌, sym, ◌≡◌, ◌*◌, ◌-◌, ◌++◌, subst, take, drop}
use Rattle.std.specs.List.{concat}
use Rattle.ledger_spec.specs.Forms.{inner_prefix}
use Rattle.root_pass.specs.declared.pass.Last.{Last}
use Rattle.root_pass.specs.Passed.{SeenBy, Waits}
use Rattle.root_pass.proofs.Passing.{none_root, waits_root}
use Rattle.root_pass.proofs.pass.Pass.root.Goals as goal

pub returns-in-None : goal.returns-in-None
returns-in-None g c items seen =
    c.zero.ensures ∙ none_root g.H.NodeHash.half c.args.self.kind c.args.self.rows items c.args.self.last c.in-None.is seen

pub returns : goal.returns
returns g c items seen =
    let half = g.H.NodeHash.half in
    let waits = subst (λ (l : Last). Waits half c.args.self.kind c.args.self.rows items l) (sym c.in-Some.last-is)
    (subst (SeenBy half c.args.self.kind c.args.self.rows items) c.in-Some.is seen) in
    let first : c.settle.new.rows.depth - 1 ≡ 0 = omega (arith, c.settle.ensures.depth) in
    c.lowest_hash.ensures.hash
    ∙ ap (λ i. half (inner_prefix ++ concat (take 16 (drop (16 * i) c.settle.new.rows.cells.items)))) first
    ∙ waits_root half c.args.self.kind c.args.self.rows c.settle.new.rows items _ waits c.lowest_hash.ensures.long
    (c.settle.ensures.full c.args.self.kind items waits)
