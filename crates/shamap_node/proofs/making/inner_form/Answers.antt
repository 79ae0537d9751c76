use Rattle.std.proofs.Common.{ap, ◌∙◌, ◌++◌}
use Rattle.shamap_node.proofs.Appending.{form_more}
use Rattle.shamap_node.proofs.making.inner_form.Goals as goal

-- the next hash stands behind those before it
pub loop-hash-preserved : goal.loop-hash-preserved
loop-hash-preserved c =
    form_more c.args.hashes.now c.loop-hash.hash-index c.hash-item.result c.loop-hash.made.bytes.items c.add.new.self.bytes.items
    c.loop-hash-test.true c.loop-hash.invariant
    (c.in_ok-add.ensures ∙ ap (λ h. c.loop-hash.made.bytes.items ++ h) c.hash-item.is)
