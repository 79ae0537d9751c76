use Rattle.std.proofs.Common.{ap, ◌∷◌, [], ◌++◌, ◌∙◌, arith}
use Rattle.node_wire.proofs.Written.{all_chunks, one_more}
use Rattle.node_wire.proofs.writing.compressed.Goals as goal

pub loop-b-preserved : goal.loop-b-preserved
loop-b-preserved c =
    one_more c.args.inner.now.hashes c.loop-b.b c.branch-inner.result c.loop-b.bytes.items c.add_chunk.new.bytes.items c.loop-b.invariant
    c.branch-inner.ensures
    c.in_ok-add_chunk.ensures

pub returns : goal.returns
returns c =
    c.new.ensures ∙ c.in_ok-push.ensures.items
    ∙ ap (λ bytes. bytes ++ 3 ∷ []) (all_chunks c.args.inner.now.hashes c.loop-b.b c.loop-b.bytes.items (omega arith) c.loop-b.invariant)
