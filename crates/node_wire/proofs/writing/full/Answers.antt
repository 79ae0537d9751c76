use Rattle.std.proofs.Common.{◌<◌, ◌++◌, take, length, ap, sym, ◌∙◌, arith}
use Rattle.std.specs.List.{concat}
use Rattle.half_hash.specs.Zero.{zero_hash}
use Rattle.ledger_spec.proofs.shared.Hashes.{concat_more}
use Rattle.node_wire.proofs.writing.full.Goals as goal

-- the next branch's hash comes behind those of the branches before it
pub loop-b-preserved : goal.loop-b-preserved
loop-b-preserved c =
    let lt : c.loop-b.b < length c.args.inner.now.hashes = omega (arith, c.args.inner.now.valid.count, c.loop-b-test.true) in
    c.in_ok-extend_from_slice.ensures.items ∙ ap (λ bytes. bytes ++ c.extend_from_slice.inside.bytes) c.loop-b.invariant
    ∙ ap (λ hash. concat (take c.loop-b.b c.args.inner.now.hashes) ++ hash) (c.extend_from_slice.view_is ∙ c.branch-inner.ensures)
    ∙ sym (concat_more c.args.inner.now.hashes c.loop-b.b zero_hash lt)
