-- a chunk is taken or refused, and at the end the branches are those of all chunks
use Rattle.std.proofs.Common.{sym, ◌∙◌}
use Rattle.std.proofs.lemmas.Result.{err_from_is_err_and}
use Rattle.node_wire.proofs.TakingBytes.{all_read, chunk_refused, chunk_taken}
use Rattle.node_wire.proofs.chunks.take_chunks.Goals as goal

-- all chunks before this one were taken, so it is the first to be refused, and for its cause the node is
pub returns-in_err-take_chunk-clause-cause : goal.returns-in_err-take_chunk-clause-cause
returns-in_err-take_chunk-clause-cause c =
    let p = err_from_is_err_and c.from_residual.result c.from_residual.ensures.1 in
    let read = chunk_refused c.args.front.now c.loop-rest.hashes c.loop-rest.rest.now c.if-front-ne0.false c.loop-rest.invariant.whole
    c.loop-rest.invariant.same
    _ c.in_err-take_chunk.field-0.0 (sym c.is_empty.ensures ∙ c.loop-rest-test.true) c.split_at.ensures.front
    c.in_err-take_chunk.ensures.cause.0 c.in_err-take_chunk.ensures.tells
    in
    rw (p.1, p.2) (read.0, c.in_err-take_chunk.ensures.cause.1)

-- all chunks before this one were taken, so its position is that of the first chunk that is refused
pub returns-in_err-take_chunk-clause-tells : goal.returns-in_err-take_chunk-clause-tells
returns-in_err-take_chunk-clause-tells c =
    let p = err_from_is_err_and c.from_residual.result c.from_residual.ensures.1 in
    let read = chunk_refused c.args.front.now c.loop-rest.hashes c.loop-rest.rest.now c.if-front-ne0.false c.loop-rest.invariant.whole
    c.loop-rest.invariant.same
    _ c.in_err-take_chunk.field-0.0 (sym c.is_empty.ensures ∙ c.loop-rest-test.true) c.split_at.ensures.front
    c.in_err-take_chunk.ensures.cause.0 c.in_err-take_chunk.ensures.tells
    in
    rw (p.1, p.2) read.1

-- the chunk has filled its branch, so the chunks behind it make of the branches now what all make of empty ones
pub loop-rest-preserved : goal.loop-rest-preserved
loop-rest-preserved c =
    let next = chunk_taken c.args.front.now c.loop-rest.hashes c.loop-rest.rest.now c.if-front-ne0.false c.loop-rest.invariant.whole
    c.loop-rest.invariant.same
    c.take_chunk.new.hashes _ _ (sym c.is_empty.ensures ∙ c.loop-rest-test.true) c.split_at.ensures.front c.split_at.ensures.back
    c.in_ok-take_chunk.ensures.taken c.in_ok-take_chunk.ensures.fits
    in
    record { whole = next.0; same = next.1 }

-- no chunk is left, so the branches are what all chunks make
pub returns-clause-read : goal.returns-clause-read
returns-clause-read c =
    all_read c.args.front.now c.loop-rest.hashes c.loop-rest.rest.now c.if-front-ne0.false c.loop-rest.invariant.whole
    c.loop-rest.invariant.same
    (sym c.is_empty.ensures ∙ c.loop-rest-test.false)
