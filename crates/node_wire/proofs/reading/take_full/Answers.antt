use Rattle.std.proofs.Common.{arith, ◌≡◌, ◌<◌, length, length-set, ◌∙◌}
use Rattle.ledger_spec.proofs.shared.Hashes.{read_step, left_step, read_all}
use Rattle.node_wire.proofs.Wires.{full_is}
use Rattle.node_wire.proofs.reading.take_full.Goals as goal

-- the next 32 bytes become the next hash, and the rest begins right behind them
pub loop-b-preserved : goal.loop-b-preserved
loop-b-preserved c =
    let lt : c.loop-b.b < length c.loop-b.hashes = omega arith in
    record {
      size = length-set c.loop-b.hashes c.loop-b.b c.from_slice.result ∙ c.loop-b.invariant.size;
      left = left_step c.loop-b.b c.loop-b.rest.now _ c.args.front.now c.loop-b.invariant.left c.split_at.ensures.back;
      read = read_step c.loop-b.hashes c.loop-b.b c.from_slice.result c.loop-b.rest.now _ c.args.front.now lt c.loop-b.invariant.left
          c.split_at.ensures.front c.from_slice.ensures c.loop-b.invariant.read;
    }

pub returns-clause-read : goal.returns-clause-read
returns-clause-read c =
    let end : c.loop-b.b ≡ 16 = omega arith in
    full_is c.args.front.now c.loop-b.hashes c.if-front-ne512.false
    (read_all c.loop-b.hashes 16 c.loop-b.b c.args.front.now c.loop-b.invariant.size end c.loop-b.invariant.read)
