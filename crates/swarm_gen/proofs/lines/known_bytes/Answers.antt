use Rattle.std.proofs.Common.{arith}
use Rattle.swarm_gen.proofs.Servings.{bytes_from}
use Rattle.swarm_gen.proofs.lines.known_bytes.Goals as goal

pub returns : goal.returns
returns c = bytes_from c.args.bytes.now (λ k l. omega (arith, c.type_inv.bytes k))
