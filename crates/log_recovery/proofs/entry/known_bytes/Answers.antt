use Rattle.std.proofs.Common.{arith}
use Rattle.log_recovery.proofs.Fitting.{bytes_from}
use Rattle.log_recovery.proofs.entry.known_bytes.Goals as goal

pub returns : goal.returns
returns c = bytes_from c.args.bytes.now (λ k. omega (arith, c.type_inv.bytes k))
