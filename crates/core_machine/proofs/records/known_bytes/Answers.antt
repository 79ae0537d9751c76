use Rattle.core_machine.proofs.shared.Numbering.{bytes_from}
use Rattle.core_machine.proofs.records.known_bytes.Goals as goal

pub returns : goal.returns
returns c = bytes_from c.args.bytes.now (λ k l. c.fits-bytes k)
