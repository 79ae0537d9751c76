-- a header's bytes are 118, and read as it alone
use Rattle.std.proofs.Common.{Ok, ap}
use Rattle.ledger_header.proofs.shared.Joined.{parted, length-header_bytes}
use Rattle.ledger_header.proofs.Joined.{one_header}
use Rattle.ledger_header.proofs.Header.decode.Goals as goal

pub returns-then-bytes-ne118-clause-back : goal.returns-then-bytes-ne118-clause-back
returns-then-bytes-ne118-clause-back c = λ h is e. absurd (c.if-bytes-ne118.true (length-header_bytes h c.args.bytes.now is e))

pub returns-clause-back : goal.returns-clause-back
returns-clause-back c = λ h is e. ap Ok
    (one_header c.header_in.result h c.args.bytes.now c.header_in.ensures.reads (parted h c.args.bytes.now is e))
