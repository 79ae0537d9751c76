-- the prefix, and the bytes behind it
use Rattle.std.proofs.Common.{refl, arith}
use Rattle.ledger_header.proofs.Joined.{two_puts}
use Rattle.ledger_header.proofs.Header.form.Goals as goal

pub returns : goal.returns
returns c = two_puts c.put.new.bytes c.put-2.new.bytes c.bytes.result c.encode.result _ _ c.bytes.ensures c.encode.ensures.bytes refl
    c.put.ensures c.put-2.ensures (omega arith)
