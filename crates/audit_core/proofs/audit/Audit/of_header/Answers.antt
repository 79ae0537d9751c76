use Rattle.std.proofs.Common.{[], None, refl, length, rules}
use Rattle.std.proofs.lemmas.Bool.{cond-true, eq-eqb}
use Rattle.audit_core.proofs.audit.Audit.of_header.Goals as goal

pub returns-clause-ok : goal.returns-clause-ok
returns-clause-ok c = (
  record { header = c.args.bytes.now; items = []; txs = None },
  cond-true _ _ _ (eq-eqb (length c.args.bytes.now) 118 (search rules)),
  λ half. record {
    header = c.in-Ok.ensures.bytes;
    reads = c.in-Ok.ensures.reads;
    state = c.in_ok-state.ensures half;
    txs = c.in_ok-txs.ensures half;
    given = refl;
  },
)
