-- each field is put behind those before it
use Rattle.std.proofs.Common.{sym, ap, subst, arith, ◌∙◌}
use Rattle.ledger_spec.specs.Header.{header_bytes, IsHeader}
use Rattle.ledger_header.specs.declared.Header.{Header}
use Rattle.ledger_header.specs.Fields.{fields}
use Rattle.ledger_header.proofs.Joined.{written}
use Rattle.ledger_header.proofs.shared.Joined.{parted}
use Rattle.ledger_header.proofs.Header.encode.Goals as goal

whole : goal.returns-clause-bytes
whole c =
    written _ c.put_u32.new.bytes c.put_u64.new.bytes c.put.new.bytes c.put-2.new.bytes c.put-3.new.bytes c.put_u32-2.new.bytes
    c.put_u32-3.new.bytes c.put-4.new.bytes (subst (λ (h : Header). IsHeader (fields h)) (sym c.self.view_is) c.known.ensures)
    (omega arith) (record {
      seq = c.put_u32.ensures;
      drops = c.put_u64.ensures;
      parent = c.put.ensures;
      tx_root = c.put-2.ensures;
      state_root = c.put-3.ensures;
      parent_close = c.put_u32-2.ensures;
      close = c.put_u32-3.ensures;
      last = c.put-4.ensures;
    })
    ∙ ap (λ h. header_bytes (fields h)) c.self.view_is

pub returns-clause-bytes : goal.returns-clause-bytes
returns-clause-bytes = whole

pub returns-clause-reads : goal.returns-clause-reads
returns-clause-reads c = parted c.args.self.now c.put-4.new.bytes c.known.ensures (whole c)
