-- What an audit under way keeps of what was said.
use Rattle.std.specs.Prelude.{◌≡◌, is_some}
use Rattle.ledger_spec.specs.declared.Kind.{Kind}
use Rattle.ledger_spec.specs.declared.Kind.TheVariants.{State, Tx}
use Rattle.ledger_spec.specs.Bytes.{Half, Items}
use Rattle.ledger_spec.specs.Header.{header_bytes}
use Rattle.ledger_header.specs.Fields.{fields, Reads}
use Rattle.root_pass.specs.Passed.{HasPassed}
use Rattle.audit_core.specs.declared.audit.Audit.{Audit}
use Rattle.audit_core.specs.declared.counting.Counting.{Counting}
use Rattle.audit_core.specs.Said.{Said, items_or_none}
use Rattle.audit_core.specs.Verdicts.{counted}

-- the pass saw these items of the kind, and they are counted
pub record Counts (half : Half) (kind : Kind) (c : Counting) (items : Items) : Type 0 where
  pub kind_is : c.pass.kind ≡ kind
  pub passed : HasPassed half c.pass items
  pub number : c.number ≡ counted items

-- the audit keeps what was said
pub record Keeps (half : Half) (audit : Audit) (s : Said) : Type 0 where
  pub header : header_bytes (fields audit.header) ≡ s.header
  pub reads : Reads s.header audit.header
  pub state : Counts half State audit.state s.items
  pub txs : Counts half Tx audit.txs (items_or_none s.txs)
  pub given : audit.given ≡ is_some s.txs
