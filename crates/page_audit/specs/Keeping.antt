-- What an audit of pages keeps of what was said.
use Rattle.std.specs.Prelude.{◌≡◌}
use Rattle.ledger_spec.specs.Bytes.{Half}
use Rattle.audit_core.specs.Keeping.{Keeps}
use Rattle.page_audit.specs.declared.pages.PageAudit.{PageAudit}
use Rattle.page_audit.specs.Pages.{Paged}

-- the audit keeps the ledger, and the hash, and whether more pages are to come
pub record KeepsPages (half : Half) (pages : PageAudit) (p : Paged) : Type 0 where
  pub said : Keeps half pages.audit p.said
  pub hash : pages.hash ≡ p.hash
  pub more : pages.more ≡ p.more
