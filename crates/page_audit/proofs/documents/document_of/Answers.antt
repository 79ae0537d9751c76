use Rattle.std.proofs.Common.{Err, sym, ap}
use Rattle.page_audit.proofs.Texted.{document_some, document_none}
use Rattle.page_audit.proofs.documents.document_of.Goals as goal

pub returns-in-Ok : goal.returns-in-Ok
returns-in-Ok c = let h = c.in-Ok.ensures.ok in sym (document_some c.args.line.now _ h.0 h.1)

pub returns-in-Err-Invalid : goal.returns-in-Err-Invalid
returns-in-Err-Invalid c = sym (document_none c.args.line.now (c.in-Err-Invalid.ensures.invalid (ap Err c.in-Err-Invalid.field-0-is)))
