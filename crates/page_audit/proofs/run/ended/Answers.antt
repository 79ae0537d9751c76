use Rattle.std.proofs.Common.{◌≡◌, sym, ◌∙◌, [], length, subst, Option}
use Rattle.std.proofs.lemmas.Bool.{eqb-true}
use Rattle.ledger_spec.specs.Bytes.{Bytes}
use Rattle.audit_core.specs.Runs.{Ends}
use Rattle.audit_core.proofs.shared.Cuts.{none_left}
use Rattle.audit_core.proofs.shared.Underway.{kept_some}
use Rattle.page_audit.specs.Keeping.{KeepsPages}
use Rattle.page_audit.specs.Pages.{Paged, page_most, after_page, Comes}
use Rattle.audit_core.specs.declared.answer.Answer.TheVariants.{Refused}
use Rattle.page_audit.proofs.run.ended.Goals as goal

pub returns-in-Some : goal.returns-in-Some
returns-in-Some g c short p keeps =
    let size : length c.args.rest.now ≡ 0 = eqb-true (length c.args.rest.now) 0 (sym c.is_empty.ensures ∙ c.if-not-is_empty.false) in
    let none : c.args.rest.now ≡ [] = none_left c.args.rest.now size in
    subst (λ (r : Bytes). Ends Refused page_most after_page (Comes g.H.NodeHash.half c.args.expect) c.args.n p r c.last_page.result)
    (sym none)
    (kept_some (KeepsPages g.H.NodeHash.half) c.args.pages c.in-Some.pages
    (λ (o : Option Paged). Ends Refused page_most after_page
    (Comes g.H.NodeHash.half c.args.expect) c.args.n o [] c.last_page.result) c.in-Some.is
    c.last_page.ensures p keeps)
