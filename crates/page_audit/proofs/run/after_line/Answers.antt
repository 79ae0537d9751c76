use Rattle.std.proofs.Common.{◌≡◌, Option, Some, Ok, Err, sym, ap, ◌∙◌}
use Rattle.std.specs.Option.{option_map}
use Rattle.std.proofs.lemmas.Result.{IfOk-weaker, IfErr-weaker}
use Rattle.json.specs.Value.{value_view as view}
use Rattle.audit_core.proofs.shared.Underway.{kept_some}
use Rattle.page_audit.specs.Documents.{document}
use Rattle.page_audit.specs.Pages.{Paged, after_page}
use Rattle.page_audit.specs.Keeping.{KeepsPages}
use Rattle.page_audit.proofs.Paging.{next_line}
use Rattle.page_audit.proofs.run.after_line.Goals as goal

pub returns-clause-ok : goal.returns-clause-ok
returns-clause-ok g c =
    let half = g.H.NodeHash.half in
    let read : Some (view c.in-Some.document) ≡ document c.args.line.now =
    ap (option_map view) (sym c.in-Some.is) ∙ c.in_ok-document.ensures in
    IfOk-weaker c.next.result _ _
    (λ after ok. kept_some (KeepsPages half) c.args.pages c.in-Some-pages.pages
    (λ (o : Option Paged). (x : Paged) × (after_page o c.args.line.now ≡ Ok x) × KeepsPages half after x) c.in-Some-pages.is
    (λ p keeps. let q = ok p keeps in (
      q.0,
      next_line p (view c.result_of-object.result.now) c.args.line.now (view c.in-Some.document) read c.result_of-object.ensures ∙ q.1,
      q.2,
    ))) c.next.ensures.ok

pub returns-clause-cause : goal.returns-clause-cause
returns-clause-cause g c =
    let half = g.H.NodeHash.half in
    let read : Some (view c.in-Some.document) ≡ document c.args.line.now =
    ap (option_map view) (sym c.in-Some.is) ∙ c.in_ok-document.ensures in
    IfErr-weaker c.next.result _ _
    (λ fault next cause s is keeps. kept_some (KeepsPages half) c.args.pages c.in-Some-pages.pages
    (λ (o : Option Paged). after_page o c.args.line.now ≡ Err cause) c.in-Some-pages.is
    (λ p kept. next_line p (view c.result_of-object.result.now) c.args.line.now (view c.in-Some.document) read c.result_of-object.ensures
    ∙ next cause p is kept) s keeps) c.next.ensures.cause
