use Rattle.std.proofs.Common.{◌≡◌, is_some, List, Some, refl, sym, ap, ◌∙◌}
use Rattle.std.proofs.lemmas.Result.{err_from_is_err_and}
use Rattle.std.specs.Prelude.{codes}
use Rattle.json.specs.Find.{get}
use Rattle.json.specs.Value.{value_view as view, items_view}
use Rattle.json.specs.declared.value.Value.{Value}
use Rattle.std.specs.declared.alloc.Global.{Global}
use Rattle.page_audit.specs.Documents.{list_in}
use Rattle.page_audit.proofs.Paging.{is_some_map, page_taken, page_refused}
use Rattle.page_audit.proofs.pages.PageAudit.with_page.Goals as goal

pub returns-in_err-add_items-clause-cause : goal.returns-in_err-add_items-clause-cause
returns-in_err-add_items-clause-cause g c =
    let p = err_from_is_err_and c.from_residual.result c.from_residual.ensures.1 in
    rw (p.1, p.2)
    (λ cause p is keeps. let list : Some (items_view c.deref.result.now) ≡ list_in (view c.args.object.now) =
    ap (λ (vs : List (Value Global)). Some (items_view vs)) c.deref.ensures.value ∙ c.in-Some.ensures in
    page_refused p (view c.args.object.now) (items_view c.deref.result.now) cause list
    (c.in_err-add_items.ensures.cause cause p.said is keeps.said))

pub returns-clause-ok : goal.returns-clause-ok
returns-clause-ok g c p keeps =
    let list : Some (items_view c.deref.result.now) ≡ list_in (view c.args.object.now) =
    ap (λ (vs : List (Value Global)). Some (items_view vs)) c.deref.ensures.value ∙ c.in-Some.ensures in
    let more : c.is_some.result ≡ is_some (get (codes "marker") (view c.args.object.now)) =
    c.is_some.ensures ∙ sym (is_some_map _ c.get.result) ∙ ap is_some c.get.ensures in
    let t = c.in_ok-add_items.ensures.ok p.said keeps.said in (
      record { said = t.0; hash = p.hash; more = c.is_some.result },
      page_taken p (view c.args.object.now) (items_view c.deref.result.now) t.0 c.is_some.result list t.1 more,
      record { said = t.2; hash = keeps.hash; more = refl },
    )
