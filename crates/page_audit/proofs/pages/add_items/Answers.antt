use Rattle.std.proofs.Common.{◌≡◌, List, [], drop, Ok, Err, ap, ◌∙◌, subst, arith}
use Rattle.std.proofs.lemmas.Result.{err_from_is_err_and}
use Rattle.std.proofs.lemmas.List.{drop_all}
use Rattle.json.specs.Value.{value_view as view, items_view}
use Rattle.json.specs.declared.value.Value.{Value}
use Rattle.std.specs.declared.alloc.Global.{Global}
use Rattle.audit_core.specs.Said.{with_state}
use Rattle.page_audit.specs.Documents.{item_in}
use Rattle.page_audit.specs.Pages.{with_items}
use Rattle.page_audit.proofs.Listed.{taken_element, refused_element}
use Rattle.page_audit.proofs.pages.add_items.Goals as goal

pub returns-in_err-add_item-clause-cause : goal.returns-in_err-add_item-clause-cause
returns-in_err-add_item-clause-cause g c =
    let p = err_from_is_err_and c.from_residual.result c.from_residual.ensures.1 in
    rw (p.1, p.2)
    (λ cause s is keeps. let way = c.loop-element.invariant s keeps in
    way.2 ∙ refused_element way.0 c.args.list.now c.loop-element.element-index c.element-item.result (omega arith) cause
    (subst (λ (v : Value Global). with_state way.0 (item_in (view v)) ≡ Err cause) c.element-item.is
    (c.in_err-add_item.ensures.cause cause way.0 is way.1)))

pub loop-element-preserved : goal.loop-element-preserved
loop-element-preserved g c s keeps =
    let way = c.loop-element.invariant s keeps in
    let more = c.in_ok-add_item.ensures.ok way.0 way.1 in (
      more.0,
      more.2,
      way.2 ∙ taken_element way.0 c.args.list.now c.loop-element.element-index c.element-item.result (omega arith) more.0
          (subst (λ (v : Value Global). with_state way.0 (item_in (view v)) ≡ Ok more.0) c.element-item.is more.1),
    )

pub returns-clause-ok : goal.returns-clause-ok
returns-clause-ok g c s keeps =
    let way = c.loop-element.invariant s keeps in
    let none : drop c.loop-element.element-index c.args.list.now ≡ [] = drop_all c.loop-element.element-index c.args.list.now (omega arith) in
    (way.0, way.2 ∙ ap (λ (vs : List (Value Global)). with_items way.0 (items_view vs)) none, way.1)
