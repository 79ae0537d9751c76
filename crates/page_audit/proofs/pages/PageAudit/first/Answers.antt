use Rattle.std.proofs.Common.{◌≡◌, true, false, is_some, sym, ap, ◌∙◌}
use Rattle.std.specs.Prelude.{codes, not}
use Rattle.std.proofs.lemmas.Result.{IfOk-weaker, IfErr-weaker}
use Rattle.json.specs.Find.{get}
use Rattle.json.specs.Value.{value_view as view}
use Rattle.page_audit.proofs.Paging.{is_some_map, first_by, first_alone}
use Rattle.page_audit.proofs.pages.PageAudit.first.Goals as goal

pub returns-then-is_none-clause-ok : goal.returns-then-is_none-clause-ok
returns-then-is_none-clause-ok g c =
    let h = c.in_ok-pages.ensures.ok in
    let none : is_some (get (codes "state") (view c.args.object.now)) ≡ false =
    ap is_some (sym c.get.ensures) ∙ is_some_map _ c.get.result ∙ c.is_none.ensures ∙ ap not c.if-is_none.true in
    (h.0, first_alone h.0 (view c.args.object.now) h.1 none, h.2 g.H.NodeHash.half)

pub returns-clause-ok : goal.returns-clause-ok
returns-clause-ok g c =
    let h = c.in_ok-pages.ensures.ok in
    let some : is_some (get (codes "state") (view c.args.object.now)) ≡ true =
    ap is_some (sym c.get.ensures) ∙ is_some_map _ c.get.result ∙ c.is_none.ensures ∙ ap not c.if-is_none.false in
    IfOk-weaker c.with_page.result _ _
    (λ pages ok. let q = ok h.0 (h.2 g.H.NodeHash.half) in (q.0, first_by h.0 (view c.args.object.now) h.1 some ∙ q.1, q.2))
    c.with_page.ensures.ok

pub returns-clause-cause : goal.returns-clause-cause
returns-clause-cause g c =
    let h = c.in_ok-pages.ensures.ok in
    let some : is_some (get (codes "state") (view c.args.object.now)) ≡ true =
    ap is_some (sym c.get.ensures) ∙ is_some_map _ c.get.result ∙ c.is_none.ensures ∙ ap not c.if-is_none.false in
    IfErr-weaker c.with_page.result _ _
    (λ fault page cause is. first_by h.0 (view c.args.object.now) h.1 some ∙ page cause h.0 is (h.2 g.H.NodeHash.half))
    c.with_page.ensures.cause
