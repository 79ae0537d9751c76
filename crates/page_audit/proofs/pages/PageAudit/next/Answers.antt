use Rattle.std.proofs.Common.{◌≡◌, true, sym, ◌∙◌}
use Rattle.std.proofs.lemmas.Result.{err_from_is_err_and, IfOk-weaker, IfErr-weaker}
use Rattle.json.specs.Value.{value_view as view}
use Rattle.page_audit.proofs.Paging.{next_by, next_other}
use Rattle.page_audit.proofs.pages.PageAudit.next.Goals as goal

pub returns-in_err-known-clause-cause : goal.returns-in_err-known-clause-cause
returns-in_err-known-clause-cause g c =
    let p = err_from_is_err_and c.from_residual.result c.from_residual.ensures.1 in
    rw (p.1, p.2)
    (λ cause p is keeps. let more : p.more ≡ true = sym keeps.more ∙ c.if-not-self.false in
    next_other p (view c.args.object.now) cause more (c.in_err-known.ensures.cause cause g.H.NodeHash.half p is keeps))

pub returns-clause-ok : goal.returns-clause-ok
returns-clause-ok g c =
    IfOk-weaker c.with_page.result _ _
    (λ pages ok p keeps. let more : p.more ≡ true = sym keeps.more ∙ c.if-not-self.false in
    let q = ok p keeps in
    (q.0, next_by p (view c.args.object.now) more (c.in_ok-known.ensures.ok g.H.NodeHash.half p keeps) ∙ q.1, q.2)) c.with_page.ensures.ok

pub returns-clause-cause : goal.returns-clause-cause
returns-clause-cause g c =
    IfErr-weaker c.with_page.result _ _
    (λ fault page cause p is keeps. let more : p.more ≡ true = sym keeps.more ∙ c.if-not-self.false in
    next_by p (view c.args.object.now) more (c.in_ok-known.ensures.ok g.H.NodeHash.half p keeps) ∙ page cause p is keeps)
    c.with_page.ensures.cause
