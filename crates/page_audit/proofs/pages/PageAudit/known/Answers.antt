use Rattle.std.proofs.Common.{◌≡◌, ℕ, Ok, Err, ◌∙◌, subst}
use Rattle.std.proofs.lemmas.Result.{on_ok_weaker, IfErr-weaker}
use Rattle.json.specs.Value.{value_view as view}
use Rattle.page_audit.specs.Documents.{number_in}
use Rattle.page_audit.specs.Pages.{numbered}
use Rattle.page_audit.proofs.Paging.{known_by}
use Rattle.page_audit.proofs.pages.PageAudit.known.Goals as goal

pub returns-clause-ok : goal.returns-clause-ok
returns-clause-ok c =
    on_ok_weaker c.named.result
    (λ named half p keeps. known_by p (view c.args.object.now) c.in-Some.hash c.in-Some.ensures (c.if-not-equals.ensures ∙ keeps.hash)
    ∙ subst (λ (n : ℕ). numbered p (number_in n (view c.args.object.now)) ≡ Ok p) (c.seq.ensures half p.said keeps.said) (named p))
    c.named.ensures.ok

pub returns-clause-cause : goal.returns-clause-cause
returns-clause-cause c =
    IfErr-weaker c.named.result _ _
    (λ fault named cause half p is keeps.
    known_by p (view c.args.object.now) c.in-Some.hash c.in-Some.ensures (c.if-not-equals.ensures ∙ keeps.hash)
    ∙ subst (λ (n : ℕ). numbered p (number_in n (view c.args.object.now)) ≡ Err cause) (c.seq.ensures half p.said keeps.said)
    (named cause p is)) c.named.ensures.cause
