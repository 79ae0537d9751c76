use Rattle.std.proofs.Common.{◌≡◌, sym, ◌∙◌, [], length, subst, Option}
use Rattle.std.proofs.lemmas.Bool.{eqb-true}
use Rattle.ledger_spec.specs.Bytes.{Bytes}
use Rattle.audit_core.specs.Said.{Said}
use Rattle.audit_core.specs.Runs.{Ends}
use Rattle.audit_core.specs.Keeping.{Keeps}
use Rattle.plain_audit.specs.Lines.{line_most, after_line}
use Rattle.plain_audit.specs.Answers.{Comes}
use Rattle.audit_core.proofs.shared.Cuts.{none_left}
use Rattle.audit_core.proofs.shared.Underway.{kept_some}
use Rattle.audit_core.specs.declared.answer.Answer.TheVariants.{Refused}
use Rattle.plain_audit.proofs.run.ended.Goals as goal

pub returns-in-Some : goal.returns-in-Some
returns-in-Some g c short s keeps =
    let size : length c.args.rest.now ≡ 0 = eqb-true (length c.args.rest.now) 0 (sym c.is_empty.ensures ∙ c.if-not-is_empty.false) in
    let none : c.args.rest.now ≡ [] = none_left c.args.rest.now size in
    subst (λ (r : Bytes). Ends Refused line_most after_line (Comes g.H.NodeHash.half c.args.expect) c.args.n s r c.verdict.result)
    (sym none)
    (kept_some (Keeps g.H.NodeHash.half) c.args.audit c.in-Some.audit
    (λ (o : Option Said). Ends Refused line_most after_line
    (Comes g.H.NodeHash.half c.args.expect) c.args.n o [] c.verdict.result) c.in-Some.is c.verdict.ensures s keeps)
