use Rattle.std.proofs.Common.{◌≡◌, Some, Err, Result, sym, ap, ◌∙◌, subst}
use Rattle.path_proof.specs.declared.answer.Answer.{Answer}
use Rattle.path_proof.specs.declared.answer.ReadFault.{ReadFault}
use Rattle.store_core.specs.Halls.{root_by}
use Rattle.store_core.specs.Jobs.{job_for}
use Rattle.store_core.specs.Reads.{IsSaid}
use Rattle.store_core.specs.declared.jobs.Handed.{Handed}
use Rattle.store_core.proofs.Asking.{serves_taken, serves_faulted}
use Rattle.store_core.proofs.hall.Hall.heard.Goals as goal

-- what the nodes say is a step of the machine
pub returns-in-Ok-clause-serves : goal.returns-in-Ok-clause-serves
returns-in-Ok-clause-serves g c =
    let half = g.H.NodeHash.half in
    let job = c.into_handed-got.result.job in
    let asked : job_for (root_by c.args.self.now.views) c.args.actor c.args.line.now.number c.args.line.now.command ≡ Some job =
    c.if-not-is_asked.ensures ∙ ap Some (c.job.ensures ∙ ap (λ (h : Handed). h.job) (sym c.into_handed-got.ensures.same)) in
    let said = subst (λ (got : Result Answer ReadFault). IsSaid half job got) c.in-Ok.is c.into_handed-got.ensures.said in
    serves_taken half g.Sh.B.Backend.tells _ c.args.self.now.desk c.args.self.now.views c.args.actor c.args.line.now.number
    c.args.line.now.command job c.known.ensures.views c.requires.told asked c.in-Ok.answer c.replied.result.0 c.replied.result.1.items
    (c.replied.ensures half job.kind job.root job.key said)

-- the actor's fetch failed
pub returns-in-Err-clause-serves : goal.returns-in-Err-clause-serves
returns-in-Err-clause-serves g c =
    let job = c.into_handed-got.result.job in
    let asked : job_for (root_by c.args.self.now.views) c.args.actor c.args.line.now.number c.args.line.now.command ≡ Some job =
    c.if-not-is_asked.ensures ∙ ap Some (c.job.ensures ∙ ap (λ (h : Handed). h.job) (sym c.into_handed-got.ensures.same)) in
    serves_faulted g.H.NodeHash.half g.Sh.B.Backend.tells _ c.args.self.now.desk c.args.self.now.views c.args.actor c.args.line.now.number
    c.args.line.now.command job c.known.ensures.views c.requires.told asked c.faulted.result (λ r. r.0) (λ r. r.1.items)
    c.faulted.ensures.fault (λ some.
    let why = c.faulted.ensures.cause some in (
      (
        c.in-Some.handed,
        c.in-Some.is,
        ap (λ (h : Handed). h.got) (sym c.into_handed-got.ensures.same) ∙ c.in-Err.is
            ∙ ap Err why.0,
      ),
      why.1,
    ))
