use Rattle.std.proofs.Common.{◌≡◌, Ok, Err}
use Rattle.std.proofs.lemmas.Result.{IfErr-weaker}
use Rattle.audit_core.specs.Said.{Said}
use Rattle.plain_audit.specs.Lines.{after_line}
use Rattle.audit_core.specs.Keeping.{Keeps}
use Rattle.audit_core.proofs.shared.Underway.{kept_some, kept_none}
use Rattle.plain_audit.proofs.run.take_line.Goals as goal

pub returns-in-Some-clause-cause : goal.returns-in-Some-clause-cause
returns-in-Some-clause-cause g c =
    let half = g.H.NodeHash.half in
    IfErr-weaker c.add.result _ _ (λ fault bad cause s is keeps.
    kept_some (Keeps half) c.args.audit.now c.in-Some.taken (λ o. after_line o c.args.line.now ≡ Err cause) c.in-Some.is
    (λ t kept. bad cause t is kept) s keeps) c.add.ensures.cause

pub returns-in_ok-first-in-None-clause-ok : goal.returns-in_ok-first-in-None-clause-ok
returns-in_ok-first-in-None-clause-ok g c =
    let half = g.H.NodeHash.half in
    let ok = c.in_ok-first-in-None.ensures.ok in
    kept_none (Keeps half) c.args.audit.now
    (λ s. (x : Said) × (after_line s c.args.line.now ≡ Ok x) × Keeps half c.in_ok-first-in-None.field-0 x) c.in-None.is
    (ok.0, ok.1, ok.2 half)
