use Rattle.std.proofs.Common.{◌++◌, ◌∷◌, [], Err, Some, sym, ap, ◌∙◌, refl}
use Rattle.std.proofs.lemmas.Bool.{cond-true, cond-false}
use Rattle.ledger_spec.specs.declared.Kind.TheVariants.{Tx}
use Rattle.audit_core.specs.Said.{items_or_none}
use Rattle.audit_core.proofs.audit.Audit.add_tx.Goals as goal

pub returns-in-Ok-clause-ok : goal.returns-in-Ok-clause-ok
returns-in-Ok-clause-ok g c s keeps =
    let ok = c.in-Ok.ensures.ok Tx (items_or_none s.txs) keeps.txs in (
      record { header = s.header; items = s.items; txs = Some (items_or_none s.txs ++ (c.args.key.now, c.args.bytes.now) ∷ []) },
      cond-true _ _ _ ok.0,
      record { header = keeps.header; reads = keeps.reads; state = keeps.state; txs = ok.1; given = refl },
    )

pub returns-in-Err-clause-cause : goal.returns-in-Err-clause-cause
returns-in-Err-clause-cause g c s keeps =
    let not_behind = c.in-Err.ensures.cause Tx (items_or_none s.txs) keeps.txs in
    cond-false _ _ _ not_behind.0 ∙ ap Err (sym not_behind.1)
