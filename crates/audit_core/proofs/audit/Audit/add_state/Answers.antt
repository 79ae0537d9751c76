use Rattle.std.proofs.Common.{◌≡◌, ◌++◌, ◌∷◌, [], Err, sym, ap, ◌∙◌, false, is_some}
use Rattle.std.proofs.lemmas.Bool.{cond-true, cond-false}
use Rattle.ledger_spec.specs.declared.Kind.TheVariants.{State}
use Rattle.audit_core.proofs.audit.Audit.add_state.Goals as goal

-- no transaction was given, and the key comes behind all
pub returns-in-Ok-clause-ok : goal.returns-in-Ok-clause-ok
returns-in-Ok-clause-ok g c s keeps =
    let none : is_some s.txs ≡ false = sym keeps.given ∙ c.if-self.false in
    let ok = c.in-Ok.ensures.ok State s.items keeps.state in (
      record { header = s.header; items = s.items ++ (c.args.key.now, c.args.bytes.now) ∷ []; txs = s.txs },
      cond-false _ _ _ none ∙ cond-true _ _ _ ok.0,
      record { header = keeps.header; reads = keeps.reads; state = ok.1; txs = keeps.txs; given = keeps.given },
    )

pub returns-in-Err-clause-cause : goal.returns-in-Err-clause-cause
returns-in-Err-clause-cause g c s keeps =
    let none : is_some s.txs ≡ false = sym keeps.given ∙ c.if-self.false in
    let not_behind = c.in-Err.ensures.cause State s.items keeps.state in
    cond-false _ _ _ none ∙ cond-false _ _ _ not_behind.0 ∙ ap Err (sym not_behind.1)
