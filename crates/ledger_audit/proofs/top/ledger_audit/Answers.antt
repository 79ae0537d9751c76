use Rattle.std.proofs.Common.{◌≡◌, ◌⊎◌, inl, inr, ⊎_elim, sym, subst}
use Rattle.ledger_audit.specs.declared.words.Asked.{Asked}
use Rattle.ledger_audit.specs.Top.{Answered, IsSilent}
use Rattle.ledger_audit.proofs.Asking.{asks_one}
use Rattle.ledger_audit.proofs.top.ledger_audit.Goals as goal

pub returns-in-Ok-clause-answered : goal.returns-in-Ok-clause-answered
returns-in-Ok-clause-answered g c asked asks =
    let same : asked ≡ c.in-Some.asked = asks_one _ asked c.in-Some.asked asks c.in-Some.ensures in
    subst (λ (a : Asked). Answered g.H.NodeHash.half a (g.S.Source.left c.args.source.now) (g.K.Sink.held c.args.sink.now)
    (g.K.Sink.held c.printed.new.sink) c.printed.result ⊎ IsSilent c.printed.result) (sym same)
    (⊎_elim (λ prints. inl (record { said = c.in-Ok.said; is = c.in-Ok.ensures.said; prints = prints })) (λ memory. inr (inr memory))
    c.printed.ensures.printed)
