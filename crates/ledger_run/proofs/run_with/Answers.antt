-- the texts are those of the words
use Rattle.std.proofs.Common.{◌≡◌, List, Option, None, Some, IfSome, MatchOption, map, sym, ap, ◌∙◌, subst}
use Rattle.ledger_spec.specs.Bytes.{Bytes}
use Rattle.run_words.specs.declared.words.Words.{Words}
use Rattle.run_words.specs.Words.{Says}
use Rattle.ledger_run.proofs.run_with.Goals as goal

-- what holds of a core by what these texts say holds by what those say
asked_by : {X : Type 0} (ts ts' : List Bytes) (P : X → Words → Type 0) (o : Option X) → ts ≡ ts'
    → IfSome o (λ x. (w : Words) → Says ts w → P x w) → IfSome o (λ x. (w : Words) → Says ts' w → P x w)
asked_by ts ts' P o same = subst (λ (us : List Bytes). IfSome o (λ x. (w : Words) → Says us w → P x w)) same

asked_or : {X : Type 0} (ts ts' : List Bytes) (N : Type 0) (P : X → Words → Type 0) (o : Option X) → ts ≡ ts'
    → MatchOption o N (λ x. (w : Words) → Says ts w → P x w) → MatchOption o N (λ x. (w : Words) → Says ts' w → P x w)
asked_or ts ts' N P o same = subst (λ (us : List Bytes). MatchOption o N (λ x. (w : Words) → Says us w → P x w)) same

pub returns-in-Ok-clause-script : goal.returns-in-Ok-clause-script
returns-in-Ok-clause-script g c =
    rw c.exit_with.ensures.run (asked_by _ _ _ c.run_on.result.core (ap (map (λ t. t.now)) c.deref.ensures.value ∙ c.in-Ok.ensures)
    c.run_on.ensures.script)

pub returns-in-Ok-clause-interval : goal.returns-in-Ok-clause-interval
returns-in-Ok-clause-interval g c =
    rw c.exit_with.ensures.run (asked_by _ _ _ c.run_on.result.core (ap (map (λ t. t.now)) c.deref.ensures.value ∙ c.in-Ok.ensures)
    c.run_on.ensures.interval)

pub returns-in-Ok-clause-dump : goal.returns-in-Ok-clause-dump
returns-in-Ok-clause-dump g c =
    rw (c.exit_with.ensures.code, c.exit_with.ensures.run) (asked_or _ _ _ _ c.run_on.result.core
    (ap (map (λ t. t.now)) c.deref.ensures.value ∙ c.in-Ok.ensures) c.run_on.ensures.dump)
