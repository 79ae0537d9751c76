-- Causes and rules in the answer to an offered node: none is told of a node that was read, and one node breaks one rule.
use Rattle.std.proofs.Common.{◌≡◌, ℕ, List, subst}
use Rattle.ledger_spec.specs.declared.Kind.{Kind}
use Rattle.ledger_spec.specs.Bytes.{Bytes, Half}
use Rattle.ledger_spec.specs.Forms.{Held}
use Rattle.ledger_spec.specs.Spots as way
use Rattle.node_offer.specs.declared.outcome.Offered.{Offered}
use Rattle.node_offer.specs.declared.outcome.Offered.TheVariants as offered
use Rattle.node_offer.specs.Outcomes.{HasCause, HasRule}

-- of a node that was read no cause is told
pub no_cause : (half : Half) (blob : Bytes) (n : Held) (spot : way.Spot) (kind : Kind) (path : List ℕ) (o : Offered)
    → HasRule n spot kind path o → HasCause half blob o
no_cause half blob n spot kind path (offered.BadWire fault) has = absurd has
no_cause half blob n spot kind path _ has = tt

-- the same node at the same place breaks the same rule
pub rule_there : (n m : Held) (spot there : way.Spot) (kind : Kind) (path : List ℕ) (o : Offered) → n ≡ m → spot ≡ there
    → HasRule n spot kind path o → HasRule m there kind path o
rule_there n m spot there kind path o same at has =
    subst (λ s. HasRule m s kind path o) at (subst (λ x. HasRule x spot kind path o) same has)
