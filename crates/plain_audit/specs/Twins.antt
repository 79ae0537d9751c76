-- Two runs that answer whole for one hash.
use Rattle.std.specs.Prelude.{◌≡◌, ◌⊎◌, ◌++◌, Option}
use Rattle.ledger_spec.specs.Bytes.{Bytes, Hash, Half, IsHalf}
use Rattle.audit_core.specs.declared.answer.Answer.TheVariants.{Whole}
use Rattle.audit_core.specs.declared.answer.Sum.{Sum}
use Rattle.audit_core.specs.Said.{Said}
use Rattle.audit_core.specs.Twins.{IsSame, IsBroken, forms_in}
use Rattle.plain_audit.specs.Answers.{IsAnswer}
use Rattle.plain_audit.specs.Ledgers.{IsLedgerText}

-- two inputs are the texts of one ledger, or among the forms of their ledgers two different ones have one hash, or one has the zero hash
pub record AreTwins (half : Half) (bytes others : Bytes) : Type 0 where
  pub said : Said
  pub other : Said
  pub is_text : IsLedgerText bytes said
  pub is_other : IsLedgerText others other
  pub one : IsSame said other ⊎ IsBroken half (forms_in half said ++ forms_in half other)

-- so are those of two runs that answer whole for one hash, whatever was expected
abbrev pub WholeRunsAreTwins : Type 0
WholeRunsAreTwins = (half : Half) → IsHalf half → (expect also : Option Hash) (bytes others : Bytes) (sum too : Sum)
    → IsAnswer half expect bytes (Whole sum) → IsAnswer half also others (Whole too) → sum.hash ≡ too.hash → AreTwins half bytes others
