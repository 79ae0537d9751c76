-- Two runs that answer whole for one hash, each over plain lines or over pages.
use Rattle.std.specs.Prelude.{◌≡◌, ◌⊎◌, ◌++◌, Option}
use Rattle.ledger_spec.specs.declared.Kind.TheVariants.{State}
use Rattle.ledger_spec.specs.Bytes.{Bytes, Hash, Half, IsHalf}
use Rattle.ledger_spec.specs.Tree.{AreItems}
use Rattle.audit_core.specs.declared.answer.Answer.TheVariants.{Whole}
use Rattle.audit_core.specs.declared.answer.Sum.{Sum}
use Rattle.audit_core.specs.Said.{Said}
use Rattle.audit_core.specs.Twins.{IsSame, IsBroken, forms_in}
use Rattle.plain_audit.specs.Answers.{IsAnswer}
use Rattle.plain_audit.specs.Ledgers.{IsLedgerText}
use Rattle.page_audit.specs.Pages.{IsPagesAnswer}
use Rattle.page_audit.specs.Texts.{IsPagesText}

-- what a ledger's pages say is a finite map of items
abbrev pub PagesHaveItems : Type 0
PagesHaveItems = (half : Half) (bytes : Bytes) (hash : Hash) (s : Said) → IsPagesText bytes hash s → AreItems half State s.items

-- the bytes are this ledger's plain text, or its pages
abbrev pub Gives : Bytes → Said → Type 0
Gives bytes s = IsLedgerText bytes s ⊎ ((hash : Hash) × IsPagesText bytes hash s)

-- a run over the bytes, in either form and whatever was expected, answers that they are whole
abbrev pub AnswersWhole : Half → Bytes → Sum → Type 0
AnswersWhole half bytes sum =
    ((expect : Option Hash) × IsAnswer half expect bytes (Whole sum))
    ⊎ ((expect : Option Hash) × IsPagesAnswer half expect bytes (Whole sum))

-- two inputs give one ledger, or among the forms of their ledgers two different ones have one hash, or one has the zero hash
pub record GiveTwins (half : Half) (bytes others : Bytes) : Type 0 where
  pub said : Said
  pub other : Said
  pub gives : Gives bytes said
  pub gives_other : Gives others other
  pub one : IsSame said other ⊎ IsBroken half (forms_in half said ++ forms_in half other)

-- so do those of two runs that answer whole for one hash
abbrev pub WholeRunsGiveTwins : Type 0
WholeRunsGiveTwins = (half : Half) → IsHalf half → (bytes others : Bytes) (sum too : Sum) → AnswersWhole half bytes sum
    → AnswersWhole half others too → sum.hash ≡ too.hash → GiveTwins half bytes others
