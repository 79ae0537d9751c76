-- What is answered of an offered node, as the definitions have it.
use Rattle.std.specs.Prelude.{◌≡◌, ◌≢◌, ℕ, List, Option, Some, Err}
use Rattle.ledger_spec.specs.declared.Kind.{Kind}
use Rattle.ledger_spec.specs.declared.outcomes.Offered.{Offered as Outcome}
use Rattle.ledger_spec.specs.declared.outcomes.Offered.TheVariants as outcome
use Rattle.ledger_spec.specs.Bytes.{Bytes, Hash, Half}
use Rattle.ledger_spec.specs.Forms.{Held}
use Rattle.ledger_spec.specs.Rules.{fault_of, rule_number}
use Rattle.ledger_spec.specs.Spots as way
use Rattle.ledger_spec.specs.Wire.{read_wire}
use Rattle.node_wire.specs.declared.fault.WireFault.{WireFault}
use Rattle.node_wire.specs.declared.fault.WireFault.TheVariants as causes
use Rattle.node_wire.specs.Faults.{code, Tells}
use Rattle.node_offer.specs.declared.outcome.Offered.{Offered}
use Rattle.node_offer.specs.declared.outcome.Offered.TheVariants as offered

-- the same with causes and rules by their numbers
abbrev pub numbered : Offered → Outcome
numbered offered.Good = outcome.Good
numbered offered.Duplicate = outcome.Duplicate
numbered (offered.BadWire fault) = outcome.BadWire (code fault)
numbered (offered.BadHash wanted found) = outcome.BadHash wanted found
numbered offered.NoBase = outcome.NoBase
numbered (offered.NoParent path) = outcome.NoParent path
numbered (offered.EmptyBranch path) = outcome.EmptyBranch path
numbered (offered.UnderLeaf path) = outcome.UnderLeaf path
numbered (offered.Malformed fault) = outcome.Malformed (rule_number fault)

-- bytes are refused for this cause, which isn't want of memory, and it tells of them what is so
pub record IsCause (half : Half) (blob : Bytes) (fault : WireFault) : Type 0 where
  pub plain : fault ≢ causes.Memory
  pub number : read_wire half blob ≡ Err (code fault)
  pub tells : Tells blob fault

-- a cause that is answered is one of these bytes
abbrev pub HasCause : Half → Bytes → Offered → Type 0
HasCause half blob (offered.BadWire fault) = IsCause half blob fault
HasCause half blob _ = Unit {0}

-- of a node that was read no cause is answered, and a rule only where it is the one that the node breaks at its place, where a hash is
-- wanted
abbrev pub HasRule : Held → way.Spot → Kind → List ℕ → Offered → Type 0
HasRule n spot kind path (offered.Malformed fault) =
    (h : Hash) × (parent : Option (List Hash)) × (spot ≡ way.wanted h parent) × (fault_of n parent kind path ≡ Some fault)
HasRule n spot kind path (offered.BadWire fault) = ⊥
HasRule n spot kind path _ = Unit {0}
