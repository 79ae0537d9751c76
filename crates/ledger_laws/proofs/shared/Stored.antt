-- What a step is to what is stored and to a rotation. For proofs of other crates.
use Rattle.std.proofs.Common.{◌≡◌, ◌⊎◌, List}
use Rattle.std.proofs.Common.{Some, Contains}
use Rattle.ledger_spec.specs.Bytes.{Bytes, Hash, Half}
use Rattle.ledger_spec.proofs.shared.ReachLaws.{Grows}
use Rattle.ledger_machine.specs.declared.commands.Command.{Command}
use Rattle.ledger_machine.specs.declared.commands.Command.TheVariants as command
use Rattle.ledger_machine.specs.State.{State, form_in}
use Rattle.ledger_machine.specs.Rotation.{ShadesRoots, Swapped}

-- nothing of what is stored goes, and what comes is one of these forms, under its own hash
pub record Stores (half : Half) (own : List Bytes) (s t : State) : Type 0 where
  pub grows : Grows (form_in s) (form_in t)
  pub adds : (h : Hash) (form : Bytes) → form_in t h ≡ Some form → (form_in s h ≡ Some form) ⊎ ((h ≡ half form) × Contains own form)

-- and no rotation begins or ends
pub record GoesOn (half : Half) (own : List Bytes) (s t : State) : Type 0 where
  pub stores : Stores half own s t
  pub turning : t.turning ≡ s.turning

-- what a step is to what is stored and to a rotation: both go on, a rotation begins, or a swap ends it
pub data Goes (half : Half) (c : Command) (own : List Bytes) (s s' : State) : Type 0 where
  on : GoesOn half own s s' → Goes half c own s s'
  begun : Stores half own s s' → ShadesRoots s' → Goes half c own s s'
  swapped : c ≡ command.Swap → Swapped s s' → Goes half c own s s'
