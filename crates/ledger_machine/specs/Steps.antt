-- One step of the store machine: `Answered` puts the rows of all commands together, `Outcomes` adds what any command may come to, and
-- `Step` what a rotation is told meanwhile.
use Rattle.std.specs.Prelude.{◌≡◌, ℕ, IsTrue, List, [], ◌∷◌, ◌++◌, map}
use Rattle.std.specs.List.{Contains}
use Rattle.ledger_spec.specs.Bytes.{Bytes, Hash, Half, is_nonzero}
use Rattle.ledger_spec.specs.Forms.{Held}
use Rattle.ledger_machine.specs.declared.commands.Command.{Command}
use Rattle.ledger_machine.specs.declared.commands.GetReply.TheVariants as gets
use Rattle.ledger_machine.specs.declared.commands.PageReply.TheVariants as pages
use Rattle.ledger_machine.specs.declared.commands.Reply.{Reply}
use Rattle.ledger_machine.specs.declared.commands.Reply.TheVariants as says
use Rattle.ledger_machine.specs.Commands.{MayBeRefused, OfLedger, opens, searches, lists, neither, traits_of}
pub use Rattle.ledger_machine.specs.Commands.{IsAfter, Gives, Gets, Pages, Swaps, Answered, own_forms, IsRow}
use Rattle.ledger_machine.specs.State.{State, with_forms}
use Rattle.ledger_machine.specs.Rotation.{Carries, WhileTurning}

-- nothing has changed but that some of the command's own forms, none of which has the zero hash, may be stored
pub record Refused (half : Half) (s : State) (a : ℕ) (c : Command) (s' : State) : Type 0 where
  pub forms : List Bytes
  pub own : (form : Bytes) → Contains forms form → Contains (own_forms half s a c) form × IsTrue (is_nonzero (half form))
  pub same : IsAfter (with_forms half s forms) s'

-- the reply and the state that a command may lead to: a fault or want of memory at any command that may be refused
abbrev pub Outcomes : Half → State → ℕ → Command → Reply → List Held → State → Type 0
Outcomes half s a c says.Fault used s' = MayBeRefused c × Refused half s a c s'
Outcomes half s a c says.Memory used s' = MayBeRefused c × Refused half s a c s'
Outcomes half s a c (says.Clash h old new) used s' = IsRow half s a c (says.Clash h old new) × Refused half s a c s'
Outcomes half s a c (says.ZeroHash form) used s' = IsRow half s a c (says.ZeroHash form) × Refused half s a c s'
Outcomes half s a c reply used s' = Answered half s a c reply used s'

-- a refused `want` may have shaded its target
abbrev pub target_of : OfLedger → Reply → List Hash
target_of (opens t) says.Memory = t ∷ []
target_of (opens t) reply = []
target_of (searches t) reply = []
target_of lists reply = []
target_of neither reply = []

abbrev pub want_target : Command → Reply → List Hash
want_target c reply = target_of (traits_of c).ledger reply

abbrev pub own_hashes : Half → State → ℕ → Command → Reply → List Hash
own_hashes half s a c reply = map half (own_forms half s a c) ++ want_target c reply

-- only what a read found was read of nodes
abbrev pub UsesNodes : Reply → List Held → Type 0
UsesNodes (says.Get gets.Nothing) used = Unit {0}
UsesNodes (says.Get (gets.Value n)) used = Unit {0}
UsesNodes (says.Page (pages.Items leaves)) used = Unit {0}
UsesNodes _ used = used ≡ []

-- what a command does, whatever a rotation keeps: its row, and the nodes that were read for it
pub record Does (half : Half) (s : State) (a : ℕ) (c : Command) (reply : Reply) (used : List Held) (s' : State) : Type 0 where
  pub outcome : Outcomes half s a c reply used s'
  pub uses : UsesNodes reply used

-- An actor's command leads from s by the reply, for which these nodes were used, to s'. While a rotation is under way it carries what
-- that keeps.
pub record Step (half : Half) (s : State) (a : ℕ) (c : Command) (reply : Reply) (used : List Held) (s' : State) : Type 0 where
  pub outcome : Outcomes half s a c reply used s'
  pub uses : UsesNodes reply used
  pub carries : WhileTurning s.turning s'.turning (Carries s s' (own_hashes half s a c reply))
