-- What an answer says was received for a ledger.
use Rattle.std.specs.Prelude.{◌≡◌, ◌⊎◌, List, [], ◌∷◌, Option, Some, Ok}
use Rattle.std.specs.List.{Contains}
use Rattle.ledger_spec.specs.Bytes.{Bytes, Hash, Half}
use Rattle.ledger_spec.specs.Forms.{Held, header, form_of, hash_of}
use Rattle.ledger_spec.specs.Reach.{Reach}
use Rattle.ledger_spec.specs.Wire.{read_wire}
use Rattle.ledger_machine.specs.declared.commands.Command.{Command}
use Rattle.ledger_machine.specs.declared.commands.Command.TheVariants as command
use Rattle.ledger_spec.specs.declared.outcomes.Offered.{Offered}
use Rattle.ledger_spec.specs.declared.outcomes.Offered.TheVariants as offered
use Rattle.ledger_spec.specs.declared.outcomes.HeadOffered.{HeadOffered}
use Rattle.ledger_spec.specs.declared.outcomes.HeadOffered.TheVariants as head
use Rattle.ledger_spec.specs.declared.replies.BaseReply.TheVariants as base
use Rattle.ledger_spec.specs.declared.replies.NodeReply.TheVariants as node
use Rattle.ledger_machine.specs.declared.commands.Reply.{Reply}
use Rattle.ledger_machine.specs.declared.commands.Reply.TheVariants as says
use Rattle.ledger_machine.specs.declared.commands.Line.{Line}
use Rattle.ledger_machine.specs.declared.journal.Entry.{Entry}
use Rattle.ledger_machine.specs.State.{State, form_in, roots}
use Rattle.ledger_machine.specs.Runs.{Run}

-- a node is received where it is good, was there, or breaks a rule: then it is stored as well
abbrev pub IsReceived : Offered → Type 0
IsReceived offered.Good = Unit {0}
IsReceived offered.Duplicate = Unit {0}
IsReceived (offered.Malformed rule) = Unit {0}
IsReceived _ = ⊥

-- and a header where it is good, or was there
abbrev pub IsHeadReceived : HeadOffered → Type 0
IsHeadReceived head.Good = Unit {0}
IsHeadReceived head.Duplicate = Unit {0}
IsHeadReceived _ = ⊥

-- the bytes of a part are this node, and it is received
abbrev pub IsReceivedPart : Half → Option Bytes → Option Offered → Held → Type 0
IsReceivedPart half (Some blob) (Some o) n = IsReceived o × (read_wire half blob ≡ Ok n)
IsReceivedPart half _ _ n = ⊥

-- the answer to a command says that this node or header is received for the target
abbrev pub Receives : Half → Hash → Command → Reply → Held → Type 0
Receives half t (command.Base p target bytes state tx) (says.Base (base.Parts h a b)) n =
    (target ≡ t) × ((IsHeadReceived h × (n ≡ header bytes)) ⊎ IsReceivedPart half state a n ⊎ IsReceivedPart half tx b n)
Receives half t (command.Node p target kind path blob) (says.Node (node.One o)) n =
    (target ≡ t) × IsReceivedPart half (Some blob) (Some o) n
Receives half t _ _ n = ⊥

-- it is stored under its own hash, and the targets reach it
pub record IsKept (half : Half) (s : State) (targets : List Hash) (n : Held) : Type 0 where
  pub stored : form_in s (hash_of half n) ≡ Some (form_of n)
  pub reached : Reach (form_in s) targets (hash_of half n)

-- from this state on along a run: it is kept in each state up to which the target was open, or its ledger retained, throughout
abbrev pub Stays : (half : Half) (t : Hash) (n : Held) (lines : List Line) (s : State) (entries : List Entry) (s' : State)
    → Run half lines s entries s' → Type 0
Stays half t n lines s [] s' run = Contains (roots s) t → IsKept half s (roots s) n
Stays half t n lines s (e ∷ rest) s' run = Contains (roots s) t → IsKept half s (roots s) n × Stays half t n lines run.0 rest s' run.2

-- each node or header that an answer of the run says was received for a target stays from then on
abbrev pub AllStay : (half : Half) (lines : List Line) (s : State) (entries : List Entry) (s' : State)
    → Run half lines s entries s' → Type 0
AllStay half lines s [] s' run = Unit {0}
AllStay half lines s (e ∷ rest) s' run =
    ((t : Hash) (n : Held) → Receives half t run.1.line.command e.reply n → Stays half t n lines run.0 rest s' run.2)
    × AllStay half lines run.0 rest s' run.2
