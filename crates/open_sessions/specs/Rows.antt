-- What the calls are to the machine's rows.
use Rattle.std.specs.Prelude.{◌≡◌, Bool, true, false, Option, None, Some}
use Rattle.std.specs.List.{All}
use Rattle.std.specs.Map.{values_of}
use Rattle.ledger_spec.specs.Maps.{ForActor}
use Rattle.ledger_spec.specs.Bytes.{Half}
use Rattle.edit_session.specs.Drafts.{Draft}
use Rattle.ledger_machine.specs.State.{State, form_in}
use Rattle.ledger_machine.specs.declared.commands.DelReply.{DelReply}
use Rattle.ledger_machine.specs.declared.commands.DelReply.TheVariants as dels
use Rattle.open_sessions.specs.Edited.{IsKept, with_drafts}

-- each open draft is kept by what the state's store holds
abbrev pub AllKept : Half → State → ForActor Draft → Type 0
AllKept half s drafts = All (IsKept half (form_in s)) (values_of drafts)

-- with the sessions of these drafts the state is this one, and the drafts are kept
pub record Gives (half : Half) (s : State) (new : ForActor Draft) (after : State) : Type 0 where
  pub state : with_drafts half s new ≡ after
  pub kept : AllKept half s new

-- what a removal says: whether the key was there, where the session is open
abbrev pub del_said : Option Bool → DelReply
del_said None = dels.NoSession
del_said (Some true) = dels.Fine
del_said (Some false) = dels.Absent
