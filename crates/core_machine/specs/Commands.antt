-- What a command is to the core, by its nature: whether it is done in one section, reads nodes, or sees sessions, and which root a rotation
-- is told of.
use Rattle.std.specs.Prelude.{IsSome}
use Rattle.std.specs.List.{Contains}
use Rattle.ledger_machine.specs.declared.commands.Command.{Command}
use Rattle.ledger_machine.specs.declared.commands.Nature.{Nature}
use Rattle.ledger_machine.specs.declared.commands.Nature.TheVariants as natures
use Rattle.ledger_machine.specs.declared.commands.Reply.{Reply}
use Rattle.ledger_machine.specs.declared.commands.Reply.TheVariants as says
use Rattle.ledger_machine.specs.declared.commands.WantReply.TheVariants as want
use Rattle.ledger_machine.specs.declared.commands.CloseReply.TheVariants as close
use Rattle.ledger_machine.specs.Commands.{OfLedger, opens, searches, lists, neither, nature_of, traits_of}
use Rattle.ledger_machine.specs.State.{State}

-- what is no check
abbrev pub SearchesNothing : Nature → Type 0
SearchesNothing natures.Check = ⊥
SearchesNothing natures.Table = Unit {0}
SearchesNothing natures.Read = Unit {0}
SearchesNothing natures.View = Unit {0}
SearchesNothing natures.Unview = Unit {0}
SearchesNothing natures.Session = Unit {0}
SearchesNothing natures.Begin = Unit {0}
SearchesNothing natures.Swap = Unit {0}

abbrev pub IsNoCheck : Command → Type 0
IsNoCheck c = SearchesNothing (nature_of c)

-- what is neither a check nor a swap, and so is done in one section
abbrev pub TakesOneSection : Nature → Type 0
TakesOneSection natures.Check = ⊥
TakesOneSection natures.Swap = ⊥
TakesOneSection natures.Table = Unit {0}
TakesOneSection natures.Read = Unit {0}
TakesOneSection natures.View = Unit {0}
TakesOneSection natures.Unview = Unit {0}
TakesOneSection natures.Session = Unit {0}
TakesOneSection natures.Begin = Unit {0}

abbrev pub IsQuiet : Command → Type 0
IsQuiet c = TakesOneSection (nature_of c)

-- what reads nothing of nodes
abbrev pub NeedsNoNodes : Nature → Type 0
NeedsNoNodes natures.Read = ⊥
NeedsNoNodes natures.Table = Unit {0}
NeedsNoNodes natures.Check = Unit {0}
NeedsNoNodes natures.View = Unit {0}
NeedsNoNodes natures.Unview = Unit {0}
NeedsNoNodes natures.Session = Unit {0}
NeedsNoNodes natures.Begin = Unit {0}
NeedsNoNodes natures.Swap = Unit {0}

abbrev pub ReadsNothing : Command → Type 0
ReadsNothing c = NeedsNoNodes (nature_of c)

-- what names a session, or sees which are open
abbrev pub SeesSessions : Nature → Type 0
SeesSessions natures.View = Unit {0}
SeesSessions natures.Session = Unit {0}
SeesSessions natures.Table = ⊥
SeesSessions natures.Check = ⊥
SeesSessions natures.Read = ⊥
SeesSessions natures.Unview = ⊥
SeesSessions natures.Begin = ⊥
SeesSessions natures.Swap = ⊥

abbrev pub IsOfSessions : Command → Type 0
IsOfSessions c = SeesSessions (nature_of c)

-- the ledger that a command opens or lists was told to the rotation under way
abbrev pub IsTold : State → OfLedger → Reply → State → Type 0
IsTold s (opens t) (says.Want want.Opened) s' = IsSome s.turning → Contains s'.shaded t
IsTold s (opens t) reply s' = Unit {0}
IsTold s lists (says.Close (close.Closed h)) s' = IsSome s.turning → Contains s'.shaded h
IsTold s lists reply s' = Unit {0}
IsTold s (searches t) reply s' = Unit {0}
IsTold s neither reply s' = Unit {0}

abbrev pub TellsRoot : State → Command → Reply → State → Type 0
TellsRoot s c reply s' = IsTold s (traits_of c).ledger reply s'
