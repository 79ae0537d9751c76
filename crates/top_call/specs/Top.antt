-- What the top call says.
use Rattle.std.specs.Prelude.{◌≡◌, ◌≢◌, ◌⊎◌, ◌↔◌, ◌<◌, ◌≤◌, ◌-◌, ◌^◌, ℕ, Bool, IsTrue, IsSome, List, [], ◌∷◌, ◌++◌, Option, take}
use Rattle.std.specs.Prelude.{true, ◌==◌, IfSome, IsNone}
use Rattle.std.specs.Borrow.{Bor}
use Rattle.std.specs.List.{list_any}
use Rattle.ledger_spec.specs.Bytes.{Bytes, Half, Nodes}
use Rattle.ledger_machine.specs.Runs.{IsFull}
use Rattle.ledger_machine.specs.Collisions.{brought_by, IsShown}
use Rattle.store_core.specs.Journal.{CoreView, IsJournal, IsRun}
use Rattle.core_machine.specs.Totals.{totals_of}
use Rattle.script_form.specs.Grammar.{IsRefused, most_read}
use Rattle.run_words.specs.declared.words.Words.{Words}
use Rattle.run_io.specs.Bytes.{Rose, Took, TookPart, Wrote, WrotePart}
use Rattle.top_call.specs.Asking.{Asks, AreCommand, IsRead, IsRefusedAt, IsScriptOf, WasRead, HasScript}
use Rattle.top_call.specs.Asking.{interval_in, quiet_in, dump_in}
use Rattle.top_call.specs.declared.status.TheConstants.{FINE, USAGE, REFUSED, SOURCE_FAILED, SINK_FAILED, STORE_FAILED}
use Rattle.top_call.specs.declared.status.TheConstants.{CLASHED, NO_MEMORY}
use Rattle.top_call.specs.declared.dump.DumpEnd.{DumpEnd}
use Rattle.top_call.specs.declared.dump.DumpEnd.TheVariants as ends
use Rattle.top_call.specs.Output.{output, usage_text, refused_text, status_of}
use Rattle.top_call.specs.Dump.{IsDumped, IsUncut}

-- the number is one of these
abbrev pub IsOneOf : ℕ → List ℕ → Type 0
IsOneOf n ns = list_any (λ m. m == n) ns ≡ true

-- what is printed of a core, in a quiet run or another
abbrev pub text_of : Bool → CoreView → Bytes
text_of quiet c = output quiet c.lines c.journal (totals_of c.journal c.state)

-- the text was written, or a front of it and the sink's count of faults rose
abbrev pub WroteOrFailed : Option Bytes → Option Bytes → ℕ → ℕ → Bytes → Type 0
WroteOrFailed old new before now text = Wrote old new text ⊎ (WrotePart old new text × Rose before now)

-- the refused line of these bytes and its cause were written, or a front of that where the sink failed
abbrev pub NamesLine : Half → Bytes → Option Bytes → Option Bytes → ℕ → ℕ → Type 0
NamesLine half bytes held now before after =
    (line : ℕ) × (cause : ℕ) × IsRefused half (take most_read bytes) line cause
    × WroteOrFailed held now before after (refused_text line cause)

-- along the core's own run, of the forms that its script offers and its closes make, no two different ones have one hash, and none has the
-- zero hash
abbrev pub HasNoCollision : Half → CoreView → Type 0
HasNoCollision half c =
    (along : IsRun half c) × (IsShown half (brought_by half c.records c.lines c.interval c.journal c.state along) → ⊥)

-- The headline's part on the core: all that holds of a core's journal, and each line has its entry. `told` says whether the store tells
-- what it holds.
pub record IsWhole (half : Half) (told : Bool) (c : CoreView) : Type 0 where
  pub kept : IsJournal half told c
  pub full : IsFull c.lines c.journal

-- The headline, of the core that a run leaves which these words asked for. `left` and `rest` are what the source had and has left, where it
-- tells it.
pub record IsRunOfInput (half : Half) (told : Bool) (words : List (Bor (List ℕ))) (left rest : Option Bytes) (c : CoreView) : Type 0 where
  -- the core's records and lines are the script that was read, or the plan's
  pub script : (w : Words) → Asks words w → IsScriptOf half w left c.records c.lines
  -- the source was read to its end for a replay, and is as it was after a swarm
  pub read : (w : Words) → Asks words w → WasRead w left rest
  -- a rotation is due at the interval that the words say
  pub interval : (w : Words) → Asks words w → c.interval ≡ interval_in w
  -- the journal is a whole run
  pub whole : IsWhole half told c

-- How the dump ended that was asked for, or wasn't.
pub record HasDumped (asked : Bool) (status : ℕ) (dump : DumpEnd) (c : CoreView) : Type 0 where
  -- there is none, exactly where none was asked for
  pub not_asked : (dump ≡ ends.NotAsked) ↔ (IsTrue asked → ⊥)
  -- the store failed, exactly where a call for a stored record did
  pub faulted : (dump ≡ ends.Faulted) ↔ (0 < c.missed)
  -- it was cut only where the sink failed or memory was wanted
  pub cut : dump ≡ ends.Cut → IsOneOf status (SINK_FAILED ∷ NO_MEMORY ∷ [])
  -- where it wasn't, the status is the journal's and the dump's own
  pub own : IsUncut dump → status ≡ status_of c.journal c.missed

-- What a run has printed, quiet or not, with a dump or without. `held` and `now` are what the sink held and holds, where it tells it.
pub record HasPrinted (told quiet asked : Bool) (held now : Option Bytes) (status : ℕ) (dump : DumpEnd) (c : CoreView) : Type 0 where
  -- the text of that very journal, of which a quiet run has the summary alone, and behind it what was printed of the dump
  pub whole : IsOneOf status (FINE ∷ STORE_FAILED ∷ CLASHED ∷ [])
      → (more : Bytes) × IsDumped told c.state.nodes dump more × Wrote held now (text_of quiet c ++ more)
  -- or a front of it, where the sink failed or memory was wanted
  pub part : (more : Bytes) × IsDumped told c.state.nodes dump more × WrotePart held now (text_of quiet c ++ more)
  -- the whole of it, too, with a dump that wasn't cut
  pub uncut : IsUncut dump → (more : Bytes) × IsDumped told c.state.nodes dump more × Wrote held now (text_of quiet c ++ more)
  -- how the dump ended
  pub dumped : HasDumped asked status dump c

-- What is printed behind the summary, of a store that holds these.
pub record PrintsMore (told : Bool) (nodes : Nodes) (held now : Option Bytes) (status : ℕ) (dump : DumpEnd) : Type 0 where
  pub whole : IsOneOf status (FINE ∷ STORE_FAILED ∷ CLASHED ∷ []) → (more : Bytes) × IsDumped told nodes dump more × Wrote held now more
  pub part : (more : Bytes) × IsDumped told nodes dump more × WrotePart held now more
  pub uncut : IsUncut dump → (more : Bytes) × IsDumped told nodes dump more × Wrote held now more

-- What the status says: it is the journal's and the dump's own, or the sink's count of faults rose, or memory was wanted.
abbrev pub HasSaid : ℕ → CoreView → ℕ → ℕ → Type 0
HasSaid status c before now =
    (status ≡ status_of c.journal c.missed) ⊎ (((status ≡ SINK_FAILED) × Rose before now) ⊎ (status ≡ NO_MEMORY))

-- The status of a run, with the core that it left.
pub record HasStatus (half : Half) (told : Bool) (status : ℕ) (c : CoreView) : Type 0 where
  -- fine, the sink failed, the store failed, a clash or a zero hash, or want of memory
  pub one_of : IsOneOf status (FINE ∷ SINK_FAILED ∷ STORE_FAILED ∷ CLASHED ∷ NO_MEMORY ∷ [])
  -- the journal's and the dump's own, unless the sink failed or memory was wanted in printing
  pub said : (status ≡ status_of c.journal c.missed) ⊎ IsOneOf status (SINK_FAILED ∷ NO_MEMORY ∷ [])
  -- with a clash's, of the forms that the script offers and its closes make two different ones have one hash, or one has the zero hash,
  -- where the store tells what it holds
  pub collision : IsTrue told → status ≡ CLASHED → (along : IsRun half c)
      → IsShown half (brought_by half c.records c.lines c.interval c.journal c.state along)

-- the store's count of faults stands where the shelf's stood as it was handed in, below its last value
abbrev pub IsCalm : ℕ → CoreView → Type 0
IsCalm handed c = (c.faults ≡ handed) × (c.faults < 2 ^ 64 - 1)

-- at opening the store's count of faults is at least the shelf's as it was handed in, and now it is at least that at opening
abbrev pub CountsFrom : ℕ → CoreView → Type 0
CountsFrom handed c = (handed ≤ c.opened) × (c.opened ≤ c.faults)

-- What a run says of the core that it left. `held` and `now` are what the sink held and holds, where it tells it; `handed` is the shelf's
-- count of faults as it was handed in.
pub record TellsOfRun (half : Half) (told : Bool) (words : List (Bor (List ℕ))) (left rest held now : Option Bytes) (handed status : ℕ)
    (dump : DumpEnd) (c : CoreView) : Type 0 where
  -- it is a run of the input
  pub run : IsRunOfInput half told words left rest c
  -- its journal was printed, as the words say
  pub printed : (w : Words) → Asks words w → HasPrinted told (quiet_in w) (dump_in w) held now status dump c
  -- the status is its own
  pub ended : HasStatus half told status c
  -- no count of faults went back
  pub counts : CountsFrom handed c

-- Completeness: how a run ends whose words are the command, which has a script, and in which no count of faults rose.
pub record EndsWell (half : Half) (told : Bool) (words : List (Bor (List ℕ))) (left : Option Bytes) (status : ℕ)
    (core : Option CoreView) : Type 0 where
  -- the whole text was printed with every line answered, or memory was wanted
  pub answered : (w : Words) → Asks words w → HasScript half w left → IsOneOf status (FINE ∷ CLASHED ∷ NO_MEMORY ∷ [])
  -- without a clash, where no two different forms that the core's script offers or its closes make have one hash, and none the zero hash
  pub fine : IsTrue told → (w : Words) → Asks words w → HasScript half w left → IfSome core (HasNoCollision half)
      → IsOneOf status (FINE ∷ NO_MEMORY ∷ [])

-- Other words than the command's, and words for which nothing is read. `Unread` says that the source is as it was.
pub record IsUsage (words : List (Bor (List ℕ))) (status : ℕ) (held now : Option Bytes) (before after : ℕ) (Unread : Type 0) : Type 0 where
  -- exactly these give the usage
  pub exact : (status ≡ USAGE) ↔ (AreCommand words → ⊥)
  -- with any other status the words are the command
  pub command : status ≢ USAGE → AreCommand words
  -- the usage is written, or a front of it where the sink failed
  pub printed : status ≡ USAGE → WroteOrFailed held now before after usage_text
  -- nothing is read
  pub unread : status ≡ USAGE → Unread
  -- nor where the words ask for no script that is read
  pub unasked : (w : Words) → Asks words w → (IsRead w → ⊥) → Unread

-- A refused script.
pub record IsScriptRefusal (half : Half) (words : List (Bor (List ℕ))) (status : ℕ) (left rest held now : Option Bytes) (before after : ℕ)
    (core : Option CoreView) {E : Type 0} (stopped : Option E) : Type 0 where
  -- only where a script is read, and its bytes are refused
  pub read : (w : Words) → Asks words w → status ≡ REFUSED → IsRead w
  pub refused : status ≡ REFUSED → IfSome left (IsRefusedAt half)
  -- such bytes give it, unless the source failed or memory was wanted
  pub exact : (w : Words) → Asks words w → IsRead w
      → IfSome left (λ bytes. IsRefusedAt half bytes → IsOneOf status (REFUSED ∷ SOURCE_FAILED ∷ NO_MEMORY ∷ []))
  -- and are never run
  pub never_run : (w : Words) → Asks words w → IsRead w → IfSome left (λ bytes. IsRefusedAt half bytes → IsNone core × IsNone stopped)
  -- a line and a cause are written, or a front of that where the sink failed
  pub line : status ≡ REFUSED → (line : ℕ) × (cause : ℕ) × WroteOrFailed held now before after (refused_text line cause)
  -- they are those of the bytes
  pub printed : status ≡ REFUSED → IfSome left (λ bytes. NamesLine half bytes held now before after)
  -- the source was read to its end, or to the byte after the last that a script may have
  pub taken : status ≡ REFUSED → Took left rest most_read

-- What failed. `read` and `read'` are the source's counts of faults before and after, `wrote` and `wrote'` the sink's; `Unwritten` says
-- that the sink is as it was.
pub record HasCause (status : ℕ) (left rest : Option Bytes) (read read' wrote wrote' : ℕ) (core : Option CoreView)
    {E : Type 0} (stopped : Option E) (Unwritten : Type 0) : Type 0 where
  -- the source failed
  pub source : status ≡ SOURCE_FAILED → Rose read read'
  -- the sink failed
  pub sink : status ≡ SINK_FAILED → Rose wrote wrote'
  -- without a core: other words, a refused script, a failed source or store, or want of memory
  pub no_core : IsNone core → IsNone stopped → IsOneOf status (USAGE ∷ REFUSED ∷ SOURCE_FAILED ∷ STORE_FAILED ∷ NO_MEMORY ∷ [])
  -- where the source failed nothing is written
  pub unwritten : status ≡ SOURCE_FAILED → Unwritten
  -- nor where memory was wanted before the run
  pub silent : IsNone core → IsNone stopped → status ≡ NO_MEMORY → Unwritten
  -- the counts never fall
  pub later : (read ≤ read') × (wrote ≤ wrote')
  -- a front of the input is gone, and no more than is read at most
  pub taken : TookPart left rest most_read

-- Where the store wasn't opened. `unopened` is what is left of the shelf; `Failed` says that it is a shelf whose count of faults rose,
-- `Wanted` that it is nothing since memory was wanted, `Unwritten` that the sink is as it was, `Done` that the script was read to its end.
pub record HasNotOpened {U E : Type 0} (status : ℕ) (core : Option CoreView) (stopped : Option E) (unopened : Option U)
    (Failed Wanted : U → Type 0) (Unwritten Done : Type 0) : Type 0 where
  -- there is no core, and nothing is written
  pub no_core : IsSome unopened → IsNone core
  pub unwritten : IsSome unopened → Unwritten
  -- and the script was read: nothing of a shelf is left where memory was wanted in reading
  pub read : IsSome unopened → Done
  -- the status tells the cause
  pub cause : IfSome unopened (λ u. ((status ≡ STORE_FAILED) × Failed u) ⊎ ((status ≡ NO_MEMORY) × Wanted u))
  -- and without a core the store failed only so
  pub only : status ≡ STORE_FAILED → IsNone core → IsNone stopped → IsSome unopened
