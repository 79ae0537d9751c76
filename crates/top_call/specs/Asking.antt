-- What the words ask for: how a run is printed, and the script that is run.
use Rattle.std.specs.Prelude.{◌≡◌, ℕ, Bool, false, List, [], Option, None, Some, map, take, IfSome, IsSomeAnd}
use Rattle.std.specs.Borrow.{Bor}
use Rattle.ledger_spec.specs.Bytes.{Bytes, Half}
use Rattle.ledger_machine.specs.declared.commands.Line.{Line}
use Rattle.ledger_machine.specs.declared.commands.Record.{Record}
use Rattle.script_form.specs.Grammar.{IsScript, IsRefused, most_read}
use Rattle.swarm_gen.specs.Plans.{IsPlan}
use Rattle.swarm_gen.specs.Swarm.{swarm}
use Rattle.run_words.specs.declared.words.Words.{Words}
use Rattle.run_words.specs.declared.words.Words.TheVariants.{Replay, Swarm, Stop}
use Rattle.run_words.specs.Words.{Says}

-- the words ask for this
abbrev pub Asks : List (Bor (List ℕ)) → Words → Type 0
Asks words w = Says (map (λ t. t.now) words) w

-- the texts ask for something: they are of the grammar
pub record AskForRun (texts : List Bytes) : Type 0 where
  pub asked : Words
  pub says : Says texts asked

-- and so do the words
abbrev pub AreCommand : List (Bor (List ℕ)) → Type 0
AreCommand words = AskForRun (map (λ t. t.now) words)

-- how far apart rotations are
abbrev pub interval_in : Words → ℕ
interval_in (Replay interval quiet dump) = interval
interval_in (Swarm plan quiet dump) = plan.interval
interval_in (Stop at pick interval quiet) = interval

-- whether the entries aren't printed
abbrev pub quiet_in : Words → Bool
quiet_in (Replay interval quiet dump) = quiet
quiet_in (Swarm plan quiet dump) = quiet
quiet_in (Stop at pick interval quiet) = quiet

-- whether what is stored at the end is printed
abbrev pub dump_in : Words → Bool
dump_in (Replay interval quiet dump) = dump
dump_in (Swarm plan quiet dump) = dump
dump_in (Stop at pick interval quiet) = false

-- a script is read
abbrev pub IsRead : Words → Type 0
IsRead (Replay interval quiet dump) = Unit {0}
IsRead (Swarm plan quiet dump) = ⊥
IsRead (Stop at pick interval quiet) = Unit {0}

-- a plan's numbers lie in their ranges
abbrev pub HasPlan : Words → Type 0
HasPlan (Replay interval quiet dump) = Unit {0}
HasPlan (Swarm plan quiet dump) = IsPlan plan
HasPlan (Stop at pick interval quiet) = Unit {0}

-- the bytes are refused, at some line for some cause
abbrev pub IsRefusedAt : Half → Bytes → Type 0
IsRefusedAt half bytes = (line : ℕ) × (cause : ℕ) × IsRefused half (take most_read bytes) line cause

-- the script that is run: of a swarm its plan's, of the others the one that is read, where the source tells what it has
abbrev pub IsScriptOf : Half → Words → Option Bytes → List Record → List Line → Type 0
IsScriptOf half (Replay interval quiet dump) left records lines =
    IfSome left (λ bytes. IsScript half (take most_read bytes) records lines)
IsScriptOf half (Swarm plan quiet dump) left records lines = (records ≡ []) × (lines ≡ swarm half plan)
IsScriptOf half (Stop at pick interval quiet) left records lines =
    IfSome left (λ bytes. IsScript half (take most_read bytes) records lines)

-- a swarm's script is its plan's; of the others' nothing is said where the source doesn't tell what it has
abbrev pub IsPlanned : Half → Words → List Record → List Line → Type 0
IsPlanned half w records lines = IsScriptOf half w None records lines

-- what was read for it: of a swarm's source nothing, of the others' all
abbrev pub WasRead : Words → Option Bytes → Option Bytes → Type 0
WasRead (Replay interval quiet dump) left rest = IfSome left (λ _. rest ≡ Some [])
WasRead (Swarm plan quiet dump) left rest = rest ≡ left
WasRead (Stop at pick interval quiet) left rest = IfSome left (λ _. rest ≡ Some [])

-- it is known that there is a script: a swarm has one, and the bytes that are read aren't refused
abbrev pub HasScript : Half → Words → Option Bytes → Type 0
HasScript half (Replay interval quiet dump) left = IsSomeAnd left (λ bytes. IsRefusedAt half bytes → ⊥)
HasScript half (Swarm plan quiet dump) left = Unit {0}
HasScript half (Stop at pick interval quiet) left = IsSomeAnd left (λ bytes. IsRefusedAt half bytes → ⊥)
