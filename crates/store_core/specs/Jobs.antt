-- The read that an actor's next line asks for, and what becomes of an answer that a reader hands in.
use Rattle.std.specs.Prelude.{◌≡◌, ◌⊎◌, ◌==◌, ◌||◌, ◌++◌, ◌∷◌, [], ℕ, List, Option, None, Some, Result, Err, IfOk}
use Rattle.std.specs.Prelude.{if◌then◌else◌}
use Rattle.std.specs.Option.{option_map, option_and_then}
use Rattle.std.specs.declared.sync.Arc.{Arc}
use Rattle.std.specs.declared.alloc.Global.{Global}
use Rattle.shamap_node.specs.declared.Node.{Node}
use Rattle.ledger_spec.specs.Bytes.{Hash, Half}
use Rattle.ledger_spec.specs.Reads.{Outcome, follow}
use Rattle.ledger_spec.specs.declared.Kind.{Kind}
use Rattle.path_proof.specs.Paths.{held_nodes}
use Rattle.path_proof.specs.declared.answer.Answer.{Answer}
use Rattle.path_proof.specs.declared.answer.ReadFault.{ReadFault}
use Rattle.path_proof.specs.declared.answer.ReadFault.TheVariants as faults
use Rattle.ledger_machine.specs.declared.commands.Command.{Command}
use Rattle.ledger_machine.specs.declared.commands.Command.TheVariants as command
use Rattle.ledger_machine.specs.declared.commands.Line.{Line}
use Rattle.ledger_machine.specs.declared.journal.Entry.{Entry}
use Rattle.ledger_machine.specs.declared.commands.Reply.{Reply}
use Rattle.ledger_machine.specs.declared.commands.Reply.TheVariants as says
use Rattle.ledger_machine.specs.Reading.{outcome_of}
use Rattle.ledger_machine.specs.Runs.{is_answered, next_line}
use Rattle.store_core.specs.declared.jobs.ReadJob.{ReadJob}
use Rattle.store_core.specs.declared.jobs.Handed.{Handed}

-- the line, where the one that it waits for has its entry
abbrev pub if_free : List Entry → Line → Option Line
if_free journal l = if (l.after == 0) || is_answered journal l.after then Some l else None

-- the actor's next line, where it isn't blocked
abbrev pub free_line : List Line → List Entry → ℕ → Option Line
free_line lines journal a = option_and_then (if_free journal) (next_line lines journal a)

-- the read that a line of this number asks for: a `get` by a view whose map has a root
abbrev pub job_for : (Kind → ℕ × ℕ → Option Hash) → ℕ → ℕ → Command → Option ReadJob
job_for roots a number (command.Get v kind key) =
    option_map (λ root. record { line = number; root = root; kind = kind; key = key }) (roots kind (a, v))
job_for roots a number _ = None

-- the read that the actor's next line asks for
abbrev pub job_in : (Kind → ℕ × ℕ → Option Hash) → List Line → List Entry → ℕ → Option ReadJob
job_in roots lines journal a = option_and_then (λ l. job_for roots a l.number l.command) (free_line lines journal a)

-- the reply says this outcome by these very nodes; or memory was refused
abbrev pub IsTaken : List (Arc Node Global) → Outcome → Reply → List (Arc Node Global) → Type 0
IsTaken handed o reply used = (reply ≡ says.Memory) ⊎ ((used ≡ handed) × (outcome_of reply ≡ Some o))

-- where the nodes that were got say an outcome of the job's key, this holds of both
abbrev pub IfSays : Half → ReadJob → Result Answer ReadFault → (List (Arc Node Global) → Outcome → Type 0) → Type 0
IfSays half job got P = IfOk got (λ answer. (o : Outcome)
    → follow half job.kind job.root job.key (held_nodes answer.used.items) ≡ Some o → P answer.used.items o)

-- so that is answered by them, by the entry that is added to the journal
abbrev pub TakesIn : Half → ReadJob → Result Answer ReadFault → List Entry → List Entry → Type 0
TakesIn half job got old new = IfSays half job got (λ nodes o. (e : Entry) × (new ≡ old ++ e ∷ []) × IsTaken nodes o e.reply e.used.items)

-- a fault was handed in
abbrev pub HandsFault : Option Handed → Type 0
HandsFault handed = (h : Handed) × (handed ≡ Some h) × (h.got ≡ Err faults.Fault)
