-- Why there is no script, and no record.
use Rattle.std.specs.Prelude.{◌≡◌, ℕ, take, Option, IfSome}
use Rattle.run_io.specs.Bytes.{Rose, Took}
use Rattle.ledger_spec.specs.Bytes.{Bytes, Half}
use Rattle.script_form.specs.declared.cause.Cause.{Cause}
use Rattle.script_form.specs.Causes.{IsFirstOf, RestHas, number_of}
use Rattle.script_form.specs.Grammar.{most_read, IsRefused}
use Rattle.script_form.specs.declared.script.ScriptFault.{ScriptFault}
use Rattle.script_form.specs.declared.script.ScriptFault.TheVariants as fault
use Rattle.script_form.specs.declared.cause.TextFault.{TextFault}
use Rattle.script_form.specs.declared.cause.TextFault.TheVariants as text_fault
use Rattle.script_form.specs.declared.store_line.LineFault.{LineFault}
use Rattle.script_form.specs.declared.store_line.LineFault.TheVariants as line_fault

-- the first of some causes; want of memory says nothing
abbrev pub IsFirstCause : (Cause → Type 0) → TextFault → Type 0
IsFirstCause Holds (text_fault.Cause c) = IsFirstOf Holds c
IsFirstCause Holds text_fault.Memory = Unit {0}

-- of what follows the word `store`: the number of the first cause that shows in that line alone; want of memory says nothing
abbrev pub HasRestCause : Half → Bytes → LineFault → Type 0
HasRestCause half rest (line_fault.Cause n) = (c : Cause) × IsFirstOf (RestHas half rest) c × (n ≡ number_of c)
HasRestCause half rest line_fault.Memory = Unit {0}

-- of bytes that were read: the first line that has a cause, and its first cause; want of memory says nothing
abbrev pub HasLineCause : Half → Bytes → ScriptFault → Type 0
HasLineCause half bytes fault.Fault = ⊥
HasLineCause half bytes (fault.Refused line cause) = IsRefused half bytes line cause
HasLineCause half bytes fault.Memory = Unit {0}

-- Of a source: `old` and `new` are what it had and has left, where it tells it, and `before` and `now` its counts of faults. What is
-- refused was read to its end, or to the byte after the last that a script may have.
abbrev pub HasScriptCause : Half → Option Bytes → Option Bytes → ℕ → ℕ → ScriptFault → Type 0
HasScriptCause half old new before now fault.Fault = Rose before now
HasScriptCause half old new before now (fault.Refused line cause) =
    IfSome old (λ bytes. IsRefused half (take most_read bytes) line cause) × Took old new most_read
HasScriptCause half old new before now fault.Memory = Unit {0}
