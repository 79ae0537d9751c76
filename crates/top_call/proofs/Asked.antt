-- What words ask for lies in its ranges.
use Rattle.std.proofs.Common.{◌<◌, ◌≤◌, List, Option, arith}
use Rattle.ledger_spec.specs.Bytes.{Bytes, Half}
use Rattle.ledger_machine.specs.declared.commands.Line.{Line}
use Rattle.ledger_machine.specs.declared.commands.Record.{Record}
use Rattle.run_words.specs.Words.{Says, Means}
use Rattle.run_words.specs.declared.words.Words.{Words}
use Rattle.run_words.specs.declared.words.Words.TheVariants.{Replay, Swarm, Stop}
use Rattle.top_call.specs.Asking.{interval_in, HasPlan, AskForRun, IsScriptOf, IsPlanned}

-- an interval is at least 1
pub apart_by : (texts : List Bytes) (w : Words) → Says texts w → 0 < interval_in w
apart_by texts (Replay interval quiet dump) says =
    let means : Means says.1 (Replay interval quiet dump) = says.4 in
    let least : 1 ≤ interval = means.0.interval.1.0 in
    omega (arith, least)
apart_by texts (Swarm plan quiet dump) says =
    let means : Means says.1 (Swarm plan quiet dump) = says.4 in
    let least : 1 ≤ plan.interval = means.0.interval.1.0 in
    omega (arith, least)
apart_by texts (Stop at pick interval quiet) says =
    let means : Means says.1 (Stop at pick interval quiet) = says.4 in
    let least : 1 ≤ interval = means.0.interval.1.0 in
    omega (arith, least)

-- a swarm has a plan
pub planned_by : (texts : List Bytes) (w : Words) → Says texts w → HasPlan w
planned_by texts (Replay interval quiet dump) says = tt
planned_by texts (Swarm plan quiet dump) says =
    let means : Means says.1 (Swarm plan quiet dump) = says.4 in
    means.0.ranges
planned_by texts (Stop at pick interval quiet) says = tt

-- words that say nothing ask for nothing
pub asks_nothing : (texts : List Bytes) → ((v : Words) → Says texts v → ⊥) → AskForRun texts → ⊥
asks_nothing texts none run = none run.asked run.says

-- a script that was asked for is a swarm's plan's
pub planned_as : (half : Half) (w : Words) (left : Option Bytes) (records : List Record) (lines : List Line)
    → IsScriptOf half w left records lines → IsPlanned half w records lines
planned_as half (Replay interval quiet dump) left records lines script = tt
planned_as half (Swarm plan quiet dump) left records lines script = script
planned_as half (Stop at pick interval quiet) left records lines script = tt
