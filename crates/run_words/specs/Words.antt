-- The command line.
use Rattle.std.specs.Prelude.{◌≡◌, ℕ, List, ◌∷◌, codes, None, Some, false, unwrap_or}
use Rattle.ledger_spec.specs.Bytes.{Bytes}
use Rattle.run_words.specs.Options.{no_options, Gives}
use Rattle.run_words.specs.declared.options.Options.{Options}
use Rattle.swarm_gen.specs.declared.plan.Plan.{Plan}
use Rattle.swarm_gen.specs.Plans.{IsFrom, IsPlan}
use Rattle.run_words.specs.declared.words.Words.{Words}
use Rattle.run_words.specs.declared.words.Words.TheVariants.{Replay, Swarm, Stop}

-- an interval of rotations, and the one that stands where none is given
abbrev pub IsInterval : Options → ℕ → Type 0
IsInterval o n = (n ≡ unwrap_or o.interval 256) × IsFrom 1 4294967295 n

-- which images are picked, and those that stand where none are named
abbrev pub IsPick : Options → ℕ → Type 0
IsPick o n = (n ≡ unwrap_or o.pick 0) × IsFrom 0 2 n

-- none of the options is of the swarm alone
pub record HasNoSwarms (o : Options) : Type 0 where
  pub no_number : o.number ≡ None
  pub no_ledgers : o.ledgers ≡ None
  pub no_items : o.items ≡ None
  pub no_liars : o.liars ≡ None
  pub no_actors : o.actors ≡ None

-- none of them is of the stop alone
pub record HasNoStops (o : Options) : Type 0 where
  pub no_at : o.at ≡ None
  pub no_pick : o.pick ≡ None

-- the options of `replay` are these values
pub record MeansReplay (o : Options) (turns : ℕ) : Type 0 where
  pub no_swarms : HasNoSwarms o
  pub no_stops : HasNoStops o
  pub interval : IsInterval o turns

-- the options of `swarm` are this plan: all but the interval are there
pub record MeansSwarm (o : Options) (plan : Plan) : Type 0 where
  pub number : o.number ≡ Some plan.number
  pub ledgers : o.ledgers ≡ Some plan.ledgers
  pub items : o.items ≡ Some plan.items
  pub liars : o.liars ≡ Some plan.liars
  pub actors : o.actors ≡ Some plan.actors
  pub interval : IsInterval o plan.interval
  pub no_stops : HasNoStops o
  pub ranges : IsPlan plan

-- the options of `stop` are these values: when to stop is among them, and no dump
pub record MeansStop (o : Options) (calls images turns : ℕ) : Type 0 where
  pub no_swarms : HasNoSwarms o
  pub no_dump : o.dump ≡ false
  pub at : o.at ≡ Some calls
  pub pick : IsPick o images
  pub interval : IsInterval o turns

-- the command's word
abbrev pub command_word : Words → Bytes
command_word (Replay interval quiet dump) = codes "replay"
command_word (Swarm plan quiet dump) = codes "swarm"
command_word (Stop at pick interval quiet) = codes "stop"

-- the options are these values of the command
abbrev pub Means : Options → Words → Type 0
Means o (Replay interval quiet dump) = MeansReplay o interval × (quiet ≡ o.quiet) × (dump ≡ o.dump)
Means o (Swarm plan quiet dump) = MeansSwarm o plan × (quiet ≡ o.quiet) × (dump ≡ o.dump)
Means o (Stop at pick interval quiet) = MeansStop o at pick interval × (quiet ≡ o.quiet)

-- the words behind the program's name say these values: the command, and behind it its options
abbrev pub Says : List Bytes → Words → Type 0
Says words w = (rest : List Bytes) × (o : Options) × (words ≡ command_word w ∷ rest) × Gives rest no_options o × Means o w
