-- What the top call says of a run on disks that stop.
use Rattle.std.specs.Prelude.{◌≡◌, ℕ, Bool, true, IfSome, IsSome, IsNone, IsTrue, List, [], ◌∷◌, ◌++◌, Option, length, codes}
use Rattle.std.specs.Borrow.{Bor}
use Rattle.std.specs.Fmt.{decimal}
use Rattle.ledger_spec.specs.Bytes.{Bytes, Hash, Half}
use Rattle.ledger_machine.specs.declared.commands.Line.{Line}
use Rattle.ledger_machine.specs.declared.commands.Record.{Record}
use Rattle.run_io.specs.Bytes.{Rose, Wrote, WrotePart}
use Rattle.run_words.specs.declared.words.Words.{Words}
use Rattle.run_words.specs.declared.words.Words.TheVariants.{Replay, Swarm, Stop}
use Rattle.store_core.specs.Journal.{CoreView}
use Rattle.core_machine.specs.Retaining.{AreRetained}
use Rattle.stop_run.specs.declared.ended.StopEnd.{StopEnd}
use Rattle.stop_run.specs.Ending.{MatchEnd, HasFailed, wanted_memory}
use Rattle.stop_run.specs.Opening.{IsReopened, complete_in}
use Rattle.top_call.specs.declared.status.TheConstants.{FINE, SINK_FAILED, STORE_FAILED, CLASHED, NO_MEMORY}
use Rattle.top_call.specs.Asking.{Asks, interval_in, quiet_in}
use Rattle.top_call.specs.Top.{IsOneOf, HasSaid, HasStatus, IsCalm, IsRunOfInput, IsWhole, WroteOrFailed, text_of}

-- the words ask for a run on disks that stop
abbrev pub IsStop : Words → Type 0
IsStop (Replay interval quiet dump) = ⊥
IsStop (Swarm plan quiet dump) = ⊥
IsStop (Stop at pick interval quiet) = Unit {0}

-- after how many changing calls they stop, and which images of them are picked
abbrev pub at_in : Words → ℕ
at_in (Replay interval quiet dump) = 0
at_in (Swarm plan quiet dump) = 0
at_in (Stop at pick interval quiet) = at

abbrev pub pick_in : Words → ℕ
pick_in (Replay interval quiet dump) = 0
pick_in (Swarm plan quiet dump) = 0
pick_in (Stop at pick interval quiet) = pick

-- the last line: when the disks stopped, how many ledgers were retained, and how many of these are whole
abbrev pub stopped_text : ℕ → ℕ → ℕ → Bytes
stopped_text at kept whole =
    codes "stopped " ++ decimal at ++ codes " kept " ++ decimal kept ++ codes " whole " ++ decimal whole ++ 10 ∷ []

-- the core of a whole run of a script
pub record IsRunOf (half : Half) (records : List Record) (lines : List Line) (interval : ℕ) (c : CoreView) : Type 0 where
  pub records_are : c.records ≡ records
  pub lines_are : c.lines ≡ lines
  pub interval_is : c.interval ≡ interval
  pub whole : IsWhole half true c

-- What is printed of a run, and behind it how many ledgers it retained and how many are whole, where memory wasn't wanted for that.
pub record PrintsStop (c : CoreView) (at : ℕ) (quiet : Bool) (counts : Option (ℕ × ℕ)) (held now : Option Bytes) (before after status : ℕ)
    : Type 0 where
  pub said : HasSaid status c before after
  pub counted : IsOneOf status (FINE ∷ STORE_FAILED ∷ CLASHED ∷ []) → IsSome counts
  pub printed : IsOneOf status (FINE ∷ STORE_FAILED ∷ CLASHED ∷ [])
      → IfSome counts (λ n. Wrote held now (text_of quiet c ++ stopped_text at n.0 n.1))
  pub part : (kept whole : ℕ) × WrotePart held now (text_of quiet c ++ stopped_text at kept whole)

-- The run, and the core that was opened again over what the disks were left with. `AreLeft` says that records are what is recovered of
-- them; `held` and `now` are what the sink held and holds, `before` and `after` its counts of faults.
pub record HasStopped (half : Half) (AreLeft : CoreView → List Record → Type 0) (at interval : ℕ) (quiet : Bool) (held now : Option Bytes)
    (before after status : ℕ) (c : CoreView) (again : Option CoreView) : Type 0 where
  -- the status is that of the run's journal, unless the sink failed or memory was wanted
  pub missed : c.missed ≡ 0
  pub status_is : HasStatus half true status c
  pub said : HasSaid status c before after
  -- with no other status is there no core that was opened again
  pub opened : IsOneOf status (FINE ∷ STORE_FAILED ∷ CLASHED ∷ []) → IsSome again
  -- all that was retained is whole in it
  pub whole : IfSome again (IsReopened half (AreLeft c) interval c)
  -- the run's text is written, and behind it how many ledgers were retained and how many are whole: all of them
  pub printed : IsOneOf status (FINE ∷ STORE_FAILED ∷ CLASHED ∷ [])
      → IfSome again (λ d. (hashes : List Hash) × AreRetained c.state hashes × (complete_in d ≡ length hashes)
      × Wrote held now (text_of quiet c ++ stopped_text at (length hashes) (complete_in d)))
  -- or a front of that, where the sink failed or memory was wanted
  pub part : (kept whole : ℕ) × WrotePart held now (text_of quiet c ++ stopped_text at kept whole)

-- Where there was no run, since the shelf was not made or the store was not opened.
pub record HasNotRun (at : ℕ) (Failed Wanted : Type 0) (held now : Option Bytes) (before after status : ℕ) (Unwritten : Type 0)
    : Type 0 where
  pub one_of : IsOneOf status (STORE_FAILED ∷ NO_MEMORY ∷ [])
  -- the status tells a failure from want of memory
  pub cause : status ≡ STORE_FAILED → Failed
  pub wanted : Wanted → status ≡ NO_MEMORY
  -- the last line stands alone, or a front of it where the sink failed; nothing is written where memory was wanted
  pub printed : status ≡ STORE_FAILED → WroteOrFailed held now before after (stopped_text at 0 0)
  pub unwritten : status ≡ NO_MEMORY → Unwritten

-- How a run on disks that stop ended. `AreLeft` says of a pick and a core that records are what is recovered of its disks; `Unwritten` says
-- that the sink is as it was.
pub record HasStopEnd {H : Type 0} (half : Half) (AreLeft : ℕ → CoreView → List Record → Type 0) (words : List (Bor (List ℕ)))
    (left rest held now : Option Bytes) (before after status : ℕ) (core : Option CoreView) (stopped : Option (StopEnd H))
    (Unwritten : Type 0) : Type 0 where
  -- there is such a run only where the words ask for it, and then there is no core beside
  pub only : (w : Words) → Asks words w → (IsStop w → ⊥) → IsNone stopped
  pub alone : (w : Words) → Asks words w → IsStop w → IsNone core
  -- with these statuses there always is one, where the words ask for it
  pub some : (w : Words) → Asks words w → IsStop w → IsOneOf status (FINE ∷ SINK_FAILED ∷ STORE_FAILED ∷ CLASHED ∷ []) → IsSome stopped
  -- it is a run of the input, and all that it retained is whole; or there was none
  pub ends : (w : Words) → Asks words w → IfSome stopped (λ e. MatchEnd e
      (λ c d. IsRunOfInput half true words left rest c
      × HasStopped half (AreLeft (pick_in w)) (at_in w) (interval_in w) (quiet_in w) held now before after status c d)
      (λ e. HasNotRun (at_in w) (HasFailed e) (IsTrue (wanted_memory e)) held now before after status Unwritten))
  -- where no count rose the whole text is written, or memory was wanted
  pub complete : (Rose before after → ⊥)
      → IfSome stopped (λ e. MatchEnd e (λ c d. IsCalm 0 c → IsOneOf status (FINE ∷ CLASHED ∷ NO_MEMORY ∷ []))
      (λ e. IsTrue (wanted_memory e) → status ≡ NO_MEMORY))
