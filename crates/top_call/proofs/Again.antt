-- How a run on disks that stop ends.
use Rattle.std.proofs.Common.{◌≡◌, inl, inr, ℕ, Bool, true, List, [], ◌∷◌, ◌++◌, Option, None, Some, refl, ◌∙◌, subst}
use Rattle.std.specs.Option.{IsNone}
use Rattle.std.specs.Borrow.{Bor}
use Rattle.ledger_spec.specs.Bytes.{Bytes, Half}
use Rattle.ledger_machine.specs.declared.commands.Record.{Record}
use Rattle.run_io.specs.Bytes.{Rose, Wrote, WrotePart}
use Rattle.run_io.proofs.shared.Bytes.{wrote_nothing, wrote_part}
use Rattle.run_words.specs.declared.words.Words.{Words}
use Rattle.store_core.specs.Journal.{CoreView, IsJournal}
use Rattle.stop_run.specs.Opening.{IsReopened, complete_in}
use Rattle.top_call.specs.declared.status.TheConstants.{FINE, SINK_FAILED, STORE_FAILED, CLASHED, NO_MEMORY}
use Rattle.top_call.specs.Asking.{Asks}
use Rattle.top_call.specs.Stopping.{IsStop, stopped_text, PrintsStop, HasStopped, HasStopEnd}
use Rattle.top_call.specs.Top.{IsOneOf, HasSaid, text_of}
use Rattle.top_call.proofs.Statuses.{status_from}

-- where the sink failed or memory was wanted, a front of the text was written
pub cut_stop : (c : CoreView) (at : ℕ) (quiet : Bool) (counts : Option (ℕ × ℕ)) (held now : Option Bytes) (before after status : ℕ)
    → HasSaid status c before after → (IsOneOf status (FINE ∷ STORE_FAILED ∷ CLASHED ∷ []) → ⊥)
    → (kept whole : ℕ) → WrotePart held now (text_of quiet c ++ stopped_text at kept whole)
    → PrintsStop c at quiet counts held now before after status
cut_stop c at quiet counts held now before after status said other kept whole part = record {
  said = said;
  counted = λ one. absurd (other one);
  printed = λ one. absurd (other one);
  part = (kept, whole, part);
}

no_memory : IsOneOf NO_MEMORY (FINE ∷ STORE_FAILED ∷ CLASHED ∷ []) → ⊥
no_memory e = absurd (cc)

no_sink : IsOneOf SINK_FAILED (FINE ∷ STORE_FAILED ∷ CLASHED ∷ []) → ⊥
no_sink e = absurd (cc)

-- since memory was wanted
pub wanted_stop : (c : CoreView) (at : ℕ) (quiet : Bool) (counts : Option (ℕ × ℕ)) (held now : Option Bytes) (before after : ℕ)
    (kept whole : ℕ) → WrotePart held now (text_of quiet c ++ stopped_text at kept whole)
    → PrintsStop c at quiet counts held now before after NO_MEMORY
wanted_stop c at quiet counts held now before after kept whole part =
    cut_stop c at quiet counts held now before after NO_MEMORY (inr (inr refl)) no_memory kept whole part

-- since the sink failed
pub failed_stop : (c : CoreView) (at : ℕ) (quiet : Bool) (counts : Option (ℕ × ℕ)) (held now : Option Bytes) (before after : ℕ)
    → Rose before after → (kept whole : ℕ) → WrotePart held now (text_of quiet c ++ stopped_text at kept whole)
    → PrintsStop c at quiet counts held now before after SINK_FAILED
failed_stop c at quiet counts held now before after rose kept whole part =
    cut_stop c at quiet counts held now before after SINK_FAILED (inr (inl (refl, rose))) no_sink kept whole part

-- a front of the run's text is a front of it with the last line
pub part_of_run : (held now : Option Bytes) (text last : Bytes) → WrotePart held now text → WrotePart held now (text ++ last)
part_of_run held now text last part = wrote_part held held now [] text (text ++ last) (wrote_nothing held) part (last, refl)

-- the text of the last line, where all that was retained is whole
pub stopped_again : (half : Half) (Left : CoreView → List Record → Type 0) (at interval : ℕ) (quiet : Bool) (held now : Option Bytes)
    (before after status : ℕ) (c d : CoreView) (kept whole : ℕ) → c.missed ≡ 0 → IsJournal half true c
    → PrintsStop c at quiet (Some (kept, whole)) held now before after status → IsReopened half (Left c) interval c d
    → whole ≡ complete_in d → kept ≡ whole
    → HasStopped half Left at interval quiet held now before after status c (Some d)
stopped_again half Left at interval quiet held now before after status c d kept whole missed journal prints again counted same = record {
  missed = missed;
  status_is = status_from half true status c before after journal prints.said;
  said = prints.said;
  opened = λ one. refl;
  whole = again;
  printed = λ one. (
    again.hashes,
    again.retained,
    again.complete,
    subst (λ (n : ℕ). Wrote held now (text_of quiet c ++ stopped_text at n (complete_in d))) (same ∙ counted ∙ again.complete)
        (subst (λ (n : ℕ). Wrote held now (text_of quiet c ++ stopped_text at kept n)) counted (prints.printed one)),
  );
  part = prints.part;
}

-- where memory was wanted to open a core again, there is no such line
pub stopped_alone : (half : Half) (Left : CoreView → List Record → Type 0) (at interval : ℕ) (quiet : Bool) (held now : Option Bytes)
    (before after status : ℕ) (c : CoreView) → c.missed ≡ 0 → IsJournal half true c
    → PrintsStop c at quiet None held now before after status
    → HasStopped half Left at interval quiet held now before after status c None
stopped_alone half Left at interval quiet held now before after status c missed journal prints = record {
  missed = missed;
  status_is = status_from half true status c before after journal prints.said;
  said = prints.said;
  opened = prints.counted;
  whole = tt;
  printed = λ one. tt;
  part = prints.part;
}

-- what isn't a run on disks that stop
pub none_stopped : {H : Type 0} (half : Half) (Left : ℕ → CoreView → List Record → Type 0) (words : List (Bor (List ℕ)))
    (left rest held now : Option Bytes) (before after status : ℕ) (core : Option CoreView) (Unwritten : Type 0)
    → ((w : Words) → Asks words w → IsStop w → IsNone core
    × (IsOneOf status (FINE ∷ SINK_FAILED ∷ STORE_FAILED ∷ CLASHED ∷ []) → ⊥))
    → HasStopEnd {H = H} half Left words left rest held now before after status core None Unwritten
none_stopped half Left words left rest held now before after status core Unwritten other = record {
  only = λ w asks no. refl;
  alone = λ w asks is. (other w asks is).0;
  some = λ w asks is one. absurd ((other w asks is).1 one);
  ends = λ w asks. tt;
  complete = λ still. tt;
}
