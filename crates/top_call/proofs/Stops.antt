-- What a run on disks that stop says of the top call.
use Rattle.std.proofs.Common.{◌≡◌, ◌⊎◌, inl, inr, ℕ, ◌≤◌, ◌||◌, ◌==◌, Bool, true, false, IsTrue, List, [], ◌∷◌, Option, None, Some, refl, sym, ap, ◌∙◌, subst, arith}
use Rattle.std.specs.List.{list_any}
use Rattle.std.specs.Prelude.{if◌then◌else◌, nat_lt}
use Rattle.std.specs.Borrow.{Bor}
use Rattle.std.proofs.lemmas.Bool.{eqb-true}
use Rattle.ledger_spec.specs.Bytes.{Bytes, Half}
use Rattle.ledger_machine.specs.declared.commands.Line.{Line}
use Rattle.ledger_machine.specs.declared.commands.Record.{Record}
use Rattle.ledger_machine.specs.declared.journal.Entry.{Entry}
use Rattle.run_io.specs.Bytes.{Rose, TookPart}
use Rattle.script_form.specs.Grammar.{most_read}
use Rattle.run_words.specs.declared.words.Words.{Words}
use Rattle.run_words.specs.declared.words.Words.TheVariants.{Stop}
use Rattle.store_core.specs.Journal.{CoreView}
use Rattle.stop_run.specs.declared.ended.StopEnd.{StopEnd}
use Rattle.stop_run.specs.declared.ended.StopEnd.TheVariants as ends
use Rattle.stop_run.specs.Ending.{MatchEnd, HasFailed, wanted_memory}
use Rattle.top_call.specs.declared.status.TheConstants.{FINE, USAGE, SOURCE_FAILED, SINK_FAILED, STORE_FAILED, CLASHED, NO_MEMORY}
use Rattle.top_call.specs.Asking.{Asks, AreCommand, IsRead, IsScriptOf, WasRead, interval_in, quiet_in}
use Rattle.top_call.specs.Output.{met_fault, shows_clash, status_of}
use Rattle.top_call.specs.Output as output
use Rattle.top_call.specs.Stopping.{IsStop, HasNotRun, HasStopped, HasStopEnd, IsRunOf, at_in, pick_in}
use Rattle.top_call.specs.Top.{IsOneOf, HasCause, HasSaid, IsCalm, IsRunOfInput, IsUsage}
use Rattle.top_call.proofs.Refusals.{asked_as, script_as}
use Rattle.top_call.proofs.Statuses.{calm_free}

-- a status of a run
abbrev pub OfRun : ℕ → Type 0
OfRun status = IsOneOf status (FINE ∷ SINK_FAILED ∷ STORE_FAILED ∷ CLASHED ∷ NO_MEMORY ∷ [])

no_usage : OfRun USAGE → ⊥
no_usage e = absurd (cc)

no_source : OfRun SOURCE_FAILED → ⊥
no_source e = absurd (cc)

-- the words are a command where there was a run
pub run_usage : (words : List (Bor (List ℕ))) (status : ℕ) (held now : Option Bytes) (before after : ℕ) (Unread : Type 0)
    → AreCommand words → OfRun status → ((w : Words) → Asks words w → (IsRead w → ⊥) → Unread)
    → IsUsage words status held now before after Unread
run_usage words status held now before after Unread command one unasked = record {
  exact = (λ e. absurd (other e), λ no. absurd (no command));
  command = λ e. command;
  printed = λ e. absurd (other e);
  unread = λ e. absurd (other e);
  unasked = unasked;
}
  where
    other : status ≡ USAGE → ⊥
    other e = no_usage (subst (λ (n : ℕ). OfRun n) e one)

-- the status of a journal is never that of a sink
no_sink_status : (journal : List Entry) (missed : ℕ) → status_of journal missed ≡ SINK_FAILED → ⊥
no_sink_status journal missed =
    at (list_any shows_clash journal) (list_any met_fault journal || nat_lt 0 missed) (list_any output.wanted_memory journal)
  where
    at : (a b c : Bool) → ◌≡◌ {A = ℕ} (if a then 7 else if b then 6 else if c then 8 else 0) 5 → ⊥
    at true b c e = absurd (cc)
    at false true c e = absurd (cc)
    at false false true e = absurd (cc)
    at false false false e = absurd (cc)

one_of_two : (n : ℕ) → IsOneOf n (STORE_FAILED ∷ NO_MEMORY ∷ []) → (n ≡ 6) ⊎ (n ≡ 8)
one_of_two n is = at (6 == n) (8 == n) refl refl is
  where
    at : (a b : Bool) → (6 == n) ≡ a → (8 == n) ≡ b → (a || (b || false)) ≡ true → (n ≡ 6) ⊎ (n ≡ 8)
    at true b x y e = inl (sym (eqb-true 6 n x))
    at false true x y e = inr (sym (eqb-true 8 n y))
    at false false x y e = absurd (cc)

of_two : (n : ℕ) → (n ≡ 6) ⊎ (n ≡ 8) → OfRun n
of_two n (inl e) = subst (λ (m : ℕ). OfRun m) (sym e) refl
of_two n (inr e) = subst (λ (m : ℕ). OfRun m) (sym e) refl

not_sink : (n : ℕ) → (n ≡ 6) ⊎ (n ≡ 8) → n ≡ SINK_FAILED → ⊥
not_sink n (inl e) sink = absurd (omega (arith, e, sink))
not_sink n (inr e) sink = absurd (omega (arith, e, sink))

-- other facts follow
end_with : {H : Type 0} (P P' : CoreView → Option CoreView → Type 0) (Q : StopEnd H → Type 0) (e : StopEnd H)
    → ((c : CoreView) (d : Option CoreView) → P c d → P' c d) → MatchEnd e P Q → MatchEnd e P' Q
end_with P P' Q (ends.Ran c d) run m = run c d m
end_with P P' Q (ends.Unopened u) run m = m
end_with P P' Q (ends.Unmade u) run m = m

module _ {H : Type 0} (half : Half) (Left : CoreView → List Record → Type 0) (at interval : ℕ) (quiet : Bool) (records : List Record)
    (lines : List Line) (held now : Option Bytes) (before after status : ℕ) (Unwritten : Type 0) where
  -- how a run of this script ended
  abbrev pub Ends : StopEnd H → Type 0
  Ends e = MatchEnd e
      (λ c d. IsRunOf half records lines interval c × HasStopped half Left at interval quiet held now before after status c d)
      (λ u. HasNotRun at (HasFailed u) (IsTrue (wanted_memory u)) held now before after status Unwritten)

  pub ended_status : (e : StopEnd H) → Ends e → OfRun status
  ended_status (ends.Ran c d) m = m.1.status_is.one_of
  ended_status (ends.Unopened u) m = of_two status (one_of_two status m.one_of)
  ended_status (ends.Unmade u) m = of_two status (one_of_two status m.one_of)

  pub ended_sink : (e : StopEnd H) → Ends e → status ≡ SINK_FAILED → Rose before after
  ended_sink (ends.Ran c d) m sink = of_said m.1.said
    where
      of_said : HasSaid status c before after → Rose before after
      of_said (inl own) = absurd (no_sink_status c.journal c.missed (sym own ∙ sink))
      of_said (inr (inl failed)) = failed.1
      of_said (inr (inr wanted)) = absurd (omega (arith, wanted, sink))
  ended_sink (ends.Unopened u) m sink = absurd (not_sink status (one_of_two status m.one_of) sink)
  ended_sink (ends.Unmade u) m sink = absurd (not_sink status (one_of_two status m.one_of) sink)

  -- no count rose
  pub ended_calm : (Rose before after → ⊥) → (e : StopEnd H) → Ends e
      → MatchEnd e (λ c d. IsCalm 0 c → IsOneOf status (FINE ∷ CLASHED ∷ NO_MEMORY ∷ [])) (λ u. IsTrue (wanted_memory u) → status ≡ NO_MEMORY)
  ended_calm still (ends.Ran c d) m = λ calm. of_said calm m.1.said
    where
      of_said : IsCalm 0 c → HasSaid status c before after → IsOneOf status (FINE ∷ CLASHED ∷ NO_MEMORY ∷ [])
      of_said calm (inl own) =
          subst (λ (n : ℕ). IsOneOf n (FINE ∷ CLASHED ∷ NO_MEMORY ∷ [])) (sym own)
          (calm_free half true 0 c m.0.whole.kept (omega arith, m.0.whole.kept.since) calm)
      of_said calm (inr (inl failed)) = absurd (still failed.1)
      of_said calm (inr (inr wanted)) = subst (λ (n : ℕ). IsOneOf n (FINE ∷ CLASHED ∷ NO_MEMORY ∷ [])) (sym wanted) refl
  ended_calm still (ends.Unopened u) m = m.wanted
  ended_calm still (ends.Unmade u) m = m.wanted

  -- what failed
  pub ended_cause : (left rest : Option Bytes) (read read' : ℕ) (e : StopEnd H) → Ends e → read ≤ read' → before ≤ after
      → TookPart left rest most_read
      → HasCause status left rest read read' before after None (Some e) Unwritten
  ended_cause left rest read read' e m reads writes taken = record {
    source = λ s. absurd (no_source (subst (λ (n : ℕ). OfRun n) s (ended_status e m)));
    sink = ended_sink e m;
    no_core = λ n some. absurd (cc);
    unwritten = λ s. absurd (no_source (subst (λ (n : ℕ). OfRun n) s (ended_status e m)));
    silent = λ n some. absurd (cc);
    later = (reads, writes);
    taken = taken;
  }

-- a run on disks that stop, which the words ask for
pub has_stop_end : {H : Type 0} (half : Half) (Left : ℕ → CoreView → List Record → Type 0) (words : List (Bor (List ℕ)))
    (left rest held now : Option Bytes) (before after status : ℕ) (Unwritten : Type 0) (records : List Record) (lines : List Line)
    (at pick interval : ℕ) (quiet : Bool) (asked : Words) (e : StopEnd H) → asked ≡ Stop at pick interval quiet
    → ((w : Words) → Asks words w → w ≡ asked) → IsScriptOf half asked left records lines → WasRead asked left rest
    → Ends half (Left pick) at interval quiet records lines held now before after status Unwritten e
    → HasStopEnd half Left words left rest held now before after status None (Some e) Unwritten
has_stop_end half Left words left rest held now before after status Unwritten records lines at pick interval quiet asked e is only script read ended =
    record {
      only = λ w asks no. absurd (no (subst IsStop (sym (same w asks)) tt));
      alone = λ w asks stop. refl;
      some = λ w asks stop one. refl;
      ends = λ w asks.
          subst (λ (v : Words). MatchEnd e
          (λ c d. IsRunOfInput half true words left rest c
          × HasStopped half (Left (pick_in v)) (at_in v) (interval_in v) (quiet_in v) held now before after status c d)
          (λ u. HasNotRun (at_in v) (HasFailed u) (IsTrue (wanted_memory u)) held now before after status Unwritten)) (sym (same w asks))
          (end_with _ _ _ e (λ c d m. (of_input c m.0, m.1)) ended);
      complete = λ still. ended_calm half (Left pick) at interval quiet records lines held now before after status Unwritten still e ended;
    }
  where
    same : (w : Words) → Asks words w → w ≡ Stop at pick interval quiet
    same w asks = only w asks ∙ is

    of_input : (c : CoreView) → IsRunOf half records lines interval c → IsRunOfInput half true words left rest c
    of_input c run = record {
      script = λ v asks. script_as half v left records c.records lines c.lines (sym run.records_are) (sym run.lines_are)
          (asked_as half asked v left records lines (only v asks) script);
      read = λ v asks. subst (λ (x : Words). WasRead x left rest) (sym (only v asks)) read;
      interval = λ v asks. run.interval_is ∙ sym (ap interval_in (same v asks));
      whole = run.whole;
    }
