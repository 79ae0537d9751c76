-- The machine's steps beside the open sessions.
use Rattle.std.proofs.Common.{◌≡◌, ℕ, Bool, true, false, IsTrue, List, [], ◌∷◌, ◌++◌, ◌||◌, map, refl, sym, ap, ◌∙◌}
use Rattle.std.proofs.Common.{subst}
use Rattle.std.proofs.Common.{Result, Ok, Err, IfOk}
use Rattle.std.specs.Result.{OnErr}
use Rattle.half_hash.specs.declared.bytes.Memory.{Memory}
use Rattle.std.specs.List.{All, list_any}
use Rattle.std.specs.Map.{keys_of, values_of}
use Rattle.std.proofs.lemmas.List.Folds.{list_any-append}
use Rattle.std.proofs.lemmas.List.{append-nil}
use Rattle.std.proofs.lemmas.Bool.{false≢true}
use Rattle.ledger_spec.specs.Bytes.{Hash, Half, Lookup, same_bytes}
use Rattle.ledger_spec.specs.Maps.{ForActor, numbered_cmp, has_in, remove_in}
use Rattle.ledger_spec.specs.Forms.{Held}
use Rattle.ledger_spec.specs.Own.{AreStored}
use Rattle.ledger_spec.proofs.shared.ReachLaws.{Grows}
use Rattle.edit_session.specs.Drafts.{Draft, StaysOverParent}
use Rattle.ledger_machine.specs.declared.commands.Command.{Command}
use Rattle.ledger_machine.specs.declared.commands.Reply.{Reply}
use Rattle.ledger_machine.specs.declared.commands.ViewReply.{ViewReply}
use Rattle.ledger_machine.specs.declared.commands.ViewReply.TheVariants as view
use Rattle.ledger_machine.specs.State.{State, Session, form_in, with_sessions}
use Rattle.ledger_machine.specs.Commands.{IsBeside}
use Rattle.ledger_machine.specs.Views.{is_retained, after_view}
use Rattle.ledger_machine.specs.Steps.{Does}
use Rattle.ledger_laws.proofs.shared.Going.{beside_grows}
use Rattle.open_sessions.specs.Edited.{IsKept, session_in, sessions_in}
use Rattle.open_sessions.specs.Rows.{AllKept}
use Rattle.open_sessions.proofs.shared.Editing.{kept_grows}
use Rattle.open_sessions.proofs.shared.Tables.{over_same, over_values, over_has, over_remove}
use Rattle.std.proofs.lemmas.Map.Views.{All-map-remove_entry}
use Rattle.ledger_machine.specs.Sessions.{has_session, without_session}
use Rattle.core_machine.specs.Machines.{told_forms, with_open, KeepsDrafts}
use Rattle.core_machine.specs.Desks.{Desk, OnlyReads, Stays}

-- what a command does, it does whatever sessions are open
abbrev IsOneBeside : Half → State → State → ℕ → Command → Reply → List Held → Type 0
IsOneBeside half s s' a c reply used =
    (es : ForActor Session) → Does half s a c reply used s' → Does half (with_sessions s es) a c reply used (with_sessions s' es)

module _ (half : Half) (stays : StaysOverParent) (drafts : ForActor Draft) where
  -- the drafts stay what they are as the store grows
  pub all_grow : (s s' : State) → Grows (form_in s) (form_in s') → AllKept half s drafts → AllKept half s' drafts
  all_grow s s' up all = λ k d lt. (kept_grows half stays (form_in s) (form_in s') _ up (all k d lt)).0

  pub sessions_stay : (s s' : State) → Grows (form_in s) (form_in s') → AllKept half s drafts
      → sessions_in half (form_in s') drafts ≡ sessions_in half (form_in s) drafts
  sessions_stay s s' up all =
      over_same (session_in half (form_in s')) (session_in half (form_in s)) drafts
      (λ k d lt. (kept_grows half stays (form_in s) (form_in s') _ up (all k d lt)).1)

  -- what the machine does it does beside the sessions
  pub lifted : (tells : Bool) (s s' : State) (a : ℕ) (c : Command) (reply : Reply) (used : List Held) → IsTrue tells → IsBeside c
      → IsOneBeside half s s' a c reply used → AllKept half s drafts → Does half s a c reply used s'
      → Does half (with_open half tells s drafts) a c reply used (with_open half tells s' drafts)
  lifted true s s' a c reply used told is law all does =
      subst (λ (es : ForActor Session). Does half (with_open half true s drafts) a c reply used (with_sessions s' es))
      (sym (sessions_stay s s' (beside_grows half s s' a c reply used is does.outcome) all))
      (law (sessions_in half (form_in s) drafts) does)
  lifted false s s' a c reply used told is law all does = absurd (false≢true told)

  pub lifted_keeps : (tells : Bool) (s s' : State) (a : ℕ) (c : Command) (reply : Reply) (used : List Held) → IsBeside c
      → (IsTrue tells → AllKept half s drafts) → (IsTrue tells → Does half s a c reply used s') → KeepsDrafts half tells s' drafts
  lifted_keeps tells s s' a c reply used is all does told stored =
      all_grow s s' (beside_grows half s s' a c reply used is (does told).outcome) (all told)

-- a view changes no session
pub viewed : (half : Half) (tells : Bool) (s : State) (drafts : ForActor Draft) (v : ℕ × ℕ) (t : Hash) (r : ViewReply)
    → with_open half tells (after_view s v t r) drafts ≡ after_view (with_open half tells s drafts) v t r
viewed half true s drafts v t view.Fine = refl
viewed half true s drafts v t view.InUse = refl
viewed half true s drafts v t view.NotRetained = refl
viewed half true s drafts v t view.TooMany = refl
viewed half false s drafts v t view.Fine = refl
viewed half false s drafts v t view.InUse = refl
viewed half false s drafts v t view.NotRetained = refl
viewed half false s drafts v t view.TooMany = refl

pub viewed_nodes : (s : State) (v : ℕ × ℕ) (t : Hash) (r : ViewReply) → form_in (after_view s v t r) ≡ form_in s
viewed_nodes s v t view.Fine = refl
viewed_nodes s v t view.InUse = refl
viewed_nodes s v t view.NotRetained = refl
viewed_nodes s v t view.TooMany = refl

-- what reads the store leaves the sessions
pub reads_beside : (half : Half) (tells : Bool) (drafts : ForActor Draft) (d d' : Desk) → OnlyReads tells d d'
    → OnlyReads tells (record d { state = with_open half tells d.state drafts }) (record d' {
      state = with_open half tells d'.state drafts;
    })
reads_beside half true drafts d d' r = record {
  state = λ told. ap (λ (s : State). with_open half true s drafts) (r.state told);
  tables = ap (λ (s : State). with_open half true s drafts) (r.state refl)
      ∙ sym (ap (λ (s : State). record (with_open half true d.state drafts) { nodes = s.nodes; born = s.born }) (r.state refl));
  copies = r.copies;
  slices = r.slices;
  later = r.later;
}
reads_beside half false drafts d d' r = record {
  state = λ told. absurd (false≢true told);
  copies = r.copies;
  slices = r.slices;
  tables = ap (λ (s : State). with_open half false s drafts) r.tables;
  later = r.later;
}

-- and so does what lists and copies nothing
pub stays_beside : (half : Half) (tells : Bool) (d d' : Desk) (old new : ForActor Draft) → Stays tells d d'
    → Stays tells (record d { state = with_open half tells d.state old }) (record d' { state = with_open half tells d'.state new })
stays_beside half tells d d' old new s = record {
  later = s.later;
  listed = s.listed;
  epoch = s.epoch;
  slices = s.slices;
  copies = s.copies;
}

-- a ledger is retained where it is listed, pinned by a view, or edited
pub retained_with : (half : Half) (tells : Bool) (s : State) (drafts : ForActor Draft) (t : Hash) → s.sessions ≡ []
    → (is_retained s t || list_any (λ d. same_bytes t d.base) (values_of drafts)) ≡ is_retained (with_open half tells s drafts) t
retained_with half tells s drafts t none =
    ap (λ b. b || list_any (λ d. same_bytes t d.base) (values_of drafts)) alone
    ∙ ap (λ b. list_any (same_bytes t) tables || b) (sym (bases_same (values_of drafts)))
    ∙ sym (list_any-append (same_bytes t) tables (map (λ x. x.base) (map (session_in half (told_forms tells s)) (values_of drafts))))
    ∙ sym (ap (λ (es : List Session). list_any (same_bytes t) (tables ++ map (λ x. x.base) es))
    (over_values (session_in half (told_forms tells s)) drafts))
  where
    tables : List Hash
    tables = keys_of s.listed ++ values_of s.views

    alone : is_retained s t ≡ list_any (same_bytes t) tables
    alone =
        ap (λ (es : ForActor Session). list_any (same_bytes t) (keys_of s.listed ++ values_of s.views ++ map (λ x. x.base) (values_of es)))
        none
        ∙ ap (list_any (same_bytes t)) (append-nil (keys_of s.listed ++ values_of s.views))

    bases_same : (ds : List Draft)
        → list_any (same_bytes t) (map (λ x. x.base) (map (session_in half (told_forms tells s)) ds))
        ≡ list_any (λ d. same_bytes t d.base) ds
    bases_same [] = refl
    bases_same (d ∷ ds) = ap (λ b. same_bytes t d.base || b) (bases_same ds)

-- a session that has ended
pub ended_has : (half : Half) (tells : Bool) (s : State) (drafts : ForActor Draft) (x : ℕ × ℕ)
    → has_in numbered_cmp drafts x ≡ has_session (with_open half tells s drafts) x
ended_has half tells s drafts x = sym (over_has (session_in half (told_forms tells s)) drafts x)

pub ended_state : (half : Half) (tells : Bool) (s : State) (drafts new : ForActor Draft) (x : ℕ × ℕ) → new ≡ remove_in numbered_cmp drafts x
    → with_open half tells s new ≡ without_session (with_open half tells s drafts) x
ended_state half tells s drafts new x is =
    ap (with_open half tells s) is
    ∙ ap (λ (es : ForActor Session). with_sessions s es) (over_remove (session_in half (told_forms tells s)) drafts x)

pub ended_keeps : (half : Half) (tells : Bool) (s : State) (drafts new : ForActor Draft) (x : ℕ × ℕ) → new ≡ remove_in numbered_cmp drafts x
    → KeepsDrafts half tells s drafts → KeepsDrafts half tells s new
ended_keeps half tells s drafts new x is keeps told stored =
    subst (λ (ds : ForActor Draft). AllKept half s ds) (sym is)
    (All-map-remove_entry _ (λ e. e.1) (IsKept half (form_in s)) drafts (keeps told stored))

-- drafts are kept by what is stored
pub keeps_same : (half : Half) (tells : Bool) (s s' : State) (drafts : ForActor Draft) → form_in s' ≡ form_in s
    → KeepsDrafts half tells s drafts → KeepsDrafts half tells s' drafts
keeps_same half tells s s' drafts same keeps =
    subst (λ (n : Lookup). IsTrue tells → AreStored half n → All (IsKept half n) (values_of drafts)) (sym same) keeps

pub keeps_read : (half : Half) (tells : Bool) (d d' : Desk) (drafts : ForActor Draft) → OnlyReads tells d d'
    → KeepsDrafts half tells d.state drafts → KeepsDrafts half tells d'.state drafts
keeps_read half tells d d' drafts read keeps told =
    keeps_same half tells d.state d'.state drafts (ap (λ (s : State). form_in s) (read.state told)) keeps told

-- where a view was opened, or wasn't
pub view_keeps : (half : Half) (tells : Bool) (d d' : Desk) (drafts : ForActor Draft) (v : ℕ × ℕ) (t : Hash) (r : Result ViewReply Memory)
    → IfOk r (λ x. d'.state ≡ after_view d.state v t x) → OnErr r (d' ≡ d)
    → KeepsDrafts half tells d.state drafts → KeepsDrafts half tells d'.state drafts
view_keeps half tells d d' drafts v t (Ok x) ok err keeps =
    keeps_same half tells d.state d'.state drafts (ap (λ (s : State). form_in s) ok ∙ viewed_nodes d.state v t x) keeps
view_keeps half tells d d' drafts v t (Err e) ok err keeps =
    keeps_same half tells d.state d'.state drafts (ap (λ (x : Desk). form_in x.state) err) keeps

pub view_after : (half : Half) (tells : Bool) (s s' : State) (drafts : ForActor Draft) (v : ℕ × ℕ) (t : Hash) (r : Result ViewReply Memory)
    → IfOk r (λ x. s' ≡ after_view s v t x)
    → IfOk r (λ x. with_open half tells s' drafts ≡ after_view (with_open half tells s drafts) v t x)
view_after half tells s s' drafts v t (Ok x) ok =
    ap (λ (y : State). with_open half tells y drafts) ok ∙ viewed half tells s drafts v t x
view_after half tells s s' drafts v t (Err e) ok = tt
