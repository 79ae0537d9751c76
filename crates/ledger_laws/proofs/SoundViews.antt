-- Views keep a state sound: each is of a ledger that was retained before.
use Rattle.std.proofs.Common.{◌≡◌, ⊎_elim, ℕ, ◌++◌, Bool, true, false, not, if◌then◌else◌, ◌==◌, length, List}
use Rattle.std.proofs.Common.{get_or, refl}
use Rattle.std.specs.Map.{keys_of, values_of}
use Rattle.std.specs.List.{All}
use Rattle.std.proofs.lemmas.List.Elements.{All-contains, Contains-get_or, Contains-append_cases}
use Rattle.std.proofs.lemmas.List.Elements.{Contains-append_left, Contains-append_right}
use Rattle.std.proofs.lemmas.Map.Views.{All-values-insert_entry, All-map-remove_entry}
use Rattle.ledger_spec.specs.Maps.{ForActor, numbered_cmp, IsMap, insert_in, remove_in, has_in}
use Rattle.ledger_spec.specs.Bytes.{Hash, Half}
use Rattle.ledger_spec.specs.declared.Kind.{Kind}
use Rattle.ledger_spec.specs.Forms.{Held}
use Rattle.ledger_machine.specs.State.{State, form_in, retained, bases}
use Rattle.ledger_machine.specs.Sound.{Sound, IsWholeLedger}
use Rattle.ledger_machine.specs.Views.{is_retained, view_reply, after_view, after_unview, unview_reply}
use Rattle.ledger_machine.specs.declared.commands.ViewReply.{ViewReply}
use Rattle.ledger_machine.specs.declared.commands.ViewReply.TheVariants as view
use Rattle.ledger_machine.specs.declared.commands.Command.TheVariants as command
use Rattle.ledger_machine.specs.declared.commands.Reply.{Reply}
use Rattle.ledger_machine.specs.declared.commands.Reply.TheVariants as says
use Rattle.ledger_machine.specs.Steps.{Step}
use Rattle.ledger_machine.specs.Reading.{view_root}
use Rattle.ledger_laws.proofs.SoundTables.{insert_rises, remove_rises}
use Rattle.ledger_laws.proofs.shared.SoundViews.{numbered_total, among}
use Rattle.ledger_laws.proofs.SoundKeeps.{keeps_sound, keeps_self, keeps_after, gives_same}
use Rattle.ledger_laws.proofs.shared.SoundForms.{refused_none}
use Rattle.ledger_laws.proofs.shared.SoundSteps.{outcome_cases, gets_after, pages_after}

-- a view that is opened is of a retained ledger
fine_retained : (a b c : Bool)
    → (if a then view.InUse else if not b then view.NotRetained else if c then view.TooMany else view.Fine) ≡ view.Fine
    → b ≡ true
fine_retained true b c e = cc
fine_retained false false c e = cc
fine_retained false true c e = refl

-- the ledgers of open views are whole
pub views_whole : (half : Half) (s : State) → Sound half s → All (IsWholeLedger half (form_in s)) (values_of s.views)
views_whole half s sound k d lt =
    let t : Hash = get_or (values_of s.views) k d in
    sound.retained_whole t (Contains-append_left (keys_of s.listed ++ values_of s.views) (bases s) t
    (Contains-append_right (keys_of s.listed) (values_of s.views) t (Contains-get_or (values_of s.views) k d lt)))

-- other views, of whole ledgers, keep a state sound
views_sound : (half : Half) (s : State) (views : ForActor Hash) → Sound half s → (IsMap numbered_cmp s.views → IsMap numbered_cmp views)
    → All (IsWholeLedger half (form_in s)) (values_of views) → Sound half (record s { views = views })
views_sound half s views sound rises whole = record {
  forms = sound.forms;
  tables = record {
    listed = sound.tables.listed;
    wanted = sound.tables.wanted;
    charges = sound.tables.charges;
    views = rises sound.tables.views;
    sessions = sound.tables.sessions;
    edits = sound.tables.edits;
  };
  retained_whole = λ t c. ⊎_elim
      (λ kept. ⊎_elim
      (λ listed. sound.retained_whole t (Contains-append_left (keys_of s.listed ++ values_of s.views) (bases s) t
      (Contains-append_left (keys_of s.listed) (values_of s.views) t listed)))
      (λ viewed. All-contains (IsWholeLedger half (form_in s)) (values_of views) t whole viewed)
      (Contains-append_cases (keys_of s.listed) (values_of views) t kept))
      (λ edited. sound.retained_whole t (Contains-append_right (keys_of s.listed ++ values_of s.views) (bases s) t edited))
      (Contains-append_cases (keys_of s.listed ++ values_of views) (bases s) t c);
  listed_seq = sound.listed_seq;
  base_seq = sound.base_seq;
}

-- each answer to `view` keeps a state sound
pub view_sound : (half : Half) (s : State) (v : ℕ × ℕ) (t : Hash) (r : ViewReply) → view_reply s v t ≡ r → Sound half s
    → Sound half (after_view s v t r)
view_sound half s v t view.Fine is sound =
    let kept : is_retained s t ≡ true = fine_retained (has_in numbered_cmp s.views v) (is_retained s t) (length s.views == 1024) is in
    views_sound half s (insert_in numbered_cmp s.views v t) sound (insert_rises numbered_total s.views v t)
    (All-values-insert_entry numbered_cmp v t (IsWholeLedger half (form_in s)) s.views (views_whole half s sound)
    (sound.retained_whole t (among t (retained s) kept)))
view_sound half s v t view.InUse is sound = sound
view_sound half s v t view.NotRetained is sound = sound
view_sound half s v t view.TooMany is sound = sound

-- and so does the end of a view
pub unview_sound : (half : Half) (s : State) (v : ℕ × ℕ) → Sound half s → Sound half (after_unview s v)
unview_sound half s v sound =
    views_sound half s (remove_in numbered_cmp s.views v) sound (remove_rises numbered_cmp _ s.views)
    (All-map-remove_entry _ (λ e. e.1) (IsWholeLedger half (form_in s)) s.views (views_whole half s sound))

-- what is stored stays with any answer to `view`
pub view_nodes : (s : State) (v : ℕ × ℕ) (t : Hash) (r : ViewReply) → (after_view s v t r).nodes ≡ s.nodes
view_nodes s v t view.Fine = refl
view_nodes s v t view.InUse = refl
view_nodes s v t view.NotRetained = refl
view_nodes s v t view.TooMany = refl

-- a step of `view`
pub view_step_sound : (half : Half) (s s' : State) (a v : ℕ) (t : Hash) (reply : Reply) (used : List Held) → Sound half s
    → Step half s a (command.View v t) reply used s' → Sound half s'
view_step_sound half s s' a v t reply used sound step =
    ⊎_elim (λ r. keeps_sound half s s' sound (refused_none half s a (command.View v t) s' refl r))
    (λ g. gives_same half (after_view s (a, v) t (view_reply s (a, v) t)) s' (says.View (view_reply s (a, v) t)) reply
    (view_sound half s (a, v) t (view_reply s (a, v) t) refl sound) g)
    (outcome_cases half s a (command.View v t) reply used s' step.outcome)

-- a step of `unview`
pub unview_step_sound : (half : Half) (s s' : State) (a v : ℕ) (reply : Reply) (used : List Held) → Sound half s
    → Step half s a (command.Unview v) reply used s' → Sound half s'
unview_step_sound half s s' a v reply used sound step =
    ⊎_elim (λ r. keeps_sound half s s' sound (refused_none half s a (command.Unview v) s' refl r))
    (λ g. gives_same half (after_unview s (a, v)) s' (says.Unview (unview_reply s (a, v))) reply (unview_sound half s (a, v) sound) g)
    (outcome_cases half s a (command.Unview v) reply used s' step.outcome)

-- a step of `get`
pub get_step_sound : (half : Half) (s s' : State) (a v : ℕ) (kind : Kind) (key : Hash) (reply : Reply) (used : List Held) → Sound half s
    → Step half s a (command.Get v kind key) reply used s' → Sound half s'
get_step_sound half s s' a v kind key reply used sound step =
    ⊎_elim (λ r. keeps_sound half s s' sound (refused_none half s a (command.Get v kind key) s' refl r))
    (λ g. keeps_sound half s s' sound (keeps_after half s s s' (keeps_self half s)
    (gets_after half s kind key (view_root s kind (a, v)) reply used s' g)))
    (outcome_cases half s a (command.Get v kind key) reply used s' step.outcome)

-- a step of `page`
pub page_step_sound : (half : Half) (s s' : State) (a v : ℕ) (kind : Kind) (key : Hash) (n : ℕ) (reply : Reply) (used : List Held)
    → Sound half s → Step half s a (command.Page v kind key n) reply used s' → Sound half s'
page_step_sound half s s' a v kind key n reply used sound step =
    ⊎_elim (λ r. keeps_sound half s s' sound (refused_none half s a (command.Page v kind key n) s' refl r))
    (λ g. keeps_sound half s s' sound (keeps_after half s s s' (keeps_self half s)
    (pages_after half s kind key n (view_root s kind (a, v)) reply used s' g)))
    (outcome_cases half s a (command.Page v kind key n) reply used s' step.outcome)
