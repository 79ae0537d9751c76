-- The proofs that go through all commands, a line for each of them: what its row stores and takes, that it leaves the open views, whether
-- it is one beside any sessions, which root it opens or lists, and that its step keeps a state sound. A command more has a line in each.
use Rattle.std.proofs.Common.{ℕ, List, [], Contains, refl, ◌≡◌, ◌==◌, nat_le, length, ap, ◌∙◌}
use Rattle.ledger_spec.specs.Bytes.{Half, IsHalf, Hash}
use Rattle.ledger_spec.specs.Forms.{Held}
use Rattle.ledger_machine.specs.declared.commands.Command.{Command}
use Rattle.ledger_machine.specs.declared.commands.Command.TheVariants as command
use Rattle.ledger_machine.specs.declared.commands.Reply.{Reply}
use Rattle.ledger_machine.specs.State.{State, stored_seq, Session, roots}
use Rattle.ledger_machine.specs.Want.{want_reply, after_want}
use Rattle.ledger_machine.specs.Peer.{after_peer}
use Rattle.ledger_machine.specs.Check.{check_reply, after_check}
use Rattle.ledger_machine.specs.Base.{after_base, base_stores, after_node, node_stores}
use Rattle.ledger_machine.specs.Ticks.{tick_reply, after_tick}
use Rattle.ledger_machine.specs.Views.{view_reply, after_view, after_unview, is_retained}
use Rattle.ledger_machine.specs.Reading.{view_root}
use Rattle.ledger_machine.specs.Sessions.{edit_reply, after_edit, after_put, after_tx, after_del, without_session}
use Rattle.ledger_machine.specs.Closing.{after_close, close_forms}
use Rattle.ledger_machine.specs.Rotation.{begin_reply, after_begin}
use Rattle.ledger_machine.specs.Steps.{Answered, own_forms, Step}
use Rattle.ledger_laws.proofs.shared.SoundSteps.{gets_after, pages_after}
use Rattle.ledger_laws.proofs.SoundOffers.{want_sound, peer_sound, base_sound, node_sound, tick_sound}
use Rattle.ledger_laws.proofs.SoundCheck.{check_step_sound}
use Rattle.ledger_laws.proofs.SoundViews.{view_step_sound, unview_step_sound, get_step_sound, page_step_sound}
use Rattle.ledger_laws.proofs.SoundSessions.{edit_step_sound, put_step_sound, tx_step_sound, del_step_sound, abandon_step_sound}
use Rattle.ledger_laws.proofs.shared.SoundClosing.{close_step_sound}
use Rattle.ledger_laws.proofs.SoundRotation.{begin_step_sound, swap_step_sound}
use Rattle.ledger_laws.proofs.Stored.{same, after, want_goes, check_goes, tick_goes, view_goes, edit_goes, session_goes, base_goes}
use Rattle.ledger_laws.proofs.Stored.{node_goes, close_goes, begin_goes, swap_goes}
use Rattle.ledger_laws.proofs.shared.Stored.{Goes, on}
use Rattle.ledger_spec.specs.Maps.{ForActor, hash_cmp, numbered_cmp, has_in, insert_in, remove_in}
use Rattle.ledger_machine.specs.Commands.{IsBeside, IsInRange, IsSteady}
use Rattle.ledger_laws.proofs.shared.Beside.{beside, gives_beside, want_beside, check_beside, tick_beside, base_beside, node_beside}
use Rattle.ledger_laws.proofs.shared.Beside.{gets_beside, pages_beside}
use Rattle.ledger_machine.specs.Sound.{Sound}
use Rattle.std.proofs.lemmas.Map.Views.{All-map-remove_entry}
use Rattle.ledger_machine.specs.declared.commands.WantReply.TheVariants as want
use Rattle.ledger_machine.specs.declared.commands.CloseReply.TheVariants as close
use Rattle.ledger_machine.specs.declared.commands.Reply.TheVariants as says
use Rattle.ledger_laws.proofs.shared.Roots.{Stands, fine_view, fine_edit, retained_root, checked_root, after_stands, wanted_stands}
use Rattle.ledger_laws.proofs.shared.Roots.{want_stands, check_stands, tick_stands, base_stands, node_stands, view_stands, edit_stands}
use Rattle.ledger_laws.proofs.shared.Roots.{session_stands, without_stands, close_stands, gets_stands, pages_stands, stands_each}
use Rattle.ledger_laws.proofs.shared.Views.{LeavesViews, after_views, want_views, check_views, tick_views, edit_views, begin_views}
use Rattle.ledger_laws.proofs.shared.Views.{session_views, base_views, node_views, close_views, swap_views}

module _ (half : Half) (s : State) (a : ℕ) where
  -- the answer of a row
  pub answer_goes : (c : Command) (reply : Reply) (used : List Held) (s' : State) → Answered half s a c reply used s'
      → Goes half c (own_forms half s a c) s s'
  answer_goes (command.Want t seq) reply used s' g =
      on (after half [] s (after_want s t seq (want_reply s t seq)) s' (want_goes half [] s t seq (want_reply s t seq)) g.after)
  answer_goes (command.Peer p t) reply used s' g =
      on (after half [] s (after_peer s p t) s' (same half [] s (after_peer s p t) refl refl) g.after)
  answer_goes (command.Base p t head state tx) reply used s' g =
      on (after half (base_stores half s p t head state tx) s (after_base half s p t head state tx reply) s'
      (base_goes half s p t head state tx reply g.says) g.after)
  answer_goes (command.Node p t kind path blob) reply used s' g =
      on (after half (node_stores half s p t kind path blob) s (after_node half s p t kind path blob reply) s'
      (node_goes half s p t kind path blob reply g.says) g.after)
  answer_goes (command.Check t) reply used s' g =
      on (after half [] s (after_check s t (stored_seq s t) (check_reply half s t)) s'
      (check_goes half [] s t (stored_seq s t) (check_reply half s t)) g.after)
  answer_goes (command.Tick t) reply used s' g =
      on (after half [] s (after_tick s t (tick_reply s t)) s' (tick_goes half [] s t (tick_reply s t)) g.after)
  answer_goes (command.View v t) reply used s' g =
      on (after half [] s (after_view s (a, v) t (view_reply s (a, v) t)) s' (view_goes half [] s (a, v) t (view_reply s (a, v) t)) g.after)
  answer_goes (command.Unview v) reply used s' g =
      on (after half [] s (after_unview s (a, v)) s' (same half [] s (after_unview s (a, v)) refl refl) g.after)
  answer_goes (command.Get v kind key) reply used s' g =
      on (after half [] s s s' (same half [] s s refl refl) (gets_after half s kind key (view_root s kind (a, v)) reply used s' g))
  answer_goes (command.Page v kind key n) reply used s' g =
      on (after half [] s s s' (same half [] s s refl refl) (pages_after half s kind key n (view_root s kind (a, v)) reply used s' g))
  answer_goes (command.Edit x t) reply used s' g =
      on (after half [] s (after_edit half s (a, x) t (edit_reply s (a, x) t)) s' (edit_goes half [] s (a, x) t (edit_reply s (a, x) t))
      g.after)
  answer_goes (command.Put x item) reply used s' g =
      on (after half [] s (after_put s (a, x) item.key item.value) s' (session_goes half [] s (a, x) _) g.after)
  answer_goes (command.Tx x item) reply used s' g =
      on (after half [] s (after_tx s (a, x) item.key item.value) s' (session_goes half [] s (a, x) _) g.after)
  answer_goes (command.Del x key) reply used s' g =
      on (after half [] s (after_del s (a, x) key) s' (session_goes half [] s (a, x) _) g.after)
  answer_goes (command.Close x given) reply used s' g =
      on (after half (close_forms half s (a, x) given) s (after_close half s (a, x) given reply) s'
      (close_goes half s (a, x) given reply g.says) g.after)
  answer_goes (command.Abandon x) reply used s' g =
      on (after half [] s (without_session s (a, x)) s' (same half [] s (without_session s (a, x)) refl refl) g.after)
  answer_goes command.Begin reply used s' g = begin_goes half s a (begin_reply s) s' g.0.after g.1
  answer_goes command.Swap reply used s' g = swap_goes half s a s.turning reply s' g

  -- so is no row's answer but those of `view` and `unview`
  pub answer_views : (c : Command) (reply : Reply) (used : List Held) (s' : State) → LeavesViews c → Answered half s a c reply used s'
      → s'.views ≡ s.views
  answer_views (command.Want t seq) reply used s' is g =
      after_views s (after_want s t seq (want_reply s t seq)) s' (want_views s t seq (want_reply s t seq)) g.after
  answer_views (command.Peer p t) reply used s' is g = after_views s (after_peer s p t) s' refl g.after
  answer_views (command.Base p t head state tx) reply used s' is g =
      after_views s (after_base half s p t head state tx reply) s' (base_views half s p t head state tx reply) g.after
  answer_views (command.Node p t kind path blob) reply used s' is g =
      after_views s (after_node half s p t kind path blob reply) s' (node_views half s p t kind path blob reply) g.after
  answer_views (command.Check t) reply used s' is g =
      after_views s (after_check s t (stored_seq s t) (check_reply half s t)) s' (check_views s t (stored_seq s t) (check_reply half s t))
      g.after
  answer_views (command.Tick t) reply used s' is g =
      after_views s (after_tick s t (tick_reply s t)) s' (tick_views s t (tick_reply s t)) g.after
  answer_views (command.View v t) reply used s' is g = absurd is
  answer_views (command.Unview v) reply used s' is g = absurd is
  answer_views (command.Get v kind key) reply used s' is g =
      after_views s s s' refl (gets_after half s kind key (view_root s kind (a, v)) reply used s' g)
  answer_views (command.Page v kind key n) reply used s' is g =
      after_views s s s' refl (pages_after half s kind key n (view_root s kind (a, v)) reply used s' g)
  answer_views (command.Edit x t) reply used s' is g =
      after_views s (after_edit half s (a, x) t (edit_reply s (a, x) t)) s' (edit_views half s (a, x) t (edit_reply s (a, x) t)) g.after
  answer_views (command.Put x item) reply used s' is g =
      after_views s (after_put s (a, x) item.key item.value) s' (session_views s (a, x) _) g.after
  answer_views (command.Tx x item) reply used s' is g =
      after_views s (after_tx s (a, x) item.key item.value) s' (session_views s (a, x) _) g.after
  answer_views (command.Del x key) reply used s' is g = after_views s (after_del s (a, x) key) s' (session_views s (a, x) _) g.after
  answer_views (command.Close x given) reply used s' is g =
      after_views s (after_close half s (a, x) given reply) s' (close_views half s (a, x) given reply) g.after
  answer_views (command.Abandon x) reply used s' is g = after_views s (without_session s (a, x)) s' refl g.after
  answer_views command.Begin reply used s' is g =
      after_views s (after_begin s (begin_reply s)) s' (begin_views s (begin_reply s)) g.0.after
  answer_views command.Swap reply used s' is g = swap_views s s.turning reply s' g

module _ (half : Half) (es : ForActor Session) where
  -- what a row answers that sees no session, it answers beside any sessions
  pub answered_beside : (s : State) (a : ℕ) (c : Command) (reply : Reply) (used : List Held) (s' : State) → IsBeside c
      → Answered half s a c reply used s' → Answered half (beside half es s) a c reply used (beside half es s')
  answered_beside s a (command.Want t seq) reply used s' is g =
      gives_beside half es _ (after_want s t seq (want_reply s t seq)) _ reply s' (want_beside half es s t seq (want_reply s t seq)) g
  answered_beside s a (command.Peer p t) reply used s' is g = gives_beside half es _ (after_peer s p t) _ reply s' refl g
  answered_beside s a (command.Base p t head state tx) reply used s' is g =
      gives_beside half es _ (after_base half s p t head state tx reply) _ reply s' (base_beside half es s p t head state tx reply) g
  answered_beside s a (command.Node p t kind path blob) reply used s' is g =
      gives_beside half es _ (after_node half s p t kind path blob reply) _ reply s' (node_beside half es s p t kind path blob reply) g
  answered_beside s a (command.Check t) reply used s' is g =
      gives_beside half es _ (after_check s t (stored_seq s t) (check_reply half s t)) _ reply s'
      (check_beside half es s t (stored_seq s t) (check_reply half s t)) g
  answered_beside s a (command.Tick t) reply used s' is g =
      gives_beside half es _ (after_tick s t (tick_reply s t)) _ reply s' (tick_beside half es s t (tick_reply s t)) g
  answered_beside s a (command.Unview v) reply used s' is g = gives_beside half es _ (after_unview s (a, v)) _ reply s' refl g
  answered_beside s a (command.Get v kind key) reply used s' is g =
      gets_beside half es s kind key (view_root s kind (a, v)) reply used s' g
  answered_beside s a (command.Page v kind key n) reply used s' is g =
      pages_beside half es s kind key n (view_root s kind (a, v)) reply used s' g
  answered_beside s a _ reply used s' is g = absurd is

module _ (half : Half) (P : Hash → Type 0) (s : State) (each : (h : Hash) → Contains (roots s) h → P h) where
  stood : Stands P s.turning s
  stood = stands_each P s each

  -- after a row each root is one of those before, or the one that it opened or listed
  pub row_stands : (a : ℕ) (c : Command) (r : Reply) (used : List Held) (s' : State) → IsSteady c
      → ((t : Hash) (seq : ℕ) → c ≡ command.Want t seq → r ≡ says.Want want.Opened → P t)
      → ((x : ℕ) (fields : List ℕ) (h : Hash) → c ≡ command.Close x fields → r ≡ says.Close (close.Closed h) → P h)
      → Answered half s a c r used s' → Stands P s.turning s'
  row_stands a (command.Want t seq) r used s' is opened closes g =
      after_stands P s.turning (after_want s t seq (want_reply s t seq)) s' g.after
      (want_stands P s.turning s t seq (want_reply s t seq) (λ e. opened t seq refl (g.says ∙ ap says.Want e)) stood)
  row_stands a (command.Peer p t) r used s' is opened closes g =
      after_stands P s.turning (after_peer s p t) s' g.after (wanted_stands P s.turning s t _ stood)
  row_stands a (command.Base p t bytes state tx) r used s' is opened closes g =
      after_stands P s.turning (after_base half s p t bytes state tx r) s' g.after
      (base_stands P s.turning half s p t bytes state tx r stood)
  row_stands a (command.Node p t kind path blob) r used s' is opened closes g =
      after_stands P s.turning (after_node half s p t kind path blob r) s' g.after
      (node_stands P s.turning half s p t kind path blob r stood)
  row_stands a (command.Check t) r used s' is opened closes g =
      after_stands P s.turning (after_check s t (stored_seq s t) (check_reply half s t)) s' g.after
      (check_stands P s.turning s t (stored_seq s t) (check_reply half s t) (λ e. each t (checked_root half s t e)) stood)
  row_stands a (command.Tick t) r used s' is opened closes g =
      after_stands P s.turning (after_tick s t (tick_reply s t)) s' g.after (tick_stands P s.turning s t (tick_reply s t) stood)
  row_stands a (command.View v t) r used s' is opened closes g =
      after_stands P s.turning (after_view s (a, v) t (view_reply s (a, v) t)) s' g.after
      (view_stands P s.turning s (a, v) t (view_reply s (a, v) t) (λ e. each t (retained_root s t (fine_view (has_in numbered_cmp s.views
      (a, v)) (is_retained s t) (length s.views == 1024) e))) stood)
  row_stands a (command.Unview v) r used s' is opened closes g =
      after_stands P s.turning (after_unview s (a, v)) s' g.after
      (stood.0, All-map-remove_entry _ (λ e. e.1) P s.views stood.1, stood.2, stood.3, stood.4)
  row_stands a (command.Get v kind key) r used s' is opened closes g =
      gets_stands P s.turning half s kind key (view_root s kind (a, v)) r used s' g stood
  row_stands a (command.Page v kind key n) r used s' is opened closes g =
      pages_stands P s.turning half s kind key n (view_root s kind (a, v)) r used s' g stood
  row_stands a (command.Edit x t) r used s' is opened closes g =
      after_stands P s.turning (after_edit half s (a, x) t (edit_reply s (a, x) t)) s' g.after
      (edit_stands P s.turning half s (a, x) t (edit_reply s (a, x) t) (λ e. each t (retained_root s t (fine_edit
      (has_in numbered_cmp s.sessions (a, x)) (is_retained s t) (nat_le 4294967295 (stored_seq s t))
      (length s.sessions == 64) e))) stood)
  row_stands a (command.Put x item) r used s' is opened closes g =
      after_stands P s.turning (after_put s (a, x) item.key item.value) s' g.after
      (session_stands P s.turning s (a, x) (λ (e : Session). record e { accounts = insert_in hash_cmp e.accounts item.key item.value })
      (λ e. refl) stood)
  row_stands a (command.Tx x item) r used s' is opened closes g =
      after_stands P s.turning (after_tx s (a, x) item.key item.value) s' g.after
      (session_stands P s.turning s (a, x) (λ (e : Session). record e { txs = insert_in hash_cmp e.txs item.key item.value })
      (λ e. refl) stood)
  row_stands a (command.Del x key) r used s' is opened closes g =
      after_stands P s.turning (after_del s (a, x) key) s' g.after
      (session_stands P s.turning s (a, x) (λ (e : Session). record e { accounts = remove_in hash_cmp e.accounts key }) (λ e. refl) stood)
  row_stands a (command.Close x fields) r used s' is opened closes g =
      after_stands P s.turning (after_close half s (a, x) fields r) s' g.after
      (close_stands P s.turning half s (a, x) fields r (λ h e. closes x fields h refl e) stood)
  row_stands a (command.Abandon x) r used s' is opened closes g =
      after_stands P s.turning (without_session s (a, x)) s' g.after (without_stands P s.turning s (a, x) stood)
  row_stands a command.Begin r used s' is opened closes g = absurd is
  row_stands a command.Swap r used s' is opened closes g = absurd is

-- each step of a command in range leads from a sound state to a sound state
pub step_sound : (half : Half) (sized : IsHalf half) (s s' : State) (a : ℕ) (c : Command) (reply : Reply)
    (used : List Held)
    → IsInRange c → Sound half s → Step half s a c reply used s'
    → Sound half s'
step_sound half sized s s' a (command.Want t seq) reply used range sound step =
    want_sound half s s' a t seq reply used sound step
step_sound half sized s s' a (command.Peer p t) reply used range sound step =
    peer_sound half s s' a p t reply used sound step
step_sound half sized s s' a (command.Base p t bytes state tx) reply used range sound step =
    base_sound half sized s s' a p t bytes state tx reply used range sound step
step_sound half sized s s' a (command.Node p t kind path blob) reply used range sound step =
    node_sound half sized s s' a p t kind path blob reply used range.2 sound step
step_sound half sized s s' a (command.Check t) reply used range sound step =
    check_step_sound half s s' a t reply used sound step
step_sound half sized s s' a (command.Tick t) reply used range sound step =
    tick_sound half s s' a t reply used sound step
step_sound half sized s s' a (command.View v t) reply used range sound step =
    view_step_sound half s s' a v t reply used sound step
step_sound half sized s s' a (command.Unview v) reply used range sound step =
    unview_step_sound half s s' a v reply used sound step
step_sound half sized s s' a (command.Get v kind key) reply used range sound step =
    get_step_sound half s s' a v kind key reply used sound step
step_sound half sized s s' a (command.Page v kind key n) reply used range sound step =
    page_step_sound half s s' a v kind key n reply used sound step
step_sound half sized s s' a (command.Edit x t) reply used range sound step =
    edit_step_sound half sized s s' a x t reply used sound step
step_sound half sized s s' a (command.Put x item) reply used range sound step =
    put_step_sound half s s' a x item reply used range sound step
step_sound half sized s s' a (command.Tx x item) reply used range sound step =
    tx_step_sound half s s' a x item reply used range sound step
step_sound half sized s s' a (command.Del x key) reply used range sound step =
    del_step_sound half s s' a x key reply used sound step
step_sound half sized s s' a (command.Close x given) reply used range sound step =
    close_step_sound half sized s s' a x given reply used range sound step
step_sound half sized s s' a (command.Abandon x) reply used range sound step =
    abandon_step_sound half s s' a x reply used sound step
step_sound half sized s s' a command.Begin reply used range sound step = begin_step_sound half s s' a reply used sound step
step_sound half sized s s' a command.Swap reply used range sound step = swap_step_sound half s s' a reply used sound step
