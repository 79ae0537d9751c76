-- Acquiring keeps a state sound: what peers offer is stored only as forms under their own hashes, which aren't zero, and what is known
-- of an acquisition and its peers stays a table.
use Rattle.std.proofs.Common.{ℕ, Bool, true, false, if◌then◌else◌, List, [], ⊎_elim, refl}
use Rattle.std.proofs.Common.{Option, None, Some, Contains}
use Rattle.std.proofs.lemmas.Map.Views.{All-values-insert_entry}
use Rattle.ledger_spec.specs.declared.Kind.{Kind}
use Rattle.ledger_spec.specs.Bytes.{Bytes, Hash, Half, IsHalf}
use Rattle.ledger_spec.specs.Maps.{hash_cmp, get_in, insert_in}
use Rattle.ledger_spec.specs.Bases.{base_forms}
use Rattle.ledger_spec.specs.Own.{IsStoredAt}
use Rattle.ledger_spec.specs.Peers.{is_present}
use Rattle.ledger_spec.specs.Acquiring.{Acquiring, is_bad, after_outcome, after_judging, acquiring}
use Rattle.ledger_spec.proofs.shared.Storing.{node_fits}
use Rattle.ledger_spec.specs.declared.replies.BaseReply.TheVariants as base
use Rattle.ledger_spec.specs.declared.replies.NodeReply.TheVariants as node
use Rattle.ledger_spec.specs.Forms.{Held}
use Rattle.ledger_spec.specs.declared.replies.TickReply.{TickReply}
use Rattle.ledger_spec.specs.declared.replies.TickReply.TheVariants as tick
use Rattle.ledger_spec.specs.Peers as peers
use Rattle.ledger_machine.specs.declared.commands.Reply.{Reply}
use Rattle.ledger_machine.specs.declared.commands.Reply.TheVariants as says
use Rattle.ledger_machine.specs.State.{State, form_in, with_forms}
use Rattle.ledger_machine.specs.Base.{after_base, node_forms, after_node, base_stores, node_stores}
use Rattle.ledger_machine.specs.Scripts.{AreBytes, AreOffered}
use Rattle.ledger_machine.specs.declared.commands.Command.TheVariants as command
use Rattle.ledger_machine.specs.declared.commands.WantReply.{WantReply}
use Rattle.ledger_machine.specs.declared.commands.WantReply.TheVariants as want
use Rattle.ledger_machine.specs.Want.{want_reply, after_want}
use Rattle.ledger_machine.specs.Peer.{peer_reply, after_peer}
use Rattle.ledger_machine.specs.Ticks.{tick_reply, after_tick}
use Rattle.ledger_machine.specs.Sound.{Sound}
use Rattle.ledger_machine.specs.Steps.{Step}
use Rattle.ledger_laws.proofs.Charges.{outcome_rises, judging_rises, adding_rises}
use Rattle.ledger_laws.proofs.SoundKeeps.{Keeps, keeps_self, keeps_on, with_peers_keeps, keeps_sound, wanted_keeps, ended_keeps, HasCharges}
use Rattle.ledger_laws.proofs.SoundKeeps.{gives_sound}
use Rattle.ledger_laws.proofs.shared.SoundForms.{IsByteForm, in_nothing, with_forms_keeps, refused_keeps, refused_none}
use Rattle.ledger_laws.proofs.shared.SoundOffers.{parts_fit, if_present}
use Rattle.ledger_laws.proofs.SoundTables.{none_rises, insert_rises}
use Rattle.ledger_laws.proofs.shared.SoundSteps.{outcome_cases}
use Rattle.std.specs.Cmp.Lexicographic.{nat_list_cmp_total}
use Rattle.std.specs.Ordering.{nat_cmp}

-- each answer to `base` keeps a state sound
pub after_base_keeps : (half : Half) (sized : IsHalf half) (s : State) (p : ℕ) (t : Hash) (bytes : Bytes) (state tx : Option Bytes)
    (reply : Reply) → AreOffered t bytes state tx → Keeps half s (after_base half s p t bytes state tx reply)
after_base_keeps half sized s p t bytes state tx (says.Base (base.Parts h a b)) is =
    let forms : List Bytes = base_forms half (form_in s) t bytes state tx in
    let stored : State = with_forms half s forms in
    keeps_on half s stored (after_base half s p t bytes state tx (says.Base (base.Parts h a b)))
    (with_forms_keeps half s forms (λ form i. parts_fit half sized (form_in s) t bytes state tx form is i))
    (with_peers_keeps half stored t (after_judging p (record { header = h; state = a; tx = b }))
    (judging_rises p (record { header = h; state = a; tx = b })))
after_base_keeps half sized s p t bytes state tx _ is = keeps_self half s

-- and each answer to `node`
pub after_node_keeps : (half : Half) (sized : IsHalf half) (s : State) (p : ℕ) (t : Hash) (kind : Kind) (path : List ℕ) (blob : Bytes)
    (reply : Reply) → AreBytes blob → Keeps half s (after_node half s p t kind path blob reply)
after_node_keeps half sized s p t kind path blob (says.Node (node.One o)) all =
    let forms : List Bytes = node_forms half s t kind path blob in
    let stored : State = with_forms half s forms in
    keeps_on half s stored (after_node half s p t kind path blob (says.Node (node.One o)))
    (with_forms_keeps half s forms (λ form i. node_fits half sized (form_in s) t kind path blob form all i))
    (with_peers_keeps half stored t (after_outcome p (is_bad o)) (outcome_rises p (is_bad o)))
after_node_keeps half sized s p t kind path blob _ all = keeps_self half s

-- what is stored of a peer is stored where it is present
pub present_form : (p : ℕ) (o : Option Acquiring) (forms : List Bytes) (form : Bytes) → Contains (if_present p o forms) form
    → Contains forms form
present_form p None forms form i = absurd (in_nothing i)
present_form p (Some a) forms form i = by (is_present a.peers p) i
  where
    by : (b : Bool) → Contains (if b then forms else []) form → Contains forms form
    by true i = i
    by false i = absurd (in_nothing i)

-- the own form of an offered node is the form of one
pub node_own : (half : Half) (sized : IsHalf half) (s : State) (p : ℕ) (t : Hash) (kind : Kind) (path : List ℕ) (blob form : Bytes)
    → AreBytes blob → Contains (node_stores half s p t kind path blob) form → IsByteForm half form
node_own half sized s p t kind path blob form all i =
    let fits : IsStoredAt half (half form) form = node_fits half sized (form_in s) t kind path blob form all
    (present_form p (get_in hash_cmp s.wanted t) (node_forms half s t kind path blob) form i) in
    (fits.held, fits.bytes)

-- the own forms of a base reply are forms of a header and of nodes
pub base_own : (half : Half) (sized : IsHalf half) (s : State) (p : ℕ) (t : Hash) (bytes : Bytes) (state tx : Option Bytes) (form : Bytes)
    → AreOffered t bytes state tx
    → Contains (base_stores half s p t bytes state tx) form → IsByteForm half form
base_own half sized s p t bytes state tx form is i =
    let fits : IsStoredAt half (half form) form = parts_fit half sized (form_in s) t bytes state tx form is
    (present_form p (get_in hash_cmp s.wanted t) (base_forms half (form_in s) t bytes state tx) form i) in
    (fits.held, fits.bytes)

-- each answer to `want` keeps a state sound
want_keeps : (half : Half) (s : State) (t : Hash) (seq : ℕ) (r : WantReply) → Keeps half s (after_want s t seq r)
want_keeps half s t seq want.Opened =
    wanted_keeps half s (insert_in hash_cmp s.wanted t (acquiring t seq)) (insert_rises nat_list_cmp_total s.wanted t (acquiring t seq))
    (λ all. All-values-insert_entry hash_cmp t (acquiring t seq) HasCharges s.wanted all (none_rises nat_cmp))
want_keeps half s t seq _ = keeps_self half s

-- and each answer to `peer`
peer_keeps : (half : Half) (s : State) (p : ℕ) (t : Hash) → Keeps half s (after_peer s p t)
peer_keeps half s p t = with_peers_keeps half s t (λ x. peers.after_adding x p) (adding_rises p)

-- and each answer to `tick`
tick_keeps : (half : Half) (s : State) (t : Hash) (r : TickReply) → Keeps half s (after_tick s t r)
tick_keeps half s t (tick.Timeout n) = with_peers_keeps half s t peers.after_tick (λ x rises. rises)
tick_keeps half s t (tick.GaveUp n) = ended_keeps half s t
tick_keeps half s t tick.NotOpen = keeps_self half s

-- a step of `want`
pub want_sound : (half : Half) (s s' : State) (a : ℕ) (t : Hash) (seq : ℕ) (reply : Reply) (used : List Held) → Sound half s
    → Step half s a (command.Want t seq) reply used s' → Sound half s'
want_sound half s s' a t seq reply used sound step =
    ⊎_elim (λ r. keeps_sound half s s' sound (refused_none half s a (command.Want t seq) s' refl r))
    (λ g. gives_sound half s (after_want s t seq (want_reply s t seq)) s' (says.Want (want_reply s t seq)) reply sound
    (want_keeps half s t seq (want_reply s t seq)) g)
    (outcome_cases half s a (command.Want t seq) reply used s' step.outcome)

-- a step of `peer`
pub peer_sound : (half : Half) (s s' : State) (a p : ℕ) (t : Hash) (reply : Reply) (used : List Held) → Sound half s
    → Step half s a (command.Peer p t) reply used s' → Sound half s'
peer_sound half s s' a p t reply used sound step =
    ⊎_elim (λ r. keeps_sound half s s' sound (refused_none half s a (command.Peer p t) s' refl r))
    (λ g. gives_sound half s (after_peer s p t) s' (says.Peer (peer_reply s p t)) reply sound
    (peer_keeps half s p t) g)
    (outcome_cases half s a (command.Peer p t) reply used s' step.outcome)

-- a step of `tick`
pub tick_sound : (half : Half) (s s' : State) (a : ℕ) (t : Hash) (reply : Reply) (used : List Held) → Sound half s
    → Step half s a (command.Tick t) reply used s' → Sound half s'
tick_sound half s s' a t reply used sound step =
    ⊎_elim (λ r. keeps_sound half s s' sound (refused_none half s a (command.Tick t) s' refl r))
    (λ g. gives_sound half s (after_tick s t (tick_reply s t)) s' (says.Tick (tick_reply s t)) reply sound
    (tick_keeps half s t (tick_reply s t)) g)
    (outcome_cases half s a (command.Tick t) reply used s' step.outcome)

-- a step of `base`
pub base_sound : (half : Half) (sized : IsHalf half) (s s' : State) (a p : ℕ) (t : Hash) (bytes : Bytes) (state tx : Option Bytes)
    (reply : Reply) (used : List Held) → AreOffered t bytes state tx → Sound half s
    → Step half s a (command.Base p t bytes state tx) reply used s' → Sound half s'
base_sound half sized s s' a p t bytes state tx reply used is sound step =
    ⊎_elim (λ r. keeps_sound half s s' sound
    (refused_keeps half s a (command.Base p t bytes state tx) s' (λ form i. base_own half sized s p t bytes state tx form is i) r))
    (λ g. gives_sound half s _ s' _ reply sound (after_base_keeps half sized s p t bytes state tx reply is) g)
    (outcome_cases half s a (command.Base p t bytes state tx) reply used s' step.outcome)

-- a step of `node`
pub node_sound : (half : Half) (sized : IsHalf half) (s s' : State) (a p : ℕ) (t : Hash) (kind : Kind) (path : List ℕ) (blob : Bytes)
    (reply : Reply) (used : List Held) → AreBytes blob → Sound half s
    → Step half s a (command.Node p t kind path blob) reply used s' → Sound half s'
node_sound half sized s s' a p t kind path blob reply used all sound step =
    ⊎_elim (λ r. keeps_sound half s s' sound
    (refused_keeps half s a (command.Node p t kind path blob) s' (λ form i. node_own half sized s p t kind path blob form all i) r))
    (λ g. gives_sound half s _ s' _ reply sound (after_node_keeps half sized s p t kind path blob reply all) g)
    (outcome_cases half s a (command.Node p t kind path blob) reply used s' step.outcome)
