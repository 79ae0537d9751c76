-- What the answer of each command stores and takes: but for a swap nothing goes, and nothing comes but the command's own forms, each
-- under its own hash.
use Rattle.std.proofs.Common.{◌≡◌, ◌⊎◌, inl, inr, ⊎_elim, ℕ, Bool, true, false, if◌then◌else◌, ◌==◌, nat_lt, List, [], ◌∷◌, ◌++◌, length}
use Rattle.std.proofs.Common.{Option, None, Some, is_some, Result, Ok, Contains, refl, sym, ap, ◌∙◌, subst}
use Rattle.std.specs.Option.{option_map_or}
use Rattle.std.specs.List.{find}
use Rattle.std.specs.FinMap as finite
use Rattle.std.specs.FinSet as set
use Rattle.ledger_spec.specs.declared.Kind.{Kind}
use Rattle.ledger_spec.specs.Maps.{hash_cmp, numbered_cmp, get_in, has_in, set_in}
use Rattle.ledger_spec.specs.Bytes.{Bytes, Hash, Half, Nodes, is_zero}
use Rattle.ledger_spec.specs.Header.{seq_of}
use Rattle.ledger_spec.specs.Forms.{header_prefix}
use Rattle.ledger_spec.specs.Offers.{Clash, node_outcome}
use Rattle.ledger_spec.specs.Bases.{Judged, base_outcome, base_forms}
use Rattle.ledger_spec.specs.declared.outcomes.Offered.{Offered}
use Rattle.ledger_spec.specs.declared.outcomes.HeadOffered.{HeadOffered}
use Rattle.ledger_spec.specs.Peers.{is_present}
use Rattle.ledger_spec.specs.Acquiring.{Acquiring}
use Rattle.ledger_spec.specs.Replies.{parts_said, node_said}
use Rattle.ledger_machine.specs.declared.commands.Command.{Command}
use Rattle.ledger_machine.specs.declared.commands.Command.TheVariants as command
use Rattle.ledger_machine.specs.declared.commands.WantReply.{WantReply}
use Rattle.ledger_machine.specs.declared.commands.WantReply.TheVariants as want
use Rattle.ledger_spec.specs.declared.replies.CheckReply.{CheckReply}
use Rattle.ledger_spec.specs.declared.replies.CheckReply.TheVariants as check
use Rattle.ledger_spec.specs.declared.replies.TickReply.{TickReply}
use Rattle.ledger_spec.specs.declared.replies.TickReply.TheVariants as tick
use Rattle.ledger_machine.specs.declared.commands.ViewReply.{ViewReply}
use Rattle.ledger_machine.specs.declared.commands.ViewReply.TheVariants as view
use Rattle.ledger_machine.specs.declared.commands.EditReply.{EditReply}
use Rattle.ledger_machine.specs.declared.commands.EditReply.TheVariants as edits
use Rattle.ledger_machine.specs.declared.commands.BeginReply.{BeginReply}
use Rattle.ledger_machine.specs.declared.commands.BeginReply.TheVariants as begins
use Rattle.ledger_spec.specs.declared.replies.BaseReply.TheVariants as base
use Rattle.ledger_spec.specs.declared.replies.NodeReply.TheVariants as node
use Rattle.ledger_machine.specs.declared.commands.CloseReply.TheVariants as close
use Rattle.ledger_machine.specs.declared.commands.Reply.{Reply}
use Rattle.ledger_machine.specs.declared.commands.Reply.TheVariants as says
use Rattle.ledger_machine.specs.State.{State, Session, form_in, with_form, with_forms}
use Rattle.ledger_machine.specs.Want.{after_want}
use Rattle.ledger_machine.specs.Check.{after_check}
use Rattle.ledger_machine.specs.Base.{base_says, base_for, base_reply, after_base, base_stores}
use Rattle.ledger_machine.specs.Base.{node_says, node_for, node_reply, node_forms, after_node, node_stores}
use Rattle.ledger_machine.specs.Ticks.{after_tick}
use Rattle.ledger_machine.specs.Views.{after_view}
use Rattle.ledger_machine.specs.Sessions.{after_edit, with_session}
use Rattle.ledger_machine.specs.Closing.{new_header, closing_forms, first_clash, closed_or_clash, zero_or, close_given, close_reply}
use Rattle.ledger_machine.specs.Closing.{closed, after_close, closes_into, unless_zero, close_forms}
use Rattle.ledger_machine.specs.Rotation.{after_begin, Begins}
use Rattle.ledger_machine.specs.Steps.{IsAfter, Swaps, Refused, own_forms}
use Rattle.ledger_laws.proofs.shared.SoundForms.{new_or_old, in_head, in_tail, with_forms_grow}
use Rattle.ledger_laws.proofs.SoundKeeps.{shaded_same}
use Rattle.ledger_laws.proofs.shared.SoundOffers.{if_present}
use Rattle.ledger_laws.proofs.shared.Stored.{Stores, GoesOn, Goes, on, begun, swapped}

-- a form more begins and ends no rotation
with_form_turning : (half : Half) (s : State) (form : Bytes) → (with_form half s form).turning ≡ s.turning
with_form_turning half s form = at (is_some (form_in s (half form)))
  where
    at : (b : Bool)
        → (if b then s else record s { nodes = finite.insert s.nodes (half form) form; born = set.insert s.born (half form) }).turning
        ≡ s.turning
    at true = refl
    at false = refl

-- nor do several
with_forms_turning : (half : Half) (s : State) (forms : List Bytes) → (with_forms half s forms).turning ≡ s.turning
with_forms_turning half s [] = refl
with_forms_turning half s (form ∷ forms) = with_forms_turning half (with_form half s form) forms ∙ with_form_turning half s form

module _ (half : Half) (own : List Bytes) where
  -- one change after another
  stores_on : (s mid t : State) → Stores half own s mid → Stores half own mid t → Stores half own s t
  stores_on s mid t a b = record {
    grows = λ h form e. b.grows h form (a.grows h form e);
    adds = λ h form e. ⊎_elim (λ old. a.adds h form old) (λ new. inr new) (b.adds h form e);
  }

  -- the same forms
  stores_same : (s t : State) → t.nodes ≡ s.nodes → Stores half own s t
  stores_same s t same = record {
    grows = λ h form e. ap (λ (n : Nodes). finite.get n h) same ∙ e;
    adds = λ h form e. inl (sym (ap (λ (n : Nodes). finite.get n h) same) ∙ e);
  }

  -- what is found beside one form more
  one_adds : (s : State) (form : Bytes) → Contains own form → (h : Hash) (now : Bytes) → form_in (with_form half s form) h ≡ Some now
      → (form_in s h ≡ Some now) ⊎ ((h ≡ half now) × Contains own now)
  one_adds s form one h now = at (form_in s (half form))
    where
      at : (o : Option Bytes)
          → form_in (if is_some o then s else record s
          { nodes = finite.insert s.nodes (half form) form; born = set.insert s.born (half form) }) h ≡ Some now
          → (form_in s h ≡ Some now) ⊎ ((h ≡ half now) × Contains own now)
      at (Some old) e = inl e
      at None e =
          ⊎_elim (λ old. inl old) (λ new. inr (new.0 ∙ ap half (sym new.1), subst (Contains own) (sym new.1) one))
          (new_or_old s.nodes (half form) form h now e)

  -- and beside several
  forms_add : (s : State) (more : List Bytes) → ((form : Bytes) → Contains more form → Contains own form)
      → (h : Hash) (now : Bytes) → form_in (with_forms half s more) h ≡ Some now
      → (form_in s h ≡ Some now) ⊎ ((h ≡ half now) × Contains own now)
  forms_add s [] each h now e = inl e
  forms_add s (form ∷ more) each h now e =
      ⊎_elim (λ old. one_adds s form (each form (in_head form more)) h now old) (λ new. inr new)
      (forms_add (with_form half s form) more (λ x c. each x (in_tail form x more c)) h now e)

  -- forms of these may be stored
  stores_forms : (s : State) (more : List Bytes) → ((form : Bytes) → Contains more form → Contains own form)
      → Stores half own s (with_forms half s more)
  stores_forms s more each = record { grows = with_forms_grow half s more; adds = forms_add s more each }

  -- a change of tables alone
  pub same : (s t : State) → t.nodes ≡ s.nodes → t.turning ≡ s.turning → GoesOn half own s t
  same s t nodes turning = record { stores = stores_same s t nodes; turning = turning }

  -- these forms, and then a change of tables alone
  forms_same : (s t : State) (more : List Bytes) → ((form : Bytes) → Contains more form → Contains own form)
      → t.nodes ≡ (with_forms half s more).nodes → t.turning ≡ (with_forms half s more).turning → GoesOn half own s t
  forms_same s t more each nodes turning = record {
    stores = stores_on s (with_forms half s more) t (stores_forms s more each) (stores_same (with_forms half s more) t nodes);
    turning = turning ∙ with_forms_turning half s more;
  }

  -- what a rotation keeps is no part of that
  pub after : (s t s' : State) → GoesOn half own s t → IsAfter t s' → GoesOn half own s s'
  after s t s' g e = record {
    stores = stores_on s t s' g.stores (stores_same t s' (shaded_same t s' e).nodes);
    turning = ap (λ (x : State). x.turning) e ∙ g.turning;
  }

  -- no answer to a command that stores nothing changes more than tables
  pub want_goes : (s : State) (t : Hash) (seq : ℕ) (r : WantReply) → GoesOn half own s (after_want s t seq r)
  want_goes s t seq want.Opened = same s (after_want s t seq want.Opened) refl refl
  want_goes s t seq _ = same s s refl refl

  -- a check lists a ledger, ends an acquisition or changes its peers
  pub check_goes : (s : State) (t : Hash) (seq : ℕ) (r : CheckReply) → GoesOn half own s (after_check s t seq r)
  check_goes s t seq check.Complete = same s (after_check s t seq check.Complete) refl refl
  check_goes s t seq (check.Need peer places) = same s (after_check s t seq (check.Need peer places)) refl refl
  check_goes s t seq (check.SeqDiffers asked found) = same s (after_check s t seq (check.SeqDiffers asked found)) refl refl
  check_goes s t seq check.ZeroState = same s (after_check s t seq check.ZeroState) refl refl
  check_goes s t seq (check.BelowFloor f) = same s (after_check s t seq (check.BelowFloor f)) refl refl
  check_goes s t seq (check.Malformed place rule) = same s (after_check s t seq (check.Malformed place rule)) refl refl
  check_goes s t seq _ = same s s refl refl

  pub tick_goes : (s : State) (t : Hash) (r : TickReply) → GoesOn half own s (after_tick s t r)
  tick_goes s t (tick.Timeout n) = same s (after_tick s t (tick.Timeout n)) refl refl
  tick_goes s t (tick.GaveUp n) = same s (after_tick s t (tick.GaveUp n)) refl refl
  tick_goes s t tick.NotOpen = same s s refl refl

  pub view_goes : (s : State) (v : ℕ × ℕ) (t : Hash) (r : ViewReply) → GoesOn half own s (after_view s v t r)
  view_goes s v t view.Fine = same s (after_view s v t view.Fine) refl refl
  view_goes s v t _ = same s s refl refl

  pub edit_goes : (s : State) (x : ℕ × ℕ) (t : Hash) (r : EditReply) → GoesOn half own s (after_edit half s x t r)
  edit_goes s x t edits.Fine = same s (after_edit half s x t edits.Fine) refl refl
  edit_goes s x t _ = same s s refl refl

  -- an edit changes a session that is open
  pub session_goes : (s : State) (x : ℕ × ℕ) (change : Session → Session) → GoesOn half own s (with_session s x change)
  session_goes s x change = at (get_in numbered_cmp s.sessions x)
    where
      at : (o : Option Session)
          → GoesOn half own s (option_map_or (λ e. record s { sessions = set_in numbered_cmp s.sessions x (change e) }) o s)
      at None = same s s refl refl
      at (Some e) = same s (record s { sessions = set_in numbered_cmp s.sessions x (change e) }) refl refl

-- an answer with parts is to a present peer
base_open : (half : Half) (s : State) (p : ℕ) (t : Hash) (head : Bytes) (state tx : Option Bytes) (o : Option Acquiring) (h : HeadOffered)
    (a b : Option Offered) (forms : List Bytes)
    → says.Base (base.Parts h a b) ≡ base_for half s p t head state tx o → if_present p o forms ≡ forms
base_open half s p t head state tx None h a b forms e = cc
base_open half s p t head state tx (Some x) h a b forms e =
    at (is_present x.peers p) (base_outcome half (form_in s) t head state tx) e
  where
    at : (z : Bool) (r : Result Judged Clash) → says.Base (base.Parts h a b) ≡ base_says (if z then parts_said r else Ok base.Unasked)
        → (if z then forms else []) ≡ forms
    at true r e = refl
    at false r e = cc

-- and so is one with a node's outcome
node_open : (half : Half) (s : State) (p : ℕ) (t : Hash) (kind : Kind) (path : List ℕ) (blob : Bytes) (o : Option Acquiring) (x : Offered)
    (forms : List Bytes)
    → says.Node (node.One x) ≡ node_for half s p t kind path blob o → if_present p o forms ≡ forms
node_open half s p t kind path blob None x forms e = cc
node_open half s p t kind path blob (Some a) x forms e = at (is_present a.peers p) (node_outcome half (form_in s) t kind path blob) e
  where
    at : (z : Bool) (r : Result Offered Clash) → says.Node (node.One x) ≡ node_says (if z then node_said r else Ok node.Unasked)
        → (if z then forms else []) ≡ forms
    at true r e = refl
    at false r e = cc

-- a session that is closed had no form with the zero hash
closed_open : (a b d : Bool) (z : Option Bytes) (c : Option Clash) (h h' : Hash) (floor : ℕ)
    → says.Close (close.Closed h') ≡ (if a then says.Close close.ZeroState else if b then says.Close (close.BelowFloor floor)
    else zero_or z (if d then says.Close close.Listed else closed_or_clash h c)) → z ≡ None
closed_open true b d z c h h' floor e = cc
closed_open false true d z c h h' floor e = cc
closed_open false false d (Some form) c h h' floor e = cc
closed_open false false d None c h h' floor e = refl

module _ (half : Half) (s : State) where
  -- a part more is stored only of a present peer, whose forms are the command's own
  pub base_goes : (p : ℕ) (t : Hash) (head : Bytes) (state tx : Option Bytes) (reply : Reply) → reply ≡ base_reply half s p t head state tx
      → GoesOn half (base_stores half s p t head state tx) s (after_base half s p t head state tx reply)
  base_goes p t head state tx (says.Base (base.Parts h a b)) is =
      let forms : List Bytes = base_forms half (form_in s) t head state tx in
      let open_ : base_stores half s p t head state tx ≡ forms =
      base_open half s p t head state tx (get_in hash_cmp s.wanted t) h a b forms is in
      forms_same half (base_stores half s p t head state tx) s (after_base half s p t head state tx (says.Base (base.Parts h a b))) forms
      (λ form c. subst (λ (fs : List Bytes). Contains fs form) (sym open_) c) refl refl
  base_goes p t head state tx reply is = same half (base_stores half s p t head state tx) s s refl refl

  -- so are a node's
  pub node_goes : (p : ℕ) (t : Hash) (kind : Kind) (path : List ℕ) (blob : Bytes) (reply : Reply)
      → reply ≡ node_reply half s p t kind path blob
      → GoesOn half (node_stores half s p t kind path blob) s (after_node half s p t kind path blob reply)
  node_goes p t kind path blob (says.Node (node.One o)) is =
      let forms : List Bytes = node_forms half s t kind path blob in
      let open_ : node_stores half s p t kind path blob ≡ forms =
      node_open half s p t kind path blob (get_in hash_cmp s.wanted t) o forms is in
      forms_same half (node_stores half s p t kind path blob) s (after_node half s p t kind path blob (says.Node (node.One o))) forms
      (λ form c. subst (λ (fs : List Bytes). Contains fs form) (sym open_) c) refl refl
  node_goes p t kind path blob reply is = same half (node_stores half s p t kind path blob) s s refl refl

  -- a session that is closed stores its closing forms
  pub close_goes : (x : ℕ × ℕ) (given : List ℕ) (reply : Reply) → reply ≡ close_reply half s x given
      → GoesOn half (close_forms half s x given) s (after_close half s x given reply)
  close_goes x given (says.Close (close.Closed h)) is = at (get_in numbered_cmp s.sessions x) is
    where
      own : Option Session → List Bytes
      own o = unless_zero (find (λ form. is_zero (half form)) (closes_into half s given o)) (closes_into half s given o)

      at : (o : Option Session) → says.Close (close.Closed h) ≡ close_given half s given o
          → GoesOn half (own o) s (closed half s x given h o)
      at None is = same half (own None) s s refl refl
      at (Some e) is =
          let header : Bytes = new_header half s e given in
          let forms : List Bytes = closing_forms half e header in
          let none : find (λ form. is_zero (half form)) forms ≡ None =
          closed_open (length e.accounts == 0) (nat_lt (seq_of header) s.floor)
          (has_in hash_cmp s.listed (half (header_prefix ++ header))) (find (λ form. is_zero (half form)) forms)
          (first_clash half s forms) (half (header_prefix ++ header)) h s.floor is in
          let all : own (Some e) ≡ forms = ap (λ z. unless_zero z forms) none in
          forms_same half (own (Some e)) s (closed half s x given h (Some e)) forms
          (λ form c. subst (λ (fs : List Bytes). Contains fs form) (sym all) c) refl refl
  close_goes x given reply is = same half (close_forms half s x given) s s refl refl

  -- at most own forms are stored of a command that is refused
  pub refused_goes : (a : ℕ) (c : Command) (s' : State) → Refused half s a c s' → GoesOn half (own_forms half s a c) s s'
  refused_goes a c s' r =
      after half (own_forms half s a c) s (with_forms half s r.forms) s'
      (forms_same half (own_forms half s a c) s (with_forms half s r.forms) r.forms (λ form i. (r.own form i).0) refl refl) r.same

module _ (half : Half) (s : State) (a : ℕ) where
  -- what is shaded first is what the roots reach
  pub begin_goes : (r : BeginReply) (s' : State) → IsAfter (after_begin s r) s' → Begins r s' → Goes half command.Begin [] s s'
  begin_goes (begins.Begun v floor) s' e shades =
      begun (stores_same half [] s s' (shaded_same (after_begin s (begins.Begun v floor)) s' e).nodes) shades
  begin_goes begins.Busy s' e shades = on (after half [] s s s' (same half [] s s refl refl) e)
  begin_goes begins.NotDue s' e shades = on (after half [] s s s' (same half [] s s refl refl) e)

  -- without a rotation a swap changes nothing
  pub swap_goes : (o : Option ℕ) (reply : Reply) (s' : State) → Swaps s o reply s' → Goes half command.Swap [] s s'
  swap_goes None reply s' g = on (after half [] s s s' (same half [] s s refl refl) g.after)
  swap_goes (Some v) reply s' g = swapped refl g.1
