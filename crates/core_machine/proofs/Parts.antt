-- What an acquisition takes of a peer is what the machine does.
use Rattle.std.proofs.Common.{◌≡◌, ℕ, List, [], Option, Some, Bool, true, false, if◌then◌else◌, Result, Ok, Err, Contains, IsTrue}
use Rattle.std.proofs.Common.{refl, sym, ap, ◌∙◌, subst}
use Rattle.std.proofs.lemmas.List.Elements.{Contains-append_left}
use Rattle.std.specs.FinMap as map
use Rattle.ledger_spec.specs.declared.Kind.{Kind}
use Rattle.ledger_spec.specs.declared.outcomes.Offered.{Offered}
use Rattle.ledger_spec.specs.Bytes.{Bytes, Hash, Half, IsHalf, Nodes, is_nonzero}
use Rattle.ledger_spec.specs.Maps.{hash_cmp, get_in, set_in}
use Rattle.ledger_spec.specs.Offers.{Clash, node_outcome}
use Rattle.ledger_spec.specs.Wire.{read_wire}
use Rattle.ledger_spec.specs.Offers.{stored_by}
use Rattle.ledger_spec.specs.Bases.{Judged, base_outcome, base_forms}
use Rattle.ledger_spec.specs.Peers.{Peers, is_present}
use Rattle.ledger_spec.specs.Acquiring.{Acquiring, is_bad, after_outcome, after_judging}
use Rattle.ledger_spec.proofs.shared.Storing.{node_fits}
use Rattle.rotating_store.specs.Stores.{Store}
use Rattle.node_offer.specs.declared.fault.OfferFault.{OfferFault}
use Rattle.node_offer.specs.declared.fault.OfferFault.TheVariants as fault
use Rattle.node_offer.specs.Stored.{HasForms}
use Rattle.missing_walk.specs.declared.fault.SearchFault.{SearchFault}
use Rattle.missing_walk.specs.declared.fault.SearchFault.TheVariants as search
use Rattle.ledger_spec.specs.declared.replies.BaseReply.{BaseReply}
use Rattle.ledger_spec.specs.declared.replies.NodeReply.{NodeReply}
use Rattle.acquire_core.specs.Answers.{forms_in, Answers, HasFront}
use Rattle.acquire_core.specs.Replies as acquire
use Rattle.ledger_spec.specs.Replies as replies
use Rattle.ledger_machine.specs.declared.commands.Command.{Command}
use Rattle.ledger_machine.specs.declared.commands.Command.TheVariants as command
use Rattle.ledger_spec.specs.declared.replies.BaseReply.TheVariants as base
use Rattle.ledger_spec.specs.declared.replies.NodeReply.TheVariants as node
use Rattle.ledger_machine.specs.State.{State, form_in, with_forms, with_peers}
use Rattle.ledger_machine.specs.Scripts.{AreBytes, AreOffered}
use Rattle.ledger_machine.specs.Base.{base_says, base_reply, node_says, node_reply}
use Rattle.ledger_machine.specs.Steps.{Refused, own_forms}
use Rattle.ledger_machine.specs.Steps.{Does}
use Rattle.ledger_laws.proofs.shared.SoundOffers.{if_present, parts_fit}
use Rattle.core_machine.specs.Desks.{over}
use Rattle.core_machine.specs.Refusals.{search_refusal}
use Rattle.core_machine.specs.Wanting.{base_answer, node_answer}
use Rattle.core_machine.proofs.shared.States.{set_same, same_shaded, refused_nothing}
use Rattle.core_machine.proofs.shared.Entries.{IsOver, stored_over}

-- a base reply's parts, and a node, as they were judged
parts_ok : (r : Result Judged Clash) (j : Judged) → replies.parts_said r ≡ Ok (base.Parts j.header j.state j.tx) → r ≡ Ok j
parts_ok (Ok i) j e =
    let first : i.header ≡ j.header = cc in
    let second : i.state ≡ j.state = cc in
    let third : i.tx ≡ j.tx = cc in
    λ n. Ok (record { header = first n; state = second n; tx = third n })
parts_ok (Err c) j e = cc

parts_err : (r : Result Judged Clash) (c : Clash) → replies.parts_said r ≡ Err c → r ≡ Err c
parts_err (Ok j) c e = cc
parts_err (Err d) c e = let same : d ≡ c = cc in ap Err same

one_ok : (r : Result Offered Clash) (o : Offered) → replies.node_said r ≡ Ok (node.One o) → r ≡ Ok o
one_ok (Ok x) o e = let same : x ≡ o = cc in ap Ok same
one_ok (Err c) o e = cc

one_err : (r : Result Offered Clash) (c : Clash) → replies.node_said r ≡ Err c → r ≡ Err c
one_err (Ok x) c e = cc
one_err (Err d) c e = let same : d ≡ c = cc in ap Err same

-- the parts that were lent are those that were given
pub same_parts : (half : Half) (st st' : Store) (a : Acquiring) (p : ℕ) (r : Result BaseReply OfferFault) (h h' : Bytes)
    (x x' y y' : Option Bytes) → h' ≡ h → x' ≡ x → y' ≡ y
    → Answers half (replies.base_given half (forms_in st) a.target a.peers p h' x' y')
    (replies.base_stored half (forms_in st) a.target a.peers p h' x' y') st r st'
    → Answers half (replies.base_given half (forms_in st) a.target a.peers p h x y)
    (replies.base_stored half (forms_in st) a.target a.peers p h x y) st r st'
same_parts half st st' a p r h h' x x' y y' eh ex ey =
    subst (λ (v : Bytes × Option Bytes × Option Bytes). Answers half (replies.base_given half (forms_in st) a.target a.peers p v.0 v.1 v.2)
    (replies.base_stored half (forms_in st) a.target a.peers p v.0 v.1 v.2) st r st') (λ i. (eh i, ex i, ey i))

-- and so is the blob of a node
pub same_blob : (half : Half) (st st' : Store) (a : Acquiring) (p : ℕ) (kind : Kind) (path : List ℕ) (r : Result NodeReply OfferFault)
    (b b' : Bytes) → b' ≡ b
    → Answers half (replies.node_given half (forms_in st) a.target a.peers p kind path b')
    (replies.node_stored half (forms_in st) a.target a.peers p kind path b') st r st'
    → Answers half (replies.node_given half (forms_in st) a.target a.peers p kind path b)
    (replies.node_stored half (forms_in st) a.target a.peers p kind path b) st r st'
same_blob half st st' a p kind path r b b' e =
    subst (λ v. Answers half (replies.node_given half (forms_in st) a.target a.peers p kind path v)
    (replies.node_stored half (forms_in st) a.target a.peers p kind path v) st r st') e

-- a store and the state over it, with the acquisition that is open under the target, before and after
module _ (half : Half) (st st' : Store) (s : State) (t : Hash) (p : ℕ) (a a' : Acquiring) (is : IsOver st s)
    (at : get_in hash_cmp s.wanted t ≡ Some a) (own : a.target ≡ t) where
  abbrev after : State
  after = record (over st' s) { wanted = set_in hash_cmp s.wanted t a' }

  nodes_are : forms_in st ≡ form_in s
  nodes_are = sym (ap (λ (n : Nodes). map.get n) is.nodes)

  -- forms are stored, and the acquisition stays
  stayed : (forms : List Bytes) → a' ≡ a → HasForms half forms st st' → after ≡ with_forms half s forms
  stayed forms e has =
      ap (λ m. record (over st' s) { wanted = m }) (ap (set_in hash_cmp s.wanted t) e ∙ set_same _ s.wanted a at)
      ∙ stored_over half st st' s forms is has

  -- forms are stored, and its peers change
  charged : (forms : List Bytes) (change : Peers → Peers) → a' ≡ record a { peers = change a.peers } → HasForms half forms st st'
      → after ≡ with_peers (with_forms half s forms) t change
  charged forms change e has =
      ap (λ (x : Acquiring). record (over st' s) { wanted = set_in hash_cmp s.wanted t x }) e
      ∙ (rw at refl)
      ∙ ap (λ (x : State). with_peers x t change) (stored_over half st st' s forms is has)

  -- an own form is stored of a peer that is present
  own_form : (forms : List Bytes) (form : Bytes) → is_present a.peers p ≡ true → Contains forms form
      → Contains (if_present p (get_in hash_cmp s.wanted t) forms) form
  own_form forms form present i = rw (at, present) i

  -- a front of a command's own forms
  front_refused : (actor : ℕ) (c : Command) (forms : List Bytes) → a' ≡ a
      → ((form : Bytes) → Contains forms form → Contains (own_forms half s actor c) form × IsTrue (is_nonzero (half form)))
      → HasFront half forms st st' → Refused half s actor c after
  front_refused actor c forms e each f = record {
    forms = f.front;
    own = λ form i. each form (subst (λ fs. Contains fs form) (sym f.parts) (Contains-append_left f.front f.rest form i));
    same = same_shaded after _ (stayed f.front e f.stored);
  }

  all_refused : (actor : ℕ) (c : Command) (forms : List Bytes) → a' ≡ a
      → ((form : Bytes) → Contains forms form → Contains (own_forms half s actor c) form × IsTrue (is_nonzero (half form)))
      → HasForms half forms st st' → Refused half s actor c after
  all_refused actor c forms e each has = record { forms = forms; own = each; same = same_shaded after _ (stayed forms e has) }

  module _ (header : Bytes) (state tx : Option Bytes) (sized : IsHalf half) (offers : AreOffered t header state tx) (actor : ℕ) where
    abbrev outcome : Result Judged Clash
    outcome = base_outcome half (form_in s) t header state tx

    abbrev forms : List Bytes
    forms = base_forms half (form_in s) t header state tx

    abbrev asks : Command
    asks = command.Base p t header state tx

    -- what the acquisition answers over its store, said over the state
    reply_is : (b : Bool) → is_present a.peers p ≡ b → replies.base_given half (forms_in st) a.target a.peers p header state tx
        ≡ (if b then replies.parts_said outcome else Ok base.Unasked)
    reply_is b present = rw (present, nodes_are, own) refl

    stores_are : (b : Bool) → is_present a.peers p ≡ b → replies.base_stored half (forms_in st) a.target a.peers p header state tx
        ≡ (if b then forms else [])
    stores_are b present = rw (present, nodes_are, own) refl

    -- what the machine's row answers
    row_is : (b : Bool) → is_present a.peers p ≡ b
        → base_reply half s p t header state tx ≡ base_says (if b then replies.parts_said outcome else Ok base.Unasked)
    row_is b present = rw (at, present) refl

    each_own : is_present a.peers p ≡ true → (form : Bytes) → Contains forms form
        → Contains (own_forms half s actor asks) form × IsTrue (is_nonzero (half form))
    each_own present form i =
        (own_form forms form present i, (parts_fit half sized (form_in s) t header state tx form offers i).nonzero)

    -- a base reply is taken
    pub does_base : (r : Result BaseReply OfferFault) → acquire.TakesBase a p r a'
        → Answers half (replies.base_given half (forms_in st) a.target a.peers p header state tx)
        (replies.base_stored half (forms_in st) a.target a.peers p header state tx) st r st'
        → Does half s actor asks (base_answer r) [] after
    does_base (Ok (base.Parts h x y)) takes answers =
        let j : Judged = record { header = h; state = x; tx = y } in
        let judged : outcome ≡ Ok j = parts_ok outcome j (sym (reply_is true takes.asked) ∙ answers.0) in
        record {
          outcome = record {
            says = sym (row_is true takes.asked ∙ ap (λ x. base_says (replies.parts_said x)) judged);
            after = same_shaded after _ (charged forms (after_judging p j) takes.after
                (subst (λ fs. HasForms half fs st st') (stores_are true takes.asked) answers.1));
          };
          uses = refl;
        }
    does_base (Ok base.Unasked) takes answers =
        record {
          outcome = record {
            says = sym (row_is false takes.asked);
            after = same_shaded after _ (stayed [] takes.after
                (subst (λ fs. HasForms half fs st st') (stores_are false takes.asked) answers.1));
          };
          uses = refl;
        }
    does_base (Ok base.NotOpen) takes answers = absurd takes.asked
    does_base (Err (fault.Clash h old new)) takes answers =
        let c : Clash = record { hash = h; old = old; new = new } in
        let judged : outcome ≡ Err c = parts_err outcome c (sym (reply_is true takes.asked) ∙ answers.0) in
        record {
          outcome = (
            sym (row_is true takes.asked ∙ ap (λ x. base_says (replies.parts_said x)) judged),
            all_refused actor asks forms takes.after (each_own takes.asked)
                (subst (λ fs. HasForms half fs st st') (stores_are true takes.asked) answers.1),
          );
          uses = refl;
        }
    does_base (Err fault.Fault) takes answers =
        record {
          outcome = (
            tt,
            front_refused actor asks forms takes.after (each_own takes.asked)
                (subst (λ fs. HasFront half fs st st') (stores_are true takes.asked) answers),
          );
          uses = refl;
        }
    does_base (Err fault.Memory) takes answers =
        record {
          outcome = (
            tt,
            front_refused actor asks forms takes.after (each_own takes.asked)
                (subst (λ fs. HasFront half fs st st') (stores_are true takes.asked) answers),
          );
          uses = refl;
        }

  module _ (kind : Kind) (path : List ℕ) (blob : Bytes) (sized : IsHalf half) (all : AreBytes blob) (actor : ℕ) where
    abbrev node_judged : Result Offered Clash
    node_judged = node_outcome half (form_in s) t kind path blob

    abbrev node_stored : List Bytes
    node_stored = stored_by (read_wire half blob) node_judged

    abbrev sends : Command
    sends = command.Node p t kind path blob

    node_reply_is : (b : Bool) → is_present a.peers p ≡ b → replies.node_given half (forms_in st) a.target a.peers p kind path blob
        ≡ (if b then replies.node_said node_judged else Ok node.Unasked)
    node_reply_is b present = rw (present, nodes_are, own) refl

    node_stores_are : (b : Bool) → is_present a.peers p ≡ b → replies.node_stored half (forms_in st) a.target a.peers p kind path blob
        ≡ (if b then node_stored else [])
    node_stores_are b present = rw (present, nodes_are, own) refl

    node_row_is : (b : Bool) → is_present a.peers p ≡ b
        → node_reply half s p t kind path blob ≡ node_says (if b then replies.node_said node_judged else Ok node.Unasked)
    node_row_is b present = rw (at, present) refl

    each_node_own : is_present a.peers p ≡ true → (form : Bytes) → Contains node_stored form
        → Contains (own_forms half s actor sends) form × IsTrue (is_nonzero (half form))
    each_node_own present form i =
        (own_form node_stored form present i, (node_fits half sized (form_in s) t kind path blob form all i).nonzero)

    -- a node is taken
    pub does_node : (r : Result NodeReply OfferFault) → acquire.TakesNode a p r a'
        → Answers half (replies.node_given half (forms_in st) a.target a.peers p kind path blob)
        (replies.node_stored half (forms_in st) a.target a.peers p kind path blob) st r st'
        → Does half s actor sends (node_answer r) [] after
    does_node (Ok (node.One o)) takes answers =
        let judged : node_judged ≡ Ok o = one_ok node_judged o (sym (node_reply_is true takes.asked) ∙ answers.0) in
        record {
          outcome = record {
            says = sym (node_row_is true takes.asked ∙ ap (λ x. node_says (replies.node_said x)) judged);
            after = same_shaded after _ (charged node_stored (after_outcome p (is_bad o)) takes.after
                (subst (λ fs. HasForms half fs st st') (node_stores_are true takes.asked) answers.1));
          };
          uses = refl;
        }
    does_node (Ok node.Unasked) takes answers =
        record {
          outcome = record {
            says = sym (node_row_is false takes.asked);
            after = same_shaded after _ (stayed [] takes.after
                (subst (λ fs. HasForms half fs st st') (node_stores_are false takes.asked) answers.1));
          };
          uses = refl;
        }
    does_node (Ok node.NotOpen) takes answers = absurd takes.asked
    does_node (Err (fault.Clash h old new)) takes answers =
        let c : Clash = record { hash = h; old = old; new = new } in
        let judged : node_judged ≡ Err c = one_err node_judged c (sym (node_reply_is true takes.asked) ∙ answers.0) in
        record {
          outcome = (
            sym (node_row_is true takes.asked ∙ ap (λ x. node_says (replies.node_said x)) judged),
            all_refused actor sends node_stored takes.after (each_node_own takes.asked)
                (subst (λ fs. HasForms half fs st st') (node_stores_are true takes.asked) answers.1),
          );
          uses = refl;
        }
    does_node (Err fault.Fault) takes answers =
        record {
          outcome = (
            tt,
            front_refused actor sends node_stored takes.after (each_node_own takes.asked)
                (subst (λ fs. HasFront half fs st st') (node_stores_are true takes.asked) answers),
          );
          uses = refl;
        }
    does_node (Err fault.Memory) takes answers =
        record {
          outcome = (
            tt,
            front_refused actor sends node_stored takes.after (each_node_own takes.asked)
                (subst (λ fs. HasFront half fs st st') (node_stores_are true takes.asked) answers),
          );
          uses = refl;
        }

-- a search without an answer
pub does_unsearched : (half : Half) (s s' : State) (actor : ℕ) (t : Hash) (e : SearchFault) → s' ≡ s
    → Does half s actor (command.Check t) (search_refusal e) [] s'
does_unsearched half s s' actor t search.Fault same =
    record { outcome = (tt, refused_nothing half s s' actor (command.Check t) same); uses = refl }
does_unsearched half s s' actor t search.Memory same =
    record { outcome = (tt, refused_nothing half s s' actor (command.Check t) same); uses = refl }
