-- What a part answers, and what a reply answers that was judged.
use Rattle.std.proofs.Common.{◌≡◌, ℕ, Bool, true, if◌then◌else◌, List, [], Option, None, Some, Result, Ok, Err, refl, ap, ◌∙◌, sym, subst}
use Rattle.ledger_spec.specs.declared.Kind.{Kind}
use Rattle.ledger_spec.specs.declared.outcomes.Offered.{Offered}
use Rattle.ledger_spec.specs.Bytes.{Bytes, Hash, Half, Lookup}
use Rattle.ledger_spec.specs.Wire.{read_wire}
use Rattle.ledger_spec.specs.Offers.{Clash, node_outcome, stored_by}
use Rattle.ledger_spec.specs.Bases.{Judged, given, root_outcome, root_forms, base_outcome, base_forms}
use Rattle.ledger_spec.specs.Peers.{is_present}
use Rattle.ledger_spec.specs.Acquiring.{Acquiring}
use Rattle.ledger_spec.specs.declared.replies.BaseReply.{BaseReply}
use Rattle.ledger_spec.specs.declared.replies.BaseReply.TheVariants as base
use Rattle.ledger_spec.specs.declared.replies.NodeReply.{NodeReply}
use Rattle.ledger_spec.specs.declared.replies.NodeReply.TheVariants as node
use Rattle.rotating_store.specs.Stores.{Store}
use Rattle.node_offer.specs.declared.fault.OfferFault.{OfferFault}
use Rattle.node_offer.specs.declared.fault.OfferFault.TheVariants as faults
use Rattle.acquire_core.specs.Answers.{Answers}
use Rattle.ledger_spec.specs.Replies.{parts_said, base_given, base_stored, node_said, node_given, node_stored}

-- a refusal stays one when the outcome is told in other words, as long as they tell a clash as it was
told : {X Y : Type 0} (half : Half) (outcome : Result X Clash) (forms : List Bytes) (s s' : Store) (tell : Result X Clash → Result Y Clash)
    (e : OfferFault) → ((k : Clash) → tell (Err k) ≡ Err k) → Answers {X = X} half outcome forms s (Err e) s'
    → Answers {X = Y} half (tell outcome) forms s (Err e) s'
told half outcome forms s s' tell (faults.Clash h old new) same a =
    (ap tell a.0 ∙ same (record { hash = h; old = old; new = new }), a.1)
told half outcome forms s s' tell faults.Fault same a = a
told half outcome forms s s' tell faults.Memory same a = a

module _ (half : Half) (n : Lookup) (s s' : Store) (t : Hash) (kind : Kind) (path : List ℕ) (o : Option Bytes) (blob : Bytes)
    (top : path ≡ []) (is : o ≡ Some blob) where
  abbrev outcome_at : List ℕ → Result Offered Clash
  outcome_at q = node_outcome half n t kind q blob

  abbrev stored_at : List ℕ → List Bytes
  stored_at q = stored_by (read_wire half blob) (outcome_at q)

  as_root : (r : Result (Option Offered) OfferFault) → Answers half (given (outcome_at [])) (stored_at []) s r s'
      → Answers half (root_outcome half n t kind o) (root_forms half n t kind o) s r s'
  as_root r a =
      subst (λ (x : Option Bytes). Answers half (root_outcome half n t kind x) (root_forms half n t kind x) s r s') (sym is) a

  at_top : (r : Result Offered OfferFault) → Answers half (outcome_at path) (stored_at path) s r s'
      → Answers half (outcome_at []) (stored_at []) s r s'
  at_top r a = subst (λ (q : List ℕ). Answers half (outcome_at q) (stored_at q) s r s') top a

  -- a node at the top that has an outcome is a root that has it
  pub root_answers : (x : Offered) → Answers half (outcome_at path) (stored_at path) s (Ok x) s'
      → Answers {X = Option Offered} half (root_outcome half n t kind o) (root_forms half n t kind o) s (Ok (Some x)) s'
  root_answers x a = let b = at_top (Ok x) a in as_root (Ok (Some x)) (ap given b.0, b.1)

  -- and one that has none has none as a root
  pub root_refused : (e : OfferFault) → Answers {X = Offered} half (outcome_at path) (stored_at path) s (Err e) s'
      → Answers {X = Option Offered} half (root_outcome half n t kind o) (root_forms half n t kind o) s (Err e) s'
  root_refused e a = as_root (Err e) (told half (outcome_at []) (stored_at []) s s' given e (λ k. refl) (at_top (Err e) a))

module _ (half : Half) (n : Lookup) (s s' : Store) (a : Acquiring) (p : ℕ) (here : is_present a.peers p ≡ true) where
  module _ (kind : Kind) (path : List ℕ) (blob : Bytes) where
    abbrev outcome : Result Offered Clash
    outcome = node_outcome half n a.target kind path blob

    abbrev forms : List Bytes
    forms = stored_by (read_wire half blob) outcome

    -- a node of a peer that is present has the outcome of what is offered
    pub node_answers : (x : Offered) → Answers half outcome forms s (Ok x) s'
        → Answers half (node_given half n a.target a.peers p kind path blob) (node_stored half n a.target a.peers p kind path blob) s
        (Ok (node.One x)) s'
    node_answers x o =
        subst (λ (b : Bool). Answers {X = NodeReply} half (if b then node_said outcome else Ok node.Unasked) (if b then forms else []) s
        (Ok (node.One x)) s') (sym here) (ap node_said o.0, o.1)

  module _ (header : Bytes) (state tx : Option Bytes) where
    abbrev whole : Result Judged Clash
    whole = base_outcome half n a.target header state tx

    abbrev all : List Bytes
    all = base_forms half n a.target header state tx

    abbrev given_by : Result BaseReply Clash
    given_by = base_given half n a.target a.peers p header state tx

    abbrev stored : List Bytes
    stored = base_stored half n a.target a.peers p header state tx

    replied : (r : Result BaseReply OfferFault) → Answers half (parts_said whole) all s r s' → Answers half given_by stored s r s'
    replied r o =
        subst (λ (b : Bool). Answers half (if b then parts_said whole else Ok base.Unasked) (if b then all else []) s r s')
        (sym here) o

    -- a base reply of such a peer has that of its parts
    pub base_answers : (j : Judged) → Answers half whole all s (Ok j) s'
        → Answers half given_by stored s (Ok (base.Parts j.header j.state j.tx)) s'
    base_answers j o = replied (Ok (base.Parts j.header j.state j.tx)) (ap parts_said o.0, o.1)

    -- and where they have none, neither has the reply
    pub base_refused : (e : OfferFault) → Answers {X = Judged} half whole all s (Err e) s'
        → Answers {X = BaseReply} half given_by stored s (Err e) s'
    base_refused e o = replied (Err e) (told half whole all s s' parts_said e (λ k. refl) o)
