-- A base reply that was judged part by part, each over the store that those before it left.
use Rattle.std.proofs.Common.{◌≡◌, ◌<◌, ◌⊎◌, inl, inr, ℕ, suc, Bool, List, [], ◌∷◌, ◌++◌, append-nil, get_or, nat_lt, Option, Result}
use Rattle.std.proofs.Common.{Ok, Err, IfOk, IfErr, IsTrue, refl, sym, ap, ◌∙◌, subst}
use Rattle.std.specs.Result.{IsErrAnd}
use Rattle.std.proofs.lemmas.Bool.{and_from, lt-ltb}
use Rattle.ledger_spec.specs.declared.Kind.{Kind}
use Rattle.ledger_spec.specs.declared.Kind.TheVariants.{State, Tx}
use Rattle.ledger_spec.specs.declared.outcomes.Offered.{Offered}
use Rattle.ledger_spec.specs.declared.outcomes.HeadOffered.{HeadOffered}
use Rattle.ledger_spec.specs.Bytes.{Bytes, Hash, Half, Lookup, is_nonzero, are_bytes, IsHalf}
use Rattle.ledger_spec.specs.Forms.{Held}
use Rattle.ledger_spec.specs.Wire.{read_wire}
use Rattle.ledger_spec.specs.Own.{AreStored}
use Rattle.ledger_spec.specs.Offers.{Clash, head_outcome, head_forms, node_outcome, stored_by}
use Rattle.ledger_spec.specs.Bases.{Judged, with_forms, joined, root_outcome, root_forms, unless_clash, behind_header}
use Rattle.ledger_spec.specs.Bases.{behind_state, base_outcome, base_forms}
use Rattle.ledger_spec.proofs.shared.Storing.{head_form_fits, node_fits, forms_kept}
use Rattle.rotating_store.specs.Stores.{Store, Counted}
use Rattle.rotating_store.specs.Reading.{KeepsReadable}
use Rattle.node_offer.specs.declared.fault.OfferFault.{OfferFault}
use Rattle.node_offer.specs.declared.fault.OfferFault.TheVariants as faults
use Rattle.node_offer.specs.Stored.{HasForms, Refuses}
use Rattle.acquire_core.specs.declared.parts.Parts.{Parts}
use Rattle.node_offer.specs.declared.outcome.Offered.{Offered as Told}
use Rattle.node_offer.specs.Outcomes.{numbered}
use Rattle.acquire_core.specs.Parts.{said, judged as judged_by}
use Rattle.acquire_core.specs.Answers.{forms_in, HasFront, Answers}
use Rattle.acquire_core.proofs.shared.Growing.{holds, has_more, front_more, front_of}

-- numbers below 256 are bytes
pub bytes_by : (xs : Bytes) → ((i : ℕ) → get_or xs i 0 < 256) → IsTrue (are_bytes xs)
bytes_by [] each = refl
bytes_by (x ∷ xs) each = and_from (nat_lt x 256) (are_bytes xs) (lt-ltb x 256 (each 0)) (bytes_by xs (λ i. each (suc i)))

-- a part that is refused has stored nothing, or what its outcome stores
part_front : (half : Half) (forms : List Bytes) (s s' : Store) → Counted s s' ⊎ HasForms half forms s s' → HasFront half forms s s'
part_front half forms s s' (inl same) = record { front = []; rest = forms; parts = refl; stored = same }
part_front half forms s s' (inr has) = record { front = forms; rest = []; parts = sym (append-nil forms); stored = has }

-- one part, by what is said of its outcome, of what is stored, and of a refusal
pub one_part : {X : Type 0} (half : Half) (outcome : Result X Clash) (forms : Result X Clash
    → List Bytes) (s s' : Store) (r : Result X OfferFault)
    → ((c : Clash) → forms (Err c) ≡ []) → IfOk r (λ o. outcome ≡ Ok o) → IfOk r (λ o. HasForms half (forms (Ok o)) s s')
    → IfErr r (λ e. Refuses half outcome (forms outcome) s e s') → Answers half outcome (forms outcome) s r s'
one_part half outcome forms s s' (Ok o) none is has refused = (is, subst (λ x. HasForms half (forms x) s s') (sym is) has)
one_part half outcome forms s s' (Err (faults.Clash h old new)) none is has refused =
    (refused.0, subst (λ fs. HasForms half fs s s') (sym (ap forms refused.0 ∙ none _)) refused.1)
one_part half outcome forms s s' (Err faults.Fault) none is has refused = part_front half (forms outcome) s s' refused
one_part half outcome forms s s' (Err faults.Memory) none is has refused = part_front half (forms outcome) s s' refused

-- the same of a node, whose outcome is said with numbers
pub one_node : (half : Half) (outcome : Result Offered Clash) (forms : Result Offered Clash → List Bytes) (s s' : Store)
    (r : Result Told OfferFault)
    → ((c : Clash) → forms (Err c) ≡ []) → IfOk r (λ o. outcome ≡ Ok (numbered o))
    → IfOk r (λ o. HasForms half (forms (Ok (numbered o))) s s')
    → IfErr r (λ e. Refuses half outcome (forms outcome) s e s') → Answers half outcome (forms outcome) s (said r) s'
one_node half outcome forms s s' (Ok o) none is has refused = one_part half outcome forms s s' (Ok (numbered o)) none is has refused
one_node half outcome forms s s' (Err e) none is has refused = one_part half outcome forms s s' (Err e) none tt tt refused

-- bytes that are read store nothing where there is a clash
pub clash_stores : (read : Result Held ℕ) (c : Clash) → stored_by read (Err c) ≡ []
clash_stores (Ok n) c = refl
clash_stores (Err cause) c = refl

-- an error handed on is answered as it was
pub handed : {X : Type 0} (half : Half) (outcome : Result X Clash) (forms : List Bytes) (s s' : Store) (r : Result X OfferFault) (e :
    OfferFault)
    → IsErrAnd r (λ y. y ≡ e) → Answers {X = X} half outcome forms s (Err e) s' → Answers half outcome forms s r s'
handed half outcome forms s s' (Ok x) e is a = absurd is
handed half outcome forms s s' (Err y) e is a = subst (λ (f : OfferFault). Answers half outcome forms s (Err f) s') (sym is) a

-- a fault is that of what is handed on
pub said_keeps : (tells : Bool) (half : Half) (s s' : Store) (r : Result Told OfferFault)
    → KeepsReadable tells half faults.Fault s s' r → KeepsReadable tells half faults.Fault s s' (said r)
said_keeps tells half s s' (Ok o) k = record { notes = k.notes; later = k.later; cause = tt }
said_keeps tells half s s' (Err e) k = record { notes = k.notes; later = k.later; cause = k.cause }

pub handed_parts : (half : Half) (outcome : Result Judged Clash) (forms : List Bytes) (s s' : Store) (r : Result Parts OfferFault) (e :
    OfferFault)
    → IsErrAnd r (λ y. y ≡ e) → Answers {X = Judged} half outcome forms s (Err e) s' → Answers half outcome forms s (judged_by r) s'
handed_parts half outcome forms s s' (Ok x) e is a = absurd is
handed_parts half outcome forms s s' (Err y) e is a = subst (λ (f : OfferFault). Answers half outcome forms s (Err f) s') (sym is) a

-- what is stored of a header stays forms under their own hashes
pub header_kept : (half : Half) (s s' : Store) (t : Hash) (bytes : Bytes) (r : Result HeadOffered OfferFault)
    → IsTrue (is_nonzero t) → IsTrue (are_bytes bytes) → AreStored half (forms_in s)
    → Answers half (head_outcome half (forms_in s) t bytes) (head_forms (head_outcome half (forms_in s) t bytes) bytes) s r s'
    → IfOk r (λ x. AreStored half (forms_in s'))
header_kept half s s' t bytes (Ok o) nonzero are all a =
    let forms : List Bytes = head_forms (head_outcome half (forms_in s) t bytes) bytes in
    subst (λ (n : Lookup). AreStored half n) (sym (holds half forms s s' a.1))
    (forms_kept half (forms_in s) forms all (λ form i. head_form_fits half (forms_in s) t bytes (head_outcome half (forms_in s) t
    bytes) form nonzero are refl i))
header_kept half s s' t bytes (Err e) nonzero are all a = tt

-- and of a node
pub node_kept : (half : Half) (sized : IsHalf half) (s s' : Store) (t : Hash) (kind : Kind) (path : List ℕ) (blob : Bytes)
    (r : Result Offered OfferFault)
    → IsTrue (are_bytes blob) → AreStored half (forms_in s)
    → Answers half (node_outcome half (forms_in s) t kind path blob)
    (stored_by (read_wire half blob) (node_outcome half (forms_in s) t kind path blob)) s r s'
    → IfOk r (λ x. AreStored half (forms_in s'))
node_kept half sized s s' t kind path blob (Ok o) are all a =
    let forms : List Bytes = stored_by (read_wire half blob) (node_outcome half (forms_in s) t kind path blob) in
    subst (λ (n : Lookup). AreStored half n) (sym (holds half forms s s' a.1))
    (forms_kept half (forms_in s) forms all (λ form i. node_fits half sized (forms_in s) t kind path blob form are i))
node_kept half sized s s' t kind path blob (Err e) are all a = tt

-- a root, over another store that holds the same
root_at : (half : Half) (n m : Lookup) (s s' : Store) (t : Hash) (kind : Kind) (blob : Option Bytes) (r : Result (Option Offered)
    OfferFault)
    → n ≡ m → Answers half (root_outcome half n t kind blob) (root_forms half n t kind blob) s r s'
    → Answers half (root_outcome half m t kind blob) (root_forms half m t kind blob) s r s'
root_at half n m s s' t kind blob r same =
    subst (λ (x : Lookup). Answers half (root_outcome half x t kind blob) (root_forms half x t kind blob) s r s') same

module _ (half : Half) (s : Store) (t : Hash) (header : Bytes) (state tx : Option Bytes) where
  abbrev judged : Result HeadOffered Clash
  judged = head_outcome half (forms_in s) t header

  abbrev first : Lookup
  first = behind_header half (forms_in s) t header state tx

  abbrev second : Lookup
  second = behind_state half (forms_in s) t header state tx

  abbrev one : Result (Option Offered) Clash
  one = root_outcome half first t State state

  abbrev two : Result (Option Offered) Clash
  two = root_outcome half second t Tx tx

  abbrev F1 : List Bytes
  F1 = head_forms judged header

  abbrev F2 : List Bytes
  F2 = root_forms half first t State state

  abbrev F3 : List Bytes
  F3 = root_forms half second t Tx tx

  abbrev whole : Result Judged Clash
  whole = base_outcome half (forms_in s) t header state tx

  abbrev all : List Bytes
  all = base_forms half (forms_in s) t header state tx

  -- the forms, as far as it is known that there was no clash
  with_roots : (r : Result HeadOffered Clash) → judged ≡ r → all ≡ F1 ++ unless_clash r (F2 ++ unless_clash one F3)
  with_roots r is = ap (λ x. F1 ++ unless_clash x (F2 ++ unless_clash one F3)) is

  with_tx : (h : HeadOffered) (r : Result (Option Offered) Clash) → judged ≡ Ok h → one ≡ r → all ≡ F1 ++ (F2 ++ unless_clash r F3)
  with_tx h r ok is = with_roots (Ok h) ok ∙ ap (λ x. F1 ++ (F2 ++ unless_clash x F3)) is

  -- the header has no outcome
  pub header_ends : (e : OfferFault) (s' : Store) → Answers {X = HeadOffered} half judged F1 s (Err e) s'
      → Answers {X = Judged} half whole all s (Err e) s'
  header_ends (faults.Clash h old new) s' a = (
    ap (λ r. joined r one two) a.0,
    subst (λ fs. HasForms half fs s s') (sym (with_roots _ a.0 ∙ append-nil F1)) a.1,
  )
  header_ends faults.Fault s' f = front_of half F1 (unless_clash judged (F2 ++ unless_clash one F3)) s s' f
  header_ends faults.Memory s' f = front_of half F1 (unless_clash judged (F2 ++ unless_clash one F3)) s s' f

  module _ (h : HeadOffered) (m : Store) (a1 : Answers {X = HeadOffered} half judged F1 s (Ok h) m) where
    -- what the store holds behind the header
    holds_first : forms_in m ≡ first
    holds_first = holds half F1 s m a1.1

    front_two : (s' : Store) → HasFront half F2 m s' → HasFront half all s s'
    front_two s' f =
        subst (λ fs. HasFront half fs s s') (sym (with_roots (Ok h) a1.0))
        (front_more half F1 (F2 ++ unless_clash one F3) s m s' a1.1 (front_of half F2 (unless_clash one F3) m s' f))

    -- a state root that is judged over this store
    at_first : (r : Result (Option Offered) OfferFault) (s' : Store)
        → Answers half (root_outcome half (forms_in m) t State state) (root_forms half (forms_in m) t State state) m r s'
        → Answers half one F2 m r s'
    at_first r s' = root_at half (forms_in m) first m s' t State state r holds_first

    state_refused : (e : OfferFault) (s' : Store) → Answers {X = Option Offered} half one F2 m (Err e) s'
        → Answers {X = Judged} half whole all s (Err e) s'
    state_refused (faults.Clash k old new) s' a = (
      ap (λ r. joined r one two) a1.0 ∙ ap (λ r. joined (Ok h) r two) a.0,
      subst (λ fs. HasForms half fs s s') (sym (with_tx h _ a1.0 a.0
          ∙ ap (λ l. F1 ++ l) (append-nil F2))) (has_more half F1 F2 s m s' a1.1 a.1),
    )
    state_refused faults.Fault s' f = front_two s' f
    state_refused faults.Memory s' f = front_two s' f

    -- nor has the state root
    pub state_ends : (e : OfferFault) (s' : Store)
        → Answers {X = Option Offered} half (root_outcome half (forms_in m) t State state) (root_forms half (forms_in m) t State state)
        m (Err e) s'
        → Answers {X = Judged} half whole all s (Err e) s'
    state_ends e s' a = state_refused e s' (at_first (Err e) s' a)

    module _ (o : Option Offered) (n : Store)
        (a2 : Answers {X = Option Offered} half (root_outcome half (forms_in m) t State state) (root_forms half (forms_in m) t State
        state) m (Ok o) n) where
      abbrev b2 : Answers {X = Option Offered} half one F2 m (Ok o) n
      b2 = at_first (Ok o) n a2

      -- what the store holds behind the state root
      holds_second : forms_in n ≡ second
      holds_second = holds half F2 m n b2.1 ∙ ap (λ (x : Lookup). with_forms half x F2) holds_first

      -- a transaction root that is judged over this store
      at_second : (r : Result (Option Offered) OfferFault) (s' : Store)
          → Answers half (root_outcome half (forms_in n) t Tx tx) (root_forms half (forms_in n) t Tx tx) n r s' → Answers half two F3 n r s'
      at_second r s' = root_at half (forms_in n) second n s' t Tx tx r holds_second

      three : all ≡ F1 ++ (F2 ++ F3)
      three = with_tx h (Ok o) a1.0 b2.0

      front_three : (s' : Store) → HasFront half F3 n s' → HasFront half all s s'
      front_three s' f =
          subst (λ fs. HasFront half fs s s') (sym three)
          (front_more half F1 (F2 ++ F3) s m s' a1.1 (front_more half F2 F3 m n s' b2.1 f))

      forms_three : (s' : Store) → HasForms half F3 n s' → HasForms half all s s'
      forms_three s' has =
          subst (λ fs. HasForms half fs s s') (sym three)
          (has_more half F1 (F2 ++ F3) s m s' a1.1 (has_more half F2 F3 m n s' b2.1 has))

      both : (r : Result (Option Offered) Clash) → two ≡ r → whole ≡ joined (Ok h) (Ok o) r
      both r is = ap (λ x. joined x one two) a1.0 ∙ ap (λ x. joined (Ok h) x two) b2.0 ∙ ap (joined (Ok h) (Ok o)) is

      tx_refused : (e : OfferFault) (s' : Store) → Answers {X = Option Offered} half two F3 n (Err e) s'
          → Answers {X = Judged} half whole all s (Err e) s'
      tx_refused (faults.Clash k old new) s' a = (both _ a.0, forms_three s' a.1)
      tx_refused faults.Fault s' f = front_three s' f
      tx_refused faults.Memory s' f = front_three s' f

      -- nor has the transaction root
      pub tx_ends : (e : OfferFault) (s' : Store)
          → Answers {X = Option Offered} half (root_outcome half (forms_in n) t Tx tx) (root_forms half (forms_in n) t Tx tx) n (Err e) s'
          → Answers {X = Judged} half whole all s (Err e) s'
      tx_ends e s' a = tx_refused e s' (at_second (Err e) s' a)

      -- all have one
      pub all_judged : (p : Option Offered) (s' : Store)
          → Answers {X = Option Offered} half (root_outcome half (forms_in n) t Tx tx) (root_forms half (forms_in n) t Tx tx) n (Ok p) s'
          → Answers half whole all s (Ok (record { header = h; state = o; tx = p })) s'
      all_judged p s' a = let b = at_second (Ok p) s' a in (both (Ok p) b.0, forms_three s' b.1)
