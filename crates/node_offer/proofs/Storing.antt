-- What is stored for an outcome, and what is left where there is none.
use Rattle.std.proofs.Common.{◌≡◌, ◌≢◌, inl, inr, ℕ, true, false, is_some, List, [], ◌∷◌, Option, Some, None, Result}
use Rattle.std.proofs.Common.{Ok, Err}
use Rattle.std.proofs.Common.{IfErr, IsErrAnd, refl, sym, ap, ◌∙◌, subst}
use Rattle.std.specs.FinMap as map
use Rattle.std.specs.Cmp.Lexicographic.{same_text}
use Rattle.ledger_spec.specs.declared.Kind.{Kind}
use Rattle.ledger_spec.specs.declared.ShapeFault.{ShapeFault}
use Rattle.ledger_spec.specs.declared.outcomes.Offered.{Offered}
use Rattle.ledger_spec.specs.Bytes.{Bytes, Hash, Half, Nodes, same_bytes}
use Rattle.ledger_spec.specs.Forms.{Held, form_of, hash_of}
use Rattle.ledger_spec.specs.Rules.{fault_of}
use Rattle.ledger_spec.specs.Spots as way
use Rattle.ledger_spec.specs.Spots.{spot_of}
use Rattle.ledger_spec.specs.Own.{AreStored, own_forms}
use Rattle.ledger_spec.specs.Offers.{Clash, node_given, spot_outcome, wire_outcome, stored_by}
use Rattle.ledger_spec.proofs.shared.Owning.{all_own, same_self}
use Rattle.rotating_store.specs.Stores.{Store, nodes_of, Counted, with_pair}
use Rattle.rotating_store.proofs.shared.Reading.{counted_then}
use Rattle.node_offer.specs.declared.fault.OfferFault.{OfferFault}
use Rattle.node_offer.specs.declared.fault.OfferFault.TheVariants as faults
use Rattle.node_offer.specs.Stored.{HasForms, Refuses, Stores}
use Rattle.node_offer.proofs.shared.Storing.{counted_forms}

not_same : (a b : Bytes) → a ≢ b → same_bytes a b ≡ false
not_same a b ne = elim (same_bytes a b) as (λ r. same_bytes a b ≡ r → r ≡ false)
    [ true ↦ λ e. absurd (ne (same_text a b (sym e))) | false ↦ λ e. refl ] refl

-- the outcome where the node has the wanted hash
at_wanted : (half : Half) (nodes : Nodes) (kind : Kind) (path : List ℕ) (n : Held) (h : Hash) (parent : Option (List Hash)) (form : Bytes)
    → form ≡ form_of n → half form ≡ h
    → spot_outcome half (map.get nodes) kind path n (way.wanted h parent) ≡ node_given (fault_of n parent kind path) h form
    (map.get nodes h)
at_wanted half nodes kind path n h parent form is own =
    let same : same_bytes (hash_of half n) h ≡ true = ap (λ f. same_bytes (half f) h) (sym is) ∙ ap (λ x. same_bytes x h) own
    ∙ same_self h in
    rw same (ap (λ f. node_given (fault_of n parent kind path) h f (map.get nodes h)) (sym is))

given_clash : (fault : Option ShapeFault) (h : Hash) (form old : Bytes) → old ≢ form
    → node_given fault h form (Some old) ≡ Err (record { hash = h; old = old; new = form })
given_clash None h form old ne = rw (not_same old form ne) refl
given_clash (Some fault) h form old ne = rw (not_same old form ne) refl

given_new : (fault : Option ShapeFault) (n : Held) (h : Hash) (form : Bytes) → form ≡ form_of n
    → stored_by (Ok n) (node_given fault h form None) ≡ form ∷ []
given_new None n h form is = ap (λ f. f ∷ []) (sym is)
given_new (Some fault) n h form is = ap (λ f. f ∷ []) (sym is)

-- a form that isn't there is put under its own hash
one_form : (half : Half) (s s' : Store) (h : Hash) (form : Bytes) → half form ≡ h → map.get (nodes_of s) h ≡ None
    → Counted (with_pair s h form) s' → HasForms half (form ∷ []) s s'
one_form half s s' h form own none counted =
    let there : is_some (map.get (nodes_of s) (half form)) ≡ false = ap (λ k. is_some (map.get (nodes_of s) k)) own ∙ ap is_some none in
    rw there (subst (λ k. Counted (with_pair s k form) s') (sym own) counted)

-- a node that wasn't there is what the outcome stores
stored_at : (half : Half) (s s' : Store) (kind : Kind) (path : List ℕ) (n : Held) (h : Hash) (parent : Option (List Hash)) (form : Bytes)
    → form ≡ form_of n → half form ≡ h → map.get (nodes_of s) h ≡ None
    → Counted (with_pair s h form) s'
    → HasForms half (stored_by (Ok n) (spot_outcome half (map.get (nodes_of s)) kind path n (way.wanted h parent))) s s'
stored_at half s s' kind path n h parent form is own none counted =
    let forms : stored_by (Ok n) (spot_outcome half (map.get (nodes_of s)) kind path n (way.wanted h parent)) ≡ form ∷ [] =
    ap (stored_by (Ok n)) (at_wanted half (nodes_of s) kind path n h parent form is own
    ∙ ap (node_given (fault_of n parent kind path) h form) none)
    ∙ given_new (fault_of n parent kind path) n h form is in
    subst (λ fs. HasForms half fs s s') (sym forms) (one_form half s s' h form own none counted)

-- the store refused a node's form
pub refused_at : (half : Half) (s s' : Store) (kind : Kind) (path : List ℕ) (n : Held) (h : Hash) (parent : Option (List Hash))
    (form : Bytes) (e : OfferFault)
    → form ≡ form_of n → Stores half s h form (Err e) s'
    → Refuses half (spot_outcome half (map.get (nodes_of s)) kind path n (way.wanted h parent))
    (stored_by (Ok n) (spot_outcome half (map.get (nodes_of s)) kind path n (way.wanted h parent))) s e s'
refused_at half s s' kind path n h parent form (faults.Clash hash old new) is p = (
  at_wanted half (nodes_of s) kind path n h parent form is p.0 ∙ ap (node_given (fault_of n parent kind path) h form) p.3
      ∙ given_clash (fault_of n parent kind path) h form old p.4
      ∙ ap (λ k. Err (record { hash = k; old = old; new = form })) (sym p.1)
      ∙ ap (λ f. Err (record { hash = hash; old = old; new = f })) (sym p.2),
  p.5,
)
refused_at half s s' kind path n h parent form faults.Fault is (own, inl same) = inl same
refused_at half s s' kind path n h parent form faults.Fault is (own, inr new) =
    inr (stored_at half s s' kind path n h parent form is own new.0 new.1)
refused_at half s s' kind path n h parent form faults.Memory is (own, inl same) = inl same
refused_at half s s' kind path n h parent form faults.Memory is (own, inr new) =
    inr (stored_at half s s' kind path n h parent form is own new.0 new.1)

-- an error handed on
pub handed_on : {T E : Type 0} (P : E → Type 0) (r : Result T E) (x : E) → IsErrAnd r (λ e. e ≡ x) → P x → IfErr r P
handed_on P (Ok y) x is p = tt
handed_on P (Err e) x is p = subst P (sym is) p

-- the outcome, by what the place is among the forms that are held
pub by_place : (half : Half) (held stored : Nodes) (t : Hash) (kind : Kind) (path : List ℕ) (n : Held) (spot : way.Spot)
    (wire : Result Held ℕ) → stored ≡ held → AreStored half (map.get held)
    → spot ≡ spot_of (own_forms half (map.get held)) t kind path → wire ≡ Ok n
    → wire_outcome half (map.get held) t kind path wire ≡ spot_outcome half (map.get stored) kind path n spot
by_place half held stored t kind path n spot wire same all at read =
    ap (wire_outcome half (map.get held) t kind path) read
    ∙ ap (λ p. spot_outcome half (map.get held) kind path n p)
    (sym (at ∙ ap (λ l. spot_of l t kind path) (all_own half (map.get held) all)))
    ∙ ap (λ m. spot_outcome half (map.get m) kind path n spot) (sym same)

refuses_by : (half : Half) (out out' : Result Offered Clash) (forms forms' : List Bytes) (s0 s1 s2 : Store) (e : OfferFault) → out' ≡ out
    → forms' ≡ forms → Counted s0 s1
    → Refuses half out' forms' s1 e s2 → Refuses half out forms s0 e s2
refuses_by half out out' forms forms' s0 s1 s2 (faults.Clash h old new) o f read p = (sym o ∙ p.0, counted_then s0 s1 s2 read p.1)
refuses_by half out out' forms forms' s0 s1 s2 faults.Fault o f read (inl same) = inl (counted_then s0 s1 s2 read same)
refuses_by half out out' forms forms' s0 s1 s2 faults.Fault o f read (inr has) =
    inr (counted_forms half s0 s1 s2 forms read (subst (λ fs. HasForms half fs s1 s2) f has))
refuses_by half out out' forms forms' s0 s1 s2 faults.Memory o f read (inl same) = inl (counted_then s0 s1 s2 read same)
refuses_by half out out' forms forms' s0 s1 s2 faults.Memory o f read (inr has) =
    inr (counted_forms half s0 s1 s2 forms read (subst (λ fs. HasForms half fs s1 s2) f has))

-- an offer whose node was refused at its place
pub refused_there : (half : Half) (s0 s1 s2 : Store) (t : Hash) (kind : Kind) (path : List ℕ) (n : Held) (spot : way.Spot)
    (wire : Result Held ℕ) (e : OfferFault)
    → Counted s0 s1 → AreStored half (map.get (nodes_of s0)) → spot ≡ spot_of (own_forms half (map.get (nodes_of s0))) t kind path
    → wire ≡ Ok n
    → Refuses half (spot_outcome half (map.get (nodes_of s1)) kind path n spot)
    (stored_by (Ok n) (spot_outcome half (map.get (nodes_of s1)) kind path n spot)) s1 e s2
    → Refuses half (wire_outcome half (map.get (nodes_of s0)) t kind path wire)
    (stored_by wire (wire_outcome half (map.get (nodes_of s0)) t kind path wire)) s0 e s2
refused_there half s0 s1 s2 t kind path n spot wire e read all at wired refuses =
    let out : wire_outcome half (map.get (nodes_of s0)) t kind path wire ≡ spot_outcome half (map.get (nodes_of s1)) kind path n spot =
    by_place half (nodes_of s0) (nodes_of s1) t kind path n spot wire (ap nodes_of read) all at wired in
    refuses_by half _ _ _ _ s0 s1 s2 e (sym out)
    (ap (λ w. stored_by w (spot_outcome half (map.get (nodes_of s1)) kind path n spot)) (sym wired) ∙ ap (stored_by wire) (sym out))
    read refuses
