-- What a base reply writes is shaded before, and named by what its target reaches, part by part.
use Rattle.std.proofs.Common.{◌≡◌, ◌⊎◌, inl, inr, ⊎_elim, Bool, true, false, if◌then◌else◌, not, is_some, length, ◌==◌, ℕ, List, [], ◌∷◌}
use Rattle.std.proofs.Common.{◌++◌}
use Rattle.std.proofs.Common.{Option, None, Some, Result, Ok, Err, Contains, refl, sym, ap, ◌∙◌, subst}
use Rattle.std.specs.Cmp.Lexicographic.{same_text}
use Rattle.std.proofs.lemmas.List.Elements.{Contains-append_left, Contains-append_cases}
use Rattle.ledger_spec.specs.declared.Kind.{Kind}
use Rattle.ledger_spec.specs.declared.Kind.TheVariants as kinds
use Rattle.ledger_spec.specs.declared.outcomes.Offered.{Offered}
use Rattle.ledger_spec.specs.declared.outcomes.Offered.TheVariants as offered
use Rattle.ledger_spec.specs.declared.outcomes.HeadOffered.{HeadOffered}
use Rattle.ledger_spec.specs.declared.outcomes.HeadOffered.TheVariants as head
use Rattle.ledger_spec.specs.Bytes.{Bytes, Hash, Half, Lookup, same_bytes}
use Rattle.ledger_spec.specs.Bases.{with_form, with_forms, root_outcome, root_forms, unless_clash, behind_header, behind_state, base_forms}
use Rattle.ledger_spec.specs.Forms.{Held, form_of, header_prefix}
use Rattle.ledger_spec.specs.Offers.{Clash, head_given, head_outcome, head_forms, wire_outcome, stored_by}
use Rattle.ledger_spec.specs.Reach.{Reach, root, Stored}
use Rattle.ledger_spec.specs.Wire.{read_wire}
use Rattle.ledger_spec.specs.Acquiring.{Acquiring}
use Rattle.ledger_spec.specs.Peers.{is_present}
use Rattle.ledger_spec.proofs.shared.ReachLaws.{Grows, reach_joins}
use Rattle.ledger_spec.proofs.shared.Storing.{in_one}
use Rattle.ledger_laws.proofs.shared.SoundForms.{in_head, in_nothing}
use Rattle.ledger_laws.proofs.shared.SoundOffers.{parts_cases}
use Rattle.ledger_laws.proofs.shared.Ways.{IsNamed, named_reached}
use Rattle.rotating_store.specs.Stores.{Store}
use Rattle.online_rotate.specs.Copying.{IsWalking}
use Rattle.online_rotate.specs.Rotators.{Turning}
use Rattle.node_offer.specs.declared.fault.OfferFault.{OfferFault}
use Rattle.node_offer.specs.Stored.{HasForms}
use Rattle.acquire_core.specs.Answers.{forms_in, Answers}
use Rattle.ledger_spec.specs.Replies.{base_stored}
use Rattle.acquire_core.proofs.shared.Growing.{holds}
use Rattle.core_machine.specs.Heeds.{Heeds, IsHeeded, AreHeeded}
use Rattle.core_machine.proofs.Turns.{forms_add, walking_adds, walking_heeded}
use Rattle.core_machine.proofs.Offered.{if_form, answer_front, node_written}

module _ (half : Half) (t : Hash) where
  -- the target's own, or named by what it reaches
  abbrev pub IsOwnOrNamed : Lookup → Bytes → Type 0
  IsOwnOrNamed nodes form = (half form ≡ t) ⊎ IsNamed nodes t (half form)

  -- so is each of these forms, over what is stored with those before it
  abbrev pub AreNamed : Lookup → List Bytes → Type 0
  AreNamed nodes [] = Unit {0}
  AreNamed nodes (form ∷ forms) = IsOwnOrNamed nodes form × AreNamed (with_form half nodes form) forms

  front_named : (nodes : Lookup) (xs ys : List Bytes) → AreNamed nodes (xs ++ ys) → AreNamed nodes xs
  front_named nodes [] ys a = tt
  front_named nodes (x ∷ xs) ys a = (a.0, front_named (with_form half nodes x) xs ys a.1)

  both_named : (nodes : Lookup) (xs ys : List Bytes) → AreNamed nodes xs → AreNamed (with_forms half nodes xs) ys → AreNamed nodes (xs ++
      ys)
  both_named nodes [] ys a b = b
  both_named nodes (x ∷ xs) ys a b = (a.0, both_named (with_form half nodes x) xs ys a.1 b)

  -- what is stored stays
  one_grows : (nodes : Lookup) (form : Bytes) → Grows nodes (with_form half nodes form)
  one_grows nodes form h f e = at (nodes (half form)) refl
    where
      by : nodes (half form) ≡ None → (b : Bool) → same_bytes h (half form) ≡ b → (if b then Some form else nodes h) ≡ Some f
      by free true same =
          let here : Some f ≡ None = sym e ∙ ap nodes (same_text h (half form) (sym same)) ∙ free in cc
      by free false other = e

      at : (o : Option Bytes) → nodes (half form) ≡ o
          → (if is_some o then nodes h else if same_bytes h (half form) then Some form else nodes h) ≡ Some f
      at (Some old) is = e
      at None is = by is (same_bytes h (half form)) refl

  all_grow : (nodes : Lookup) (forms : List Bytes) → Grows nodes (with_forms half nodes forms)
  all_grow nodes [] h f e = e
  all_grow nodes (form ∷ forms) h f e = all_grow (with_form half nodes form) forms h f (one_grows nodes form h f e)

  -- each of them is reached from the target, where it is stored then
  pub named_reach : (nodes : Lookup) (forms : List Bytes) → AreNamed nodes forms → (f : Bytes) → Contains forms f
      → Stored (with_forms half nodes forms) (half f) → Reach (with_forms half nodes forms) (t ∷ []) (half f)
  named_reach nodes [] a f c stored = absurd (in_nothing c)
  named_reach nodes (form ∷ forms) a f c stored = ⊎_elim
      (λ this.
      let is : f ≡ form = in_one form f this in
      ⊎_elim
      (λ own. root (subst (Contains (t ∷ [])) (sym (ap half is ∙ own)) (in_head t [])) stored)
      (λ named. named_reached nodes (with_forms half nodes (form ∷ forms)) t (half f) (all_grow nodes (form ∷ forms))
      (subst (IsNamed nodes t) (ap half (sym is)) named) stored) a.0)
      (λ later. named_reach (with_form half nodes form) forms a.1 f later stored)
      (Contains-append_cases (form ∷ []) forms f c)

  -- the one form that an offered node stores, or none
  stored_named : (nodes : Lookup) (n : Held) (r : Result Offered Clash)
      → ((f : Bytes) → Contains (stored_by (Ok n) r) f → IsOwnOrNamed nodes f) → AreNamed nodes (stored_by (Ok n) r)
  stored_named nodes n (Ok offered.Good) all = (all (form_of n) (in_head (form_of n) []), tt)
  stored_named nodes n (Ok (offered.Malformed rule)) all = (all (form_of n) (in_head (form_of n) []), tt)
  stored_named nodes n (Ok offered.Duplicate) all = tt
  stored_named nodes n (Ok offered.NoBase) all = tt
  stored_named nodes n (Ok (offered.NoParent p)) all = tt
  stored_named nodes n (Ok (offered.EmptyBranch p)) all = tt
  stored_named nodes n (Ok (offered.UnderLeaf p)) all = tt
  stored_named nodes n (Ok (offered.BadWire cause)) all = tt
  stored_named nodes n (Ok (offered.BadHash sought got)) all = tt
  stored_named nodes n (Err clash) all = tt

  wire_named : (nodes : Lookup) (kind : Kind) (path : List ℕ) (r : Result Held ℕ)
      → ((f : Bytes) → Contains (stored_by r (wire_outcome half nodes t kind path r)) f → IsOwnOrNamed nodes f)
      → AreNamed nodes (stored_by r (wire_outcome half nodes t kind path r))
  wire_named nodes kind path (Ok n) all = stored_named nodes n (wire_outcome half nodes t kind path (Ok n)) all
  wire_named nodes kind path (Err cause) all = tt

  -- a root
  roots_named : (nodes : Lookup) (kind : Kind) (blob : Option Bytes) → AreNamed nodes (root_forms half nodes t kind blob)
  roots_named nodes kind None = tt
  roots_named nodes kind (Some blob) =
      wire_named nodes kind [] (read_wire half blob)
      (λ f c. let w = node_written half nodes t kind [] blob f c in inr w.3)

  -- a header
  given_own : (form bytes : Bytes) (o : Option Bytes) (f : Bytes) → form ≡ header_prefix ++ bytes → half form ≡ t
      → Contains (head_forms (head_given t form o) bytes) f → half f ≡ t
  given_own form bytes None f is own c = ap half (in_one (header_prefix ++ bytes) f c ∙ sym is) ∙ own
  given_own form bytes (Some old) f is own c = by (same_bytes old form) c
    where
      by : (b : Bool) → Contains (head_forms (if b then Ok head.Duplicate else Err (record { hash = t; old = old; new = form })) bytes) f
          → half f ≡ t
      by true among = absurd (in_nothing among)
      by false among = absurd (in_nothing among)

  head_own : (nodes : Lookup) (bytes f : Bytes) → Contains (head_forms (head_outcome half nodes t bytes) bytes) f → half f ≡ t
  head_own nodes bytes f c = long (not (length bytes == 118)) c
    where
      form : Bytes
      form = header_prefix ++ bytes

      fits : (b : Bool) → same_bytes (half form) t ≡ b
          → Contains (head_forms (if not b then Ok (head.BadHash (half form)) else head_given t form (nodes t)) bytes) f → half f ≡ t
      fits true same among = given_own form bytes (nodes t) f refl (same_text (half form) t (sym same)) among
      fits false other among = absurd (in_nothing among)

      long : (b : Bool)
          → Contains (head_forms (if b then Ok (head.BadLength (length bytes)) else (if not (same_bytes (half form) t) then Ok
          (head.BadHash (half form)) else head_given t form (nodes t))) bytes) f → half f ≡ t
      long true among = absurd (in_nothing among)
      long false among = fits (same_bytes (half form) t) refl among

  head_named : (nodes : Lookup) (bytes : Bytes) (r : Result HeadOffered Clash) → ((f : Bytes) → Contains (head_forms r bytes) f → half f ≡
      t)
      → AreNamed nodes (head_forms r bytes)
  head_named nodes bytes (Ok head.Good) own = (inl (own (header_prefix ++ bytes) (in_head (header_prefix ++ bytes) [])), tt)
  head_named nodes bytes (Ok head.Duplicate) own = tt
  head_named nodes bytes (Ok (head.BadLength n)) own = tt
  head_named nodes bytes (Ok (head.BadHash got)) own = tt
  head_named nodes bytes (Err clash) own = tt

  unless_named : {X : Type 0} (nodes : Lookup) (r : Result X Clash) (forms : List Bytes) → AreNamed nodes forms
      → AreNamed nodes (unless_clash r forms)
  unless_named nodes (Ok x) forms a = a
  unless_named nodes (Err c) forms a = tt

  -- all that a base reply's parts store
  pub base_named : (nodes : Lookup) (bytes : Bytes) (state tx : Option Bytes) → AreNamed nodes (base_forms half nodes t bytes state tx)
  base_named nodes bytes state tx =
      let behind : Lookup = behind_header half nodes t bytes state tx in
      let last : Lookup = behind_state half nodes t bytes state tx in
      both_named nodes (head_forms (head_outcome half nodes t bytes) bytes) _
      (head_named nodes bytes (head_outcome half nodes t bytes) (λ f c. head_own nodes bytes f c))
      (unless_named behind (head_outcome half nodes t bytes) _
      (both_named behind (root_forms half behind t kinds.State state) _ (roots_named behind kinds.State state)
      (unless_named last (root_outcome half behind t kinds.State state) (root_forms half last t kinds.Tx tx)
      (roots_named last kinds.Tx tx))))

if_named : (half : Half) (t : Hash) (nodes : Lookup) (b : Bool) (forms : List Bytes) → AreNamed half t nodes forms
    → AreNamed half t nodes (if b then forms else [])
if_named half t nodes true forms a = a
if_named half t nodes false forms a = tt

-- the hash of a root that is written was shaded
root_heeded : (half : Half) (nodes m : Lookup) (t : Hash) (kind : Kind) (r : Turning) (blob : Option Bytes) → AreHeeded half nodes r blob
    → (f : Bytes) → Contains (root_forms half m t kind blob) f → IsHeeded nodes r (half f)
root_heeded half nodes m t kind r None heeded f c = absurd (in_nothing c)
root_heeded half nodes m t kind r (Some blob) heeded f c =
    let w = node_written half m t kind [] blob f c in
    subst (IsHeeded nodes r) (ap half (sym w.2)) (heeded w.0 w.1)

module _ (half : Half) (told : List Hash) (r r' : Turning) (s s2 : Store) (a : Acquiring) (p : ℕ) (bytes : Bytes)
    (state tx : Option Bytes) (heeds : Heeds (forms_in s) r r') (among : Contains told a.target) where
  abbrev forms : List Bytes
  forms = base_stored half (forms_in s) a.target a.peers p bytes state tx

  front_walks : IsHeeded (forms_in s) r' a.target → AreHeeded half (forms_in s) r' state → AreHeeded half (forms_in s) r' tx
      → (front rest : List Bytes) → HasForms half front s s2 → forms ≡ front ++ rest → IsWalking told r.walk s → IsWalking told r'.walk s2
  front_walks target state_heeded tx_heeded front rest has parts k =
      walking_adds told r'.walk s s2
      (forms_add half told r'.walk front s s2 has (λ f c. heeded f (subst (λ (fs : List Bytes). Contains fs f) (sym parts)
      (Contains-append_left front rest f c)))
      (λ f c there. reach_joins (λ q d stored. root (subst (Contains told) (sym (in_one a.target q d)) among) stored)
      (reached f c there)))
      (walking_heeded told r r' s heeds k)
    where
      heeded : (f : Bytes) → Contains forms f → IsHeeded (forms_in s) r' (half f)
      heeded f c = ⊎_elim
          (λ own. subst (IsHeeded (forms_in s) r') (sym (head_own half a.target (forms_in s) bytes f own)) target)
          (λ roots. ⊎_elim
          (λ one. root_heeded half (forms_in s) (behind_header half (forms_in s) a.target bytes state tx) a.target kinds.State r' state
          state_heeded f one)
          (λ two. root_heeded half (forms_in s) (behind_state half (forms_in s) a.target bytes state tx) a.target kinds.Tx r' tx
          tx_heeded f two) roots)
          (parts_cases half (forms_in s) a.target bytes state tx f
          (if_form (is_present a.peers p) (base_forms half (forms_in s) a.target bytes state tx) f c))

      all : AreNamed half a.target (forms_in s) (front ++ rest)
      all = subst (AreNamed half a.target (forms_in s)) parts
          (if_named half a.target (forms_in s) (is_present a.peers p) (base_forms half (forms_in s) a.target bytes state tx)
          (base_named half a.target (forms_in s) bytes state tx))

      is : forms_in s2 ≡ with_forms half (forms_in s) front
      is = holds half front s s2 has

      reached : (f : Bytes) → Contains front f → forms_in s2 (half f) ≡ Some f → Reach (forms_in s2) (a.target ∷ []) (half f)
      reached f c there =
          subst (λ (m : Lookup). Reach m (a.target ∷ []) (half f)) (sym is)
          (named_reach half a.target (forms_in s) front (front_named half a.target (forms_in s) front rest all) f c
          (subst (λ (m : Lookup). Stored m (half f)) is (f, there)))

  -- what was written of a base reply is shaded, and reached from the target
  pub base_walks : {X : Type 0} (outcome : Result X Clash) (result : Result X OfferFault) → IsHeeded (forms_in s) r' a.target
      → AreHeeded half (forms_in s) r' state → AreHeeded half (forms_in s) r' tx → Answers half outcome forms s result s2
      → IsWalking told r.walk s → IsWalking told r'.walk s2
  base_walks outcome result target state_heeded tx_heeded answers k =
      let some = answer_front half outcome forms s result s2 answers in
      front_walks target state_heeded tx_heeded some.0 some.2 some.1 some.3 k
