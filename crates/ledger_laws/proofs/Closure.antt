-- A ledger is whole exactly where nothing that it reaches is absent and no place breaks a rule.
use Rattle.std.proofs.Common.{◌≡◌, ◌⊎◌, inl, inr, ⊎_elim, ◌+◌, ◌<◌, ℕ, zero, suc, Bool, true, false, cond, not, if◌then◌else◌, ◌==◌, List}
use Rattle.std.proofs.Common.{[], ◌∷◌, ◌++◌, length, drop, Option, None, Some, All, Contains, filter, filter_map, flat_map}
use Rattle.std.proofs.Common.{slice_index_or, refl, sym, ap, ◌∙◌, subst, arith, length-append, IsTrue}
use Rattle.std.specs.Option.{option_or, option_map}
use Rattle.std.proofs.lemmas.Bool.{eq-eqb}
use Rattle.std.proofs.lemmas.List.{get_or_default}
use Rattle.std.proofs.lemmas.List.FromFn.{get_or-range_with_len}
use Rattle.std.proofs.lemmas.List.Elements.{All-nil, All-cons, All-weaker, All-contains, filter_map-append}
use Rattle.std.proofs.lemmas.Option.{none-some}
use Rattle.ledger_spec.specs.declared.Kind.{Kind}
use Rattle.ledger_spec.specs.declared.Kind.TheVariants.{State, Tx}
use Rattle.ledger_spec.specs.declared.Place.{Place}
use Rattle.ledger_spec.specs.declared.Place.TheVariants.{Header, Node}
use Rattle.ledger_spec.specs.declared.ShapeFault.{ShapeFault}
use Rattle.ledger_spec.specs.declared.ShapeFault.TheVariants.{InnerAtBottom}
use Rattle.ledger_spec.specs.Bytes.{Bytes, Hash, Half, Lookup, zero_hash, is_zero, is_nonzero, hashes_of, branches}
use Rattle.ledger_spec.specs.Header.{state_root_of, tx_root_of}
use Rattle.ledger_spec.specs.Forms.{Held, inner, header, inner_of, header_of, leaf_of}
use Rattle.ledger_spec.specs.Rules.{fault_of}
use Rattle.ledger_spec.specs.Reach.{Reach, root, kid, Stored, named_by, kids}
use Rattle.ledger_spec.specs.Findings.{Sight, missing, broken, sound, Met, breaks, held_of, sight_of}
use Rattle.ledger_spec.specs.Findings.{branches_of, walk, walk_map, walk_ledger, header_or_foreign, header_sight, maps_of}
use Rattle.ledger_spec.specs.Findings.{Whole}
use Rattle.ledger_spec.proofs.shared.Growth.{no_cons, both_nil, found, met, whole_stored}
use Rattle.ledger_spec.proofs.shared.OfferLaws.{count_hashes}
use Rattle.ledger_machine.specs.Complete.{IsAllStored, IsUnbroken}
use Rattle.ledger_laws.proofs.shared.SoundForms.{some_same, in_nothing, in_head, in_tail}
use Rattle.ledger_spec.proofs.shared.Storing.{in_one}
use Rattle.ledger_laws.proofs.shared.Ways.{header_names}
use Rattle.ledger_laws.proofs.StoredWhole.{some_none, missing_sound, broken_sound, sound_same, sound_held}

-- what passes a test is in the list, and passes it
from_filter : {A : Type 0} (p : A → Bool) (xs : List A) → All (λ y. Contains xs y × (p y ≡ true)) (filter p xs)
from_filter p [] = All-nil (λ y. Contains [] y × (p y ≡ true))
from_filter {A} p (x ∷ xs) = at (p x) refl
    (All-weaker (λ y. Contains xs y × (p y ≡ true)) (λ y. Contains (x ∷ xs) y × (p y ≡ true)) (λ y h. (in_tail x y xs h.0, h.1))
    (filter p xs) (from_filter p xs))
  where
    at : (b : Bool) → p x ≡ b → All (λ y. Contains (x ∷ xs) y × (p y ≡ true)) (filter p xs)
        → All (λ y. Contains (x ∷ xs) y × (p y ≡ true)) (cond b (x ∷ filter p xs) (filter p xs))
    at true is rest = All-cons (λ y. Contains (x ∷ xs) y × (p y ≡ true)) x (filter p xs) (in_head x xs, is) rest
    at false is rest = rest

-- a kid of a form that names these hashes is one of them that isn't zero
kid_in : (form : Bytes) (hashes : List Hash) (k : Hash) → named_by (inner_of form) (header_of form) ≡ hashes → Contains (kids form) k
    → Contains hashes k × IsTrue (is_nonzero k)
kid_in form hashes k e c =
    let at : Contains (filter is_nonzero hashes) k = subst (λ hs. Contains (filter is_nonzero hs) k) e c in
    All-contains (λ y. Contains hashes y × (is_nonzero y ≡ true)) (filter is_nonzero hashes) k (from_filter is_nonzero hashes) at

-- an inner node's form has sixteen hashes
inner_count : (form : Bytes) (hashes : List Hash) → inner_of form ≡ Some hashes → length hashes ≡ 16
unfolding inner_of
inner_count form hashes e = at _ e
  where
    at : (z : Bool) → (if z then Some (hashes_of 16 (drop 4 form)) else None) ≡ Some hashes → length hashes ≡ 16
    at true e = ap length (some_same (sym e)) ∙ count_hashes 16 (drop 4 form)
    at false e = absurd (none-some _ e)

-- lists whose join holds nothing hold nothing
flat_clean : {A B F : Type 0} (find : B → Option F) (f : A → List B) (xs : List A) → filter_map find (flat_map f xs) ≡ []
    → All (λ x. filter_map find (f x) ≡ []) xs
flat_clean find f [] clean = All-nil (λ x. filter_map find (f x) ≡ [])
flat_clean find f (x ∷ xs) clean =
    let both : (filter_map find (f x) ≡ []) × (filter_map find (flat_map f xs) ≡ []) =
    both_nil _ _ (sym (filter_map-append find (f x) (flat_map f xs)) ∙ clean) in
    All-cons (λ y. filter_map find (f y) ≡ []) x xs both.0 (flat_clean find f xs both.1)

-- a place at which nothing is found is sound, and nothing is found below it
clean_sound : (place : Place) (h : Hash) (parent : Option (List Hash)) (x : Sight) (rest : List Met)
    → filter_map found (met place h parent x ∷ rest) ≡ []
    → (n : Held) × (x ≡ sound n) × (filter_map found rest ≡ [])
clean_sound place h parent missing rest clean = absurd (no_cons clean)
clean_sound place h parent (broken fault) rest clean = absurd (no_cons clean)
clean_sound place h parent (sound n) rest clean = (n, refl, clean)

-- where the hash isn't zero the place is met
met_there : (h : Hash) (m : Met) (rest : List Met) → IsTrue (is_nonzero h) → filter_map found (if is_zero h then [] else m ∷ rest) ≡ []
    → filter_map found (m ∷ rest) ≡ []
met_there h m rest nonzero clean = at (is_zero h) refl clean
  where
    zero_not : is_zero h ≡ true → ⊥
    zero_not z = let no_true : false ≡ true = sym (ap not z) ∙ nonzero in cc

    at : (z : Bool) → is_zero h ≡ z → filter_map found (if z then [] else m ∷ rest) ≡ [] → filter_map found (m ∷ rest) ≡ []
    at true z clean = absurd (zero_not z)
    at false z clean = clean

-- a hash below which a walk finds nothing, or the target
data IsMet (half : Half) (nodes : Lookup) (t : Hash) : Hash → Type 0 where
  top : IsMet half nodes t t
  below : {h : Hash} (kind : Kind) (left : ℕ) (parent : Option (List Hash)) (path : List ℕ) → left + length path ≡ 64
      → IsTrue (is_nonzero h)
      → filter_map found (walk half nodes kind left parent path h) ≡ [] → IsMet half nodes t h

-- what is sound at a place of a walk that finds nothing
record IsHeldAt (half : Half) (nodes : Lookup) (kind : Kind) (left : ℕ) (parent : Option (List Hash)) (path : List ℕ)
    (h : Hash) : Type 0 where
  held : Held
  form : Bytes
  stored : nodes h ≡ Some form
  holds : held_of half form ≡ Some held
  ruled : fault_of held parent kind path ≡ None
  rest : (l : ℕ) → left ≡ suc l → (hashes : List Hash) → held ≡ inner hashes
      → filter_map found (flat_map (λ b. walk half nodes kind l (Some hashes) (path ++ b ∷ []) (slice_index_or hashes b zero_hash))
      branches) ≡ []

module _ (half : Half) (nodes : Lookup) (kind : Kind) where
  -- the place where such a walk begins
  held_at : (left : ℕ) (parent : Option (List Hash)) (path : List ℕ) (h : Hash) → IsTrue (is_nonzero h)
      → filter_map found (walk half nodes kind left parent path h) ≡ []
      → IsHeldAt half nodes kind left parent path h
  unfolding walk
  held_at zero parent path h nonzero clean =
      let rules : Held → Option ShapeFault = λ n. fault_of n parent kind path in
      let here : filter_map found (met (Node kind path) h parent (sight_of half rules (nodes h)) ∷ []) ≡ [] =
      met_there h (met (Node kind path) h parent (sight_of half rules (nodes h))) [] nonzero clean in
      let n : (n : Held) × (sight_of half rules (nodes h) ≡ sound n) × (filter_map found [] ≡ []) =
      clean_sound (Node kind path) h parent (sight_of half rules (nodes h)) [] here in
      let f : (form : Bytes) × (nodes h ≡ Some form) × (held_of half form ≡ Some n.0) × (rules n.0 ≡ None) =
      sound_held half rules (nodes h) n.0 n.1 in
      record { held = n.0; form = f.0; stored = f.1; holds = f.2; ruled = f.3; rest = λ l e hashes is. absurd (zero_suc e) }
    where
      zero_suc : {l : ℕ} → zero ≡ suc l → ⊥
      zero_suc e = omega (arith, e)
  held_at (suc left) parent path h nonzero clean =
      let rules : Held → Option ShapeFault = λ n. fault_of n parent kind path in
      let each : ℕ → List Hash → List Met = λ l hashes. flat_map
      (λ b. walk half nodes kind l (Some hashes) (path ++ b ∷ []) (slice_index_or hashes b zero_hash)) branches in
      let under : List Met = branches_of (sight_of half rules (nodes h)) (each left) in
      let here : filter_map found (met (Node kind path) h parent (sight_of half rules (nodes h)) ∷ under) ≡ [] =
      met_there h (met (Node kind path) h parent (sight_of half rules (nodes h))) under nonzero clean in
      let n : (n : Held) × (sight_of half rules (nodes h) ≡ sound n) × (filter_map found under ≡ []) =
      clean_sound (Node kind path) h parent (sight_of half rules (nodes h)) under here in
      let f : (form : Bytes) × (nodes h ≡ Some form) × (held_of half form ≡ Some n.0) × (rules n.0 ≡ None) =
      sound_held half rules (nodes h) n.0 n.1 in
      record {
        held = n.0;
        form = f.0;
        stored = f.1;
        holds = f.2;
        ruled = f.3;
        rest = λ l e hashes is.
            let at_left : filter_map found (each left hashes) ≡ [] =
            subst (λ x. filter_map found (branches_of x (each left)) ≡ []) (n.1 ∙ ap sound is) n.2 in
            let same : left ≡ l = omega (arith, e) in
            subst (λ x. filter_map found (each x hashes) ≡ []) same at_left;
      }

-- one of two
in_two : {A : Type 0} (a b k : A) → Contains (a ∷ b ∷ []) k → (k ≡ a) ⊎ (k ≡ b)
in_two a b k c =
    let P : _ → Type 0 = λ y. (y ≡ a) ⊎ (y ≡ b) in
    All-contains P (a ∷ b ∷ []) k (All-cons P a (b ∷ []) (inl refl) (All-cons P b [] (inr refl) (All-nil P))) c

-- a header's place that is sound holds a header
header_is : (o : Option Bytes) (n : Held) → header_sight o ≡ sound n
    → (form : Bytes) × (bytes : Bytes) × (o ≡ Some form) × (header_of form ≡ Some bytes) × (n ≡ header bytes)
header_is None n e = absurd (missing_sound e)
header_is (Some form) n e = at (header_of form) refl e
  where
    at : (h : Option Bytes) → header_of form ≡ h → header_or_foreign h ≡ sound n
        → (f : Bytes) × (bytes : Bytes) × (Some form ≡ Some f) × (header_of f ≡ Some bytes) × (n ≡ header bytes)
    at None is e = absurd (broken_sound e)
    at (Some bytes) is e = (form, bytes, refl, is, sym (sound_same e))

-- what stands below an inner node isn't at the bottom
inner_above : (left : ℕ) (parent : Option (List Hash)) (kind : Kind) (path : List ℕ) (hashes : List Hash) → left + length path ≡ 64
    → fault_of (inner hashes) parent kind path ≡ None
    → (l : ℕ) × (left ≡ suc l)
inner_above zero parent kind path hashes total ruled = absurd
    (bottom (length path == 64) (eq-eqb (length path) 64 (omega (arith, total))) ruled)
  where
    bottom : (b : Bool) → b ≡ true → (if b then Some InnerAtBottom else None) ≡ None → ⊥
    bottom true e ruled = some_none ruled
    bottom false e ruled = cc
inner_above (suc l) parent kind path hashes total ruled = (l, refl)

module _ (half : Half) (nodes : Lookup) (t : Hash) where
  -- the kids of an inner node at a place where nothing is found
  inner_kid : (kind : Kind) (left : ℕ) (parent : Option (List Hash)) (path : List ℕ) (h : Hash)
      (x : IsHeldAt half nodes kind left parent path h) → left + length path ≡ 64
      → (hashes : List Hash) → inner_of x.form ≡ Some hashes → (k : Hash) → Contains (kids x.form) k → IsMet half nodes t k
  inner_kid kind left parent path h x total hashes is k c =
      let holds : held_of half x.form ≡ Some (inner hashes) =
      ap (λ (o : Option (List Hash)). option_or (option_map inner o)
      (option_or (option_map header (header_of x.form)) (leaf_of half x.form))) is in
      let held : x.held ≡ inner hashes = some_same (sym x.holds ∙ holds) in
      let above : (l : ℕ) × (left ≡ suc l) = inner_above left parent kind path hashes total
      (subst (λ n. fault_of n parent kind path ≡ None) held x.ruled) in
      let one : Contains hashes k × IsTrue (is_nonzero k) = kid_in x.form hashes k (ap (λ i. named_by i (header_of x.form)) is) c in
      let i : ℕ = one.0.0 in
      let zero_more : 0 + i ≡ i = omega arith in
      let lt : i < 16 = omega (arith, one.0.1, inner_count x.form hashes is) in
      let same : slice_index_or hashes i zero_hash ≡ k = sym (get_or_default hashes i k zero_hash one.0.1) ∙ one.0.2 in
      let each : ℕ → List Met = λ b. walk half nodes kind above.0 (Some hashes) (path ++ b ∷ []) (slice_index_or hashes b zero_hash) in
      let clean : filter_map found (each i) ≡ [] =
      All-contains (λ b. filter_map found (each b) ≡ []) branches i (flat_clean found each branches (x.rest above.0 above.1 hashes held))
      (i, lt, get_or-range_with_len 0 16 i i lt ∙ zero_more) in
      subst (IsMet half nodes t) same
      (below kind above.0 (Some hashes) (path ++ i ∷ []) (omega (arith, total, above.1, length-append path (i ∷ [])))
      (subst (λ y. IsTrue (is_nonzero y)) (sym same) one.1) clean)

  -- the kids of what stands at such a place
  place_kid : (kind : Kind) (left : ℕ) (parent : Option (List Hash)) (path : List ℕ) (h : Hash)
      (x : IsHeldAt half nodes kind left parent path h) → left + length path ≡ 64
      → (k : Hash) → Contains (kids x.form) k → IsMet half nodes t k
  place_kid kind left parent path h x total k c = first (inner_of x.form) refl (header_of x.form) refl
    where
      held_as : (o : Option (List Hash)) (p : Option Bytes) → inner_of x.form ≡ o → header_of x.form ≡ p
          → held_of half x.form ≡ option_or (option_map inner o) (option_or (option_map header p) (leaf_of half x.form))
      held_as o p is his = λ i. option_or (option_map inner (is i)) (option_or (option_map header (his i)) (leaf_of half x.form))

      first : (o : Option (List Hash)) → inner_of x.form ≡ o → (p : Option Bytes) → header_of x.form ≡ p → IsMet half nodes t k
      first (Some hashes) is p his = inner_kid kind left parent path h x total hashes is k c
      first None is (Some bytes) his =
          let held : x.held ≡ header bytes = some_same (sym x.holds ∙ held_as None (Some bytes) is his) in
          absurd (some_none (subst (λ n. fault_of n parent kind path ≡ None) held x.ruled))
      first None is None his = absurd (in_nothing (kid_in x.form [] k (λ i. named_by (is i) (his i)) c).0)

  -- the kids of the header of a whole ledger
  header_kid : Whole half nodes t → (form : Bytes) → nodes t ≡ Some form → (k : Hash) → Contains (kids form) k → IsMet half nodes t k
  unfolding walk_ledger walk_map
  header_kid whole form stored k c =
      let n : (n : Held) × (header_sight (nodes t) ≡ sound n) × (filter_map found (maps_of half nodes (header_sight (nodes t))) ≡ []) =
      clean_sound Header t None (header_sight (nodes t)) (maps_of half nodes (header_sight (nodes t))) whole in
      let h : (f : Bytes) × (bytes : Bytes) × (nodes t ≡ Some f) × (header_of f ≡ Some bytes) × (n.0 ≡ header bytes) =
      header_is (nodes t) n.0 n.1 in
      let state : Hash = state_root_of h.1 in
      let tx : Hash = tx_root_of h.1 in
      let maps : filter_map found (walk half nodes State 64 None [] state ++ walk half nodes Tx 64 None [] tx) ≡ [] =
      subst (λ x. filter_map found (maps_of half nodes x) ≡ []) (n.1 ∙ ap sound h.4) n.2 in
      let both : (filter_map found (walk half nodes State 64 None [] state) ≡ [])
      × (filter_map found (walk half nodes Tx 64 None [] tx) ≡ []) =
      both_nil _ _ (sym (filter_map-append found (walk half nodes State 64 None [] state) (walk half nodes Tx 64 None [] tx)) ∙ maps) in
      let own : h.0 ≡ form = some_same (sym h.2 ∙ stored) in
      let one : Contains (state ∷ tx ∷ []) k × IsTrue (is_nonzero k) =
      kid_in h.0 (state ∷ tx ∷ []) k (header_names h.0 h.1 h.3) (subst (λ f. Contains (kids f) k) (sym own) c) in
      ⊎_elim
      (λ is. subst (IsMet half nodes t) (sym is) (below State 64 None [] refl (subst (λ y. IsTrue (is_nonzero y)) is one.1) both.0))
      (λ is. subst (IsMet half nodes t) (sym is) (below Tx 64 None [] refl (subst (λ y. IsTrue (is_nonzero y)) is one.1) both.1))
      (in_two state tx k one.0)

  -- the kids of what is met are met
  met_kid : Whole half nodes t → {h : Hash} → IsMet half nodes t h → (form : Bytes) → nodes h ≡ Some form → (k : Hash)
      → Contains (kids form) k → IsMet half nodes t k
  met_kid whole top form stored k c = header_kid whole form stored k c
  met_kid whole {h} (below kind left parent path total nonzero clean) form stored k c =
      let x : IsHeldAt half nodes kind left parent path h = held_at half nodes kind left parent path h nonzero clean in
      let own : x.form ≡ form = some_same (sym x.stored ∙ stored) in
      place_kid kind left parent path h x total k (subst (λ f. Contains (kids f) k) (sym own) c)

  -- what is reached is met
  reach_met : Whole half nodes t → {h : Hash} → Reach nodes (t ∷ []) h → IsMet half nodes t h
  reach_met whole {h} (root named stored) = subst (IsMet half nodes t) (sym (in_one t h named)) top
  reach_met whole {h} (kid reached form named stored) = met_kid whole (reach_met whole reached) _ form h named

  -- and what is met is stored
  met_stored : Whole half nodes t → {h : Hash} → IsMet half nodes t h → Stored nodes h
  met_stored whole top = at (nodes t) refl
    where
      at : (o : Option Bytes) → nodes t ≡ o → Stored nodes t
      at None is = absurd (whole_stored half nodes t whole is)
      at (Some form) is = (form, is)
  met_stored whole {h} (below kind left parent path total nonzero clean) =
      let x : IsHeldAt half nodes kind left parent path h = held_at half nodes kind left parent path h nonzero clean in
      (x.form, x.stored)

  -- nothing that a whole ledger reaches is absent
  pub whole_all : Whole half nodes t → IsAllStored nodes t
  whole_all whole = record {
    own = met_stored whole top;
    named =
        λ h k form reached stored c. met_stored whole (met_kid whole (reach_met whole reached) form stored k c);
  }

  -- and no place of it breaks a rule
  pub whole_unbroken : Whole half nodes t → IsUnbroken half nodes t
  whole_unbroken whole place fault c = in_nothing (subst (λ fs. Contains fs (breaks place fault)) whole c)
