-- A ledger of which nothing that is reached is absent, and no place breaks a rule, is whole: one way of the law of Closure.
use Rattle.std.proofs.Common.{◌≡◌, ℕ, zero, suc, Bool, true, false, not, if◌then◌else◌, List}
use Rattle.std.proofs.Common.{[], ◌∷◌, ◌++◌, Option, None, Some, All, Contains, filter_map, flat_map}
use Rattle.std.proofs.Common.{slice_index_or, refl, ap, ◌∙◌, subst, IsTrue}
use Rattle.std.specs.Option.{option_or, option_map}
use Rattle.std.specs.List.{cons_option}
use Rattle.std.proofs.lemmas.List.Elements.{All-nil, All-cons, All-head, All-tail, All-append}
use Rattle.std.proofs.lemmas.Option.{none-some}
use Rattle.ledger_spec.specs.declared.Kind.{Kind}
use Rattle.ledger_spec.specs.declared.Kind.TheVariants.{State, Tx, Set}
use Rattle.ledger_spec.specs.declared.Place.{Place}
use Rattle.ledger_spec.specs.declared.Place.TheVariants.{Header, Node}
use Rattle.ledger_spec.specs.declared.ShapeFault.{ShapeFault}
use Rattle.ledger_spec.specs.Bytes.{Bytes, Hash, Half, Lookup, zero_hash, is_zero, is_nonzero, branches}
use Rattle.ledger_spec.specs.Header.{state_root_of, tx_root_of}
use Rattle.ledger_spec.specs.Forms.{Held, inner, leaf, header, inner_of, header_of, leaf_of, keyed_leaf_of, bare_leaf_of}
use Rattle.ledger_spec.specs.Rules.{fault_of}
use Rattle.ledger_spec.specs.Reach.{Stored}
use Rattle.ledger_spec.specs.Findings.{Sight, missing, broken, sound, Met, Finding, lacks, breaks, held_of, seen_as, judged, sight_of}
use Rattle.ledger_spec.specs.Findings.{branches_of, finding_at, walk, walk_map, walk_ledger, header_or_foreign, header_sight, maps_of}
use Rattle.ledger_spec.specs.Findings.{findings, Whole}
use Rattle.ledger_spec.proofs.shared.Growth.{found, met}
use Rattle.ledger_machine.specs.Complete.{IsAllStored, IsUnbroken}
use Rattle.ledger_laws.proofs.shared.SoundForms.{in_head}
use Rattle.ledger_laws.proofs.shared.Ways.{IsNamed, branch_named, root_named}

-- something isn't nothing
pub some_none : {A : Type 0} {x : A} → Some x ≡ None → ⊥
some_none e = cc

-- a broken place isn't missing, nor is a sound one
broken_missing : {fault : ShapeFault} → broken fault ≡ missing → ⊥
broken_missing e = cc

sound_missing : {n : Held} → sound n ≡ missing → ⊥
sound_missing e = cc

pub missing_sound : {n : Held} → missing ≡ sound n → ⊥
missing_sound e = cc

pub broken_sound : {fault : ShapeFault} {n : Held} → broken fault ≡ sound n → ⊥
broken_sound e = cc

pub sound_same : {m n : Held} → sound m ≡ sound n → m ≡ n
sound_same e = cc

-- what is judged isn't missing
judged_there : (rules : Held → Option ShapeFault) (o : Option Held) → judged rules o ≡ missing → ⊥
judged_there rules None e = broken_missing e
judged_there rules (Some n) e = at (rules n) e
  where
    at : (fault : Option ShapeFault) → seen_as n fault ≡ missing → ⊥
    at None e = sound_missing e
    at (Some fault) e = broken_missing e

-- what is stored isn't missing
stored_there : (half : Half) (rules : Held → Option ShapeFault) (o : Option Bytes) → ((form : Bytes) × (o ≡ Some form))
    → sight_of half rules o ≡ missing → ⊥
stored_there half rules None stored e = none-some _ stored.1
stored_there half rules (Some form) stored e = judged_there rules (held_of half form) e

header_there : (o : Option Bytes) → ((form : Bytes) × (o ≡ Some form)) → header_sight o ≡ missing → ⊥
header_there None stored e = none-some _ stored.1
header_there (Some form) stored e = at (header_of form) e
  where
    at : (h : Option Bytes) → header_or_foreign h ≡ missing → ⊥
    at None e = broken_missing e
    at (Some bytes) e = sound_missing e

-- what is sound is held by what is stored, and breaks no rule
pub sound_held : (half : Half) (rules : Held → Option ShapeFault) (o : Option Bytes) (n : Held) → sight_of half rules o ≡ sound n
    → (form : Bytes) × (o ≡ Some form) × (held_of half form ≡ Some n) × (rules n ≡ None)
sound_held half rules None n e = absurd (missing_sound e)
sound_held half rules (Some form) n e = at (held_of half form) refl e
  where
    ruled : (m : Held) (fault : Option ShapeFault) → rules m ≡ fault → seen_as m fault ≡ sound n → (m ≡ n) × (rules n ≡ None)
    ruled m None is e = (sound_same e, subst (λ x. rules x ≡ None) (sound_same e) is)
    ruled m (Some fault) is e = absurd (broken_sound e)

    at : (o : Option Held) → held_of half form ≡ o → judged rules o ≡ sound n
        → (f : Bytes) × (Some form ≡ Some f) × (held_of half f ≡ Some n) × (rules n ≡ None)
    at None is e = absurd (broken_sound e)
    at (Some m) is e = let both : (m ≡ n) × (rules n ≡ None) = ruled m (rules m) refl e in (form, refl, is ∙ ap Some both.0, both.1)

-- a leaf isn't an inner node
keyed_no_inner : (kind : Kind) (b : Bytes) (hashes : List Hash) → keyed_leaf_of kind b ≡ Some (inner hashes) → ⊥
unfolding keyed_leaf_of
keyed_no_inner kind b hashes e = at _ _ _ e
  where
    at : (z : Bool) (key bytes : Bytes) → (if z then Some (leaf kind key bytes) else None) ≡ Some (inner hashes) → ⊥
    at true key bytes e = cc
    at false key bytes e = cc

bare_no_inner : (half : Half) (b : Bytes) (hashes : List Hash) → bare_leaf_of half b ≡ Some (inner hashes) → ⊥
unfolding bare_leaf_of
bare_no_inner half b hashes e = at _ _ _ e
  where
    at : (z : Bool) (key bytes : Bytes) → (if z then Some (leaf Set key bytes) else None) ≡ Some (inner hashes) → ⊥
    at true key bytes e = cc
    at false key bytes e = cc

leaf_no_inner : (half : Half) (b : Bytes) (hashes : List Hash) → leaf_of half b ≡ Some (inner hashes) → ⊥
leaf_no_inner half b hashes e = first (keyed_leaf_of State b) (keyed_leaf_of Tx b) (keyed_no_inner State b hashes)
    (keyed_no_inner Tx b hashes) e
  where
    second : (o : Option Held) → (o ≡ Some (inner hashes) → ⊥) → option_or o (bare_leaf_of half b) ≡ Some (inner hashes) → ⊥
    second None never e = bare_no_inner half b hashes e
    second (Some n) never e = never e

    first : (o p : Option Held) → (o ≡ Some (inner hashes) → ⊥) → (p ≡ Some (inner hashes) → ⊥)
        → option_or o (option_or p (bare_leaf_of half b)) ≡ Some (inner hashes) → ⊥
    first None p never nor_then e = second p nor_then e
    first (Some n) p never nor_then e = never e

-- what an inner node's form holds
pub held_inner : (half : Half) (form : Bytes) (hashes : List Hash) → held_of half form ≡ Some (inner hashes) → inner_of form ≡ Some hashes
held_inner half form hashes e = first (inner_of form) refl (header_of form) e
  where
    second : (h : Option Bytes) → option_or (option_map header h) (leaf_of half form) ≡ Some (inner hashes) → ⊥
    second None e = leaf_no_inner half form hashes e
    second (Some bytes) e = cc

    first : (o : Option (List Hash)) → inner_of form ≡ o → (h : Option Bytes)
        → option_or (option_map inner o) (option_or (option_map header h) (leaf_of half form)) ≡ Some (inner hashes)
        → inner_of form ≡ Some hashes
    first None is h e = absurd (second h e)
    first (Some own) is h e = let same : own ≡ hashes = cc in is ∙ ap Some same

-- a header that is sound is what is stored
pub sound_header : (o : Option Bytes) (bytes : Bytes) → header_sight o ≡ sound (header bytes)
    → (form : Bytes) × (o ≡ Some form) × (header_of form ≡ Some bytes)
sound_header None bytes e = absurd (missing_sound e)
sound_header (Some form) bytes e = at (header_of form) refl e
  where
    at : (h : Option Bytes) → header_of form ≡ h → header_or_foreign h ≡ sound (header bytes)
        → (f : Bytes) × (Some form ≡ Some f) × (header_of f ≡ Some bytes)
    at None is e = absurd (broken_sound e)
    at (Some own) is e = let same : own ≡ bytes = cc in (form, refl, is ∙ ap Some same)

-- the place isn't missing
abbrev NotMissing : Met → Type 0
NotMissing m = m.sight ≡ missing → ⊥

-- what holds of all lists holds of their join
all_flat : {A B : Type 0} (P : B → Type 0) (f : A → List B) (xs : List A) → ((x : A) → All P (f x)) → All P (flat_map f xs)
all_flat P f [] each = All-nil P
all_flat P f (x ∷ xs) each = All-append P (f x) (flat_map f xs) (each x) (all_flat P f xs each)

-- a place that isn't missing, with what is below it, where its hash isn't zero
place_there : (z : Bool) (m : Met) (rest : List Met) → (z ≡ false → NotMissing m) → (z ≡ false → All NotMissing rest)
    → All NotMissing (if z then [] else m ∷ rest)
place_there true m rest here below = All-nil NotMissing
place_there false m rest here below = All-cons NotMissing m rest (here refl) (below refl)

-- the places below what is seen, where it is an inner node
below_there : (half : Half) (rules : Held → Option ShapeFault) (o : Option Bytes) (x : Sight) (each : List Hash → List Met)
    → sight_of half rules o ≡ x
    → ((form : Bytes) (hashes : List Hash) → o ≡ Some form → inner_of form ≡ Some hashes → All NotMissing (each hashes))
    → All NotMissing (branches_of x each)
below_there half rules o missing each is below = All-nil NotMissing
below_there half rules o (broken fault) each is below = All-nil NotMissing
below_there half rules o (sound (inner hashes)) each is below =
    let h : (form : Bytes) × (o ≡ Some form) × (held_of half form ≡ Some (inner hashes)) × (rules (inner hashes) ≡ None) =
    sound_held half rules o (inner hashes) is in
    below h.0 hashes h.1 (held_inner half h.0 hashes h.2)
below_there half rules o (sound (leaf kind key bytes)) each is below = All-nil NotMissing
below_there half rules o (sound (header bytes)) each is below = All-nil NotMissing

module _ (half : Half) (nodes : Lookup) (t : Hash) (all : IsAllStored nodes t) where
  -- what is named is stored
  named_stored : (h : Hash) → IsNamed nodes t h → Stored nodes h
  named_stored h name = all.named name.by h name.form name.reached name.stored name.named

  -- no place below one whose hash is named is missing
  walk_there : (kind : Kind) (left : ℕ) (parent : Option (List Hash)) (path : List ℕ) (h : Hash)
      → (IsTrue (is_nonzero h) → IsNamed nodes t h) → All NotMissing (walk half nodes kind left parent path h)
  unfolding walk
  walk_there kind zero parent path h name =
      place_there (is_zero h) (met (Node kind path) h parent (sight_of half (λ n. fault_of n parent kind path) (nodes h))) []
      (λ z. stored_there half (λ n. fault_of n parent kind path) (nodes h) (named_stored h (name (ap not z)))) (λ z. All-nil NotMissing)
  walk_there kind (suc left) parent path h name =
      let rules : Held → Option ShapeFault = λ n. fault_of n parent kind path in
      let each : List Hash → List Met =
      λ hashes. flat_map (λ b. walk half nodes kind left (Some hashes) (path ++ b ∷ []) (slice_index_or hashes b zero_hash)) branches in
      place_there (is_zero h) (met (Node kind path) h parent (sight_of half rules (nodes h)))
      (branches_of (sight_of half rules (nodes h)) each)
      (λ z. stored_there half rules (nodes h) (named_stored h (name (ap not z))))
      (λ z. below_there half rules (nodes h) (sight_of half rules (nodes h)) each refl
      (λ form hashes stored is. all_flat NotMissing
      (λ b. walk half nodes kind left (Some hashes) (path ++ b ∷ []) (slice_index_or hashes b zero_hash)) branches
      (λ b. walk_there kind left (Some hashes) (path ++ b ∷ []) (slice_index_or hashes b zero_hash)
      (branch_named nodes t h form hashes b (name (ap not z)) stored is))))

  -- no place of the two maps is missing
  maps_there : (x : Sight) → header_sight (nodes t) ≡ x → All NotMissing (maps_of half nodes x)
  unfolding walk_map
  maps_there missing is = All-nil NotMissing
  maps_there (broken fault) is = All-nil NotMissing
  maps_there (sound (inner hashes)) is = All-nil NotMissing
  maps_there (sound (leaf kind key bytes)) is = All-nil NotMissing
  maps_there (sound (header bytes)) is =
      let h : (form : Bytes) × (nodes t ≡ Some form) × (header_of form ≡ Some bytes) = sound_header (nodes t) bytes is in
      All-append NotMissing (walk_map half nodes State (state_root_of bytes)) (walk_map half nodes Tx (tx_root_of bytes))
      (walk_there State 64 None [] (state_root_of bytes) (root_named nodes t h.0 bytes State h.1 h.2))
      (walk_there Tx 64 None [] (tx_root_of bytes) (root_named nodes t h.0 bytes Tx h.1 h.2))

  -- no place of the ledger is missing
  ledger_there : All NotMissing (walk_ledger half nodes t)
  unfolding walk_ledger
  ledger_there =
      All-cons NotMissing (met Header t None (header_sight (nodes t))) (maps_of half nodes (header_sight (nodes t)))
      (header_there (nodes t) all.own) (maps_there (header_sight (nodes t)) refl)

-- a finding that isn't missing
abbrev NotLacks : Finding → Type 0
NotLacks (lacks place) = ⊥
NotLacks (breaks place fault) = Unit {0}

-- what is found at places of which none is missing
no_lacks : (ms : List Met) → All NotMissing ms → All NotLacks (filter_map found ms)
no_lacks [] there = All-nil NotLacks
no_lacks (m ∷ ms) there = at m.sight (All-head NotMissing m ms there) (no_lacks ms (All-tail NotMissing m ms there))
  where
    at : (x : Sight) → (x ≡ missing → ⊥) → All NotLacks (filter_map found ms)
        → All NotLacks (cons_option (finding_at m.place x) (filter_map found ms))
    at missing there rest = absurd (there refl)
    at (broken fault) there rest = All-cons NotLacks (breaks m.place fault) (filter_map found ms) tt rest
    at (sound n) there rest = rest

-- nothing is found where nothing is missing or broken
nothing_found : (fs : List Finding) → All NotLacks fs → ((place : Place) (fault : ShapeFault) → Contains fs (breaks place fault) → ⊥)
    → fs ≡ []
nothing_found [] there unbroken = refl
nothing_found (lacks place ∷ fs) there unbroken = absurd (All-head NotLacks (lacks place) fs there)
nothing_found (breaks place fault ∷ fs) there unbroken = absurd (unbroken place fault (in_head (breaks place fault) fs))

-- a ledger of which nothing is absent or broken is whole
pub stored_whole : (half : Half) (nodes : Lookup) (t : Hash) → IsAllStored nodes t → IsUnbroken half nodes t → Whole half nodes t
stored_whole half nodes t all unbroken =
    nothing_found (findings half nodes t) (no_lacks (walk_ledger half nodes t) (ledger_there half nodes t all)) unbroken
