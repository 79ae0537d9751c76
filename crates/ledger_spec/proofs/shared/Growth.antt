-- What is found of a whole ledger stays as the store grows. For proofs of other crates.
use Rattle.std.proofs.Common.{◌≡◌, ◌⊎◌, inl, inr, ℕ, zero, suc, Bool, true, false, if◌then◌else◌, List, [], ◌∷◌, ◌++◌, Option, None, Some}
use Rattle.std.proofs.Common.{filter_map, flat_map, refl, sym, ap, ◌∙◌, subst, IsSomeAnd}
use Rattle.std.specs.List.{slice_index_or}
use Rattle.std.specs.Option.{option_and_then}
use Rattle.std.proofs.lemmas.List.Elements.{filter_map-append}
use Rattle.ledger_spec.specs.declared.Kind.{Kind}
use Rattle.ledger_spec.specs.declared.Kind.TheVariants.{State, Tx}
use Rattle.ledger_spec.specs.declared.Place.{Place}
use Rattle.ledger_spec.specs.declared.Place.TheVariants.{Header, Node}
use Rattle.ledger_spec.specs.declared.ShapeFault.{ShapeFault}
use Rattle.ledger_spec.specs.Bytes.{Bytes, Hash, Half, Lookup, zero_hash, is_zero, branches}
use Rattle.ledger_spec.specs.Header.{state_root_of, tx_root_of}
use Rattle.ledger_spec.specs.Forms.{Held, inner, leaf, header, header_of}
use Rattle.ledger_spec.specs.Rules.{fault_of}
use Rattle.ledger_spec.specs.Spots.{header_in}
use Rattle.ledger_spec.specs.Findings.{Sight, missing, broken, sound, Met, Finding, sight_of, branches_of, finding_at, walk, walk_map}
use Rattle.ledger_spec.specs.Findings.{walk_ledger, header_sight, maps_of, Whole}
use Rattle.ledger_spec.proofs.shared.ReachLaws.{Grows}

-- a list with a first entry isn't empty
pub no_cons : {A : Type 0} {x : A} {xs : List A} → x ∷ xs ≡ [] → ⊥
no_cons e = cc

-- two lists that join to nothing are both empty
pub both_nil : {A : Type 0} (xs ys : List A) → xs ++ ys ≡ [] → (xs ≡ []) × (ys ≡ [])
both_nil [] ys e = (refl, e)
both_nil (x ∷ xs) ys e = absurd (no_cons e)

-- what is found at a place that the walk meets
abbrev pub found : Met → Option Finding
found m = finding_at m.place m.sight

-- a place as the walk notes it
abbrev pub met : Place → Hash → Option (List Hash) → Sight → Met
met place h parent sight = record { place = place; hash = h; parent = parent; sight = sight }

-- two walks over the same branches are one, where the first finds nothing
pub same_branches : {A B F : Type 0} (find : B → Option F) (f g : A → List B) (xs : List A)
    → ((x : A) → filter_map find (f x) ≡ [] → g x ≡ f x) → filter_map find (flat_map f xs) ≡ [] → flat_map g xs ≡ flat_map f xs
same_branches find f g [] same clean = refl
same_branches find f g (x ∷ xs) same clean =
    let both : (filter_map find (f x) ≡ []) × (filter_map find (flat_map f xs) ≡ []) =
    both_nil _ _ (sym (filter_map-append find (f x) (flat_map f xs)) ∙ clean) in
    λ i. same x both.0 i ++ same_branches find f g xs same both.1 i

-- what isn't missing in the smaller store is seen alike in the larger
pub sight_same : (half : Half) (rules : Held → Option ShapeFault) (m n : Lookup) (h : Hash) → Grows m n
    → (sight_of half rules (m h) ≡ missing) ⊎ (sight_of half rules (n h) ≡ sight_of half rules (m h))
sight_same half rules m n h up = seen_at (m h) refl
  where
    seen_at : (o : Option Bytes) → m h ≡ o → (sight_of half rules o ≡ missing) ⊎ (sight_of half rules (n h) ≡ sight_of half rules o)
    seen_at None e = inl refl
    seen_at (Some form) e = inr (ap (sight_of half rules) (up h form e))

-- a place where nothing is missing has the same walk below it
pub branches_same : (place : Place) (f g : List Hash → List Met) (x : Sight)
    → ((hashes : List Hash) → filter_map found (f hashes) ≡ [] → g hashes ≡ f hashes)
    → filter_map found (branches_of x f) ≡ [] → branches_of x g ≡ branches_of x f
branches_same place f g missing same clean = refl
branches_same place f g (broken fault) same clean = refl
branches_same place f g (sound (inner hashes)) same clean = same hashes clean
branches_same place f g (sound (leaf kind key bytes)) same clean = refl
branches_same place f g (sound (header bytes)) same clean = refl

-- a place where nothing is found isn't missing
pub not_missing : (place : Place) (h : Hash) (parent : Option (List Hash)) (x : Sight) (rest : List Met)
    → filter_map found (met place h parent x ∷ rest) ≡ []
    → (finding_at place x ≡ None) × (filter_map found rest ≡ [])
not_missing place h parent missing rest clean = absurd (no_cons clean)
not_missing place h parent (broken fault) rest clean = absurd (no_cons clean)
not_missing place h parent (sound held) rest clean = (refl, clean)

-- something isn't nothing
no_none : {A : Type 0} {x : A} → Some x ≡ None → ⊥
no_none e = cc

-- a place that is seen alike, or missing, has one walk where nothing is found
pub place_same : (z : Bool) (place : Place) (h : Hash) (parent : Option (List Hash)) (x y : Sight) (f g : List Hash → List Met)
    → (x ≡ missing) ⊎ (y ≡ x) → ((hashes : List Hash) → filter_map found (f hashes) ≡ [] → g hashes ≡ f hashes)
    → filter_map found (if z then [] else met place h parent x ∷ branches_of x f) ≡ []
    → (if z then [] else met place h parent y ∷ branches_of y g) ≡ (if z then [] else met place h parent x ∷ branches_of x f)
place_same true place h parent x y f g seen same clean = refl
place_same false place h parent x y f g (inl e) same clean =
    let no : (finding_at place x ≡ None) × (filter_map found (branches_of x f) ≡ []) =
    not_missing place h parent x (branches_of x f) clean in
    absurd (no_none (subst (λ s. finding_at place s ≡ None) e no.0))
place_same false place h parent x y f g (inr e) same clean =
    let no : (finding_at place x ≡ None) × (filter_map found (branches_of x f) ≡ []) =
    not_missing place h parent x (branches_of x f) clean in
    ap (λ s. met place h parent s ∷ branches_of s g) e ∙ ap (λ rest. met place h parent x ∷ rest) (branches_same place f g x same no.1)

-- the same of a place with nothing below it
pub end_same : (z : Bool) (place : Place) (h : Hash) (parent : Option (List Hash)) (x y : Sight) → (x ≡ missing) ⊎ (y ≡ x)
    → filter_map found (if z then [] else met place h parent x ∷ []) ≡ []
    → (if z then [] else met place h parent y ∷ []) ≡ (if z then [] else met place h parent x ∷ [])
end_same true place h parent x y seen clean = refl
end_same false place h parent x y (inl e) clean =
    absurd (no_none (subst (λ s. finding_at place s ≡ None) e (not_missing place h parent x [] clean).0))
end_same false place h parent x y (inr e) clean = ap (λ s. met place h parent s ∷ []) e

-- a walk that finds nothing is the same in a larger store
pub walk_same : (half : Half) (m n : Lookup) (kind : Kind) (left : ℕ) (parent : Option (List Hash)) (path : List ℕ) (h : Hash) → Grows m n
    → filter_map found (walk half m kind left parent path h) ≡ []
    → walk half n kind left parent path h ≡ walk half m kind left parent path h
unfolding walk
walk_same half m n kind zero parent path h up clean =
    end_same (is_zero h) (Node kind path) h parent (sight_of half (λ x. fault_of x parent kind path) (m h))
    (sight_of half (λ x. fault_of x parent kind path) (n h))
    (sight_same half (λ x. fault_of x parent kind path) m n h up) clean
walk_same half m n kind (suc left) parent path h up clean =
    place_same (is_zero h) (Node kind path) h parent (sight_of half (λ x. fault_of x parent kind path) (m h))
    (sight_of half (λ x. fault_of x parent kind path) (n h))
    (λ hashes. flat_map (λ b. walk half m kind left (Some hashes) (path ++ b ∷ []) (slice_index_or hashes b zero_hash)) branches)
    (λ hashes. flat_map (λ b. walk half n kind left (Some hashes) (path ++ b ∷ []) (slice_index_or hashes b zero_hash)) branches)
    (sight_same half (λ x. fault_of x parent kind path) m n h up)
    (λ hashes. same_branches found _ _ branches
    (λ b. walk_same half m n kind left (Some hashes) (path ++ b ∷ []) (slice_index_or hashes b zero_hash) up))
    clean

-- the same of a whole map
pub map_same : (half : Half) (m n : Lookup) (kind : Kind) (root : Hash) → Grows m n
    → filter_map found (walk_map half m kind root) ≡ [] → walk_map half n kind root ≡ walk_map half m kind root
unfolding walk_map
map_same half m n kind root up clean = walk_same half m n kind 64 None [] root up clean

-- the same of the two maps of a header that is seen
pub maps_same : (half : Half) (m n : Lookup) (x : Sight) → Grows m n → filter_map found (maps_of half m x) ≡ []
    → maps_of half n x ≡ maps_of half m x
maps_same half m n missing up clean = refl
maps_same half m n (broken fault) up clean = refl
maps_same half m n (sound (inner hashes)) up clean = refl
maps_same half m n (sound (leaf kind key bytes)) up clean = refl
maps_same half m n (sound (header bytes)) up clean =
    let both : (filter_map found (walk_map half m State (state_root_of bytes)) ≡ [])
    × (filter_map found (walk_map half m Tx (tx_root_of bytes)) ≡ []) =
    both_nil _ _ (sym (filter_map-append found (walk_map half m State (state_root_of bytes)) (walk_map half m Tx (tx_root_of bytes)))
    ∙ clean) in
    λ i. map_same half m n State (state_root_of bytes) up both.0 i ++ map_same half m n Tx (tx_root_of bytes) up both.1 i

-- a header is seen alike where it isn't missing
pub header_sight_same : (m n : Lookup) (t : Hash) → Grows m n → (header_sight (m t) ≡ missing) ⊎ (header_sight (n t) ≡ header_sight (m t))
header_sight_same m n t up = seen_at (m t) refl
  where
    seen_at : (o : Option Bytes) → m t ≡ o → (header_sight o ≡ missing) ⊎ (header_sight (n t) ≡ header_sight o)
    seen_at None e = inl refl
    seen_at (Some form) e = inr (ap header_sight (up t form e))

-- a ledger's walk from a header that is seen so
pub ledger_same : (half : Half) (m n : Lookup) (t : Hash) (x y : Sight) → Grows m n → (x ≡ missing) ⊎ (y ≡ x)
    → filter_map found (met Header t None x ∷ maps_of half m x) ≡ []
    → met Header t None y ∷ maps_of half n y ≡ met Header t None x ∷ maps_of half m x
ledger_same half m n t x y up (inl e) clean =
    absurd (no_none (subst (λ s. finding_at Header s ≡ None) e (not_missing Header t None x (maps_of half m x) clean).0))
ledger_same half m n t x y up (inr e) clean =
    ap (λ s. met Header t None s ∷ maps_of half n s) e ∙ ap (λ rest. met Header t None x ∷ rest)
    (maps_same half m n x up (not_missing Header t None x (maps_of half m x) clean).1)

-- a whole ledger is whole in a larger store
pub whole_grows : (half : Half) (m n : Lookup) (t : Hash) → Grows m n → Whole half m t → Whole half n t
unfolding walk_ledger
whole_grows half m n t up clean =
    ap (filter_map found) (ledger_same half m n t (header_sight (m t)) (header_sight (n t)) up (header_sight_same m n t up) clean) ∙ clean

-- a stored header stays as it is
pub header_grows : (m n : Lookup) (t : Hash) (P : Bytes → Type 0) → Grows m n → IsSomeAnd (header_in m t) P → IsSomeAnd (header_in n t) P
header_grows m n t P up some = at (m t) refl some
  where
    at : (o : Option Bytes) → m t ≡ o → IsSomeAnd (option_and_then header_of o) P → IsSomeAnd (header_in n t) P
    at None e some = absurd some
    at (Some form) e some = subst (λ o. IsSomeAnd (option_and_then header_of o) P) (sym (up t form e)) some

-- a whole ledger has its header in the store
pub whole_stored : (half : Half) (m : Lookup) (t : Hash) → Whole half m t → m t ≡ None → ⊥
unfolding walk_ledger
whole_stored half m t clean none =
    no_cons (sym (ap (λ o. filter_map found (met Header t None (header_sight o) ∷ maps_of half m (header_sight o))) none) ∙ clean)
