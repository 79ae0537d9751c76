-- What is found at a place and below it, by what is seen there. For proofs of other crates.
use Rattle.std.proofs.Common.{◌≡◌, ℕ, zero, suc, ◌+◌, Bool, true, false, if◌then◌else◌, List, [], ◌∷◌, ◌++◌}
use Rattle.std.proofs.Common.{Option, Some, refl, sym, ap}
use Rattle.std.proofs.Common.{◌∙◌, arith, zero-add}
use Rattle.std.specs.List.{filter_map, flat_map, cons_option, range_with_len, slice_index_or}
use Rattle.std.proofs.lemmas.List.Elements.{filter_map-append}
use Rattle.std.proofs.lemmas.List.{flat_map_more}
use Rattle.ledger_spec.specs.declared.Kind.{Kind}
use Rattle.ledger_spec.specs.declared.Place.TheVariants.{Node}
use Rattle.ledger_spec.specs.Bytes.{Bytes, Hash, Half, Lookup, is_zero, zero_hash, branches}
use Rattle.ledger_spec.specs.Forms.{inner}
use Rattle.ledger_spec.specs.Findings.{Sight, sound, Met, branches_of, walk, Finding, finding_at, held_of, item_at}
use Rattle.tree_laws.specs.Walks.{at_place, finding_of, found_below, found_in}
use Rattle.tree_laws.proofs.shared.Steps.{met_at, walks_below, walk_empty, walk_bottom, walk_step, seen_any}

-- of the place itself, where its hash isn't zero
first_met : (z : Bool) (m : Met) (rest : List Met) → z ≡ false
    → filter_map finding_of (if z then [] else m ∷ rest) ≡ cons_option (finding_of m) (filter_map finding_of rest)
first_met true m rest e = cc
first_met false m rest e = refl

none_met : (z : Bool) (all : List Met) → z ≡ true → filter_map finding_of (if z then [] else all) ≡ []
none_met true all e = refl
none_met false all e = cc

pub below_zero : (half : Half) (nodes : Lookup) (kind : Kind) (left : ℕ) (parent : Option (List Hash)) (path : List ℕ) (h : Hash)
    → is_zero h ≡ true → found_below half nodes kind left parent path h ≡ []
unfolding walk found_below
below_zero half nodes kind zero parent path h e = none_met (is_zero h) _ e
below_zero half nodes kind (suc left) parent path h e = none_met (is_zero h) _ e

-- where nothing lies below what is seen
pub below_end : (half : Half) (nodes : Lookup) (kind : Kind) (left : ℕ) (parent : Option (List Hash)) (path : List ℕ) (h : Hash)
    (sight : Sight)
    → is_zero h ≡ false → sight ≡ at_place half nodes kind parent path h
    → ((each : List Hash → List Met) → branches_of sight each ≡ [])
    → found_below half nodes kind left parent path h ≡ cons_option (finding_at (Node kind path) sight) []
unfolding walk found_below
below_end half nodes kind zero parent path h sight z e none =
    first_met (is_zero h) _ _ z ∙ ap (λ s. cons_option (finding_at (Node kind path) s) []) (sym e)
below_end half nodes kind (suc left) parent path h sight z e none =
    first_met (is_zero h) _ _ z ∙ rw (← e) (ap (λ l. cons_option (finding_at (Node kind path) sight) (filter_map finding_of l)) (none _))

filter_map-flat_map : (g : ℕ → List Met) (bs : List ℕ)
    → filter_map finding_of (flat_map g bs) ≡ flat_map (λ b. filter_map finding_of (g b)) bs
filter_map-flat_map g [] = refl
filter_map-flat_map g (b ∷ bs) =
    filter_map-append finding_of (g b) (flat_map g bs) ∙ ap (λ l. filter_map finding_of (g b) ++ l) (filter_map-flat_map g bs)

pub below_inner : (half : Half) (nodes : Lookup) (kind : Kind) (left : ℕ) (parent : Option (List Hash)) (path : List ℕ) (h : Hash)
    (hashes : List Hash)
    → is_zero h ≡ false → sound (inner hashes) ≡ at_place half nodes kind parent path h
    → found_below half nodes kind (suc left) parent path h ≡ found_in half nodes kind left hashes path 16
unfolding walk found_below found_in
below_inner half nodes kind left parent path h hashes z e =
    first_met (is_zero h) _ _ z
    ∙ rw (← e) (filter_map-flat_map
    (λ b. walk half nodes kind left (Some hashes) (path ++ b ∷ []) (slice_index_or hashes b zero_hash)) branches)

range_more : (a n : ℕ) → range_with_len a (suc n) ≡ range_with_len a n ++ (a + n) ∷ []
range_more a zero = let e : a ≡ a + 0 = omega arith in ap (λ x. x ∷ []) e
range_more a (suc n) =
    let e : a + 1 + n ≡ a + suc n = omega arith in ap (λ l. a ∷ l) (range_more (a + 1) n ∙ ap (λ x. range_with_len (a + 1) n ++ x ∷ []) e)

pub in_more : (half : Half) (nodes : Lookup) (kind : Kind) (left : ℕ) (hashes : List Hash) (path : List ℕ) (n m : ℕ) → m ≡ suc n
    → found_in half nodes kind left hashes path m ≡ found_in half nodes kind left hashes path n ++ found_below half nodes kind left
    (Some hashes) (path ++ n ∷ []) (slice_index_or hashes n zero_hash)
unfolding found_in
in_more half nodes kind left hashes path n m e =
    let g : ℕ → List Finding = λ b. found_below half nodes kind left (Some hashes) (path ++ b ∷ []) (slice_index_or hashes b zero_hash) in
    ap (λ k. flat_map g (range_with_len 0 k)) e ∙ ap (flat_map g) (range_more 0 n)
    ∙ ap (λ x. flat_map g (range_with_len 0 n ++ x ∷ [])) (zero-add n)
    ∙ sym (flat_map_more g [] (range_with_len 0 n) n)

pub in_none : (half : Half) (nodes : Lookup) (kind : Kind) (left : ℕ) (hashes : List Hash) (path : List ℕ)
    → found_in half nodes kind left hashes path 0 ≡ []
unfolding found_in
in_none half nodes kind left hashes path = refl

-- what is found at an inner node and below it doesn't depend on what is above it, nor do the items there
any_above : {F : Type 0} (find : Met → Option F) → ((m n : Met) → m.place ≡ n.place → m.sight ≡ n.sight → find m ≡ find n)
    → (half : Half) (nodes : Lookup) (kind : Kind) (left : ℕ) (parent other : Option (List Hash)) (path : List ℕ) (h : Hash)
    (form : Bytes) (hashes : List Hash)
    → nodes h ≡ Some form → held_of half form ≡ Some (inner hashes)
    → filter_map find (walk half nodes kind left parent path h) ≡ filter_map find (walk half nodes kind left other path h)
any_above find reads half nodes kind left parent other path h form hashes is holds = by left (is_zero h) refl
  where
    seen : at_place half nodes kind parent path h ≡ at_place half nodes kind other path h
    seen = seen_any half nodes kind parent other path h form hashes is holds

    found_here : find (met_at half nodes kind parent path h) ≡ find (met_at half nodes kind other path h)
    found_here = reads (met_at half nodes kind parent path h) (met_at half nodes kind other path h) refl seen

    by : (left : ℕ) (z : Bool) → is_zero h ≡ z
        → filter_map find (walk half nodes kind left parent path h) ≡ filter_map find (walk half nodes kind left other path h)
    by left true z =
        ap (filter_map find) (walk_empty half nodes kind left parent path h z ∙ sym (walk_empty half nodes kind left other path h z))
    by zero false z =
        ap (filter_map find) (walk_bottom half nodes kind parent path h z) ∙ ap (λ o. cons_option o []) found_here
        ∙ sym (ap (filter_map find) (walk_bottom half nodes kind other path h z))
    by (suc left) false z =
        ap (filter_map find) (walk_step half nodes kind left parent path h z)
        ∙ (λ i. cons_option (found_here i) (filter_map find (branches_of (seen i) (walks_below half nodes kind left path))))
        ∙ sym (ap (filter_map find) (walk_step half nodes kind left other path h z))

pub found_any : (half : Half) (nodes : Lookup) (kind : Kind) (left : ℕ) (parent other : Option (List Hash)) (path : List ℕ) (h : Hash)
    (form : Bytes) (hashes : List Hash)
    → nodes h ≡ Some form → held_of half form ≡ Some (inner hashes)
    → found_below half nodes kind left parent path h ≡ found_below half nodes kind left other path h
unfolding found_below
found_any = any_above finding_of (λ m n place sight. λ i. finding_at (place i) (sight i))

pub items_any : (half : Half) (nodes : Lookup) (kind : Kind) (left : ℕ) (parent other : Option (List Hash)) (path : List ℕ) (h : Hash)
    (form : Bytes) (hashes : List Hash)
    → nodes h ≡ Some form → held_of half form ≡ Some (inner hashes)
    → filter_map (λ m. item_at m.sight) (walk half nodes kind left parent path h) ≡ filter_map (λ m. item_at m.sight)
    (walk half nodes kind left other path h)
items_any = any_above (λ m. item_at m.sight) (λ m n place sight. ap item_at sight)
