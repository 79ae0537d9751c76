-- The forms of a map's tree, where they are stored under their halves and none of these is zero: they are forms of nodes, and the tree
-- is whole.
use Rattle.std.proofs.Common.{◌≡◌, ◌≢◌, ℕ, zero, suc, ◌+◌, ◌<◌, ◌≤◌, ◌==◌, if◌then◌else◌, nat_le, Bool}
use Rattle.std.proofs.Common.{true, false, IsTrue, List, [], ◌∷◌, ◌++◌, count_by, slice_index_or}
use Rattle.std.proofs.Common.{length, map, Option, None, Some, Contains, refl, sym, ap, ◌∙◌, subst, arith, length-append}
use Rattle.std.proofs.lemmas.Bool.{leb-true}
use Rattle.std.proofs.lemmas.Bool.{eqb-true, false≢true}
use Rattle.std.proofs.lemmas.List.FromFn.{get_or-map-range_with_len}
use Rattle.std.proofs.lemmas.List.Elements.{Contains-append_left, Contains-append_right, Contains-append_cases}
use Rattle.std.proofs.Common.{⊎_elim}
use Rattle.std.specs.List.{AllByRecursion, flat_map, list_any}
use Rattle.nib_path.specs.Paths.{lies_under}
use Rattle.ledger_spec.specs.Maps.{hash_cmp, IsMap}
use Rattle.ledger_spec.specs.declared.Kind.{Kind}
use Rattle.ledger_spec.specs.declared.ShapeFault.TheVariants.{WrongKind, LeafElsewhere, LoneLeaf, LeafAtRoot, InnerAtBottom}
use Rattle.ledger_spec.specs.Bytes.{Bytes, Hash, Half, IsHalf, Lookup, Items, zero_hash, is_zero, is_nonzero, are_bytes, branches}
use Rattle.ledger_spec.specs.Forms.{Held, inner, leaf, IsHeld, IsInner, Form, form_of, leaf_form, inner_prefix}
use Rattle.ledger_spec.specs.Forms.{hash_or_zero}
use Rattle.ledger_spec.specs.Rules.{fault_of, same_kind, is_lone}
use Rattle.ledger_spec.specs.Findings.{sound, sight_of, judged, seen_as}
use Rattle.ledger_spec.specs.Tree.{Entry, IsByteEntry, AreItems, part, is_alone, form_of_part, forms_of_part, form_at, root_of, forms_of}
use Rattle.ledger_spec.proofs.shared.ByteForms.{bytes_join}
use Rattle.ledger_spec.proofs.shared.Seeing.{sees}
use Rattle.tree_laws.specs.Walks.{at_place, found_below, found_in}
use Rattle.tree_laws.proofs.shared.Below.{below_zero, below_end, below_inner}
use Rattle.tree_laws.proofs.shared.ByteItems.{keys_of_items}
use Rattle.tree_laws.proofs.shared.Joins.{in_one, in_join, in_range, join_has}
use Rattle.tree_laws.proofs.shared.MapPages.{all_under, map_kept, part_branches}
use Rattle.tree_laws.proofs.shared.Subtrees.{form_none, form_bottom, form_alone, form_fork, forms_none, forms_bottom, forms_alone}
use Rattle.tree_laws.proofs.shared.Subtrees.{forms_fork}
use Rattle.tree_laws.proofs.shared.Trees.{alone_nil, concat_map, each_in_part, kid_hash, size_or_zero, sizes_map}
use Rattle.ledger_laws.proofs.shared.SoundForms.{IsByteForm, in_nothing}
use Rattle.ledger_laws.proofs.NonzeroHashes.{one_at_bottom, key_sizes, leaf_bytes, kind_itself, leaf_fits, both_true, nonzeros, nonzeros_by}
use Rattle.ledger_laws.proofs.NonzeroHashes.{one_counted, flat_none, not_zero, below_64, in_16, or_false, nonzero_is, top_part}

module _ (half : Half) (sized : IsHalf half) (kind : Kind) (items : Items) (are : AreItems half kind items) where
  abbrev here : List ℕ → List Entry
  here path = part items path

  abbrev form_here : ℕ → List ℕ → Option Bytes
  form_here left path = form_of_part half kind items left path (here path)

  abbrev forms_here : ℕ → List ℕ → List Bytes
  forms_here left path = forms_of_part half kind items left path (here path)

  -- no form at or below a path has the zero hash
  abbrev AllNonzero : ℕ → List ℕ → Type 0
  AllNonzero left path = (form : Bytes) → Contains (forms_here left path) form → IsTrue (is_nonzero (half form))

  -- the entries under a path
  held_here : (path : List ℕ) → AllByRecursion (λ (e : Entry). IsHeld half (leaf kind e.0 e.1)) (here path)
  held_here path = each_in_part (λ (e : Entry). IsHeld half (leaf kind e.0 e.1)) (λ (e : Entry). lies_under path e.0) items are.each

  bytes_here : (path : List ℕ) → AllByRecursion IsByteEntry (here path)
  bytes_here path = each_in_part IsByteEntry (λ (e : Entry). lies_under path e.0) items are.bytes

  -- no entry is beside the first at the bottom
  bottom_alone : (path : List ℕ) (e : Entry) (others : List Entry) → length path ≡ 64 → here path ≡ e ∷ others → others ≡ []
  bottom_alone path e others deep is =
      one_at_bottom path e others deep (subst (λ (l : Items). IsMap hash_cmp l) is (map_kept (λ x. lies_under path x.0) items are.rising))
      (subst (λ (l : Items). AllByRecursion (λ (x : Entry). length x.0 ≡ 32) l) is (key_sizes half kind (here path) (held_here path)))
      (subst (λ (l : Items). AllByRecursion (λ (x : Entry). lies_under path x.0 ≡ true) l) is (all_under path items))

  -- where there is an entry there is a form, which is among the forms
  form_there : (left : ℕ) (path : List ℕ) (e : Entry) (others : List Entry) → here path ≡ e ∷ others
      → (form : Bytes) × (form_here left path ≡ Some form) × Contains (forms_here left path) form
  form_there zero path e others is = (
    leaf_form kind e.0 e.1,
    ap (form_of_part half kind items zero path) is ∙ form_bottom half kind items path e others,
    subst (λ (fs : List Bytes). Contains fs (leaf_form kind e.0 e.1))
        (sym (ap (forms_of_part half kind items zero path) is ∙ forms_bottom half kind items path e others))
        (0, omega arith, refl),
  )
  form_there (suc left) path e others is = by (is_alone path others) refl
    where
      above : Bytes
      above = inner_prefix ++ flat_map (kid_hash half kind items left path) branches

      by : (t : Bool) → is_alone path others ≡ t
          → (form : Bytes) × (form_here (suc left) path ≡ Some form) × Contains (forms_here (suc left) path) form
      by true lone = (
        leaf_form kind e.0 e.1,
        ap (form_of_part half kind items (suc left) path) is ∙ form_alone half kind items left path e others lone,
        subst (λ (fs : List Bytes). Contains fs (leaf_form kind e.0 e.1))
            (sym (ap (forms_of_part half kind items (suc left) path) is ∙ forms_alone half kind items left path e others lone))
            (0, omega arith, refl),
      )
      by false many = (
        above,
        ap (form_of_part half kind items (suc left) path) is ∙ form_fork half kind items left path e others many,
        subst (λ (fs : List Bytes). Contains fs above)
            (sym (ap (forms_of_part half kind items (suc left) path) is ∙ forms_fork half kind items left path e others many))
            (Contains-append_right (flat_map (λ b. forms_here left (path ++ b ∷ [])) branches) (above ∷ []) above (0, omega arith, refl)),
      )

  -- where the forms have no zero hash, only a branch without entries has it
  zero_part : (left : ℕ) (path : List ℕ) → AllNonzero left path → is_nonzero (hash_or_zero half (form_here left path)) ≡ false
      → here path ≡ []
  zero_part left path nonzero none = by (here path) refl
    where
      by : (there : List Entry) → here path ≡ there → there ≡ []
      by [] is = refl
      by (e ∷ others) is =
          let form = form_there left path e others is in
          let same : is_nonzero (half form.0) ≡ false =
          sym (ap (λ o. is_nonzero (hash_or_zero half o)) form.1) ∙ none in
          absurd (false≢true (sym same ∙ nonzero form.0 form.2))

  -- the forms below a branch are among those of the inner node
  kid_among : (left : ℕ) (path : List ℕ) (e : Entry) (others : List Entry) → here path ≡ e ∷ others → is_alone path others ≡ false
      → (b : ℕ) → b < 16 → (form : Bytes) → Contains (forms_here left (path ++ b ∷ [])) form
      → Contains (forms_here (suc left) path) form
  kid_among left path e others is many b low form c =
      subst (λ (fs : List Bytes). Contains fs form)
      (sym (ap (forms_of_part half kind items (suc left) path) is ∙ forms_fork half kind items left path e others many))
      (Contains-append_left (flat_map (λ d. forms_here left (path ++ d ∷ [])) branches)
      ((inner_prefix ++ flat_map (kid_hash half kind items left path) branches) ∷ []) form
      (join_has (λ d. forms_here left (path ++ d ∷ [])) branches b form (in_range 16 0 b (omega arith) low) c))

  -- where no branch has a hash, no branch has an entry
  none_all : (left : ℕ) (path : List ℕ) (bs : List ℕ)
      → ((b : ℕ) → Contains bs b → is_nonzero (kid_hash half kind items left path b) ≡ false → here (path ++ b ∷ []) ≡ [])
      → list_any is_nonzero (map (kid_hash half kind items left path) bs) ≡ false
      → flat_map (λ b. here (path ++ b ∷ [])) bs ≡ []
  none_all left path [] each none = refl
  none_all left path (b ∷ bs) each none =
      let both = or_false (is_nonzero (kid_hash half kind items left path b))
      (list_any is_nonzero (map (kid_hash half kind items left path) bs)) none in
      let first : here (path ++ b ∷ []) ≡ [] = each b (0, omega arith, refl) both.0 in
      let rest : flat_map (λ d. here (path ++ d ∷ [])) bs ≡ [] =
      none_all left path bs (λ d c. each d (suc c.0, omega (arith, c.1), c.2)) both.1 in
      λ i. first i ++ rest i

  -- an inner node of the tree
  inner_is : (left : ℕ) (path : List ℕ) (e : Entry) (others : List Entry) → length path + suc left ≡ 64 → here path ≡ e ∷ others
      → ((b : ℕ) → b < 16 → AllNonzero left (path ++ b ∷ [])) → IsInner (map (kid_hash half kind items left path) branches)
  inner_is left path e others size is nonzero = record {
    count = refl;
    sizes = sizes_map (kid_hash half kind items left path) branches (λ b. size_or_zero half sized.size _);
    some = by (list_any is_nonzero (map (kid_hash half kind items left path) branches)) refl;
  }
    where
      joined : here path ≡ flat_map (λ b. here (path ++ b ∷ [])) branches
      joined = part_branches path items (omega (arith, size)) are.rising (keys_of_items half kind items are.each are.bytes)

      by : (t : Bool) → list_any is_nonzero (map (kid_hash half kind items left path) branches) ≡ t → t ≡ true
      by true any = refl
      by false none =
          let empty : here path ≡ [] =
          joined ∙ none_all left path branches
          (λ b c zero. zero_part left (path ++ b ∷ []) (nonzero b (in_16 b c)) zero) none in
          let no : e ∷ others ≡ [] = sym is ∙ empty in cc

  -- each form is one of a node, of bytes
  inner_bytes : (left : ℕ) (path : List ℕ) (bs : List ℕ) → IsTrue (are_bytes (flat_map (kid_hash half kind items left path) bs))
  inner_bytes left path [] = refl
  inner_bytes left path (b ∷ bs) =
      bytes_join (kid_hash half kind items left path b) (flat_map (kid_hash half kind items left path) bs)
      (hash_bytes (form_here left (path ++ b ∷ []))) (inner_bytes left path bs)
    where
      hash_bytes : (o : Option Bytes) → IsTrue (are_bytes (hash_or_zero half o))
      hash_bytes None = refl
      hash_bytes (Some form) = sized.bytes form

  inner_form : (left : ℕ) (path : List ℕ)
      → inner_prefix ++ flat_map (kid_hash half kind items left path) branches
      ≡ form_of (inner (map (kid_hash half kind items left path) branches))
  inner_form left path = ap (λ (t : Bytes). inner_prefix ++ t) (sym (concat_map (kid_hash half kind items left path) branches))

  leaf_fit : (path : List ℕ) (e : Entry) (others : List Entry) → here path ≡ e ∷ others → IsByteForm half (leaf_form kind e.0 e.1)
  leaf_fit path e others is =
      let held = subst (λ (l : Items). AllByRecursion (λ (x : Entry). IsHeld half (leaf kind x.0 x.1)) l) is (held_here path) in
      let all = subst (λ (l : Items). AllByRecursion IsByteEntry l) is (bytes_here path) in
      ((leaf kind e.0 e.1, (held.0, refl)), leaf_bytes kind e.0 e.1 all.0.0 all.0.1)

  fits : (left : ℕ) (path : List ℕ) → length path + left ≡ 64 → AllNonzero left path → (form : Bytes)
      → Contains (forms_here left path) form → IsByteForm half form
  fits zero path size nonzero form c = by (here path) refl
    where
      by : (there : List Entry) → here path ≡ there → IsByteForm half form
      by [] is = absurd (in_nothing
          (subst (λ (fs : List Bytes). Contains fs form)
          (ap (forms_of_part half kind items zero path) is ∙ forms_none half kind items zero path) c))
      by (e ∷ others) is =
          subst (λ (f : Bytes). IsByteForm half f)
          (in_one (leaf_form kind e.0 e.1) form (subst (λ (fs : List Bytes). Contains fs form)
          (ap (forms_of_part half kind items zero path) is ∙ forms_bottom half kind items path e others) c))
          (leaf_fit path e others is)
  fits (suc left) path size nonzero form c =
      by (here path) refl (λ b low none. fits left (path ++ b ∷ []) (omega (arith, size, length-append path (b ∷ []))) none form)
    where
      Deeper : Type 0
      Deeper = (b : ℕ) → b < 16 → AllNonzero left (path ++ b ∷ []) → Contains (forms_here left (path ++ b ∷ [])) form → IsByteForm half form

      forked : (e : Entry) (others : List Entry) → here path ≡ e ∷ others → is_alone path others ≡ false → Deeper → IsByteForm half form
      forked e others is many deeper =
          let above : Bytes = inner_prefix ++ flat_map (kid_hash half kind items left path) branches in
          let nonzero_at : (b : ℕ) → b < 16 → AllNonzero left (path ++ b ∷ []) =
          λ b low f there. nonzero f (kid_among left path e others is many b low f there) in
          ⊎_elim
          (λ below. let at = in_join (λ d. forms_here left (path ++ d ∷ [])) branches form below in
          let low : at.0 < 16 = in_16 at.0 at.1 in deeper at.0 low (nonzero_at at.0 low) at.2)
          (λ own. subst (λ (f : Bytes). IsByteForm half f) (in_one above form own) (
            (
              inner (map (kid_hash half kind items left path) branches),
              (inner_is left path e others size is nonzero_at, inner_form left path),
            ),
            bytes_join inner_prefix (flat_map (kid_hash half kind items left path) branches) refl (inner_bytes left path branches),
          ))
          (Contains-append_cases (flat_map (λ d. forms_here left (path ++ d ∷ [])) branches) (above ∷ []) form
          (subst (λ (fs : List Bytes). Contains fs form)
          (ap (forms_of_part half kind items (suc left) path) is ∙ forms_fork half kind items left path e others many) c))

      by : (there : List Entry) → here path ≡ there → Deeper → IsByteForm half form
      by [] is deeper = absurd (in_nothing
          (subst (λ (fs : List Bytes). Contains fs form)
          (ap (forms_of_part half kind items (suc left) path) is ∙ forms_none half kind items (suc left) path) c))
      by (e ∷ others) is deeper = cases (is_alone path others) refl
        where
          cases : (t : Bool) → is_alone path others ≡ t → IsByteForm half form
          cases true lone =
              subst (λ (f : Bytes). IsByteForm half f)
              (in_one (leaf_form kind e.0 e.1) form (subst (λ (fs : List Bytes). Contains fs form)
              (ap (forms_of_part half kind items (suc left) path) is ∙ forms_alone half kind items left path e others lone) c))
              (leaf_fit path e others is)
          cases false many = forked e others is many deeper

  -- so is each form of the map
  pub forms_fit : ((form : Bytes) → Contains (forms_of half kind items) form → IsTrue (is_nonzero (half form))) → (form : Bytes)
      → Contains (forms_of half kind items) form → IsByteForm half form
  forms_fit nonzero form c = fits 64 [] refl nonzero form c

  -- the root hash of a map with an item isn't zero
  pub root_nonzero : items ≢ [] → ((form : Bytes) → Contains (forms_of half kind items) form → IsTrue (is_nonzero (half form)))
      → IsTrue (is_nonzero (root_of half kind items))
  unfolding form_at
  root_nonzero some nonzero = by (here []) refl
    where
      by : (there : List Entry) → here [] ≡ there → IsTrue (is_nonzero (root_of half kind items))
      by [] is = absurd (some (sym (top_part items) ∙ is))
      by (e ∷ others) is =
          let form = form_there 64 [] e others is in
          subst (λ (o : Option Bytes). IsTrue (is_nonzero (hash_or_zero half o))) (sym form.1) (nonzero form.0 form.2)

  module _ (nodes : Lookup) where
    -- each form at or below a path is stored under its half, which isn't zero
    abbrev AllKept : ℕ → List ℕ → Type 0
    AllKept left path =
        (form : Bytes) → Contains (forms_here left path) form → (nodes (half form) ≡ Some form) × IsTrue (is_nonzero (half form))

    -- nothing is missing or broken at a path, below this inner node
    abbrev Clean : ℕ → Option (List Hash) → List ℕ → Type 0
    Clean left parent path = found_below half nodes kind left parent path (hash_or_zero half (form_here left path)) ≡ []

    -- the leaf at a path is lone only where it isn't the one entry
    abbrev NotLone : Option (List Hash) → List ℕ → Type 0
    NotLone parent path = is_lone parent path ≡ true → length (here path) ≢ 1

    none_clean : (left : ℕ) (parent : Option (List Hash)) (path : List ℕ) → here path ≡ [] → Clean left parent path
    none_clean left parent path none =
        below_zero half nodes kind left parent path (hash_or_zero half (form_here left path))
        (ap (λ o. is_zero (hash_or_zero half o)) (ap (form_of_part half kind items left path) none ∙ form_none half kind items left path))

    -- what is seen where a node's form is stored
    seen : (parent : Option (List Hash)) (path : List ℕ) (form : Bytes) (n : Held) → nodes (half form) ≡ Some form → Form half n form
        → fault_of n parent kind path ≡ None → at_place half nodes kind parent path (half form) ≡ sound n
    seen parent path form n stored is fine =
        ap (sight_of half (λ m. fault_of m parent kind path)) stored
        ∙ ap (judged (λ m. fault_of m parent kind path)) (sees half n form is) ∙ ap (seen_as n) fine

    leaf_clean : (left : ℕ) (parent : Option (List Hash)) (path : List ℕ) (e : Entry) → 0 < length path → here path ≡ e ∷ []
        → NotLone parent path → form_here left path ≡ Some (leaf_form kind e.0 e.1)
        → nodes (half (leaf_form kind e.0 e.1)) ≡ Some (leaf_form kind e.0 e.1)
        → IsTrue (is_nonzero (half (leaf_form kind e.0 e.1))) → Clean left parent path
    leaf_clean left parent path e low is apart form_is stored nonzero =
        let held = subst (λ (l : Items). AllByRecursion (λ (x : Entry). IsHeld half (leaf kind x.0 x.1)) l) is (held_here path) in
        let under = subst (λ (l : Items). AllByRecursion (λ (x : Entry). lies_under path x.0 ≡ true) l) is (all_under path items) in
        let fine : fault_of (leaf kind e.0 e.1) parent kind path ≡ None =
        leaf_fits (same_kind kind kind) (length path == 0) (lies_under path e.0) (is_lone parent path) WrongKind LeafAtRoot
        (LeafElsewhere e.0) LoneLeaf (kind_itself kind) (not_zero (length path) low) under.0 (by (is_lone parent path) refl) in
        ap (λ o. found_below half nodes kind left parent path (hash_or_zero half o)) form_is
        ∙ below_end half nodes kind left parent path (half (leaf_form kind e.0 e.1)) (sound (leaf kind e.0 e.1))
        (nonzero_is (half (leaf_form kind e.0 e.1)) nonzero)
        (sym (seen parent path (leaf_form kind e.0 e.1) (leaf kind e.0 e.1) stored (held.0, refl) fine)) (λ each. refl)
      where
        by : (t : Bool) → is_lone parent path ≡ t → is_lone parent path ≡ false
        by true lone = absurd (apart lone (ap length is))
        by false fine = fine

    -- a branch with one entry isn't the only one that has a hash, below the root's branches
    branch_apart : (left : ℕ) (path : List ℕ) (e : Entry) (others : List Entry) → length path + suc left ≡ 64 → here path ≡ e ∷ others
        → is_alone path others ≡ false → ((b : ℕ) → b < 16 → AllKept left (path ++ b ∷ [])) → (b : ℕ) → b < 16
        → NotLone (Some (map (kid_hash half kind items left path) branches)) (path ++ b ∷ [])
    branch_apart left path e others size is many kept_at b low lone alone =
        let hash : ℕ → Hash = kid_hash half kind items left path in
        let both = both_true (nat_le 2 (length (path ++ b ∷ []))) (count_by is_nonzero (map hash branches) == 1) lone in
        let deep : 2 ≤ length path + 1 = omega (arith, leb-true 2 (length (path ++ b ∷ [])) both.0, length-append path (b ∷ [])) in
        let one : nonzeros (map hash branches) ≡ 1 =
        nonzeros_by (map hash branches) ∙ eqb-true (count_by is_nonzero (map hash branches)) 1 both.1 in
        let joined : length (here path) ≡ length (flat_map (λ d. here (path ++ d ∷ [])) branches) =
        ap length (part_branches path items (omega (arith, size)) are.rising (keys_of_items half kind items are.each are.bytes)) in
        let only : length (flat_map (λ d. here (path ++ d ∷ [])) branches) ≡ length (here (path ++ b ∷ [])) =
        one_counted hash (λ d. here (path ++ d ∷ [])) branches
        (λ c there zero. zero_part left (path ++ c ∷ []) (λ form among. (kept_at c (in_16 c there) form among).1) zero)
        one b (in_range 16 0 b (omega arith) low) (some (here (path ++ b ∷ [])) refl) in
        two path others (omega (arith, deep)) many (omega (arith, ap length is, joined, only, alone))
      where
        some : (there : List Entry) → here (path ++ b ∷ []) ≡ there → is_nonzero (kid_hash half kind items left path b) ≡ true
        some [] none = absurd (omega (arith, ap length none, alone))
        some (x ∷ xs) has =
            let form = form_there left (path ++ b ∷ []) x xs has in
            ap (λ o. is_nonzero (hash_or_zero half o)) form.1 ∙ (kept_at b low form.0 form.2).1

        two : (path : List ℕ) (others : List Entry) → 0 < length path → is_alone path others ≡ false → length others ≡ 0 → ⊥
        two [] others below many none = omega (arith, below)
        two (n ∷ path) [] below many none = false≢true (sym many)
        two (n ∷ path) (x ∷ others) below many none = omega (arith, none)

    -- where everything is stored, nothing is found below an inner node
    fork_clean : (left : ℕ) (parent : Option (List Hash)) (path : List ℕ) (e : Entry) (others : List Entry) → length path + suc left ≡ 64
        → here path ≡ e ∷ others → is_alone path others ≡ false → AllKept (suc left) path
        → ((over : Option (List Hash)) (b : ℕ) → b < 16 → AllKept left (path ++ b ∷ []) → NotLone over (path ++ b ∷ [])
        → Clean left over (path ++ b ∷ [])) → Clean (suc left) parent path
    unfolding found_in
    fork_clean left parent path e others size is many kept deeper =
        let own = kept above (subst (λ (fs : List Bytes). Contains fs above)
        (sym (ap (forms_of_part half kind items (suc left) path) is ∙ forms_fork half kind items left path e others many))
        (Contains-append_right (flat_map (λ b. forms_here left (path ++ b ∷ [])) branches) (above ∷ []) above (0, omega arith, refl))) in
        let form_is : form_here (suc left) path ≡ Some above =
        ap (form_of_part half kind items (suc left) path) is ∙ form_fork half kind items left path e others many in
        ap (λ o. found_below half nodes kind (suc left) parent path (hash_or_zero half o)) form_is
        ∙ below_inner half nodes kind left parent path (half above) hashes (nonzero_is (half above) own.1)
        (sym (seen parent path above (inner hashes) own.0
        (inner_is left path e others size is (λ b low f there. (kept_at b low f there).1), inner_form left path)
        (ap (λ (t : Bool). if t then Some InnerAtBottom else None) (below_64 (length path) (omega (arith, size))))))
        ∙ in_none
      where
        hashes : List Hash
        hashes = map (kid_hash half kind items left path) branches

        above : Bytes
        above = inner_prefix ++ flat_map (kid_hash half kind items left path) branches

        kept_at : (b : ℕ) → b < 16 → AllKept left (path ++ b ∷ [])
        kept_at b low f there = kept f (kid_among left path e others is many b low f there)

        at_branch : (b : ℕ) → b < 16
            → found_below half nodes kind left (Some hashes) (path ++ b ∷ []) (slice_index_or hashes b zero_hash) ≡ []
        at_branch b low =
            ap (found_below half nodes kind left (Some hashes) (path ++ b ∷ []))
            (get_or-map-range_with_len (kid_hash half kind items left path) 0 16 b b zero_hash low (omega arith))
            ∙ deeper (Some hashes) b low (kept_at b low) (branch_apart left path e others size is many kept_at b low)

        in_none : found_in half nodes kind left hashes path 16 ≡ []
        in_none = flat_none
            (λ b. found_below half nodes kind left (Some hashes) (path ++ b ∷ []) (slice_index_or hashes b zero_hash)) 16 0
            (λ b from to. at_branch b (omega (arith, to)))

    clean : (left : ℕ) (parent : Option (List Hash)) (path : List ℕ) → length path + left ≡ 64 → AllKept left path → NotLone parent path
        → Clean left parent path
    clean zero parent path size kept apart = by (here path) refl
      where
        by : (there : List Entry) → here path ≡ there → Clean zero parent path
        by [] is = none_clean zero parent path is
        by (e ∷ others) is =
            let lone : here path ≡ e ∷ [] =
            is ∙ ap (λ (l : List Entry). e ∷ l) (bottom_alone path e others (omega (arith, size)) is) in
            let form_is = ap (form_of_part half kind items zero path) is ∙ form_bottom half kind items path e others in
            let there = kept (leaf_form kind e.0 e.1) (subst (λ (fs : List Bytes). Contains fs (leaf_form kind e.0 e.1))
            (sym (ap (forms_of_part half kind items zero path) is ∙ forms_bottom half kind items path e others)) (0, omega arith, refl)) in
            leaf_clean zero parent path e (omega (arith, size)) lone apart form_is there.0 there.1
    clean (suc left) parent path size kept apart =
        by (here path) refl
        (λ over b low there fine. clean left over (path ++ b ∷ []) (omega (arith, size, length-append path (b ∷ []))) there fine)
      where
        Deeper : Type 0
        Deeper = (over : Option (List Hash)) (b : ℕ) → b < 16 → AllKept left (path ++ b ∷ []) → NotLone over (path ++ b ∷ [])
            → Clean left over (path ++ b ∷ [])

        by : (there : List Entry) → here path ≡ there → Deeper → Clean (suc left) parent path
        by [] is deeper = none_clean (suc left) parent path is
        by (e ∷ others) is deeper = cases (is_alone path others) refl
          where
            cases : (t : Bool) → is_alone path others ≡ t → Clean (suc left) parent path
            cases false many = fork_clean left parent path e others size is many kept deeper
            cases true lone =
                let only : here path ≡ e ∷ [] = is ∙ ap (λ (l : List Entry). e ∷ l) (alone_nil path others lone) in
                let form_is = ap (form_of_part half kind items (suc left) path) is
                ∙ form_alone half kind items left path e others lone in
                let there = kept (leaf_form kind e.0 e.1) (subst (λ (fs : List Bytes). Contains fs (leaf_form kind e.0 e.1))
                (sym (ap (forms_of_part half kind items (suc left) path) is ∙ forms_alone half kind items left path e others lone))
                (0, omega arith, refl)) in
                leaf_clean (suc left) parent path e (some path others lone) only apart form_is there.0 there.1
              where
                some : (path : List ℕ) (others : List Entry) → is_alone path others ≡ true → 0 < length path
                some [] others e = absurd (false≢true e)
                some (n ∷ path) others e = omega arith

    -- so the tree below the root hash is whole
    pub forms_whole : ((form : Bytes) → Contains (forms_of half kind items) form
        → (nodes (half form) ≡ Some form) × IsTrue (is_nonzero (half form)))
        → found_below half nodes kind 64 None [] (root_of half kind items) ≡ []
    unfolding form_at
    forms_whole kept = clean 64 None [] refl kept (λ lone. absurd (false≢true lone))
