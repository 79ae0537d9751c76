-- The pages of a store's map, by nodes that are stored. For proofs of other crates.
use Rattle.std.proofs.Common.{◌≡◌, ◌⊎◌, inl, ⊎_elim, ◌<◌, ◌+◌, ℕ, zero, suc, Bool, true, false, if◌then◌else◌, List, [], ◌∷◌, ◌++◌}
use Rattle.std.proofs.Common.{length, Option, None, Some, refl, sym, ap, ◌∙◌, subst, arith, length-append, filter_map, flat_map}
use Rattle.std.proofs.lemmas.Bool.{cond-true, cond-false}
use Rattle.std.specs.List.{slice_index_or, AllByRecursion}
use Rattle.nib_path.specs.Paths.{lies_under, length-nibbles}
use Rattle.ledger_spec.specs.declared.Kind.{Kind}
use Rattle.ledger_spec.specs.declared.Place.TheVariants.{Node}
use Rattle.ledger_spec.specs.Bytes.{Bytes, Hash, Half, Lookup, Items, zero_hash, is_zero, branches}
use Rattle.ledger_spec.specs.Forms.{Held, inner, leaf, header, form_of, hash_of}
use Rattle.ledger_spec.specs.Rules.{fault_of}
use Rattle.ledger_spec.specs.Findings.{Sight, missing, broken, sound, Met, sight_of, judged, seen_as, branches_of, walk, walk_map}
use Rattle.ledger_spec.specs.Findings.{item_at, items_of}
use Rattle.ledger_spec.specs.Tree.{Entry}
use Rattle.ledger_spec.specs.Reads.{IsKey}
use Rattle.ledger_spec.specs.Pages.{after_key, Heard, said, wants, wrong, page_from, heard_from, IsPageOf, IsStoredNode}
use Rattle.ledger_spec.proofs.shared.Growth.{met}
use Rattle.ledger_spec.proofs.shared.Seeing.{sees}
use Rattle.tree_laws.proofs.Shapes.{KeepsLeaf, keeps_leaf}
use Rattle.tree_laws.proofs.shared.Orders.{all_append, all_weaker}
use Rattle.tree_laws.proofs.shared.Sights.{sees_sound}
use Rattle.tree_laws.proofs.Parts.{under_up}
use Rattle.tree_laws.proofs.BranchCounts.{found_join}
use Rattle.tree_laws.proofs.PageLaw.{Says, page_says}

module _ (half : Half) (nodes : Lookup) (kind : Kind) where
  abbrev entries : List Met → Items
  entries walked = filter_map (λ m. item_at m.sight) walked

  abbrev Walked : ℕ → Option (List Hash) → List ℕ → Hash → List Met
  Walked l p path h = walk half nodes kind l p path h

  abbrev seen_at : Option (List Hash) → List ℕ → Hash → Sight
  seen_at p path h = sight_of half (λ n. fault_of n p kind path) (nodes h)

  abbrev Under : List ℕ → Items → Type 0
  Under path items = AllByRecursion (λ (e : Entry). lies_under path e.0 ≡ true) items

  -- what a walk meets lies under its path
  by_sight : (p : Option (List Hash)) (path : List ℕ) (h : Hash) (x : Sight) (below : List Hash → List Met) → seen_at p path h ≡ x
      → ((hashes : List Hash) → Under path (entries (below hashes)))
      → Under path (entries (met (Node kind path) h p x ∷ branches_of x below))
  by_sight p path h missing below is each = tt
  by_sight p path h (broken fault) below is each = tt
  by_sight p path h (sound (leaf k key bytes)) below is each =
      let kept : KeepsLeaf kind k key path = keeps_leaf kind k key bytes p path
      (sees_sound half (λ n. fault_of n p kind path) (nodes h) (leaf k key bytes) is).fits in
      (kept.under, tt)
  by_sight p path h (sound (inner hashes)) below is each = each hashes
  by_sight p path h (sound (header bytes)) below is each = tt

  bottom_under : (p : Option (List Hash)) (path : List ℕ) (h : Hash) (x : Sight) → seen_at p path h ≡ x
      → Under path (entries (met (Node kind path) h p x ∷ []))
  bottom_under p path h missing is = tt
  bottom_under p path h (broken fault) is = tt
  bottom_under p path h (sound (leaf k key bytes)) is =
      let kept : KeepsLeaf kind k key path = keeps_leaf kind k key bytes p path
      (sees_sound half (λ n. fault_of n p kind path) (nodes h) (leaf k key bytes) is).fits in
      (kept.under, tt)
  bottom_under p path h (sound (inner hashes)) is = tt
  bottom_under p path h (sound (header bytes)) is = tt

  under_join : (path : List ℕ) (walked : ℕ → List Met) → ((b : ℕ) → Under (path ++ b ∷ []) (entries (walked b))) → (xs : List ℕ)
      → Under path (entries (flat_map walked xs))
  under_join path walked each [] = tt
  under_join path walked each (b ∷ xs) =
      subst (Under path) (sym (Rattle.std.proofs.lemmas.List.Elements.filter_map-append (λ (m : Met). item_at m.sight) (walked b)
      (flat_map walked xs)))
      (all_append _ (entries (walked b)) (entries (flat_map walked xs))
      (all_weaker (λ (e : Entry). lies_under (path ++ b ∷ []) e.0 ≡ true) (λ e. lies_under path e.0 ≡ true) (λ e u. under_up path b e.0 u)
      (entries (walked b)) (each b)) (under_join path walked each xs))

  walk_under : (l : ℕ) (p : Option (List Hash)) (path : List ℕ) (h : Hash) → Under path (entries (Walked l p path h))
  unfolding walk
  walk_under zero p path h = by_zero (is_zero h)
    where
      by_zero : (t : Bool) → Under path (entries (if t then [] else met (Node kind path) h p (seen_at p path h) ∷ []))
      by_zero true = tt
      by_zero false = bottom_under p path h (seen_at p path h) refl
  walk_under (suc l) p path h =
      by_zero (is_zero h)
      (λ hashes. under_join path (λ b. Walked l (Some hashes) (path ++ b ∷ []) (slice_index_or hashes b zero_hash))
      (λ b. walk_under l (Some hashes) (path ++ b ∷ []) (slice_index_or hashes b zero_hash)) branches)
    where
      by_zero : (t : Bool) → ((hashes : List Hash) → Under path
          (entries (flat_map (λ b. Walked l (Some hashes) (path ++ b ∷ []) (slice_index_or hashes b zero_hash)) branches)))
          → Under path (entries
          (if t then [] else met (Node kind path) h p (seen_at p path h) ∷ branches_of (seen_at p path h)
          (λ hashes. flat_map (λ b. Walked l (Some hashes) (path ++ b ∷ []) (slice_index_or hashes b zero_hash)) branches)))
      by_zero true each = tt
      by_zero false each = by_sight p path h (seen_at p path h)
          (λ hashes. flat_map (λ b. Walked l (Some hashes) (path ++ b ∷ []) (slice_index_or hashes b zero_hash)) branches) refl each

  -- a stored node that breaks no rule is seen
  sees_stored : (p : Option (List Hash)) (path : List ℕ) (h : Hash) (n : Held) → IsStoredNode half nodes n → hash_of half n ≡ h
      → fault_of n p kind path ≡ None → seen_at p path h ≡ sound n
  sees_stored p path h n stored is fits =
      ap (λ g. seen_at p path g) (sym is) ∙ ap (sight_of half (λ m. fault_of m p kind path)) stored.stored
      ∙ ap (judged (λ m. fault_of m p kind path)) (sees half n (form_of n) (stored.held, refl)) ∙ ap (seen_as n) fits

  no_entries : (l : ℕ) (p : Option (List Hash)) (path : List ℕ) (h : Hash) → is_zero h ≡ true → entries (Walked l p path h) ≡ []
  unfolding walk
  no_entries zero p path h none = ap entries (cond-true (is_zero h) _ _ none)
  no_entries (suc l) p path h none = ap entries (cond-true (is_zero h) _ _ none)

  leaf_entry : (l : ℕ) (p : Option (List Hash)) (path : List ℕ) (h : Hash) (k : Kind) (key bytes : Bytes) → is_zero h ≡ false
      → seen_at p path h ≡ sound (leaf k key bytes) → entries (Walked l p path h) ≡ (key, bytes) ∷ []
  unfolding walk
  leaf_entry zero p path h k key bytes some seen =
      ap entries (cond-false (is_zero h) _ _ some) ∙ ap (λ x. entries (met (Node kind path) h p x ∷ [])) seen
  leaf_entry (suc l) p path h k key bytes some seen =
      ap entries (cond-false (is_zero h) _ _ some)
      ∙ ap (λ x. entries (met (Node kind path) h p x ∷ branches_of x
      (λ hashes. flat_map (λ b. Walked l (Some hashes) (path ++ b ∷ []) (slice_index_or hashes b zero_hash)) branches))) seen

  inner_entries : (l : ℕ) (p : Option (List Hash)) (path : List ℕ) (h : Hash) (hashes : List Hash) → is_zero h ≡ false
      → seen_at p path h ≡ sound (inner hashes)
      → entries (Walked (suc l) p path h) ≡ flat_map
      (λ b. entries (Walked l (Some hashes) (path ++ b ∷ []) (slice_index_or hashes b zero_hash))) branches
  unfolding walk
  inner_entries l p path h hashes some seen =
      ap entries (cond-false (is_zero h) _ _ some)
      ∙ ap (λ x. entries (met (Node kind path) h p x ∷ branches_of x
      (λ hs. flat_map (λ b. Walked l (Some hs) (path ++ b ∷ []) (slice_index_or hs b zero_hash)) branches))) seen
      ∙ found_join (λ (m : Met). item_at m.sight) (λ b. Walked l (Some hashes) (path ++ b ∷ []) (slice_index_or hashes b zero_hash))
      branches

  abbrev At : ℕ → Option (List Hash) → List ℕ → Hash → Type 0
  At l p path h = l + length path ≡ 64

  pub page_of_store : (root after : Hash) (is_key : IsKey after) (n : ℕ) (used : List Held) (page : Items)
      → AllByRecursion (IsStoredNode half nodes) used → IsPageOf half kind root after n used page
      → page ≡ after_key after n (items_of half nodes kind root)
  unfolding heard_from walk_map
  page_of_store root after is_key n used page stored says =
      by_said (page_from half kind after 64 None [] root n used) says
      (page_says half kind after (omega (arith, length-nibbles after, is_key.size)) (IsStoredNode half nodes) ⊥ At
      (λ l p path h. entries (Walked l p path h)) (λ l p path h at. at) (λ l p path h at. walk_under l p path h)
      (λ l p path h at none. inl (no_entries l p path h none)) at_leaf at_inner 64 None [] root n used refl stored)
    where
      at_leaf : (l : ℕ) (p : Option (List Hash)) (path : List ℕ) (h : Hash) (k : Kind) (key bytes : Bytes) → At l p path h
          → is_zero h ≡ false → IsStoredNode half nodes (leaf k key bytes) → hash_of half (leaf k key bytes) ≡ h
          → fault_of (leaf k key bytes) p kind path ≡ None → (entries (Walked l p path h) ≡ (key, bytes) ∷ []) ⊎ ⊥
      at_leaf l p path h k key bytes at some first is fits =
          inl (leaf_entry l p path h k key bytes some (sees_stored p path h (leaf k key bytes) first is fits))

      at_inner : (l : ℕ) (p : Option (List Hash)) (path : List ℕ) (h : Hash) (hashes : List Hash) → At (suc l) p path h → is_zero h ≡ false
          → IsStoredNode half nodes (inner hashes) → hash_of half (inner hashes) ≡ h
          → fault_of (inner hashes) p kind path ≡ None
          → ((entries (Walked (suc l) p path h) ≡ flat_map
          (λ b. entries (Walked l (Some hashes) (path ++ b ∷ []) (slice_index_or hashes b zero_hash))) branches)
          × ((b : ℕ) → b < 16 → At l (Some hashes) (path ++ b ∷ []) (slice_index_or hashes b zero_hash))) ⊎ ⊥
      at_inner l p path h hashes at some first is fits =
          inl (
            inner_entries l p path h hashes some (sees_stored p path h (inner hashes) first is fits),
            λ b low. omega
                (arith, at, length-append path (b ∷ [])),
          )

      by_said : (o : Heard) → o ≡ said page []
          → Says half kind after (omega (arith, length-nibbles after, is_key.size)) (IsStoredNode half nodes) ⊥ At
          (λ l p path h. entries (Walked l p path h)) (λ l p path h at. at) (λ l p path h at. walk_under l p path h)
          (λ l p path h at none. inl (no_entries l p path h none)) at_leaf at_inner (entries (Walked 64 None [] root)) n o
          → page ≡ after_key after n (entries (Walked 64 None [] root))
      by_said (wants p path h) e says' = let no : wants p path h ≡ said page [] = e in cc
      by_said wrong e says' = let no : wrong ≡ said page [] = e in cc
      by_said (said found rest) e says' =
          let same : found ≡ page = cc (e) in
          ⊎_elim (λ both. sym same ∙ both.0) (λ no. absurd no) says'
