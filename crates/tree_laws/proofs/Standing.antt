-- What nodes that were read say of the map with their root: what stands at a path is the map's own, or a collision shows.
use Rattle.std.proofs.Common.{◌≡◌, ◌≢◌, ◌⊎◌, inl, inr, ⊎_elim, ◌≤◌, ◌<◌, ◌+◌, ◌-◌, ℕ, Bool, true, List, [], ◌∷◌, ◌++◌, length, take}
use Rattle.std.proofs.Common.{nat_lt, IsTrue, Option, None, Some, refl, sym, ap, ◌∙◌, subst, arith, length-append}
use Rattle.std.proofs.lemmas.Bool.{lt-ltb, and_parts, and_from, cases_eq}
use Rattle.std.proofs.lemmas.List.{append-nil, append_assoc, take-append-le}
use Rattle.std.proofs.Math.Seq.{take-append_seam}
use Rattle.std.specs.List.{flat_map, list_all, slice_index_or, Contains, AllByRecursion}
use Rattle.nib_path.specs.Paths.{IsPath}
use Rattle.ledger_spec.specs.declared.Kind.{Kind}
use Rattle.ledger_spec.specs.Bytes.{Bytes, Hash, Half, Items, zero_hash, is_zero, branches}
use Rattle.ledger_spec.specs.Forms.{Held, inner, leaf, IsHeld, inner_prefix, leaf_form, form_of, hash_of, hash_or_zero}
use Rattle.ledger_spec.specs.Rules.{fault_of}
use Rattle.ledger_spec.specs.Tree.{Entry, AreItems, part, form_at, root_of, NoLeafAbove}
use Rattle.ledger_spec.specs.Reads.{Stands, Shows, AreNodes}
use Rattle.ledger_spec.proofs.shared.Readings.{same_reading}
use Rattle.tree_laws.proofs.shared.Trees.{Sized, each_in_part, kid_hash, node_cases, leaf_no_inner, size_or_zero}
use Rattle.tree_laws.proofs.shared.Shapes.{above_bottom, key_size}
use Rattle.tree_laws.proofs.Shapes.{same_or_not, zero_is, Below, branch_below, empty_part}

list_all_push : (p : ℕ → Bool) (l : List ℕ) (b : ℕ) → IsTrue (list_all p l) → p b ≡ true → IsTrue (list_all p (l ++ b ∷ []))
list_all_push p [] b all one = and_from (p b) true one refl
list_all_push p (x ∷ l) b all one =
    let both = and_parts (p x) (list_all p l) all in and_from (p x) _ both.0 (list_all_push p l b both.1 one)

module _ (half : Half) (sized : Sized half) (kind : Kind) (root : Hash) (used : List Held) (held : AreNodes half kind used)
    (items : Items) (are : AreItems half kind items) where
  -- the hash at a path is that of the map's node, and stands there through the nodes
  pub record Here (path : List ℕ) (h : Hash) : Type 0 where
    pub is_path : IsPath path
    pub down : (q : List ℕ) (form : Option Bytes) → Stands half used h q form → Stands half used root (path ++ q) form
    pub hash : hash_or_zero half (form_at half kind items path) ≡ h
    pub above : NoLeafAbove items path

  pub shows : (path : List ℕ) (h : Hash) → Here path h → (read : Option Bytes) → Stands half used h [] read → hash_or_zero half read ≡ h
      → read ≢ form_at half kind items path
      → Shows half kind items root used
  shows path h here read stands is differ = record {
    path = path;
    is_path = here.is_path;
    read = read;
    own = form_at half kind items path;
    stands = subst (λ p. Stands half used root p read) (append-nil path) (here.down [] read stands);
    has = (refl, inr here.above);
    differ = differ;
    one_hash = is ∙ sym here.hash;
  }

  -- the map has the node that was read, or a collision shows
  pub node_at : (path : List ℕ) (h : Hash) → Here path h → (n : Held) → Contains used n → hash_of half n ≡ h
      → (form_at half kind items path ≡ Some (form_of n)) ⊎ Shows half kind items root used
  node_at path h here n among is =
      ⊎_elim inl (λ differ. inr (shows path h here (Some (form_of n)) (n, among, refl, is) is differ))
      (same_or_not (form_at half kind items path) (form_of n))

  -- nothing is below a zero hash, or a collision shows
  pub empty_at : (path : List ℕ) (h : Hash) → Here path h → is_zero h ≡ true → (part items path ≡ []) ⊎ Shows half kind items root used
  empty_at path h here none = by_form (form_at half kind items path) refl
    where
      is : h ≡ zero_hash
      is = zero_is h (sym (ap length here.hash) ∙ size_or_zero half sized _) none

      by_form : (o : Option Bytes) → form_at half kind items path ≡ o → (part items path ≡ []) ⊎ Shows half kind items root used
      by_form None e = inl (empty_part half kind items path e)
      by_form (Some form) e = inr (shows path h here None is (sym is) (λ no. let none : None ≡ Some form = no ∙ e in cc))

  -- the map's leaf at a path
  pub record Leaf (path : List ℕ) (key bytes : Bytes) : Type 0 where
    pub e : Entry
    pub others : List Entry
    pub there : part items path ≡ e ∷ others
    pub key_is : e.0 ≡ key
    pub data_is : e.1 ≡ bytes
    pub alone : (others ≡ []) ⊎ (length path ≡ 64)
    pub sizes : AllByRecursion (λ (x : Entry). length x.0 ≡ 32) (e ∷ others)

  pub leaf_at : (path : List ℕ) → length path ≤ 64 → (k : Kind) (key bytes : Bytes) → IsHeld half (leaf k key bytes)
      → form_at half kind items path ≡ Some (form_of (leaf k key bytes)) → Leaf path key bytes
  unfolding form_at
  leaf_at path within k key bytes is_leaf same =
      node_cases half kind items (64 - length path) path (part items path)
      (λ o. o ≡ Some (form_of (leaf k key bytes)) → Leaf path key bytes)
      (λ none e. let no : None ≡ Some (form_of (leaf k key bytes)) = e in cc)
      (λ e others there one e'.
      let form : leaf_form kind e.0 e.1 ≡ leaf_form k key bytes = cc in
      let kept : AllByRecursion (λ x. IsHeld half (leaf kind x.0 x.1)) (e ∷ others) =
      subst (AllByRecursion (λ (x : Entry). IsHeld half (leaf kind x.0 x.1))) there
      (each_in_part (λ x. IsHeld half (leaf kind x.0 x.1)) _ items are.each)
      in
      let one_leaf : leaf kind e.0 e.1 ≡ leaf k key bytes = same_reading half (leaf kind e.0 e.1) (leaf k key bytes)
      (leaf_form kind e.0 e.1) (kept.0, refl) (is_leaf, form) in
      let same_key : e.0 ≡ key = cc in
      let same_data : e.1 ≡ bytes = cc in
      record {
        e = e;
        others = others;
        there = there;
        key_is = same_key;
        data_is = same_data;
        alone = ⊎_elim inl (λ bottom. inr (omega arith)) one;
        sizes = sizes_of (e ∷ others) kept;
      })
      (λ e others n there level many e'.
      let form : leaf_form k key bytes ≡ inner_prefix ++ flat_map (kid_hash half kind items n path) branches = cc in
      absurd (leaf_no_inner k key bytes (flat_map (kid_hash half kind items n path) branches) form))
      same
    where
      sizes_of : (l : List Entry) → AllByRecursion (λ (x : Entry). IsHeld half (leaf kind x.0 x.1)) l
          → AllByRecursion (λ (x : Entry). length x.0 ≡ 32) l
      sizes_of [] all = tt
      sizes_of (x ∷ l) all = (key_size half kind x.0 x.1 all.0, sizes_of l all.1)

  -- the map has this inner node, so each branch stands below it
  pub step : (path : List ℕ) (h : Hash) (hashes : List Hash) (parent : Option (List Hash)) (b : ℕ) → b < 16 → Here path h
      → Contains used (inner hashes) → hash_of half (inner hashes) ≡ h
      → fault_of (inner hashes) parent kind path ≡ None → form_at half kind items path ≡ Some (form_of (inner hashes))
      → Here (path ++ b ∷ []) (slice_index_or hashes b zero_hash)
  step path h hashes parent b low here among is fits same =
      let up : length path < 64 = above_bottom kind hashes parent path here.is_path.short fits in
      let below : Below half kind items path b (slice_index_or hashes b zero_hash) =
      branch_below half sized kind items path b hashes (held (inner hashes) among) up low same in
      let sizes : length (path ++ b ∷ []) ≡ length path + 1 = length-append path (b ∷ []) in
      record {
        is_path = record {
          short = omega (arith, sizes);
          nibbles_below =
              list_all_push (λ n. nat_lt n 16) path b here.is_path.nibbles_below (lt-ltb b 16 low);
        };
        down = λ q form stands. subst (λ p. Stands half used root p form) (sym (append_assoc path (b ∷ []) q))
            (here.down (b ∷ q) form (hashes, among, is, stands));
        hash = below.kid;
        above = λ k some less.
            ⊎_elim
            (λ (last : k ≡ length path).
            let whole : take k (path ++ b ∷ []) ≡ path = ap (λ n. take n (path ++ b ∷ [])) last ∙ take-append_seam path (b ∷ []) in
            λ (one : length (part items (take k (path ++ b ∷ []))) ≡ 1). below.crowded (omega arith)
            (ap (λ p. length (part items p)) (sym whole) ∙ one))
            (λ (other : k ≡ length path → ⊥).
            let lower : k < length path = omega (arith, sizes, less) in
            let front : take k (path ++ b ∷ []) ≡ take k path = take-append-le k path (b ∷ []) (omega arith) in
            λ (one : length (part items (take k (path ++ b ∷ []))) ≡ 1). here.above k some lower
            (ap (λ p. length (part items p)) (sym front) ∙ one))
            (cases_eq k (length path));
      }

  -- at the root
  pub at_root : root_of half kind items ≡ root → Here [] root
  at_root is = record {
    is_path = record { short = omega arith; nibbles_below = refl };
    down = λ q form stands. stands;
    hash = is;
    above =
        λ k some less. absurd (omega arith);
  }
