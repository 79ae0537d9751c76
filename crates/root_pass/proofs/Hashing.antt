-- The hashes of a map's nodes: where nothing lies, beside an entry that comes, at a leaf, and at an inner node.
use Rattle.std.proofs.Common.{◌≡◌, ◌≢◌, ℕ, ◌+◌, ◌-◌, ◌*◌, ◌<◌, ◌≤◌, true, false, List, [], ◌∷◌, ◌++◌, length, take, drop, map}
use Rattle.std.proofs.Common.{refl, sym, ap, ◌∙◌, subst, arith, slice_index_or, length-take, length-drop}
use Rattle.std.proofs.lemmas.List.{append-nil, ext_get_or, get_or-take, get_or-drop}
use Rattle.std.proofs.lemmas.List.FromFn.{get_or-map-range_with_len, length-map-range_with_len}
use Rattle.std.specs.List.{concat, flat_map}
use Rattle.nib_path.specs.Paths.{lies_under}
use Rattle.ledger_spec.specs.declared.Kind.{Kind}
use Rattle.ledger_spec.specs.Bytes.{Bytes, Hash, Half, Items, zero_hash, branches}
use Rattle.ledger_spec.specs.Forms.{inner_prefix, leaf_form, hash_or_zero}
use Rattle.ledger_spec.specs.Tree.{Entry, part, is_alone, form_of_part}
use Rattle.tree_laws.proofs.shared.Trees.{concat_map}
use Rattle.tree_laws.proofs.shared.Subtrees.{form_none, form_one, form_at_is, form_at_fork, form_by_part}
use Rattle.root_pass.specs.Rows.{hash_at, cell}
use Rattle.root_pass.proofs.Ways.{part_on, part_off}

not_alone : (path : List ℕ) (others : List Entry) → (0 < length path → 1 ≤ length others) → is_alone path others ≡ false
not_alone [] others more = refl
not_alone (n ∷ path) [] more = let one : 1 ≤ length {A = Entry} [] = more (omega arith) in absurd (omega arith)
not_alone (n ∷ path) (e ∷ others) more = refl

-- the sixteen cells of a row
pub row_cell : (cells : List Hash) (j b : ℕ) → b < 16 → slice_index_or (take 16 (drop (16 * j) cells)) b zero_hash ≡ cell cells j b
row_cell cells j b low = get_or-take 16 (drop (16 * j) cells) b zero_hash low ∙ get_or-drop (16 * j) cells b zero_hash

pub row_joined : (f : ℕ → Hash) (cells : List Hash) (j : ℕ) → 16 * j + 16 ≤ length cells → ((b : ℕ) → b < 16 → cell cells j b ≡ f b)
    → concat (take 16 (drop (16 * j) cells)) ≡ flat_map f branches
row_joined f cells j within each =
    ap concat (ext_get_or zero_hash (take 16 (drop (16 * j) cells)) (map f branches) sizes
    (λ b low. let below : b < 16 = omega (arith, sizes, length-map-range_with_len f 0 16) in
    row_cell cells j b below ∙ each b below ∙ sym (get_or-map-range_with_len f 0 16 b b zero_hash below (omega arith))))
    ∙ concat_map f branches
  where
    sizes : length (take 16 (drop (16 * j) cells)) ≡ length (map f branches)
    sizes = omega (arith, length-take 16 (drop (16 * j) cells), length-drop (16 * j) cells, length-map-range_with_len f 0 16)

module _ (half : Half) (kind : Kind) where
  pub hash_none : (items : Items) (path : List ℕ) → part items path ≡ [] → hash_at half kind items path ≡ zero_hash
  hash_none items path none =
      ap (hash_or_zero half) (form_at_is half kind items (64 - length path) path refl
      ∙ ap (form_of_part half kind items (64 - length path) path) none ∙ form_none half kind items (64 - length path) path)

  -- an entry that comes leaves the hashes at the places that its key doesn't lie under
  pub hash_beside : (items : Items) (e : Entry) (path : List ℕ) → lies_under path e.0 ≡ false
      → hash_at half kind (items ++ e ∷ []) path ≡ hash_at half kind items path
  hash_beside items e path off =
      subst (λ (p : List ℕ). hash_at half kind (items ++ e ∷ []) p ≡ hash_at half kind items p) (append-nil path)
      (ap (hash_or_zero half) (form_by_part half kind (items ++ e ∷ []) items path [] (part_off items e path off)))

  -- and it is a leaf where it lies alone, below the root
  pub hash_leaf : (items : Items) (key : Hash) (bytes : Bytes) (path : List ℕ) → 0 < length path → part items path ≡ []
      → lies_under path key ≡ true
      → hash_at half kind (items ++ (key, bytes) ∷ []) path ≡ half (leaf_form kind key bytes)
  hash_leaf items key bytes path long none on =
      let all : Items = items ++ (key, bytes) ∷ [] in
      let there : part all path ≡ (key, bytes) ∷ [] = part_on items (key, bytes) path on ∙ ap
      (λ (es : Items). es ++ (key, bytes) ∷ []) none in
      ap (hash_or_zero half) (form_at_is half kind all (64 - length path) path refl
      ∙ ap (form_of_part half kind all (64 - length path) path) there
      ∙ form_one half kind all (64 - length path) path (key, bytes) long)

  -- an inner node
  pub hash_inner : (items : Items) (path : List ℕ) → length path < 64 → part items path ≢ [] →
      (0 < length path → 2 ≤ length (part items path))
      → hash_at half kind items path ≡ half (inner_prefix ++ flat_map (λ b. hash_at half kind items (path ++ b ∷ [])) branches)
  hash_inner items path low some more = by (part items path) refl
    where
      by : (es : Items) → part items path ≡ es
          → hash_at half kind items path ≡ half (inner_prefix ++ flat_map (λ b. hash_at half kind items (path ++ b ∷ [])) branches)
      by [] is = absurd (some is)
      by (e ∷ others) is =
          ap (hash_or_zero half) (form_at_fork half kind items path e others low is
          (not_alone path others (λ long. let two : 2 ≤ length (part items path) = more long in
          let same : length (part items path) ≡ length (e ∷ others) = ap length is in omega arith)))
