-- A path answers, or shows a collision. For proofs of other crates.
use Rattle.std.proofs.Common.{◌≡◌, ◌⊎◌, inl, inr, ⊎_elim, ◌≤◌, ◌<◌, ◌+◌, ◌&&◌, ℕ, suc, Bool, true, false, if◌then◌else◌, List, [], ◌∷◌}
use Rattle.std.proofs.Common.{◌++◌, length, take, is_none, Option, None, Some, refl, sym, ap, ◌∙◌, subst, arith}
use Rattle.std.proofs.lemmas.Bool.{and_parts, false≢true}
use Rattle.std.proofs.lemmas.List.{length-take-le, take_more}
use Rattle.std.proofs.lemmas.Slice.Eq.{bytes_eq-Decides}
use Rattle.std.proofs.lemmas.Map.Entries.{lookup_head, lookup_tail}
use Rattle.std.specs.Option.{option_and_then}
use Rattle.std.specs.BTreeMap.{is_at}
use Rattle.std.specs.List.{slice_index_or, Contains}
use Rattle.nib_path.specs.Paths.{nibbles, nibble_of, lies_under, length-nibbles}
use Rattle.ledger_spec.specs.declared.Kind.{Kind}
use Rattle.ledger_spec.specs.declared.ShapeFault.{ShapeFault}
use Rattle.ledger_spec.specs.declared.ShapeFault.TheVariants.{InnerAtBottom, LeafAtRoot, LeafElsewhere, LoneLeaf, WrongKind}
use Rattle.ledger_spec.specs.Maps.{hash_cmp, get_in}
use Rattle.ledger_spec.specs.Bytes.{Bytes, Hash, Half, Items, zero_hash, is_zero, same_bytes}
use Rattle.ledger_spec.specs.Forms.{Held, inner, leaf, header, IsHeld, form_of, hash_of}
use Rattle.ledger_spec.specs.Rules.{fault_of}
use Rattle.ledger_spec.specs.Tree.{Entry, AreItems, part, form_at, root_of}
use Rattle.ledger_spec.specs.Reads.{Outcome, nothing, value, ends_at, inner_hashes, follow_from, follow, Shows, answer_of, IsKey}
use Rattle.ledger_spec.specs.Reads.{AreNodes, AnswersOrShows}
use Rattle.tree_laws.proofs.shared.Trees.{Sized, same_key, at_itself, under_own, under_whole, get_in_part, first_passes}
use Rattle.tree_laws.proofs.shared.Shapes.{passed, none_is, above_bottom, below_at}
use Rattle.tree_laws.proofs.Shapes.{KeepsLeaf, keeps_leaf}
use Rattle.tree_laws.proofs.Standing.{Here, node_at, empty_at, Leaf, leaf_at, step, at_root}

-- a key that lies where nothing is isn't in the map
none_under : (items : Items) (path : List ℕ) (key : Hash) → lies_under path key ≡ true → part items path ≡ []
    → get_in hash_cmp items key ≡ None
none_under items path key under none = sym (get_in_part items path key under) ∙ ap (λ p. get_in hash_cmp p key) none

-- a key that lies where one leaf is has that leaf's data, or is another
leaf_under : (items : Items) (path : List ℕ) (key own bytes : Bytes) (e : Entry) (others : List Entry) → lies_under path key ≡ true
    → part items path ≡ e ∷ others
    → e.0 ≡ own → e.1 ≡ bytes → (others ≡ []) ⊎ (key ≡ e.0) → (if same_bytes own key then value bytes else nothing) ≡ answer_of
    (get_in hash_cmp items key)
leaf_under items path key own bytes e others under is same_own same_bytes' one = by_test (same_bytes own key) refl
  where
    found : get_in hash_cmp items key ≡ get_in hash_cmp (e ∷ others) key
    found = sym (get_in_part items path key under) ∙ ap (λ p. get_in hash_cmp p key) is

    by_test : (t : Bool) → same_bytes own key ≡ t → (if t then value bytes else nothing) ≡ answer_of (get_in hash_cmp items key)
    by_test true e' =
        let same : key ≡ e.0 = sym ((bytes_eq-Decides own key).0 e') ∙ sym same_own in
        ap value (sym same_bytes') ∙ ap answer_of (sym (found ∙ lookup_head (is_at (hash_cmp key)) e others (at_itself key e.0 same)))
    by_test false e' =
        let differ : key ≡ e.0 → ⊥ = λ s. false≢true (sym e' ∙ (bytes_eq-Decides own key).1 (sym (s ∙ same_own))) in
        ⊎_elim
        (λ none. by_alone (is_at (hash_cmp key) e.0) refl none differ)
        (λ s. absurd (differ s)) one
      where
        by_alone : (t : Bool) → is_at (hash_cmp key) e.0 ≡ t → others ≡ [] → (key ≡ e.0 → ⊥)
            → nothing ≡ answer_of (get_in hash_cmp items key)
        by_alone true at none differ = absurd (differ (same_key key e.0 at))
        by_alone false at none differ =
            ap answer_of (sym (found ∙ lookup_tail (is_at (hash_cmp key)) e others at ∙ ap (λ l. get_in hash_cmp l key) none))

module _ (half : Half) (sized : Sized half) (kind : Kind) (root key : Hash) (is_key : IsKey key) (used : List Held)
    (held : AreNodes half kind used) (items : Items) (are : AreItems half kind items) where
  -- where the key leads at a depth
  abbrev at : ℕ → List ℕ
  at depth = take depth (nibbles key)

  -- the map's own answer, or a collision
  abbrev Answer : Outcome → Type 0
  Answer outcome = (outcome ≡ answer_of (get_in hash_cmp items key)) ⊎ Shows half kind items root used

  -- what stands where the key leads
  abbrev On : ℕ → Hash → Type 0
  On depth h = Here half sized kind root used held items are (at depth) h

  length_at : (depth : ℕ) → depth ≤ 64 → length (at depth) ≡ depth
  length_at depth within = length-take-le depth (nibbles key) (omega (arith, length-nibbles key, is_key.size))

  -- the map has this leaf
  leaf_ends : (depth : ℕ) → depth ≤ 64 → (k : Kind) (own bytes : Bytes) → IsHeld half (leaf k own bytes)
      → form_at half kind items (at depth) ≡ Some (form_of (leaf k own bytes))
      → (if same_bytes own key then value bytes else nothing) ≡ answer_of (get_in hash_cmp items key)
  leaf_ends depth within k own bytes is_leaf same =
      let l : Leaf half sized kind root used held items are (at depth) own bytes =
      leaf_at half sized kind root used held items are (at depth) (omega (arith, length_at depth within)) k own bytes is_leaf same in
      let under : lies_under (at depth) key ≡ true = under_own depth key within is_key.size in
      leaf_under items (at depth) key own bytes l.e l.others under l.there l.key_is l.data_is
      (⊎_elim inl
      (λ bottom. inr (under_whole (at depth) key l.e.0 bottom is_key.size l.sizes.0 under
      (first_passes (λ x. lies_under (at depth) x.0) items l.others l.e l.there)))
      l.alone)

  -- the way goes on
  deeper : (depth : ℕ) (h : Hash) (hashes : List Hash) (parent : Option (List Hash)) → depth ≤ 64 → On depth h
      → Contains used (inner hashes) → hash_of half (inner hashes) ≡ h
      → fault_of (inner hashes) parent kind (at depth) ≡ None → form_at half kind items (at depth) ≡ Some (form_of (inner hashes))
      → (depth < 64) × On (depth + 1) (slice_index_or hashes (nibble_of key depth) zero_hash)
  deeper depth h hashes parent within here among is fits same =
      let size : length (at depth) ≡ depth = length_at depth within in
      let up : length (at depth) < 64 = above_bottom kind hashes parent (at depth) (omega (arith, size)) fits in
      let lower : depth < 64 = omega (arith, size, up) in
      let more : depth < length (nibbles key) = omega (arith, length-nibbles key, is_key.size) in
      let path : at (depth + 1) ≡ at depth ++ nibble_of key depth ∷ [] = take_more (nibbles key) depth 0 more in (
        lower,
        subst (λ p. Here half sized kind root used held items are p (slice_index_or hashes (nibble_of key depth) zero_hash)) (sym path)
            (step half sized kind root used held items are (at depth) h hashes parent (nibble_of key depth)
            (below_at (nibbles key) depth is_key.path.nibbles_below more) here among is fits same),
      )

  -- nothing where the branch is empty
  empty_answer : (depth : ℕ) (h : Hash) → depth ≤ 64 → On depth h → is_zero h ≡ true → Answer nothing
  empty_answer depth h within here none =
      ⊎_elim (λ gone. inl (ap answer_of (sym (none_under items (at depth) key (under_own depth key within is_key.size) gone)))) inr
      (empty_at half sized kind root used held items are (at depth) h here none)

  -- the last node answers, or a collision shows
  ends : (depth : ℕ) (h : Hash) (n : Held) (parent : Option (List Hash)) (outcome : Outcome) → depth ≤ 64 → On depth h → Contains used n
      → hash_of half n ≡ h
      → fault_of n parent kind (at depth) ≡ None → form_at half kind items (at depth) ≡ Some (form_of n)
      → ends_at key depth n ≡ Some outcome → Answer outcome
  ends depth h (leaf k own bytes) parent outcome within here among is fits same says =
      let outcome_is : (if same_bytes own key then value bytes else nothing) ≡ outcome = cc in
      let kept : KeepsLeaf kind k own (at depth) = keeps_leaf kind k own bytes parent (at depth) fits in
      inl (sym outcome_is ∙ leaf_ends depth within k own bytes (held (leaf k own bytes) among kept.kinds) same)
  ends depth h (inner hashes) parent outcome within here among is fits same says =
      let t : (is_zero (slice_index_or hashes (nibble_of key depth) zero_hash) ≡ true) × (Some nothing ≡ Some outcome) =
      passed _ (Some nothing) outcome says in
      let outcome_is : nothing ≡ outcome = cc (t.1) in
      let on = deeper depth h hashes parent within here among is fits same in
      subst Answer outcome_is (empty_answer (depth + 1) (slice_index_or hashes (nibble_of key depth) zero_hash)
      (omega (arith, on.0)) on.1 t.0)
  ends depth h (header bytes) parent outcome within here among is fits same says =
      let no : Some Rattle.ledger_spec.specs.declared.ShapeFault.TheVariants.Foreign ≡ None = fits in cc

  -- what holds of the first node of a list, which is among the nodes used
  here_of : (h : Hash) (n : Held) (parent : Option (List Hash)) (path : List ℕ)
      → (same_bytes (hash_of half n) h && is_none (fault_of n parent kind path)) ≡ true
      → (hash_of half n ≡ h) × (fault_of n parent kind path ≡ None)
  here_of h n parent path tests =
      let both = and_parts (same_bytes (hash_of half n) h) (is_none (fault_of n parent kind path)) tests in
      ((bytes_eq-Decides (hash_of half n) h).0 both.0, none_is (fault_of n parent kind path) both.1)

  -- from a depth on
  from : (rest : List Held) → ((n : Held) → Contains rest n → Contains used n)
      → (depth : ℕ) (h : Hash) (parent : Option (List Hash)) (outcome : Outcome)
      → depth ≤ 64 → On depth h → follow_from half kind key depth parent h rest ≡ Some outcome → Answer outcome
  from [] among depth h parent outcome within here says = let no : None ≡ Some outcome = says in cc
  from (n ∷ []) among depth h parent outcome within here says =
      let t = passed (same_bytes (hash_of half n) h && is_none (fault_of n parent kind (at depth))) (ends_at key depth n) outcome says in
      let fits = here_of h n parent (at depth) t.0 in
      let first : Contains used n = among n (0, omega (arith), refl) in
      ⊎_elim (λ same. ends depth h n parent outcome within here first fits.0 fits.1 same t.1) inr
      (node_at half sized kind root used held items are (at depth) h here n first fits.0)
  from (n ∷ m ∷ rest) among depth h parent outcome within here says =
      let go = λ (hashes : List Hash). follow_from half kind key (depth + 1) (Some hashes)
      (slice_index_or hashes (nibble_of key depth) zero_hash) (m ∷ rest) in
      let t = passed (same_bytes (hash_of half n) h && is_none (fault_of n parent kind (at depth)))
      (option_and_then go (inner_hashes n)) outcome says in
      let fits = here_of h n parent (at depth) t.0 in
      let first : Contains used n = among n (0, omega (arith), refl) in
      ⊎_elim
      (λ same. further n first fits.0 fits.1 same
      (λ hashes on said.
      from (m ∷ rest) (λ x there. among x (suc there.0, omega (arith, there.1), there.2)) (depth + 1)
      (slice_index_or hashes (nibble_of key depth) zero_hash) (Some hashes) outcome (omega (arith, on.0)) on.1 said)
      t.1)
      inr (node_at half sized kind root used held items are (at depth) h here n first fits.0)
    where
      further : (n : Held) → Contains used n → hash_of half n ≡ h → fault_of n parent kind (at depth) ≡ None
          → form_at half kind items (at depth) ≡ Some (form_of n)
          → ((hashes : List Hash) → (depth < 64) × On (depth + 1) (slice_index_or hashes (nibble_of key depth) zero_hash)
          → follow_from half kind key (depth + 1) (Some hashes) (slice_index_or hashes (nibble_of key depth) zero_hash)
          (m ∷ rest) ≡ Some outcome → Answer outcome)
          → option_and_then (λ hashes. follow_from half kind key (depth + 1) (Some hashes)
          (slice_index_or hashes (nibble_of key depth) zero_hash) (m ∷ rest)) (inner_hashes n) ≡ Some outcome → Answer outcome
      further (inner hashes) first is fits same go said = go hashes (deeper depth h hashes parent within here first is fits same) said
      further (leaf k own bytes) first is fits same go said = let no : None ≡ Some outcome = said in cc
      further (header bytes) first is fits same go said = let no : None ≡ Some outcome = said in cc

  pub path_answers : root_of half kind items ≡ root → (outcome : Outcome) → follow half kind root key used ≡ Some outcome → Answer outcome
  path_answers is outcome says = by_used used refl says
    where
      by_used : (l : List Held) → used ≡ l → follow half kind root key l ≡ Some outcome → Answer outcome
      by_used [] e said =
          let t = passed (is_zero root) (Some nothing) outcome said in
          let outcome_is : nothing ≡ outcome = cc (t.1) in
          subst Answer outcome_is (empty_answer 0 root (omega arith) (at_root half sized kind root used held items are is) t.0)
      by_used (n ∷ rest) e said = by_zero (is_zero root) said
        where
          by_zero : (t : Bool) → (if t then None else follow_from half kind key 0 None root (n ∷ rest)) ≡ Some outcome → Answer outcome
          by_zero true says' = let no : None ≡ Some outcome = says' in cc
          by_zero false says' = from (n ∷ rest) (λ x there. subst (λ l. Contains l x) (sym e) there) 0 root None outcome (omega arith)
              (at_root half sized kind root used held items are is) says'

-- the law
pub answers_or_shows : (half : Half) → Sized half → (kind : Kind) (root key : Hash) (used : List Held) (outcome : Outcome) → IsKey key
    → AreNodes half kind used
    → follow half kind root key used ≡ Some outcome → AnswersOrShows half kind root key used outcome
answers_or_shows half sized kind root key used outcome is_key held says items are is =
    path_answers half sized kind root key is_key used held items are is outcome says
