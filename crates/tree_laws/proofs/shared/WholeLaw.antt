-- A whole tree commits to its items. For proofs of other crates.
use Rattle.std.proofs.Common.{◌≡◌, ◌≢◌, ◌⊎◌, ⊎_elim, ◌≤◌, ◌<◌, ◌+◌, ◌*◌, ◌==◌, ◌&&◌, ℕ, zero, suc, Bool, true, false}
use Rattle.std.proofs.Common.{if◌then◌else◌, List, [], ◌∷◌, ◌++◌, length, take, drop, map, nat_le, IsTrue, Option, None}
use Rattle.std.proofs.Common.{Some, refl, sym, ap, ◌∙◌, subst, arith, length-append, length-drop, lit≤, filter_map, flat_map}
use Rattle.std.proofs.lemmas.Bool.{cond-true, eq-eqb, leb-true, le-leb, and_parts, and_from}
use Rattle.std.proofs.lemmas.Bool.{false≢true}
use Rattle.std.proofs.lemmas.List.{get_or_past, length-take-le}
use Rattle.std.proofs.lemmas.List.Elements.{filter_map-append}
use Rattle.std.proofs.lemmas.List.Sums.{length-filter}
use Rattle.std.specs.Option.{option_and_then}
use Rattle.std.specs.List.{concat, list_all, slice_index_or, filter, count_by, AllByRecursion}
use Rattle.std.specs.List.Sorted.{IsStrictlySortedBy}
use Rattle.nib_path.specs.Paths.{lies_under}
use Rattle.ledger_spec.specs.declared.Kind.{Kind}
use Rattle.ledger_spec.specs.declared.Kind.TheVariants.{State, Tx}
use Rattle.ledger_spec.specs.declared.Place.TheVariants.{Header, Node}
use Rattle.ledger_spec.specs.declared.ShapeFault.TheVariants.{Foreign}
use Rattle.ledger_spec.specs.Maps.{hash_cmp, IsMap}
use Rattle.ledger_spec.specs.Bytes.{Bytes, Hash, Half, Lookup, Items, zero_hash, is_zero, is_nonzero, branches, IsHalf}
use Rattle.ledger_spec.specs.Forms.{inner, leaf, header, Form, IsHeld, inner_prefix, leaf_form, hash_or_zero, header_of}
use Rattle.ledger_spec.specs.Rules.{fault_of}
use Rattle.ledger_spec.specs.Findings.{Sight, missing, broken, sound, Met, sight_of, branches_of, walk}
use Rattle.ledger_spec.specs.Findings.{walk_map, walk_ledger, header_or_foreign, header_sight, maps_of, item_at, items_of, Whole}
use Rattle.ledger_spec.specs.Tree.{Entry, part, form_of_part, form_at}
use Rattle.ledger_spec.specs.Header.{state_root_of, tx_root_of}
use Rattle.ledger_spec.specs.Spots.{header_in}
use Rattle.ledger_spec.specs.Commits.{AreOwn, AreByteForms, IsWholeMap, Commits}
use Rattle.ledger_spec.proofs.shared.Readings.{holds, holds_header}
use Rattle.ledger_spec.proofs.shared.Growth.{found, met, no_cons, both_nil}
use Rattle.tree_laws.proofs.shared.Trees.{Sized, kid_hash, concat_map}
use Rattle.tree_laws.proofs.shared.Parts.{filter_all}
use Rattle.tree_laws.proofs.Parts.{filter_twice, under_up}
use Rattle.tree_laws.proofs.shared.Sights.{Sees, sees_sound}
use Rattle.tree_laws.proofs.shared.ByteItems.{byte_items}
use Rattle.tree_laws.proofs.Shapes.{zero_is, KeepsLeaf, keeps_leaf}
use Rattle.tree_laws.proofs.shared.Shapes.{above_bottom}
use Rattle.tree_laws.proofs.shared.Orders.{all_append, all_weaker, map_branches}
use Rattle.tree_laws.proofs.shared.BranchCounts.{clean_each, at_branch}
use Rattle.tree_laws.proofs.BranchCounts.{found_join, size_at, hashes_at_branches, pick, enough_below, weight}
use Rattle.tree_laws.proofs.BranchCounts.{not_lone, some_counted, two_at_least, one_at_least, single_form, inner_form}

module _ (half : Half) (sized : Sized half) (nodes : Lookup) (own : (h : Hash) (form : Bytes) → nodes h ≡ Some form → half form ≡ h)
    (kind : Kind) where
  -- the entries that a walk meets
  abbrev entries : List Met → Items
  entries walked = filter_map (λ m. item_at m.sight) walked

  -- what is seen at a place
  abbrev seen_at : Option (List Hash) → List ℕ → Hash → Sight
  seen_at parent path h = sight_of half (λ n. fault_of n parent kind path) (nodes h)

  -- the entries below a place are a map, and its tree has the place's hash
  record Made (left : ℕ) (parent : Option (List Hash)) (path : List ℕ) (h : Hash) (items : Items) : Type 0 where
    rising : IsMap hash_cmp items
    each : AllByRecursion (λ (e : Entry). IsHeld half (leaf kind e.0 e.1)) items
    under : AllByRecursion (λ (e : Entry). lies_under path e.0 ≡ true) items
    root : (all : Items) → part all path ≡ items → hash_or_zero half (form_of_part half kind all left path (part all path)) ≡ h
    enough : is_zero h ≡ false → weight parent path ≤ length items

  no_rise : IsMap {X = Bytes} hash_cmp []
  unfolding IsStrictlySortedBy
  no_rise = tt

  one_rise : (e : Entry) → IsMap hash_cmp (e ∷ [])
  unfolding IsStrictlySortedBy
  one_rise e = (tt, tt)

  empty_form : (all : Items) (left : ℕ) (path : List ℕ) → form_of_part half kind all left path [] ≡ None
  unfolding form_of_part
  empty_form all left path = refl

  -- nothing at a zero hash
  made_zero : (left : ℕ) (parent : Option (List Hash)) (path : List ℕ) (h : Hash) → length h ≡ 32 → is_zero h ≡ true
      → Made left parent path h []
  made_zero left parent path h size none = record {
    rising = no_rise;
    each = tt;
    under = tt;
    root = λ all is. ap (λ p. hash_or_zero half (form_of_part half kind all left path p)) is
        ∙ ap (hash_or_zero half) (empty_form all left path) ∙ sym (zero_is h size none);
    enough = λ some. absurd (false≢true (sym some ∙ none));
  }

  -- a leaf
  made_leaf : (left : ℕ) (parent : Option (List Hash)) (path : List ℕ) (h : Hash) (k : Kind) (key bytes : Bytes)
      → Sees half (λ n. fault_of n parent kind path) (nodes h) (leaf k key bytes)
      → Made left parent path h ((key, bytes) ∷ [])
  made_leaf left parent path h k key bytes sees =
      let kept : KeepsLeaf kind k key path = keeps_leaf kind k key bytes parent path sees.fits in
      let is : Form half (leaf k key bytes) sees.form = holds half sized (leaf k key bytes) sees.form sees.holds in
      let form : sees.form ≡ leaf_form kind key bytes = is.1 ∙ ap (λ q. leaf_form q key bytes) kept.kinds in
      record {
        rising = one_rise (key, bytes);
        each = (subst (λ q. IsHeld half (leaf q key bytes)) kept.kinds is.0, tt);
        under = (kept.under, tt);
        root = λ all there.
            ap (λ p. hash_or_zero half (form_of_part half kind all left path p)) there
            ∙ ap (hash_or_zero half) (single_form half kind all left path (key, bytes) kept.below)
            ∙ ap half (sym form) ∙ own h sees.form sees.stored;
        enough = λ some.
            let single : weight parent path ≡ 1 = ap (λ (t : Bool). if t then 2 else 1) (not_lone kind k key bytes parent path sees.fits) in
            omega arith;
      }

  -- the weight of a place below an inner node is one for all its branches
  abbrev least : List Hash → List ℕ → ℕ
  least hashes path = if nat_le 2 (length path + 1) && (count_by is_nonzero hashes == 1) then 2 else 1

  kid_weight : (hashes : List Hash) (path : List ℕ) (b : ℕ) → weight (Some hashes) (path ++ b ∷ []) ≡ least hashes path
  kid_weight hashes path b = ap (λ (n : ℕ). if nat_le 2 n && (count_by is_nonzero hashes == 1) then 2 else 1) (length-append path (b ∷ []))

  kid_weight_alone : (hashes : List Hash) (path : List ℕ) → 0 < length path → count_by is_nonzero hashes ≡ 1 → least hashes path ≡ 2
  kid_weight_alone hashes path below alone =
      cond-true (nat_le 2 (length path + 1) && (count_by is_nonzero hashes == 1)) 2 1
      (and_from (nat_le 2 (length path + 1)) (count_by is_nonzero hashes == 1) (le-leb 2 (length path + 1) (omega arith))
      (eq-eqb (count_by is_nonzero hashes) 1 alone))

  weight_some : (t : Bool) → 1 ≤ (if t then 2 else 1)
  weight_some true = omega arith
  weight_some false = omega arith

  -- an inner node with what is below it
  made_inner : (left : ℕ) (parent : Option (List Hash)) (path : List ℕ) (h : Hash) (hashes : List Hash)
      → Sees half (λ n. fault_of n parent kind path) (nodes h) (inner hashes)
      → (g : ℕ → Items) → ((b : ℕ) → Made left (Some hashes) (path ++ b ∷ []) (slice_index_or hashes b zero_hash) (g b))
      → ((b : ℕ) → 16 ≤ b → g b ≡ [])
      → Made (suc left) parent path h (flat_map g branches)
  made_inner left parent path h hashes sees g kids past =
      let is : Form half (inner hashes) sees.form = holds half sized (inner hashes) sees.form sees.holds in
      let k : ℕ = least hashes path in
      let hash : ℕ → Hash = λ b. slice_index_or hashes b zero_hash in
      let at : hashes ≡ map hash branches = hashes_at_branches hashes is.0.count in
      let all_of : k * length (filter is_nonzero (map hash branches)) ≤ length (flat_map g branches) =
      enough_below k hash g (λ b some. subst (λ n. n ≤ length (g b)) (kid_weight hashes path b) ((kids b).enough some)) branches
      in
      let counted : length (filter is_nonzero (map hash branches)) ≡ count_by is_nonzero hashes =
      ap (λ l. length (filter is_nonzero l)) (sym at) ∙ length-filter is_nonzero hashes in
      let some : 1 ≤ count_by is_nonzero hashes = subst (λ n. 1 ≤ n) (length-filter is_nonzero hashes) (some_counted hashes is.0.some) in
      let fits : k * count_by is_nonzero hashes ≤ length (flat_map g branches) =
      subst (λ n. k * n ≤ length (flat_map g branches)) counted all_of in
      let one : 1 ≤ length (flat_map g branches) = one_at_least k (count_by is_nonzero hashes) (length (flat_map g branches)) some
      (weight_some _) fits in
      let many : 0 < length path → 2 ≤ length (flat_map g branches) = λ below.
      two_at_least k (count_by is_nonzero hashes) (length (flat_map g branches)) some (kid_weight_alone hashes path below)
      (weight_some _) fits
      in
      record {
        rising = map_branches path g (λ b. (kids b).rising) (λ b. (kids b).under) 0 16;
        each = join_all (λ e. IsHeld half (leaf kind e.0 e.1)) (λ b. (kids b).each) branches;
        under = join_all (λ e. lies_under path e.0 ≡ true)
            (λ b. all_weaker (λ (e : Entry). lies_under (path ++ b ∷ []) e.0 ≡ true) (λ e. lies_under path e.0 ≡ true)
            (λ e u. under_up path b e.0 u) (g b) ((kids b).under)) branches;
        root = λ all there.
            let each_kid : (b : ℕ) → kid_hash half kind all left path b ≡ hash b = λ b.
            (kids b).root all
            (sym (filter_twice (λ e. lies_under path e.0) (λ e. lies_under (path ++ b ∷ []) e.0) (λ e u. under_up path b e.0 u) all)
            ∙ ap (filter (λ e. lies_under (path ++ b ∷ []) e.0)) there ∙ pick path b g (λ c. (kids c).under) (past b))
            in
            let pieces : flat_map (kid_hash half kind all left path) branches ≡ concat hashes =
            ap (λ (f : ℕ → Hash). flat_map f branches) (λ i b. each_kid b i) ∙ sym (concat_map hash branches) ∙ ap concat (sym at)
            in
            ap (λ p. hash_or_zero half (form_of_part half kind all (suc left) path p)) there
            ∙ ap (hash_or_zero half) (inner_form half kind all left path (flat_map g branches) one many)
            ∙ ap (λ p. half (inner_prefix ++ p)) pieces ∙ ap half (sym is.1) ∙ own h sees.form sees.stored;
        enough = λ nonzero. enough_here (flat_map g branches) one many;
      }
    where
      join_all : (P : Entry → Type 0) → ((b : ℕ) → AllByRecursion P (g b)) → (xs : List ℕ) → AllByRecursion P (flat_map g xs)
      join_all P all [] = tt
      join_all P all (x ∷ xs) = all_append P (g x) (flat_map g xs) (all x) (join_all P all xs)

      enough_here : (items : Items) → 1 ≤ length items → (0 < length path → 2 ≤ length items) → weight parent path ≤ length items
      enough_here items one many = by_parent parent
        where
          by_parent : (p : Option (List Hash)) → weight p path ≤ length items
          by_parent None = one
          by_parent (Some above) = by_test (nat_le 2 (length path) && (count_by is_nonzero above == 1)) refl
            where
              by_test : (t : Bool) → (nat_le 2 (length path) && (count_by is_nonzero above == 1)) ≡ t → (if t then 2 else 1) ≤ length items
              by_test false is = one
              by_test true is =
                  let deep : 2 ≤ length path = leb-true 2 (length path)
                  (and_parts (nat_le 2 (length path)) (count_by is_nonzero above == 1) is).0 in
                  many (omega arith)

  -- nothing is found in what is walked
  abbrev Clean : List Met → Type 0
  Clean walked = filter_map found walked ≡ []

  -- what is seen at a place, where nothing is found, and what is below it
  by_sight : (left : ℕ) (parent : Option (List Hash)) (path : List ℕ) (h : Hash) (x : Sight) (below : List Hash → List Met)
      → seen_at parent path h ≡ x → is_zero h ≡ false
      → ((hashes : List Hash) → Sees half (λ n. fault_of n parent kind path) (nodes h) (inner hashes) → Clean (below hashes)
      → Made left parent path h (entries (below hashes)))
      → Clean (met (Node kind path) h parent x ∷ branches_of x below)
      → Made left parent path h (entries (met (Node kind path) h parent x ∷ branches_of x below))
  by_sight left parent path h missing below is some go clean = absurd (no_cons clean)
  by_sight left parent path h (broken fault) below is some go clean = absurd (no_cons clean)
  by_sight left parent path h (sound (leaf k key bytes)) below is some go clean =
      made_leaf left parent path h k key bytes (sees_sound half _ (nodes h) (leaf k key bytes) is)
  by_sight left parent path h (sound (inner hashes)) below is some go clean =
      go hashes (sees_sound half _ (nodes h) (inner hashes) is) clean
  by_sight left parent path h (sound (header bytes)) below is some go clean =
      let foreign : Some Foreign ≡ None = (sees_sound half (λ n. fault_of n parent kind path) (nodes h) (header bytes) is).fits in cc

  -- at the bottom there is no inner node
  bottom : (parent : Option (List Hash)) (path : List ℕ) (h : Hash) (x : Sight) → length path ≡ 64 → seen_at parent path h ≡ x
      → is_zero h ≡ false
      → Clean (met (Node kind path) h parent x ∷ []) → Made 0 parent path h (entries (met (Node kind path) h parent x ∷ []))
  bottom parent path h missing deep is some clean = absurd (no_cons clean)
  bottom parent path h (broken fault) deep is some clean = absurd (no_cons clean)
  bottom parent path h (sound (leaf k key bytes)) deep is some clean =
      made_leaf 0 parent path h k key bytes (sees_sound half _ (nodes h) (leaf k key bytes) is)
  bottom parent path h (sound (inner hashes)) deep is some clean =
      let above : length path < 64 = above_bottom kind hashes parent path (omega arith)
      (sees_sound half (λ n. fault_of n parent kind path) (nodes h) (inner hashes) is).fits in
      absurd (omega arith)
  bottom parent path h (sound (header bytes)) deep is some clean =
      let foreign : Some Foreign ≡ None = (sees_sound half (λ n. fault_of n parent kind path) (nodes h) (header bytes) is).fits in cc

  -- a zero hash has no walk
  abbrev Walked : ℕ → Option (List Hash) → List ℕ → Hash → List Met
  Walked left parent path h = walk half nodes kind left parent path h

  no_walk : (left : ℕ) (parent : Option (List Hash)) (path : List ℕ) (h : Hash) → is_zero h ≡ true → Walked left parent path h ≡ []
  unfolding walk
  no_walk zero parent path h none = cond-true (is_zero h) _ _ none
  no_walk (suc left) parent path h none = cond-true (is_zero h) _ _ none

  -- what is walked below a branch, and below an inner node
  abbrev kid : ℕ → List ℕ → List Hash → ℕ → List Met
  kid left path hashes b = Walked left (Some hashes) (path ++ b ∷ []) (slice_index_or hashes b zero_hash)

  abbrev below : ℕ → List ℕ → List Hash → List Met
  below left path hashes = flat_map (kid left path hashes) branches

  past_end : (left : ℕ) (path : List ℕ) (hashes : List Hash) (b : ℕ) → length hashes ≡ 16 → 16 ≤ b → kid left path hashes b ≡ []
  past_end left path hashes b count past =
      let none : slice_index_or hashes b zero_hash ≡ zero_hash = get_or_past hashes b zero_hash (omega arith) in
      no_walk left (Some hashes) (path ++ b ∷ []) (slice_index_or hashes b zero_hash) (ap is_zero none)

  kid_clean : (left : ℕ) (path : List ℕ) (hashes : List Hash) → length hashes ≡ 16 → Clean (below left path hashes) → (b : ℕ)
      → Clean (kid left path hashes b)
  kid_clean left path hashes count clean b =
      ⊎_elim (λ (low : b < 16). at_branch (λ c. Clean (kid left path hashes c))
      (clean_each found (kid left path hashes) branches clean) b low)
      (λ (past : 16 ≤ b). ap (filter_map found) (past_end left path hashes b count past))
      (Rattle.std.proofs.lemmas.Bool.cases_lt b 16)

  -- each branch below an inner node is made
  abbrev EachMade : ℕ → List ℕ → Type 0
  EachMade left path = (hashes : List Hash) (b : ℕ) → IsTrue (list_all (λ g. length g == 32) hashes) → Clean (kid left path hashes b)
      → Made left (Some hashes) (path ++ b ∷ []) (slice_index_or hashes b zero_hash) (entries (kid left path hashes b))

  made_below : (left : ℕ) (parent : Option (List Hash)) (path : List ℕ) (h : Hash) → EachMade left path → (hashes : List Hash)
      → Sees half (λ n. fault_of n parent kind path) (nodes h) (inner hashes)
      → Clean (below left path hashes) → Made (suc left) parent path h (entries (below left path hashes))
  made_below left parent path h each hashes sees clean =
      let is : Form half (inner hashes) sees.form = holds half sized (inner hashes) sees.form sees.holds in
      subst (Made (suc left) parent path h) (sym (found_join (λ (m : Met). item_at m.sight) (kid left path hashes) branches))
      (made_inner left parent path h hashes sees (λ b. entries (kid left path hashes b))
      (λ b. each hashes b is.0.sizes (kid_clean left path hashes is.0.count clean b))
      (λ b past. ap entries (past_end left path hashes b is.0.count past)))

  -- the walk below a place where nothing is found
  made : (left : ℕ) (parent : Option (List Hash)) (path : List ℕ) (h : Hash) → left + length path ≡ 64 → length h ≡ 32
      → Clean (Walked left parent path h) → Made left parent path h (entries (Walked left parent path h))
  unfolding walk
  made zero parent path h level size clean = by_zero (is_zero h) refl clean
    where
      by_zero : (t : Bool) → is_zero h ≡ t → Clean (if t then [] else met (Node kind path) h parent (seen_at parent path h) ∷ [])
          → Made 0 parent path h (entries (if t then [] else met (Node kind path) h parent (seen_at parent path h) ∷ []))
      by_zero true is clean = made_zero 0 parent path h size is
      by_zero false is clean = bottom parent path h (seen_at parent path h) (omega arith) refl is clean
  made (suc left) parent path h level size clean =
      by_zero (is_zero h) refl
      (λ hashes b sizes clean_b. made left (Some hashes) (path ++ b ∷ []) (slice_index_or hashes b zero_hash)
      (omega (arith, length-append path (b ∷ []))) (size_at hashes b sizes) clean_b)
      clean
    where
      by_zero : (t : Bool) → is_zero h ≡ t → EachMade left path
          → Clean (if t then [] else met (Node kind path) h parent (seen_at parent path h) ∷ branches_of (seen_at parent path h)
          (below left path))
          → Made (suc left) parent path h
          (entries (if t then [] else met (Node kind path) h parent (seen_at parent path h) ∷ branches_of (seen_at parent path h)
          (below left path)))
      by_zero true is each clean = made_zero (suc left) parent path h size is
      by_zero false is each clean =
          by_sight (suc left) parent path h (seen_at parent path h) (below left path) refl is (made_below left parent path h each) clean

-- a whole map commits to its items
pub map_commits : (half : Half) → IsHalf half → (nodes : Lookup) → AreOwn half nodes → AreByteForms nodes → (kind : Kind) (root : Hash)
    → length root ≡ 32 → IsWholeMap half nodes kind root → Commits half nodes kind root
unfolding walk_map form_at
map_commits half is_half nodes own forms kind root size whole =
    let sized : Sized half = is_half.size in
    let is : Made half sized nodes (λ h form e. sym (own h form e)) kind 64 None [] root (items_of half nodes kind root) =
    made half sized nodes (λ h form e. sym (own h form e)) kind 64 None [] root refl size whole
    in
    let all : part (items_of half nodes kind root) [] ≡ items_of half nodes kind root =
    filter_all (λ (e : Entry). lies_under [] e.0) (items_of half nodes kind root) is.under in
    record {
      are = record { rising = is.rising; each = is.each; bytes = byte_items half sized nodes forms kind is_half.bytes root };
      root_is = is.root (items_of half nodes kind root) all;
    }

-- a root in a header has 32 bytes
root_size : (bytes : Bytes) (at : ℕ) → length bytes ≡ 118 → at ≤ 86 → length (take 32 (drop at bytes)) ≡ 32
root_size bytes at size within = length-take-le 32 (drop at bytes) (omega (arith, length-drop at bytes))

-- a whole ledger commits to its items
pub ledger_commits : (half : Half) → IsHalf half → (nodes : Lookup) → AreOwn half nodes → AreByteForms nodes
    → (target : Hash) (bytes : Bytes) → header_in nodes target ≡ Some bytes → Whole half nodes target
    → Commits half nodes State (state_root_of bytes) × Commits half nodes Tx (tx_root_of bytes)
unfolding walk_ledger
ledger_commits half is_half nodes own forms target bytes stored whole = at (nodes target) stored whole
  where
    by_header : (form : Bytes) (o : Option Bytes) → header_of form ≡ o → o ≡ Some bytes
        → filter_map found (met Header target None (header_or_foreign o) ∷ maps_of half nodes (header_or_foreign o)) ≡ []
        → Commits half nodes State (state_root_of bytes) × Commits half nodes Tx (tx_root_of bytes)
    by_header form None is e clean = let no : None ≡ Some bytes = e in cc
    by_header form (Some b) is e clean =
        let same : b ≡ bytes = cc in
        let size : length bytes ≡ 118 = (holds_header half form bytes (is ∙ e)).0 in
        let both : IsWholeMap half nodes State (state_root_of b) × IsWholeMap half nodes Tx (tx_root_of b) =
        both_nil _ _ (sym (filter_map-append found (walk_map half nodes State (state_root_of b)) (walk_map half nodes Tx (tx_root_of b)))
        ∙ clean)
        in (
          map_commits half is_half nodes own forms State (state_root_of bytes) (root_size bytes 76 size (lit≤ tt))
              (subst (λ x. IsWholeMap half nodes State (state_root_of x)) same both.0),
          map_commits half is_half nodes own forms Tx (tx_root_of bytes) (root_size bytes 44 size (lit≤ tt))
              (subst (λ x. IsWholeMap half nodes Tx (tx_root_of x)) same both.1),
        )

    at : (o : Option Bytes) → option_and_then header_of o ≡ Some bytes
        → filter_map found (met Header target None (header_sight o) ∷ maps_of half nodes (header_sight o)) ≡ []
        → Commits half nodes State (state_root_of bytes) × Commits half nodes Tx (tx_root_of bytes)
    at None e clean = let no : None ≡ Some bytes = e in cc
    at (Some form) e clean = by_header form (header_of form) refl e clean
