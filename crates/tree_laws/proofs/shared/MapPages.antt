-- The pages of a map, by what nodes say of its root. For proofs of other crates.
use Rattle.std.proofs.Common.{◌≡◌, ◌⊎◌, inl, inr, ⊎_elim, ◌≤◌, ◌<◌, ◌+◌, ℕ, zero, suc, Bool, true, false, cond, List, [], ◌∷◌, ◌++◌}
use Rattle.std.proofs.Common.{length, take, Option, None, Some, refl, sym, ap, ◌∙◌, subst, arith, length-append, flat_map}
use Rattle.std.proofs.lemmas.Bool.{cond-true, cond-false, cases_eq, false≢true}
use Rattle.std.proofs.lemmas.List.{take_more}
use Rattle.std.specs.declared.cmp.Ordering.TheVariants.{Less, Greater}
use Rattle.std.specs.Ordering.{ordering_reverse}
use Rattle.std.specs.Cmp.Lexicographic.{nat_list_cmp_total}
use Rattle.std.specs.Map.{keys_of}
use Rattle.std.specs.List.{slice_index_or, filter, range_with_len, Contains, AllByRecursion}
use Rattle.std.specs.List.Sorted.{IsStrictlySortedBy}
use Rattle.nib_path.specs.Paths.{nibbles, nibble_of, lies_under, length-nibbles}
use Rattle.ledger_spec.specs.declared.Kind.{Kind}
use Rattle.ledger_spec.specs.Maps.{hash_cmp, IsMap}
use Rattle.ledger_spec.specs.Bytes.{Bytes, Hash, Half, Items, zero_hash, is_zero, branches}
use Rattle.ledger_spec.specs.Forms.{Held, inner, leaf, hash_of}
use Rattle.ledger_spec.specs.Rules.{fault_of}
use Rattle.ledger_spec.specs.Tree.{Entry, AreItems, part, root_of}
use Rattle.ledger_spec.specs.Reads.{Shows, IsKey, AreNodes}
use Rattle.ledger_spec.specs.Pages.{after_key, Heard, said, wants, wrong, page_from, heard_from, IsPageOf, IsPageOrShows}
use Rattle.tree_laws.proofs.shared.Trees.{Sized, at_itself, under_begins, under_from, under_whole}
use Rattle.tree_laws.proofs.shared.Shapes.{below_at}
use Rattle.tree_laws.proofs.Shapes.{KeepsLeaf, keeps_leaf}
use Rattle.tree_laws.proofs.Standing.{Here, node_at, empty_at, Leaf, leaf_at, step, at_root}
use Rattle.tree_laws.proofs.shared.ByteItems.{keys_of_items}
use Rattle.tree_laws.proofs.shared.Orders.{branch_less}
use Rattle.tree_laws.proofs.shared.Parts.{filter_none, filter_all, under_other}
use Rattle.tree_laws.proofs.Parts.{under_up}
use Rattle.tree_laws.proofs.PageLaw.{page_says}

-- a map's entries that pass a test are a map
keys_kept : (P : Hash → Type 0) (test : Entry → Bool) (items : Items) → AllByRecursion P (keys_of items)
    → AllByRecursion P (keys_of (filter test items))
keys_kept P test [] all = tt
keys_kept P test (x ∷ items) all = by_test (test x) (keys_kept P test items all.1)
  where
    by_test : (t : Bool) → AllByRecursion P (keys_of (filter test items))
        → AllByRecursion P (keys_of (cond t (x ∷ filter test items) (filter test items)))
    by_test true rest = (all.0, rest)
    by_test false rest = rest

pub map_kept : (test : Entry → Bool) (items : Items) → IsMap hash_cmp items → IsMap hash_cmp (filter test items)
unfolding IsStrictlySortedBy
map_kept test [] sorted = tt
map_kept test (x ∷ items) sorted = by_test (test x) (map_kept test items sorted.1)
  where
    by_test : (t : Bool) → IsMap hash_cmp (filter test items) → IsMap hash_cmp (cond t (x ∷ filter test items) (filter test items))
    by_test true rest = (keys_kept (λ k. hash_cmp x.0 k ≡ Less) test items sorted.0, rest)
    by_test false rest = rest

-- two keys under a path of 64 nibbles don't rise
one_at_bottom : (path : List ℕ) (e : Entry) (others : Items) → length path ≡ 64 → IsMap hash_cmp (e ∷ others)
    → AllByRecursion (λ (x : Entry). length x.0 ≡ 32) (e ∷ others)
    → AllByRecursion (λ (x : Entry). lies_under path x.0 ≡ true) (e ∷ others) → others ≡ []
unfolding IsStrictlySortedBy
one_at_bottom path e [] deep sorted sizes under = refl
one_at_bottom path e (f ∷ others) deep sorted sizes under =
    let same : e.0 ≡ f.0 = under_whole path e.0 f.0 deep sizes.0 sizes.1.0 under.0 under.1.0 in
    let equal : Rattle.std.specs.Ordering.is_eq (hash_cmp e.0 f.0) ≡ true = at_itself e.0 f.0 same in
    absurd (false≢true (sym (ap Rattle.std.specs.Ordering.is_eq sorted.0.0) ∙ equal))

-- the entries under a path
pub all_under : (path : List ℕ) (items : Items) → AllByRecursion (λ (e : Entry). lies_under path e.0 ≡ true) (part items path)
all_under path [] = tt
all_under path (x ∷ items) = by_test (lies_under path x.0) refl (all_under path items)
  where
    by_test : (t : Bool) → lies_under path x.0 ≡ t → AllByRecursion (λ (e : Entry). lies_under path e.0 ≡ true) (part items path)
        → AllByRecursion (λ (e : Entry). lies_under path e.0 ≡ true) (cond t (x ∷ part items path) (part items path))
    by_test true is rest = (is, rest)
    by_test false is rest = rest

-- an entry stands first, where the branches before its own are empty
no_entries : (g : ℕ → Items) (a n : ℕ) → ((b : ℕ) → a ≤ b → b < a + n → g b ≡ []) → flat_map g (range_with_len a n) ≡ []
no_entries g a zero none = refl
no_entries g a (suc n) none =
    ap (λ l. l ++ flat_map g (range_with_len (a + 1) n)) (none a (omega arith) (omega arith))
    ∙ no_entries g (a + 1) n (λ b from upto. none b (omega arith) (omega arith))

same_entries : (f g : ℕ → Items) (a n : ℕ) → ((b : ℕ) → a ≤ b → f b ≡ g b)
    → flat_map f (range_with_len a n) ≡ flat_map g (range_with_len a n)
same_entries f g a zero same = refl
same_entries f g a (suc n) same =
    ap (λ l. l ++ flat_map f (range_with_len (a + 1) n)) (same a (omega arith))
    ∙ ap (λ l. g a ++ l) (same_entries f g (a + 1) n (λ b from. same b (omega arith)))

first_entry : (f g : ℕ → Items) (e : Entry) (c a n : ℕ) → a ≤ c → c < a + n → f c ≡ e ∷ g c → ((b : ℕ) → (b ≡ c → ⊥) → f b ≡ g b)
    → ((b : ℕ) → b < c → g b ≡ [])
    → flat_map f (range_with_len a n) ≡ e ∷ flat_map g (range_with_len a n)
first_entry f g e c a zero from upto at others before = absurd (omega arith)
first_entry f g e c a (suc n) from upto at others before =
    ⊎_elim
    (λ (here : a ≡ c).
    let own : f a ≡ e ∷ g a = ap f here ∙ at ∙ ap (λ b. e ∷ g b) (sym here) in
    ap (λ l. l ++ flat_map f (range_with_len (a + 1) n)) own ∙ ap (λ l. e ∷ (g a ++ l))
    (same_entries f g (a + 1) n (λ b after. others b (λ same. omega arith))))
    (λ (away : a ≡ c → ⊥).
    let none : g a ≡ [] = before a (omega arith) in
    ap (λ l. l ++ flat_map f (range_with_len (a + 1) n)) (others a away ∙ none)
    ∙ first_entry f g e c (a + 1) n (omega arith) (omega arith) at others before
    ∙ ap (λ l. e ∷ (l ++ flat_map g (range_with_len (a + 1) n))) (sym none))
    (cases_eq a c)

-- a greater key isn't less
greater_not_less : (k l : Hash) → hash_cmp k l ≡ Less → hash_cmp l k ≡ Less → ⊥
greater_not_less k l up down =
    let turned : Less ≡ Greater = sym up ∙ nat_list_cmp_total.antisymm k l ∙ ap ordering_reverse down in
    cc

-- what lies under a path lies under its branches, in order
pub part_branches : (path : List ℕ) (items : Items) → length path < 64 → IsMap hash_cmp items
    → AllByRecursion (λ (e : Entry). IsKey e.0) items → part items path ≡ flat_map (λ b. part items (path ++ b ∷ [])) branches
unfolding IsStrictlySortedBy
part_branches path [] up sorted keys = refl
part_branches path (e ∷ items) up sorted keys = by_test (lies_under path e.0) refl (part_branches path items up sorted.1 keys.1)
  where
    rest : ℕ → Items
    rest b = part items (path ++ b ∷ [])

    all : ℕ → Items
    all b = cond (lies_under (path ++ b ∷ []) e.0) (e ∷ part items (path ++ b ∷ [])) (part items (path ++ b ∷ []))

    before_none : (c b : ℕ) (l : Items) → lies_under (path ++ c ∷ []) e.0 ≡ true → b < c
        → AllByRecursion (λ k. hash_cmp e.0 k ≡ Less) (keys_of l) → part l (path ++ b ∷ []) ≡ []
    before_none c b l under less above = filter_none (λ (f : Entry). lies_under (path ++ b ∷ []) f.0) l (each l above)
      where
        apart : (f : Entry) → hash_cmp e.0 f.0 ≡ Less → (t : Bool) → lies_under (path ++ b ∷ []) f.0 ≡ t
            → lies_under (path ++ b ∷ []) f.0 ≡ false
        apart f up false is = is
        apart f up true is = absurd (greater_not_less e.0 f.0 up (branch_less path b c f.0 e.0 less is under))

        each : (m : Items) → AllByRecursion (λ k. hash_cmp e.0 k ≡ Less) (keys_of m)
            → AllByRecursion (λ (f : Entry). lies_under (path ++ b ∷ []) f.0 ≡ false) m
        each [] all = tt
        each (f ∷ m) all = (apart f all.0 (lies_under (path ++ b ∷ []) f.0) refl, each m all.1)

    by_test : (t : Bool) → lies_under path e.0 ≡ t → part items path ≡ flat_map (λ b. part items (path ++ b ∷ [])) branches
        → cond t (e ∷ part items path) (part items path) ≡ flat_map
        (λ b. cond (lies_under (path ++ b ∷ []) e.0) (e ∷ part items (path ++ b ∷ [])) (part items (path ++ b ∷ []))) branches
    by_test false is tail =
        tail
        ∙ sym (ap (λ (f : ℕ → Items). flat_map f branches)
        (λ i b. cond-false (lies_under (path ++ b ∷ []) e.0) (e ∷ part items (path ++ b ∷ [])) (part items (path ++ b ∷ []))
        (outside b (lies_under (path ++ b ∷ []) e.0) refl) i))
      where
        outside : (b : ℕ) (t : Bool) → lies_under (path ++ b ∷ []) e.0 ≡ t → lies_under (path ++ b ∷ []) e.0 ≡ false
        outside b false e' = e'
        outside b true e' = absurd (false≢true (sym is ∙ under_up path b e.0 e'))
    by_test true is tail =
        let long : length (nibbles e.0) ≡ 64 = omega (arith, length-nibbles e.0, keys.0.size) in
        let c : ℕ = nibble_of e.0 (length path) in
        let more : take (length path + 1) (nibbles e.0) ≡ take (length path) (nibbles e.0) ++ nibble_of e.0 (length path) ∷ [] =
        take_more (nibbles e.0) (length path) 0 (omega arith) in
        let sizes : length (path ++ nibble_of e.0 (length path) ∷ []) ≡ length path + 1 =
        length-append path (nibble_of e.0 (length path) ∷ []) in
        let under : lies_under (path ++ nibble_of e.0 (length path) ∷ []) e.0 ≡ true =
        under_from (path ++ nibble_of e.0 (length path) ∷ []) e.0
        (ap (λ (p : List ℕ). p ++ nibble_of e.0 (length path) ∷ []) (under_begins path e.0 is) ∙ sym more
        ∙ ap (λ n. take n (nibbles e.0)) (sym sizes))
        in
        let low : nibble_of e.0 (length path) < 16 = below_at (nibbles e.0) (length path) keys.0.path.nibbles_below (omega arith) in
        ap (λ l. e ∷ l) tail
        ∙ sym (first_entry (λ b. cond (lies_under (path ++ b ∷ []) e.0) (e ∷ part items (path ++ b ∷ [])) (part items (path ++ b ∷ [])))
        (λ b. part items (path ++ b ∷ [])) e
        (nibble_of e.0 (length path)) 0 16 (omega arith) (omega arith) (cond-true _ _ _ under)
        (λ b away. cond-false (lies_under (path ++ b ∷ []) e.0) _ _
        (under_other path (nibble_of e.0 (length path)) b e.0 (λ same. away (sym same)) under))
        (λ b less. before_none (nibble_of e.0 (length path)) b items under less sorted.0))

module _ (half : Half) (sized : Sized half) (kind : Kind) (root after : Hash) (is_key : IsKey after) (used : List Held)
    (held : AreNodes half kind used) (items : Items) (are : AreItems half kind items) where
  abbrev On : List ℕ → Hash → Type 0
  On path h = Here half sized kind root used held items are path h

  abbrev Collides : Type 0
  Collides = Shows half kind items root used

  abbrev At : ℕ → Option (List Hash) → List ℕ → Hash → Type 0
  At l p path h = (l + length path ≡ 64) × On path h

  abbrev Among : Held → Type 0
  Among n = Contains used n

  leaf_part : (l : ℕ) (p : Option (List Hash)) (path : List ℕ) (h : Hash) (k : Kind) (key bytes : Bytes) → At l p path h → is_zero h ≡ false
      → Among (leaf k key bytes) → hash_of half (leaf k key bytes) ≡ h
      → fault_of (leaf k key bytes) p kind path ≡ None → (part items path ≡ (key, bytes) ∷ []) ⊎ Collides
  leaf_part l p path h k key bytes at some among is fits =
      let kept : KeepsLeaf kind k key path = keeps_leaf kind k key bytes p path fits in
      ⊎_elim
      (λ same.
      let there : Leaf half sized kind root used held items are path key bytes =
      leaf_at half sized kind root used held items are path (omega (arith, at.0)) k key bytes
      (held (leaf k key bytes) among kept.kinds) same in
      inl (there.there ∙ one there))
      inr (node_at half sized kind root used held items are path h at.1 (leaf k key bytes) among is)
    where
      one : (there : Leaf half sized kind root used held items are path key bytes) → there.e ∷ there.others ≡ (key, bytes) ∷ []
      one there =
          let none : there.others ≡ [] =
          ⊎_elim (λ e. e)
          (λ deep.
          one_at_bottom path there.e there.others deep
          (subst (λ (l : Items). IsMap hash_cmp l) there.there (map_kept (λ (x : Entry). lies_under path x.0) items are.rising))
          there.sizes
          (subst (AllByRecursion (λ (x : Entry). lies_under path x.0 ≡ true)) there.there (all_under path items)))
          there.alone
          in
          ap (λ (o : Items). there.e ∷ o) none ∙ (λ i. (there.key_is i, there.data_is i) ∷ [])

  inner_part : (l : ℕ) (p : Option (List Hash)) (path : List ℕ) (h : Hash) (hashes : List Hash) → At (suc l) p path h → is_zero h ≡ false
      → Among (inner hashes) → hash_of half (inner hashes) ≡ h
      → fault_of (inner hashes) p kind path ≡ None
      → ((part items path ≡ flat_map (λ b. part items (path ++ b ∷ [])) branches)
      × ((b : ℕ) → b < 16 → At l (Some hashes) (path ++ b ∷ []) (slice_index_or hashes b zero_hash))) ⊎ Collides
  inner_part l p path h hashes at some among is fits =
      ⊎_elim
      (λ same.
      inl (
        part_branches path items (omega (arith, at.0)) are.rising (keys_of_items half kind items are.each are.bytes),
        λ b low. (
          omega (arith, at.0, length-append path (b ∷ [])),
          step half sized kind root used held items are path h hashes p b low at.1 among is fits same,
        ),
      ))
      inr (node_at half sized kind root used held items are path h at.1 (inner hashes) among is)

  all_among : (l : List Held) → ((n : Held) → Contains l n → Contains used n) → AllByRecursion Among l
  all_among [] within = tt
  all_among (x ∷ l) within =
      (within x (0, omega (arith), refl), all_among l (λ n there. within n (suc there.0, omega (arith, there.1), there.2)))

  pub page_of_map : root_of half kind items ≡ root → (n : ℕ) (page : Items) → IsPageOf half kind root after n used page
      → (page ≡ after_key after n items) ⊎ Collides
  unfolding heard_from
  page_of_map is n page says =
      by_said (page_from half kind after 64 None [] root n used) says
      (page_says half kind after (omega (arith, length-nibbles after, is_key.size)) Among Collides At (λ l p path h. part items path)
      (λ l p path h at. at.0) (λ l p path h at. all_under path items)
      (λ l p path h at none. empty_at half sized kind root used held items are path h at.1 none) leaf_part inner_part 64 None [] root n used
      (refl, at_root half sized kind root used held items are is) (all_among used (λ m there. there)))
    where
      whole : part items [] ≡ items
      whole = filter_all (λ (e : Entry). lies_under [] e.0) items (every items)
        where
          every : (l : Items) → AllByRecursion (λ (e : Entry). lies_under [] e.0 ≡ true) l
          every [] = tt
          every (x ∷ l) = (refl, every l)

      by_said : (o : Heard) → o ≡ said page [] → Rattle.tree_laws.proofs.PageLaw.Says half kind after
          (omega (arith, length-nibbles after, is_key.size)) Among Collides At (λ l p path h. part items path) (λ l p path h at. at.0)
          (λ l p path h at. all_under path items)
          (λ l p path h at none. empty_at half sized kind root used held items are path h at.1 none) leaf_part inner_part
          (part items []) n o
          → (page ≡ after_key after n items) ⊎ Collides
      by_said (wants p path h) e says' = let no : wants p path h ≡ said page [] = e in cc
      by_said wrong e says' = let no : wrong ≡ said page [] = e in cc
      by_said (said found rest) e says' =
          let same : found ≡ page = cc (e) in
          ⊎_elim (λ both. inl (sym same ∙ both.0 ∙ ap (after_key after n) whole)) inr says'

-- the law
pub page_or_shows : (half : Half) → Sized half → (kind : Kind) (root after : Hash) (n : ℕ) (used : List Held) (page : Items) → IsKey after
    → AreNodes half kind used
    → IsPageOf half kind root after n used page → IsPageOrShows half kind root after n used page
page_or_shows half sized kind root after n used page is_key held says items are is =
    page_of_map half sized kind root after is_key used held items are is n page says
