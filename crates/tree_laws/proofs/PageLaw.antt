-- What nodes say of a page is what the places that they stand for hold.
use Rattle.std.proofs.Common.{◌≡◌, ◌⊎◌, inl, inr, ⊎_elim, ◌≤◌, ◌<◌, ◌+◌, ◌-◌, ◌==◌, ◌&&◌, ◌||◌, ℕ, zero, suc, Bool, true, false}
use Rattle.std.proofs.Common.{if◌then◌else◌, cond, List, [], ◌∷◌, ◌++◌, length, take, drop, is_none, Option, None, Some, refl, sym, ap}
use Rattle.std.proofs.Common.{◌∙◌, subst, arith, length-take, flat_map}
use Rattle.std.proofs.lemmas.Bool.{eqb-true, eqb-false, and_parts, or_cases, or_parts}
use Rattle.std.proofs.lemmas.List.{take-append-drop}
use Rattle.std.proofs.lemmas.List.Elements.{filter-append}
use Rattle.std.proofs.lemmas.Slice.Eq.{bytes_eq-Decides}
use Rattle.std.specs.declared.cmp.Ordering.{Ordering}
use Rattle.std.specs.declared.cmp.Ordering.TheVariants.{Less, Equal, Greater}
use Rattle.std.specs.Ordering.{is_gt, is_lt, nat_cmp, ordering_then}
use Rattle.std.specs.Cmp.Lexicographic.{slice_cmp}
use Rattle.std.specs.List.{slice_index_or, filter, range_with_len, AllByRecursion}
use Rattle.nib_path.specs.Paths.{nibbles, lies_under}
use Rattle.ledger_spec.specs.declared.Kind.{Kind}
use Rattle.ledger_spec.specs.Maps.{hash_cmp}
use Rattle.ledger_spec.specs.Bytes.{Bytes, Hash, Half, Items, zero_hash, is_zero, branches, same_bytes}
use Rattle.ledger_spec.specs.Forms.{Held, inner, leaf, header, hash_of}
use Rattle.ledger_spec.specs.Rules.{fault_of}
use Rattle.ledger_spec.specs.Tree.{Entry}
use Rattle.ledger_spec.specs.Pages.{is_behind, after_key, is_passed, Heard, said, wants, wrong, go_on, followed_by, Reading, in_turn}
use Rattle.ledger_spec.specs.Pages.{leaf_entries, said_by, said_at, is_skipped, page_from}
use Rattle.tree_laws.proofs.shared.Trees.{under_begins}
use Rattle.tree_laws.proofs.shared.Shapes.{none_is}
use Rattle.tree_laws.proofs.shared.Orders.{nibbles_cmp}
use Rattle.tree_laws.proofs.shared.Parts.{filter_none}

-- the first entries of a join
take_join : {X : Type 0} (n : ℕ) (xs ys : List X) → take n (xs ++ ys) ≡ take n xs ++ take (n - length (take n xs)) ys
take_join zero xs ys = refl
take_join (suc n) [] ys = let whole : suc n ≡ suc n - 0 = omega arith in ap (λ m. take m ys) whole
take_join (suc n) (x ∷ xs) ys =
    let less : suc n - suc (length (take n xs)) ≡ n - length (take n xs) = omega arith in
    ap (λ l. x ∷ l) (take_join n xs ys ∙ ap (λ m. take n xs ++ take m ys) (sym less))

after_join : (after : Hash) (n : ℕ) (xs ys : Items)
    → after_key after n (xs ++ ys) ≡ after_key after n xs ++ after_key after (n - length (after_key after n xs)) ys
after_join after n xs ys =
    ap (take n) (filter-append (is_behind after) xs ys) ∙ take_join n (filter (is_behind after) xs) (filter (is_behind after) ys)

-- a list that begins with a lesser front is less
front_less : (p q xs ys : List ℕ) → length p ≡ length q → slice_cmp nat_cmp p q ≡ Less → slice_cmp nat_cmp (p ++ xs) (q ++ ys) ≡ Less
front_less [] [] xs ys same e = let no : Equal ≡ Less = e in cc
front_less [] (y ∷ q) xs ys same e = absurd (omega arith)
front_less (x ∷ p) [] xs ys same e = absurd (omega arith)
front_less (x ∷ p) (y ∷ q) xs ys same e = by_heads (nat_cmp x y) (front_less p q xs ys (omega arith)) e
  where
    by_heads : (o : Ordering) → (slice_cmp nat_cmp p q ≡ Less → slice_cmp nat_cmp (p ++ xs) (q ++ ys) ≡ Less)
        → ordering_then o (slice_cmp nat_cmp p q) ≡ Less → ordering_then o (slice_cmp nat_cmp (p ++ xs) (q ++ ys)) ≡ Less
    by_heads Less go e = refl
    by_heads Equal go e = go e
    by_heads Greater go e = let no : Greater ≡ Less = e in cc

less_is : (o : Ordering) → is_lt o ≡ true → o ≡ Less
less_is Less e = refl
less_is Equal e = cc
less_is Greater e = cc

-- what lies under a passed path isn't behind the key
passed_under : (after : Hash) (path : List ℕ) (e : Entry) → length path ≤ length (nibbles after) → is_passed after path ≡ true
    → lies_under path e.0 ≡ true → is_behind after e ≡ false
passed_under after path e within is under =
    let front : nibbles e.0 ≡ path ++ drop (length path) (nibbles e.0) =
    sym (take-append-drop (length path) (nibbles e.0)) ∙ ap (λ (t : List ℕ). t ++ drop (length path) (nibbles e.0))
    (sym (under_begins path e.0 under))
    in
    let other : nibbles after ≡ take (length path) (nibbles after) ++ drop (length path) (nibbles after) =
    sym (take-append-drop (length path) (nibbles after)) in
    let sizes : length path ≡ length (take (length path) (nibbles after)) = omega (arith, length-take (length path) (nibbles after)) in
    let less : hash_cmp e.0 after ≡ Less =
    sym (nibbles_cmp e.0 after) ∙ ap (λ t. slice_cmp nat_cmp t (nibbles after)) front
    ∙ ap (slice_cmp nat_cmp (path ++ drop (length path) (nibbles e.0))) other
    ∙ front_less path (take (length path) (nibbles after)) _ _ sizes (less_is (hash_cmp path (take (length path) (nibbles after))) is)
    in
    ap is_gt less

none_behind : (after : Hash) (path : List ℕ) (items : Items) → length path ≤ length (nibbles after) → is_passed after path ≡ true
    → AllByRecursion (λ (e : Entry). lies_under path e.0 ≡ true) items
    → filter (is_behind after) items ≡ []
none_behind after path items within is under = filter_none (is_behind after) items
    (Rattle.tree_laws.proofs.shared.Orders.all_weaker (λ (e : Entry). lies_under path e.0 ≡ true) (λ e. is_behind after e ≡ false)
    (λ e u. passed_under after path e within is u) items under)

take_nothing : (n : ℕ) (xs : Items) → xs ≡ [] → take n xs ≡ []
take_nothing zero xs e = refl
take_nothing (suc n) xs e = ap (take (suc n)) e

-- one leaf's page
leaf_page : (after : Hash) (n : ℕ) (key bytes : Bytes) → leaf_entries after key bytes ≡ after_key after (suc n) ((key, bytes) ∷ [])
leaf_page after n key bytes = by_test (is_behind after (key, bytes))
  where
    one : Items
    one = (key, bytes) ∷ []

    by_test : (t : Bool) → (if t then one else []) ≡ take (suc n) (cond t one [])
    by_test true = ap (λ (l : Items). (key, bytes) ∷ l) (sym (take_nothing n [] refl))
    by_test false = refl

-- What stands at each place: Items of a place, the facts that are kept of it, and a way out
module _ (half : Half) (kind : Kind) (after : Hash) (whole : length (nibbles after) ≡ 64) (Among : Held → Type 0) (Out : Type 0)
    (At : ℕ → Option (List Hash) → List ℕ → Hash → Type 0) (items_at : ℕ → Option (List Hash) → List ℕ → Hash → Items)
    (level : (l : ℕ) (p : Option (List Hash)) (path : List ℕ) (h : Hash) → At l p path h → l + length path ≡ 64)
    (under : (l : ℕ) (p : Option (List Hash)) (path : List ℕ) (h : Hash) → At l p path h
    → AllByRecursion (λ (e : Entry). lies_under path e.0 ≡ true) (items_at l p path h))
    (at_zero : (l : ℕ) (p : Option (List Hash)) (path : List ℕ) (h : Hash) → At l p path h → is_zero h ≡ true
    → (items_at l p path h ≡ []) ⊎ Out)
    (at_leaf : (l : ℕ) (p : Option (List Hash)) (path : List ℕ) (h : Hash) (k : Kind) (key bytes : Bytes) → At l p path h
    → is_zero h ≡ false → Among (leaf k key bytes) → hash_of half (leaf k key bytes) ≡ h
    → fault_of (leaf k key bytes) p kind path ≡ None → (items_at l p path h ≡ (key, bytes) ∷ []) ⊎ Out)
    (at_inner : (l : ℕ) (p : Option (List Hash)) (path : List ℕ) (h : Hash) (hashes : List Hash) → At (suc l) p path h → is_zero h ≡ false
    → Among (inner hashes) → hash_of half (inner hashes) ≡ h
    → fault_of (inner hashes) p kind path ≡ None
    → ((items_at (suc l) p path h ≡ flat_map (λ b. items_at l (Some hashes) (path ++ b ∷ []) (slice_index_or hashes b zero_hash)) branches)
    × ((b : ℕ) → b < 16 → At l (Some hashes) (path ++ b ∷ []) (slice_index_or hashes b zero_hash))) ⊎ Out) where
  -- the reading says the first n entries behind the key, and leaves nodes that are among them
  abbrev pub Says : Items → ℕ → Heard → Type 0
  Says items n (said found rest) = ((found ≡ after_key after n items) × AllByRecursion Among rest) ⊎ Out
  Says items n (wants parent path h) = Unit {0}
  Says items n wrong = Unit {0}

  -- the same where the entries are equal
  says_same : (items others : Items) (n : ℕ) (o : Heard) → items ≡ others → Says items n o → Says others n o
  says_same items others n o e says = subst (λ i. Says i n o) e says

  -- one place, and then those that follow
  says_then : (g : ℕ → Items) (b : ℕ) (bs : List ℕ) (n : ℕ) (read : Reading) (o : Heard) → Says (g b) n o
      → ((m : ℕ) (rest : List Held) → AllByRecursion Among rest → Says (flat_map g bs) m (read m rest))
      → Says (g b ++ flat_map g bs) n (go_on (λ items rest. followed_by items (read (n - length items) rest)) o)
  says_then g b bs n read (wants parent path h) says go = tt
  says_then g b bs n read wrong says go = tt
  says_then g b bs n read (said items rest) says go =
      ⊎_elim (λ both. by_rest (read (n - length items) rest) both.0 (go (n - length items) rest both.1))
      (λ out. spread (read (n - length items) rest) out) says
    where
      spread : (o : Heard) → Out → Says (g b ++ flat_map g bs) n (followed_by items o)
      spread (wants parent path h) out = tt
      spread wrong out = tt
      spread (said more left) out = inr out

      by_rest : (o : Heard) → items ≡ after_key after n (g b) → Says (flat_map g bs) (n - length items) o
          → Says (g b ++ flat_map g bs) n (followed_by items o)
      by_rest (wants parent path h) is says = tt
      by_rest wrong is says = tt
      by_rest (said more left) is says =
          ⊎_elim
          (λ both.
          inl (
            ap (λ l. items ++ l) both.0 ∙ ap (λ l. l ++ after_key after (n - length l) (flat_map g bs)) is
                ∙ sym (after_join after n (g b) (flat_map g bs)),
            both.1,
          ))
          inr says

  in_turn_says : (g : ℕ → Items) (read : ℕ → Reading)
      → ((b m : ℕ) (rest : List Held) → b < 16 → AllByRecursion Among rest → Says (g b) m (read b m rest))
      → (a count : ℕ) → a + count ≤ 16 → (n : ℕ) (used : List Held) → AllByRecursion Among used
      → Says (flat_map g (range_with_len a count)) n (in_turn read (range_with_len a count) n used)
  in_turn_says g read each a zero within n used among = inl (sym (take_nothing n [] refl), among)
  in_turn_says g read each a (suc count) within n used among =
      says_then g a (range_with_len (a + 1) count) n (in_turn read (range_with_len (a + 1) count)) (read a n used)
      (each a n used (omega arith) among)
      (λ m rest among'. in_turn_says g read each (a + 1) count (omega arith) m rest among')

  -- what is skipped has no entry that is wanted
  skipped_says : (l : ℕ) (p : Option (List Hash)) (path : List ℕ) (h : Hash) (n : ℕ) (used : List Held) → At l p path h
      → AllByRecursion Among used → is_skipped after path h n ≡ true
      → Says (items_at l p path h) n (said [] used)
  skipped_says l p path h n used at among is =
      ⊎_elim (λ none. inl (sym (ap (λ m. after_key after m (items_at l p path h)) (eqb-true n 0 none)), among))
      (λ rest.
      ⊎_elim
      (λ zero_h. ⊎_elim (λ none. inl (sym (ap (after_key after n) none ∙ take_nothing n [] refl), among)) inr
      (at_zero l p path h at zero_h))
      (λ gone. inl (
        sym (take_nothing n _
            (none_behind after path (items_at l p path h) (omega (arith, whole, level l p path h at)) gone (under l p path h at))),
        among,
      ))
      (or_cases (is_zero h) (is_passed after path) rest))
      (or_cases (n == 0) (is_zero h || is_passed after path) is)

  -- a node at its place
  node_says : (l : ℕ) (p : Option (List Hash)) (path : List ℕ) (h : Hash) (below : List Hash → Reading) (n : ℕ) (used : List Held)
      → At l p path h → is_zero h ≡ false → AllByRecursion Among used
      → ((hashes : List Hash) (rest : List Held) → Among (inner hashes) → hash_of half (inner hashes) ≡ h
      → fault_of (inner hashes) p kind path ≡ None → AllByRecursion Among rest
      → Says (items_at l p path h) (suc n) (below hashes (suc n) rest))
      → Says (items_at l p path h) (suc n) (said_at half kind after p path h below (suc n) used)
  node_says l p path h below n [] at some among go = tt
  node_says l p path h below n (x ∷ rest) at some among go = by_test
      (same_bytes (hash_of half x) h && is_none (fault_of x p kind path)) refl
    where
      by_node : (y : Held) → Among y → hash_of half y ≡ h → fault_of y p kind path ≡ None
          → Says (items_at l p path h) (suc n) (said_by after below y (suc n) rest)
      by_node (leaf k key bytes) first same fits =
          ⊎_elim (λ is. inl (leaf_page after n key bytes ∙ sym (ap (after_key after (suc n)) is), among.1)) inr
          (at_leaf l p path h k key bytes at some first same fits)
      by_node (inner hashes) first same fits = go hashes rest first same fits among.1
      by_node (header bytes) first same fits = tt

      by_test : (t : Bool) → (same_bytes (hash_of half x) h && is_none (fault_of x p kind path)) ≡ t
          → Says (items_at l p path h) (suc n) (if t then said_by after below x (suc n) rest else wrong)
      by_test false is = tt
      by_test true is =
          let both = and_parts (same_bytes (hash_of half x) h) (is_none (fault_of x p kind path)) is in
          by_node x among.0 ((bytes_eq-Decides (hash_of half x) h).0 both.0) (none_is (fault_of x p kind path) both.1)

  -- a place that isn't skipped wants some entry and has a hash that isn't zero
  wanted : (path : List ℕ) (h : Hash) (n : ℕ) → is_skipped after path h n ≡ false → (1 ≤ n) × (is_zero h ≡ false)
  wanted path h n is =
      let one = or_parts (n == 0) (is_zero h || is_passed after path) is in
      let other : n ≡ 0 → ⊥ = eqb-false n 0 one.0 in
      (omega arith, (or_parts (is_zero h) (is_passed after path) one.1).0)

  says_at_level : (l : ℕ) (p : Option (List Hash)) (path : List ℕ) (h : Hash) (below : List Hash → Reading) (n : ℕ) (used : List Held)
      → At l p path h → AllByRecursion Among used
      → ((m : ℕ) (hashes : List Hash) (rest : List Held) → is_zero h ≡ false → Among (inner hashes) → hash_of half (inner hashes) ≡ h
      → fault_of (inner hashes) p kind path ≡ None → AllByRecursion Among rest
      → Says (items_at l p path h) (suc m) (below hashes (suc m) rest))
      → Says (items_at l p path h) n (if is_skipped after path h n then said [] used else said_at half kind after p path h below n used)
  says_at_level l p path h below n used at among go = by_test (is_skipped after path h n) refl
    where
      by_n : (m : ℕ) → 1 ≤ m → is_zero h ≡ false → Says (items_at l p path h) m (said_at half kind after p path h below m used)
      by_n zero some nonzero = absurd (omega arith)
      by_n (suc m) some nonzero = node_says l p path h below m used at nonzero among (λ hashes rest. go m hashes rest nonzero)

      by_test : (t : Bool) → is_skipped after path h n ≡ t
          → Says (items_at l p path h) n (if t then said [] used else said_at half kind after p path h below n used)
      by_test true is = skipped_says l p path h n used at among is
      by_test false is = let w = wanted path h n is in by_n n w.0 w.1

  -- what the nodes say of a place is its first entries behind the key
  pub page_says : (l : ℕ) (p : Option (List Hash)) (path : List ℕ) (h : Hash) (n : ℕ) (used : List Held) → At l p path h
      → AllByRecursion Among used
      → Says (items_at l p path h) n (page_from half kind after l p path h n used)
  unfolding page_from
  page_says zero p path h n used at among =
      says_at_level 0 p path h (λ hashes m rest. wrong) n used at among (λ m hashes rest nonzero first same fits among'. tt)
  page_says (suc l) p path h n used at among =
      says_at_level (suc l) p path h _ n used at among
      (λ m hashes rest nonzero first same fits among'.
      ⊎_elim
      (λ (is, kids).
      says_same (flat_map (λ b. items_at l (Some hashes) (path ++ b ∷ []) (slice_index_or hashes b zero_hash)) branches)
      (items_at (suc l) p path h) (suc m) _ (sym is)
      (in_turn_says (λ b. items_at l (Some hashes) (path ++ b ∷ []) (slice_index_or hashes b zero_hash))
      (λ b. page_from half kind after l (Some hashes) (path ++ b ∷ []) (slice_index_or hashes b zero_hash))
      (λ b k left below among''. page_says l (Some hashes) (path ++ b ∷ []) (slice_index_or hashes b zero_hash) k left
      (kids b below) among'')
      0 16 (omega arith) (suc m) rest among'))
      (λ out. spread m _ out)
      (at_inner l p path h hashes at nonzero first same fits))
    where
      spread : (m : ℕ) (o : Heard) → Out → Says (items_at (suc l) p path h) (suc m) o
      spread m (wants parent path' g) out = tt
      spread m wrong out = tt
      spread m (said found left) out = inr out
