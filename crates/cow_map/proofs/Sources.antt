-- A map over a source's root stands for the leaves that the walk meets, where its tree is whole.
use Rattle.std.proofs.Common.{◌≡◌, ◌≢◌, ◌⊎◌, inl, inr, ℕ, zero, suc, ◌+◌, ◌<◌, ◌≤◌, ◌==◌, ◌&&◌, nat_le, Bool, true, false}
use Rattle.std.proofs.Common.{if◌then◌else◌, List, [], ◌∷◌, ◌++◌, length, map, Option, None, Some, refl, sym, ap, ◌∙◌, subst, arith}
use Rattle.std.proofs.Common.{IsTrue, slice_index_or, length-append, count_by}
use Rattle.std.specs.List.{flat_map, list_any, cons_option}
use Rattle.std.proofs.lemmas.List.{get_or-map, length-map}
use Rattle.std.proofs.lemmas.Bool.{eq-eqb, le-leb}
use Rattle.ledger_spec.specs.declared.Kind.{Kind}
use Rattle.ledger_spec.specs.declared.Place.TheVariants.{Node}
use Rattle.ledger_spec.specs.Bytes.{Bytes, Hash, Half, Lookup, branches, zero_hash, is_zero, is_nonzero}
use Rattle.ledger_spec.specs.Forms as held
use Rattle.ledger_spec.specs.Forms.{Held}
use Rattle.ledger_spec.specs.Rules.{fault_of, is_lone}
use Rattle.ledger_spec.specs.Findings.{Sight, sound, sight_of, Met, walk, branches_of, item_at}
use Rattle.ledger_spec.specs.Tree.{Entry}
use Rattle.cow_map.specs.declared.link.Link.TheVariants.{Empty, Unloaded}
use Rattle.cow_map.specs.Bodies.{Body}
use Rattle.cow_map.specs.Trees.{one, fork, found_at, found_seen, found_held, fewest, Forks, StandsAt, link_to}
use Rattle.cow_map.proofs.Leading.{sight_judged}
use Rattle.cow_map.proofs.shared.Standing.{Below, stands_into}
use Rattle.cow_map.proofs.Standing.{stands_from}
use Rattle.cow_map.proofs.shared.Planting.{empty_stands}
use Rattle.cow_map.proofs.Settling.{two_lengths, kid_length, some_length, fewest_most, fewest_below}
use Rattle.cow_map.proofs.Maps.{stands_some}
use Rattle.cow_map.proofs.Sealing.{sound_form}
use Rattle.cow_map.proofs.BranchWalks.{found_in, leaves_in, without_parent, not_lone, no_finding, flat_findings, flat_leaves, all_at}
use Rattle.cow_map.proofs.BranchWalks.{counts_by, Sorted, nowhere, alone, several, sorts, item_held, at_bottom}

module _ (half : Half) (size : (x : Bytes) → length (half x) ≡ 32) (stored : Lookup) (kind : Kind) (nodes : List Body) where
  -- what is seen at a place
  abbrev SeenAt : Option (List Hash) → List ℕ → Hash → Sight
  SeenAt parent path h = sight_of half (λ n. fault_of n parent kind path) (stored h)

  -- what is below it
  abbrev Rest : ℕ → List ℕ → Sight → List Met
  Rest zero path s = []
  Rest (suc left) path s =
      branches_of s (λ hashes. flat_map
      (λ b. walk half stored kind left (Some hashes) (path ++ b ∷ []) (slice_index_or hashes b zero_hash)) branches)

  walk_none : (left : ℕ) (parent : Option (List Hash)) (path : List ℕ) (h : Hash) → is_zero h ≡ true
      → walk half stored kind left parent path h ≡ []
  unfolding walk
  walk_none zero parent path h z =
      ap (λ t. if t then [] else record { place = Node kind path; hash = h; parent = parent; sight = SeenAt parent path h } ∷ []) z
  walk_none (suc left) parent path h z =
      ap (λ t. if t then [] else record { place = Node kind path; hash = h; parent = parent; sight = SeenAt parent path h } ∷ Rest
      (suc left) path (SeenAt parent path h)) z

  walk_some : (left : ℕ) (parent : Option (List Hash)) (path : List ℕ) (h : Hash) → is_zero h ≡ false
      → walk half stored kind left parent path h ≡ record
      { place = Node kind path; hash = h; parent = parent; sight = SeenAt parent path h } ∷ Rest left path (SeenAt parent path h)
  unfolding walk
  walk_some zero parent path h z =
      ap (λ t. if t then [] else record { place = Node kind path; hash = h; parent = parent; sight = SeenAt parent path h } ∷ []) z
  walk_some (suc left) parent path h z =
      ap (λ t. if t then [] else record { place = Node kind path; hash = h; parent = parent; sight = SeenAt parent path h } ∷ Rest
      (suc left) path (SeenAt parent path h)) z

  -- what a place with no finding holds
  walk_sees : (left : ℕ) (parent : Option (List Hash)) (path : List ℕ) (h : Hash) → is_zero h ≡ false
      → found_in (walk half stored kind left parent path h) ≡ []
      → ((n : Held) × (SeenAt parent path h ≡ sound n)) × (found_in (Rest left path (SeenAt parent path h)) ≡ [])
  walk_sees left parent path h z e =
      no_finding (Node kind path) (SeenAt parent path h) (found_in (Rest left path (SeenAt parent path h)))
      (sym (ap found_in (walk_some left parent path h z)) ∙ e)

  found_unloaded : (parent : Option (List Hash)) (path : List ℕ) (h : Hash) (n : Held) → SeenAt parent path h ≡ sound n
      → found_at half stored kind nodes path (Unloaded h) ≡ found_held n
  found_unloaded parent path h n e =
      ap (found_seen h) (sight_judged half (λ m. fault_of m parent kind path) (λ m. fault_of m None kind path) (stored h) n e
      (without_parent n parent kind path))

  -- what the law says a level lower
  abbrev Stand : ℕ → Type 0
  Stand left = (parent : Option (List Hash)) (path : List ℕ) (h : Hash) → length path + left ≡ 64
      → found_in (walk half stored kind left parent path h) ≡ []
      → StandsAt half stored kind nodes left path (link_to h) (leaves_in (walk half stored kind left parent path h))

  pub link_some : (h : Hash) → is_zero h ≡ false → link_to h ≡ Unloaded h
  link_some h z = ap (λ t. if t then Empty else Unloaded h) z

  not_empty : (h : Hash) → Unloaded h ≢ Empty
  not_empty h e = cc

  leaf_stands : (left : ℕ) (parent : Option (List Hash)) (path : List ℕ) (h : Hash) (own : Kind) (key : Hash) (bytes : Bytes)
      → SeenAt parent path h ≡ sound (held.leaf own key bytes)
      → StandsAt half stored kind nodes left path (Unloaded h) ((key, bytes) ∷ [])
  leaf_stands left parent path h own key bytes e =
      let is = sound_form half size (λ m. fault_of m parent kind path) (stored h) (held.leaf own key bytes) e in
      stands_from half stored kind nodes left path (Unloaded h) ((key, bytes) ∷ []) (one key bytes)
      (found_unloaded parent path h (held.leaf own key bytes) e) record {
        item = item_held half own key bytes is.2.0;
        under = (not_lone own kind key bytes parent path is.3).1;
        alone = refl;
      }

  -- the walk below a branch
  abbrev Walked : ℕ → List Hash → List ℕ → ℕ → List Met
  Walked left hashes path b = walk half stored kind left (Some hashes) (path ++ b ∷ []) (slice_index_or hashes b zero_hash)

  pub branch_link : (hashes : List Hash) (b : ℕ) → length hashes ≡ 16 → b < 16
      → slice_index_or (map link_to hashes) b Empty ≡ link_to (slice_index_or hashes b zero_hash)
  branch_link hashes b width low = get_or-map link_to hashes b zero_hash Empty (omega arith)

  -- a branch that leads somewhere holds something
  kid_some : (left : ℕ) (path : List ℕ) (h : Hash) (items : List Entry) → is_zero h ≡ false
      → StandsAt half stored kind nodes left path (link_to h) items → 1 ≤ length items
  kid_some left path h items z stands =
      some_length items (stands_some half stored kind nodes left path (Unloaded h) items tt (not_empty h)
      (subst (λ l. StandsAt half stored kind nodes left path l items) (link_some h z) stands))

  -- the only branch of an inner node below the root leads to an inner node
  kid_two : (left : ℕ) (path : List ℕ) (hashes : List Hash) (c : ℕ) → count_by is_nonzero hashes ≡ 1 → 0 < length path
      → is_zero (slice_index_or hashes c zero_hash) ≡ false → found_in (Walked left hashes path c) ≡ []
      → (items : List Entry) → StandsAt half stored kind nodes left (path ++ c ∷ []) (link_to (slice_index_or hashes c zero_hash)) items
      → 2 ≤ length items
  kid_two left path hashes c count long z clean items stands =
      let h = slice_index_or hashes c zero_hash in
      let sees = walk_sees left (Some hashes) (path ++ c ∷ []) h z clean in
      by sees.0.0 sees.0.1 (subst (λ l. StandsAt half stored kind nodes left (path ++ c ∷ []) l items) (link_some h z) stands)
    where
      lone_is : is_lone (Some hashes) (path ++ c ∷ []) ≡ true
      lone_is =
          let deep : nat_le 2 (length (path ++ c ∷ [])) ≡ true =
          le-leb 2 (length (path ++ c ∷ [])) (omega (arith, length-append path (c ∷ []))) in
          let one_is : (count_by is_nonzero hashes == 1) ≡ true = eq-eqb (count_by is_nonzero hashes) 1 count in
          λ i. deep i && one_is i

      by : (n : Held) → SeenAt (Some hashes) (path ++ c ∷ []) (slice_index_or hashes c zero_hash) ≡ sound n
          → StandsAt half stored kind nodes left (path ++ c ∷ []) (Unloaded (slice_index_or hashes c zero_hash)) items → 2 ≤ length items
      by (held.header bytes) e stands =
          let is = sound_form half size (λ m. fault_of m (Some hashes) kind (path ++ c ∷ [])) (stored (slice_index_or hashes c zero_hash))
          (held.header bytes) e in
          let wrong : fault_of (held.header bytes) (Some hashes) kind (path ++ c ∷ []) ≡ None = is.3 in cc
      by (held.leaf own key bytes) e stands =
          let is = sound_form half size (λ m. fault_of m (Some hashes) kind (path ++ c ∷ [])) (stored (slice_index_or hashes c zero_hash))
          (held.leaf own key bytes) e in
          let wrong : true ≡ false = sym lone_is ∙ (not_lone own kind key bytes (Some hashes) (path ++ c ∷ []) is.3).0 in cc
      by (held.inner hs) e stands =
          let forks : Forks (Below half stored kind nodes left (path ++ c ∷ [])) (path ++ c ∷ []) (map link_to hs) items =
          stands_into half stored kind nodes left (path ++ c ∷ []) (Unloaded (slice_index_or hashes c zero_hash)) items
          (fork (map link_to hs)) (found_unloaded (Some hashes) (path ++ c ∷ []) (slice_index_or hashes c zero_hash) (held.inner hs) e)
          stands in
          fewest_below path c (length items) forks.enough

  fork_stands : (left : ℕ) → Stand left → (parent : Option (List Hash)) (path : List ℕ) (h : Hash) (hashes : List Hash)
      → length path + suc left ≡ 64 → SeenAt parent path h ≡ sound (held.inner hashes)
      → found_in (flat_map (Walked left hashes path) branches) ≡ []
      → StandsAt half stored kind nodes (suc left) path (Unloaded h) (leaves_in (flat_map (Walked left hashes path) branches))
  fork_stands left law parent path h hashes levels e clean =
      let is = sound_form half size (λ m. fault_of m parent kind path) (stored h) (held.inner hashes) e in
      let width : length hashes ≡ 16 = is.2.0.count in
      let each_clean = flat_findings (Walked left hashes path) branches clean in
      let clean_at : (b : ℕ) → b < 16 → found_in (Walked left hashes path b) ≡ [] =
      λ b low. all_at (λ c. found_in (Walked left hashes path c) ≡ []) 16 0 b each_clean (omega arith) (omega arith) in
      let kids : ℕ → List Entry = λ b. leaves_in (Walked left hashes path b) in
      let deeper : (b : ℕ) → length (path ++ b ∷ []) + left ≡ 64 = λ b. omega (arith, length-append path (b ∷ [])) in
      let stand_at : (b : ℕ) → b < 16
      → StandsAt half stored kind nodes left (path ++ b ∷ []) (link_to (slice_index_or hashes b zero_hash)) (kids b) =
      λ b low. law (Some hashes) (path ++ b ∷ []) (slice_index_or hashes b zero_hash) (deeper b) (clean_at b low) in
      let joined : leaves_in (flat_map (Walked left hashes path) branches) ≡ flat_map kids branches =
      flat_leaves (Walked left hashes path) branches in
      stands_from half stored kind nodes (suc left) path (Unloaded h) (leaves_in (flat_map (Walked left hashes path) branches))
      (fork (map link_to hashes)) (found_unloaded parent path h (held.inner hashes) e) record {
        width = length-map hashes link_to ∙ width;
        kids = kids;
        joined = joined;
        each = λ b low. subst (λ l. StandsAt half stored kind nodes left (path ++ b ∷ []) l (kids b))
            (sym (branch_link hashes b width low)) (stand_at b low);
        enough = enough_at (sorts hashes) width is.2.0.some kids stand_at clean_at (ap length joined) path refl;
      }
    where
      root_or : (p : List ℕ) → (p ≡ []) ⊎ (0 < length p)
      root_or [] = inl refl
      root_or (x ∷ p) = inr (omega arith)

      enough_at : Sorted hashes → length hashes ≡ 16 → IsTrue (list_any is_nonzero hashes) → (kids : ℕ → List Entry)
          → ((b : ℕ) → b < 16 → StandsAt half stored kind nodes left (path ++ b ∷ []) (link_to (slice_index_or hashes b zero_hash))
          (kids b)) → ((b : ℕ) → b < 16 → found_in (Walked left hashes path b) ≡ [])
          → length (leaves_in (flat_map (Walked left hashes path) branches)) ≡ length (flat_map kids branches) → (p : List ℕ) → p ≡ path
          → fewest p ≤ length (leaves_in (flat_map (Walked left hashes path) branches))
      enough_at (nowhere count any) width some kids stand_at clean_at size_is p same = let wrong : true ≡ false = sym some ∙ any in cc
      enough_at (several c d low high apart first second) width some kids stand_at clean_at size_is p same =
          let c_16 : c < 16 = omega arith in
          let d_16 : d < 16 = omega arith in
          let one_c = kid_some left (path ++ c ∷ []) (slice_index_or hashes c zero_hash) (kids c) first (stand_at c c_16) in
          let one_d = kid_some left (path ++ d ∷ []) (slice_index_or hashes d zero_hash) (kids d) second (stand_at d d_16) in
          fewest_most p _ (omega (arith, one_c, one_d, two_lengths kids c d c_16 d_16 apart, size_is))
      enough_at (alone c low first count) width some kids stand_at clean_at size_is [] same =
          let c_16 : c < 16 = omega arith in
          let one_c = kid_some left (path ++ c ∷ []) (slice_index_or hashes c zero_hash) (kids c) first (stand_at c c_16) in
          omega (arith, one_c, kid_length kids c c_16, size_is)
      enough_at (alone c low first count) width some kids stand_at clean_at size_is (x ∷ p) same =
          let c_16 : c < 16 = omega arith in
          let long : 0 < length path = subst (λ q. 0 < length q) same (omega arith) in
          let two_c = kid_two left path hashes c (sym (counts_by hashes) ∙ count) long first (clean_at c c_16) (kids c)
          (stand_at c c_16) in
          omega (arith, two_c, kid_length kids c c_16, size_is)

  held_law : (left : ℕ) (law : (n : ℕ) → left ≡ suc n → Stand n) (parent : Option (List Hash)) (path : List ℕ) (h : Hash)
      → length path + left ≡ 64 → (n : Held) → SeenAt parent path h ≡ sound n → found_in (Rest left path (SeenAt parent path h)) ≡ []
      → StandsAt half stored kind nodes left path (Unloaded h)
      (leaves_in (record { place = Node kind path; hash = h; parent = parent; sight = SeenAt parent path h } ∷ Rest left path
      (SeenAt parent path h)))
  held_law left law parent path h levels (held.header bytes) e clean =
      let is = sound_form half size (λ m. fault_of m parent kind path) (stored h) (held.header bytes) e in
      let wrong : fault_of (held.header bytes) parent kind path ≡ None = is.3 in cc
  held_law left law parent path h levels (held.leaf own key bytes) e clean =
      subst (λ s. StandsAt half stored kind nodes left path (Unloaded h) (cons_option (item_at s) (leaves_in (Rest left path s)))) (sym e)
      (subst (λ ms. StandsAt half stored kind nodes left path (Unloaded h) ((key, bytes) ∷ leaves_in ms)) (sym (no_rest left))
      (leaf_stands left parent path h own key bytes e))
    where
      no_rest : (n : ℕ) → Rest n path (sound (held.leaf own key bytes)) ≡ []
      no_rest zero = refl
      no_rest (suc n) = refl
  held_law zero law parent path h levels (held.inner hashes) e clean =
      let is = sound_form half size (λ m. fault_of m parent kind path) (stored h) (held.inner hashes) e in
      absurd (at_bottom (length path) (omega arith) is.3)
  held_law (suc left) law parent path h levels (held.inner hashes) e clean =
      subst (λ s. StandsAt half stored kind nodes (suc left) path (Unloaded h)
      (cons_option (item_at s) (leaves_in (Rest (suc left) path s)))) (sym e)
      (fork_stands left (law left refl) parent path h hashes levels e (subst (λ s. found_in (Rest (suc left) path s) ≡ []) e clean))

  -- what a place with no finding at it and below it stands for
  place_law : (left : ℕ) (law : (n : ℕ) → left ≡ suc n → Stand n) → Stand left
  place_law left law parent path h levels clean = by (is_zero h) refl
    where
      by : (t : Bool) → is_zero h ≡ t
          → StandsAt half stored kind nodes left path (link_to h) (leaves_in (walk half stored kind left parent path h))
      by true z =
          subst (λ ms. StandsAt half stored kind nodes left path (link_to h) (leaves_in ms)) (sym (walk_none left parent path h z))
          (subst (λ l. StandsAt half stored kind nodes left path l []) (sym (ap (λ t. if t then Empty else Unloaded h) z))
          (empty_stands half stored kind nodes left path))
      by false z =
          let sees = walk_sees left parent path h z clean in
          subst (λ ms. StandsAt half stored kind nodes left path (link_to h) (leaves_in ms)) (sym (walk_some left parent path h z))
          (subst (λ l. StandsAt half stored kind nodes left path l
          (leaves_in (record { place = Node kind path; hash = h; parent = parent; sight = SeenAt parent path h } ∷ Rest left path
          (SeenAt parent path h)))) (sym (link_some h z))
          (held_law left law parent path h levels sees.0.0 sees.0.1 sees.1))

  suc_is : (m n : ℕ) → suc m ≡ suc n → m ≡ n
  suc_is m n e = omega arith

  pub walk_law : (left : ℕ) → Stand left
  walk_law zero = place_law zero (λ n e. absurd (no_suc n e))
    where
      no_suc : (n : ℕ) → 0 ≡ suc n → ⊥
      no_suc n e = omega arith
  walk_law (suc left) = place_law (suc left) (λ n e. subst Stand (suc_is left n e) (walk_law left))
