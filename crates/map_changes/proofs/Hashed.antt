-- Where a map of links stands for entries and leaves nothing to a source, the hash of a link is that of the map's node at its place.
use Rattle.std.proofs.Common.{◌≡◌, ℕ, zero, suc, ◌+◌, ◌<◌, ◌≤◌, List, [], ◌∷◌, ◌++◌, length, map, Option, None, Some, refl}
use Rattle.std.proofs.Common.{sym, ap, ◌∙◌, subst, arith, slice_index_or, append_assoc, length-append}
use Rattle.std.specs.List.{slice_get, range_with_len}
use Rattle.std.specs.Option.{option_map}
use Rattle.std.proofs.Math.Seq.{get_or-append_seam}
use Rattle.ledger_spec.specs.declared.Kind.{Kind}
use Rattle.ledger_spec.specs.Bytes.{Bytes, Hash, Half, branches, zero_hash}
use Rattle.ledger_spec.specs.Forms.{inner_prefix, hash_or_zero}
use Rattle.ledger_spec.specs.Tree.{Entry, part, form_of_part}
use Rattle.tree_laws.proofs.shared.Subtrees.{inner_above, form_none, form_one, form_fork}
use Rattle.cow_map.specs.declared.link.Link.{Link}
use Rattle.cow_map.specs.declared.link.Link.TheVariants.{Empty, Unloaded, Own}
use Rattle.cow_map.specs.Bodies.{Body, leaf, inner, AreBodies}
use Rattle.cow_map.specs.Gathered.{nothing_held}
use Rattle.cow_map.specs.Seals.{form_below}
use Rattle.cow_map.specs.Trees.{Found, none, one, fork, lacks, breaks, found_at, found_body, fewest, Forks, Holds, StandsAt}
use Rattle.cow_map.proofs.shared.Leading.{body_none, body_one, body_fork}
use Rattle.cow_map.proofs.shared.Standing.{Below, stands_into, stands_under}
use Rattle.cow_map.proofs.shared.Filters.{part_kid, crowded}
use Rattle.cow_map.proofs.shared.Sealing.{by_index, flat_each}
use Rattle.map_changes.specs.Tracking.{link_hash}
use Rattle.map_changes.proofs.Linking.{leaf_is, inner_is}

-- lists by their places
map_from : {X Y : Type 0} (f : X → Y) (d : X) (pre xs : List X)
    → map f xs ≡ map (λ b. f (slice_index_or (pre ++ xs) b d)) (range_with_len (length pre) (length xs))
map_from f d pre [] = refl
map_from f d pre (x ∷ xs) =
    let here : x ≡ slice_index_or (pre ++ x ∷ xs) (length pre) d = sym (get_or-append_seam pre x xs d) in
    let longer : length (pre ++ x ∷ []) ≡ length pre + 1 = length-append pre (x ∷ []) in
    let seam : pre ++ x ∷ [] ++ xs ≡ pre ++ x ∷ xs = append_assoc pre (x ∷ []) xs in
    (λ i. f (here i) ∷ map_from f d (pre ++ x ∷ []) xs i)
    ∙ (λ i. f (slice_index_or (pre ++ x ∷ xs) (length pre) d)
    ∷ map (λ b. f (slice_index_or (seam i) b d)) (range_with_len (longer i) (length xs)))

pub map_by_index : {X Y : Type 0} (f : X → Y) (d : X) (xs : List X) → length xs ≡ 16
    → map f xs ≡ map (λ b. f (slice_index_or xs b d)) branches
map_by_index f d xs width = map_from f d [] xs ∙ ap (λ n. map (λ b. f (slice_index_or xs b d)) (range_with_len 0 n)) width

map_range : {Y : Type 0} (f g : ℕ → Y) (a n : ℕ) → ((b : ℕ) → b < a + n → f b ≡ g b)
    → map f (range_with_len a n) ≡ map g (range_with_len a n)
map_range f g a zero h = refl
map_range f g a (suc n) h =
    let head : f a ≡ g a = h a (omega arith) in
    let rest : map f (range_with_len (a + 1) n) ≡ map g (range_with_len (a + 1) n) = map_range f g (a + 1) n (λ b low. h b (omega arith)) in
    λ i. head i ∷ rest i

pub map_each : {Y : Type 0} (f g : ℕ → Y) → ((b : ℕ) → b < 16 → f b ≡ g b) → map f branches ≡ map g branches
map_each f g h = map_range f g 0 16 (λ b low. h b (omega arith))

pub some_within : {X : Type 0} (xs : List X) (i : ℕ) → i < length xs → slice_get xs i ≡ None → ⊥
some_within [] i low e = absurd (omega arith)
some_within (x ∷ xs) zero low e = cc
some_within (x ∷ xs) (suc i) low e = let lower : i < length xs = omega arith in some_within xs i lower e

pub fewest_some : (path : List ℕ) → 0 < fewest path
fewest_some [] = omega arith
fewest_some (n ∷ path) = omega arith

-- the form at a path where many entries lie
many_form : (half : Half) (kind : Kind) (all : List Entry) (left : ℕ) (path : List ℕ) (items : List Entry) → fewest path ≤ length items
    → form_of_part half kind all (suc left) path items ≡ Some (inner_above half kind all left path)
many_form half kind all left path [] enough = absurd (omega (arith, fewest_some path, enough))
many_form half kind all left path (e ∷ others) enough = form_fork half kind all left path e others (crowded path e others enough)

module _ (half : Half) (kind : Kind) (nodes : List Body) where
  abbrev pub found : List ℕ → Link → Found
  found path link = found_at half nothing_held kind nodes path link

  abbrev pub Stands : ℕ → List ℕ → Link → List Entry → Type 0
  Stands left path link items = StandsAt half nothing_held kind nodes left path link items

  -- a source that holds nothing gives nothing
  unloaded_lacks : (path : List ℕ) (h : Hash) → found path (Unloaded h) ≡ lacks h
  unloaded_lacks path h = refl

  no_link : (path : List ℕ) (link : Link) → found path link ≡ none → link_hash half kind nodes link ≡ zero_hash
  unfolding link_hash
  no_link path Empty e = refl
  no_link path (Own i) e =
      ap (λ o. hash_or_zero half (option_map (form_below half kind nodes (suc i)) o)) (body_none path (slice_get nodes i) e)
  no_link path (Unloaded h) e = let wrong : lacks h ≡ none = e in cc

  pub one_link : (path : List ℕ) (link : Link) (key : Hash) (bytes : Bytes) → found path link ≡ one key bytes
      → (i : ℕ) × (link ≡ Own i) × (slice_get nodes i ≡ Some (leaf key bytes))
  one_link path Empty key bytes e = cc
  one_link path (Own i) key bytes e = (i, refl, body_one path (slice_get nodes i) key bytes e)
  one_link path (Unloaded h) key bytes e = let wrong : lacks h ≡ one key bytes = e in cc

  pub fork_link : (path : List ℕ) (link : Link) (links : List Link) → found path link ≡ fork links
      → (i : ℕ) × (link ≡ Own i) × (slice_get nodes i ≡ Some (inner links))
  fork_link path Empty links e = cc
  fork_link path (Own i) links e = (i, refl, body_fork path (slice_get nodes i) links e)
  fork_link path (Unloaded h) links e = let wrong : lacks h ≡ fork links = e in cc

  -- a leaf stands below the root
  top_is_no_leaf : (o : Option Body) (key : Hash) (bytes : Bytes) → found_body [] o ≡ one key bytes → ⊥
  top_is_no_leaf None key bytes e = cc
  top_is_no_leaf (Some (leaf k v)) key bytes e = cc
  top_is_no_leaf (Some (inner links)) key bytes e = cc

  pub one_long : (path : List ℕ) (link : Link) (key : Hash) (bytes : Bytes) → found path link ≡ one key bytes → 0 < length path
  one_long [] Empty key bytes e = cc
  one_long [] (Own i) key bytes e = absurd (top_is_no_leaf (slice_get nodes i) key bytes e)
  one_long [] (Unloaded h) key bytes e = let wrong : lacks h ≡ one key bytes = e in cc
  one_long (n ∷ path) link key bytes e = omega arith

  -- the parts below the branches are what the branches stand for
  pub kid_stands : (all : List Entry) (left : ℕ) (path : List ℕ) (links : List Link) (items : List Entry)
      → Forks (Below half nothing_held kind nodes (suc left) path) path links items → part all path ≡ items
      → (b : ℕ) → b < 16 → Stands left (path ++ b ∷ []) (slice_index_or links b Empty) (part all (path ++ b ∷ []))
  kid_stands all left path links items forks whole b low =
      let kid_is = part_kid all path forks.kids b low (whole ∙ forks.joined)
      (λ c in_16. stands_under half nothing_held kind nodes left (path ++ c ∷ []) (slice_index_or links c Empty) (forks.kids c)
      (forks.each c in_16)) in
      subst (λ es. Stands left (path ++ b ∷ []) (slice_index_or links b Empty) es) (sym kid_is) (forks.each b low)

  -- the hash of what lies below a place
  abbrev pub Sub : List Entry → ℕ → List ℕ → List Entry → Hash
  Sub all left path items = hash_or_zero half (form_of_part half kind all left path items)

  none_law : (all : List Entry) (left : ℕ) (path : List ℕ) (link : Link) (items : List Entry) → found path link ≡ none → items ≡ []
      → link_hash half kind nodes link ≡ Sub all left path items
  none_law all left path link items e nothing =
      no_link path link e
      ∙ sym (ap (hash_or_zero half) (ap (form_of_part half kind all left path) nothing ∙ form_none half kind all left path))

  one_law : (all : List Entry) (left : ℕ) (path : List ℕ) (link : Link) (items : List Entry) (key : Hash) (bytes : Bytes)
      → found path link ≡ one key bytes → items ≡ (key, bytes) ∷ [] → link_hash half kind nodes link ≡ Sub all left path items
  one_law all left path link items key bytes e alone =
      let is = one_link path link key bytes e in
      ap (link_hash half kind nodes) is.1 ∙ leaf_is half kind nodes is.0 key bytes is.2
      ∙ sym (ap (hash_or_zero half) (ap (form_of_part half kind all left path) alone
      ∙ form_one half kind all left path (key, bytes) (one_long path link key bytes e)))

  -- what the law says of links a level lower
  abbrev Law : List Entry → ℕ → Type 0
  Law all left = (path : List ℕ) (link : Link) (items : List Entry) → Stands left path link items → part all path ≡ items
      → link_hash half kind nodes link ≡ Sub all left path items

  pub kid_hashes : (all : List Entry) (left : ℕ) → Law all left → (path : List ℕ) (links : List Link) (items : List Entry)
      → Forks (Below half nothing_held kind nodes (suc left) path) path links items → part all path ≡ items → (b : ℕ) → b < 16
      → link_hash half kind nodes (slice_index_or links b Empty) ≡ Sub all left (path ++ b ∷ []) (part all (path ++ b ∷ []))
  kid_hashes all left law path links items forks whole b low =
      law (path ++ b ∷ []) (slice_index_or links b Empty) (part all (path ++ b ∷ []))
      (kid_stands all left path links items forks whole b low)
      refl

  fork_law : AreBodies nodes → (all : List Entry) (left : ℕ) → Law all left → (path : List ℕ) (link : Link) (items : List Entry)
      (links : List Link) → found path link ≡ fork links
      → Forks (Below half nothing_held kind nodes (suc left) path) path links items → part all path ≡ items
      → link_hash half kind nodes link ≡ Sub all (suc left) path items
  fork_law bodies all left law path link items links e forks whole =
      let is = fork_link path link links e in
      ap (link_hash half kind nodes) is.1 ∙ inner_is half kind nodes bodies is.0 links is.2
      ∙ ap (λ (xs : Bytes). half (inner_prefix ++ xs))
      (by_index (link_hash half kind nodes) Empty links forks.width
      ∙ flat_each (λ b. link_hash half kind nodes (slice_index_or links b Empty))
      (λ b. Sub all left (path ++ b ∷ []) (part all (path ++ b ∷ []))) (kid_hashes all left law path links items forks whole))
      ∙ sym (ap (hash_or_zero half) (many_form half kind all left path items forks.enough))

  law_zero : (all : List Entry) (path : List ℕ) (link : Link) (items : List Entry) (f : Found) → found path link ≡ f
      → Holds (Below half nothing_held kind nodes zero path) path f items → link_hash half kind nodes link ≡ Sub all zero path items
  law_zero all path link items none e h = none_law all zero path link items e h
  law_zero all path link items (one key bytes) e h = one_law all zero path link items key bytes e h.alone
  law_zero all path link items (fork links) e h = absurd (h.each 0 (omega arith))
  law_zero all path link items (lacks g) e h = absurd h
  law_zero all path link items (breaks fault) e h = absurd h

  law_suc : AreBodies nodes → (all : List Entry) (left : ℕ) → Law all left → (path : List ℕ) (link : Link) (items : List Entry)
      → part all path ≡ items → (f : Found) → found path link ≡ f
      → Holds (Below half nothing_held kind nodes (suc left) path) path f items
      → link_hash half kind nodes link ≡ Sub all (suc left) path items
  law_suc bodies all left law path link items whole none e h = none_law all (suc left) path link items e h
  law_suc bodies all left law path link items whole (one key bytes) e h = one_law all (suc left) path link items key bytes e h.alone
  law_suc bodies all left law path link items whole (fork links) e h = fork_law bodies all left law path link items links e h whole
  law_suc bodies all left law path link items whole (lacks g) e h = absurd h
  law_suc bodies all left law path link items whole (breaks fault) e h = absurd h

  -- the hash of a link is that of the map's node at its place
  pub hash_law : AreBodies nodes → (all : List Entry) (left : ℕ) → Law all left
  hash_law bodies all zero path link items stands whole =
      law_zero all path link items (found path link) refl
      (stands_into half nothing_held kind nodes zero path link items (found path link) refl stands)
  hash_law bodies all (suc left) path link items stands whole =
      law_suc bodies all left (hash_law bodies all left) path link items whole (found path link) refl
      (stands_into half nothing_held kind nodes (suc left) path link items (found path link) refl stands)
