-- The hash of a link is that of the tree of the map that it stands for.
use Rattle.std.proofs.Common.{◌≡◌, ℕ, zero, suc, ◌<◌, ◌==◌, Bool, true, false, List, [], ◌∷◌, ◌++◌, length, map}
use Rattle.std.proofs.Common.{Option, None, Some, refl, sym, ap, ◌∙◌, arith, IsTrue, slice_index_or}
use Rattle.std.proofs.Common.{replicate, not, if◌then◌else◌}
use Rattle.std.specs.List.{slice_get, flat_map, concat, list_all}
use Rattle.std.specs.Option.{option_map}
use Rattle.std.proofs.lemmas.Bool.{and_parts, eqb-true}
use Rattle.ledger_spec.proofs.shared.Readings.{holds}
use Rattle.nib_path.specs.Paths.{lies_under}
use Rattle.ledger_spec.specs.declared.Kind.{Kind}
use Rattle.ledger_spec.specs.declared.Kind.TheVariants.{State, Tx, Set}
use Rattle.ledger_spec.specs.declared.ShapeFault.TheVariants.{WrongKind, LeafElsewhere, LeafAtRoot}
use Rattle.ledger_spec.specs.declared.ShapeFault.{ShapeFault}
use Rattle.ledger_spec.specs.Bytes.{Bytes, Hash, Half, Lookup, Items, zero_hash, is_zero}
use Rattle.ledger_spec.specs.Commits.{AreOwn}
use Rattle.ledger_spec.specs.Forms as held
use Rattle.ledger_spec.specs.Forms.{Held, Form, leaf_form, inner_prefix, hash_or_zero}
use Rattle.ledger_spec.specs.Rules.{fault_of, same_kind}
use Rattle.ledger_spec.specs.Findings.{sight_of, judged, seen_as, held_of, sound}
use Rattle.ledger_spec.specs.Tree.{Entry, part, form_of_part, form_at, root_of}
use Rattle.cow_map.specs.declared.link.Link.{Link}
use Rattle.cow_map.specs.declared.link.Link.TheVariants.{Empty, Unloaded, Own}
use Rattle.cow_map.specs.Bodies.{Body, leaf, inner, CowTree}
use Rattle.cow_map.specs.Trees.{Found, none, one, fork, lacks, breaks, found_at, found_body, Forks, Holds, StandsAt, StandsFor}
use Rattle.cow_map.specs.Trees.{link_to}
use Rattle.cow_map.specs.Seals.{hash_by, form_below, hash_at}
use Rattle.tree_laws.proofs.shared.Subtrees.{form_none, form_one}
use Rattle.cow_map.proofs.Branches.{AllUnder}
use Rattle.cow_map.proofs.shared.Standing.{Below, stands_into, stands_under}
use Rattle.cow_map.proofs.shared.Leading.{body_one, body_fork, body_none}
use Rattle.cow_map.proofs.Leading.{seen_one, seen_fork, seen_none}
use Rattle.cow_map.proofs.shared.Filters.{part_kid, part_fork, part_root}
use Rattle.cow_map.proofs.shared.Sealing.{by_index, flat_each}

-- what is held of the source
pub sound_held : (rules : Held → Option ShapeFault) (held_is : Option Held) (n : Held) → judged rules held_is ≡ sound n
    → (held_is ≡ Some n) × (rules n ≡ None)
sound_held rules None n e = cc
sound_held rules (Some m) n e = by (rules m) refl e
  where
    by : (r : Option ShapeFault) → rules m ≡ r → seen_as m r ≡ sound n → (Some m ≡ Some n) × (rules n ≡ None)
    by None is e = let same : m ≡ n = cc in (ap Some same, ap rules (sym same) ∙ is)
    by (Some fault) is e = cc

-- what is seen as sound is a form of it
pub sound_form : (half : Half) → ((x : Bytes) → length (half x) ≡ 32) → (rules : Held → Option ShapeFault) (o : Option Bytes) (n : Held)
    → sight_of half rules o ≡ sound n → (form : Bytes) × (o ≡ Some form) × Form half n form × (rules n ≡ None)
sound_form half size rules None n e = cc
sound_form half size rules (Some form) n e = let both = sound_held rules (held_of half form) n e in
    (form, refl, holds half size n form both.0, both.1)

kind_same : (a b : Kind) → same_kind a b ≡ true → a ≡ b
kind_same State State e = refl
kind_same Tx Tx e = refl
kind_same Set Set e = refl
kind_same State Tx e = cc
kind_same State Set e = cc
kind_same Tx State e = cc
kind_same Tx Set e = cc
kind_same Set State e = cc
kind_same Set Tx e = cc

own_kind : (a b c : Bool) (f g h : ShapeFault) → (if not a then Some f else if b then Some g else if not c then Some h else None) ≡ None
    → a ≡ true
own_kind true b c f g h e = refl
own_kind false b c f g h e = cc

-- a leaf that is seen is of the map's kind
pub own_leaf_kind : (own kind : Kind) (key : Hash) (bytes : Bytes) (path : List ℕ)
    → fault_of (held.leaf own key bytes) None kind path ≡ None → own ≡ kind
own_leaf_kind own kind key bytes path e =
    kind_same own kind (own_kind (same_kind own kind) (length path == 0) (lies_under path key) WrongKind LeafAtRoot (LeafElsewhere key) e)

-- the zero hash is the one whose bytes are all zero
pub zero_bytes : (h : Hash) (n : ℕ) → length h ≡ n → is_zero h ≡ true → h ≡ replicate n 0
zero_bytes [] n size e = ap (λ m. replicate m 0) size
zero_bytes (x ∷ h) n size e =
    let both = and_parts (x == 0) (is_zero h) e in
    let first = eqb-true x 0 both.0 in
    (λ i. first i ∷ zero_bytes h (length h) refl both.1 i) ∙ ap (λ m. replicate m 0) size

module _ (half : Half) (size : (x : Bytes) → length (half x) ≡ 32) (stored : Lookup) (proper : AreOwn half stored) (kind : Kind)
    (nodes : List Body) (path : List ℕ) (form : Body → Bytes) where
  none_hash : (link : Link) → found_at half stored kind nodes path link ≡ none → hash_by half nodes form link ≡ zero_hash
  none_hash Empty found = refl
  none_hash (Unloaded h) found = absurd (seen_none h (sight_of half (λ n. fault_of n None kind path) (stored h)) found)
  none_hash (Own i) found = ap (λ o. hash_or_zero half (option_map form o)) (body_none path (slice_get nodes i) found)

  one_hash : ((k : Hash) (v : Bytes) → form (leaf k v) ≡ leaf_form kind k v) → (link : Link) (key : Hash) (bytes : Bytes)
      → found_at half stored kind nodes path link ≡ one key bytes → hash_by half nodes form link ≡ half (leaf_form kind key bytes)
  one_hash leaves Empty key bytes found = cc
  one_hash leaves (Own i) key bytes found =
      ap (λ o. hash_or_zero half (option_map form o)) (body_one path (slice_get nodes i) key bytes found) ∙ ap half (leaves key bytes)
  one_hash leaves (Unloaded h) key bytes found =
      let seen = seen_one h (sight_of half (λ n. fault_of n None kind path) (stored h)) key bytes found in
      let is = sound_form half size (λ n. fault_of n None kind path) (stored h) (held.leaf seen.0 key bytes) seen.1 in
      let same : seen.0 ≡ kind =
      kind_same seen.0 kind
      (own_kind (same_kind seen.0 kind) (length path == 0) (lies_under path key) WrongKind LeafAtRoot (LeafElsewhere key) is.3) in
      proper h is.0 is.1 ∙ ap half is.2.1 ∙ ap (λ k. half (leaf_form k key bytes)) same

  pub joined_links : (hash : Link → Hash) → hash Empty ≡ zero_hash → ((h : Hash) → hash (Unloaded h) ≡ h) → (hashes : List Hash)
      → IsTrue (list_all (λ h. length h == 32) hashes) → concat hashes ≡ flat_map hash (map link_to hashes)
  joined_links hash empty other [] sizes = refl
  joined_links hash empty other (h ∷ hashes) sizes =
      let both = and_parts (length h == 32) (list_all (λ h. length h == 32) hashes) sizes in
      (λ i. first h (eqb-true (length h) 32 both.0) (is_zero h) refl i ++ joined_links hash empty other hashes both.1 i)
    where
      first : (h : Hash) → length h ≡ 32 → (t : Bool) → is_zero h ≡ t → h ≡ hash (link_to h)
      first h sized true is = zero_bytes h 32 sized is ∙ sym empty ∙ ap (λ t. hash (if t then Empty else Unloaded h)) (sym is)
      first h sized false is = sym (other h) ∙ ap (λ t. hash (if t then Empty else Unloaded h)) (sym is)

  fork_hash : (hash : Link → Hash) → hash Empty ≡ zero_hash → ((h : Hash) → hash (Unloaded h) ≡ h)
      → ((ls : List Link) → form (inner ls) ≡ inner_prefix ++ flat_map hash ls) → (link : Link) (links : List Link)
      → found_at half stored kind nodes path link ≡ fork links → hash_by half nodes form link ≡ half (inner_prefix ++ flat_map hash links)
  fork_hash hash empty other inners Empty links found = cc
  fork_hash hash empty other inners (Own i) links found =
      ap (λ o. hash_or_zero half (option_map form o)) (body_fork path (slice_get nodes i) links found) ∙ ap half (inners links)
  fork_hash hash empty other inners (Unloaded h) links found =
      let seen = seen_fork h (sight_of half (λ n. fault_of n None kind path) (stored h)) links found in
      let is = sound_form half size (λ n. fault_of n None kind path) (stored h) (held.inner seen.0) seen.1 in
      proper h is.0 is.1 ∙ ap half is.2.1 ∙ ap (λ xs. half (inner_prefix ++ xs)) (joined_links hash empty other seen.0 is.2.0.sizes)
      ∙ ap (λ ls. half (inner_prefix ++ flat_map hash ls)) (sym seen.2)

-- a leaf stands below the root
long_cond : (a b : Bool) (f g : ShapeFault) (k key : Hash) (v bytes : Bytes)
    → (if a then breaks f else if b then breaks g else one k v) ≡ one key bytes → a ≡ false
long_cond true b f g k key v bytes e = cc
long_cond false b f g k key v bytes e = refl

long_rules : (a b c : Bool) (f g h : ShapeFault) → (if not a then Some f else if b then Some g else if not c then Some h else None) ≡ None
    → b ≡ false
long_rules false b c f g h e = cc
long_rules true true c f g h e = cc
long_rules true false c f g h e = refl

nonzero_length : (n : ℕ) → (n == 0) ≡ false → 0 < n
nonzero_length zero e = cc
nonzero_length (suc n) e = omega arith

body_long : (path : List ℕ) (o : Option Body) (key : Hash) (bytes : Bytes) → found_body path o ≡ one key bytes → 0 < length path
body_long path o key bytes e =
    let is : o ≡ Some (leaf key bytes) = body_one path o key bytes e in
    let found : found_body path (Some (leaf key bytes)) ≡ one key bytes = ap (found_body path) (sym is) ∙ e in
    nonzero_length (length path)
    (long_cond (length path == 0) (not (lies_under path key)) LeafAtRoot (LeafElsewhere key) key key bytes bytes found)

module _ (half : Half) (size : (x : Bytes) → length (half x) ≡ 32) (stored : Lookup) (proper : AreOwn half stored) (kind : Kind)
    (nodes : List Body) where
  pub one_long : (path : List ℕ) (link : Link) (key : Hash) (bytes : Bytes) → found_at half stored kind nodes path link ≡ one key bytes
      → 0 < length path
  one_long path Empty key bytes found = cc
  one_long path (Own i) key bytes found = body_long path (slice_get nodes i) key bytes found
  one_long path (Unloaded h) key bytes found =
      let seen = seen_one h (sight_of half (λ n. fault_of n None kind path) (stored h)) key bytes found in
      let is = sound_form half size (λ n. fault_of n None kind path) (stored h) (held.leaf seen.0 key bytes) seen.1 in
      nonzero_length (length path)
      (long_rules (same_kind seen.0 kind) (length path == 0) (lies_under path key) WrongKind LeafAtRoot (LeafElsewhere key) is.3)

  leaf_below : (left : ℕ) (k : Hash) (v : Bytes) → form_below half kind nodes left (leaf k v) ≡ leaf_form kind k v
  unfolding form_below
  leaf_below zero k v = refl
  leaf_below (suc left) k v = refl

  inner_below : (left : ℕ) (ls : List Link)
      → form_below half kind nodes (suc left) (inner ls) ≡ inner_prefix ++ flat_map (hash_at half kind nodes left) ls
  unfolding form_below
  inner_below left ls = refl

  -- the hash of what lies below a place
  abbrev Sub : List Entry → ℕ → List ℕ → List Entry → Hash
  Sub all left path items = hash_or_zero half (form_of_part half kind all left path items)

  none_law : (all : List Entry) (left : ℕ) (path : List ℕ) (link : Link) (items : List Entry)
      → found_at half stored kind nodes path link ≡ none → items ≡ [] → hash_at half kind nodes left link ≡ Sub all left path items
  none_law all left path link items found nothing =
      none_hash half size stored proper kind nodes path (form_below half kind nodes left) link found
      ∙ sym (ap (hash_or_zero half) (ap (form_of_part half kind all left path) nothing ∙ form_none half kind all left path))

  one_law : (all : List Entry) (left : ℕ) (path : List ℕ) (link : Link) (items : List Entry) (key : Hash) (bytes : Bytes)
      → found_at half stored kind nodes path link ≡ one key bytes → items ≡ (key, bytes) ∷ []
      → hash_at half kind nodes left link ≡ Sub all left path items
  one_law all left path link items key bytes found alone =
      one_hash half size stored proper kind nodes path (form_below half kind nodes left) (leaf_below left) link key bytes found
      ∙ sym (ap (hash_or_zero half)
      (ap (form_of_part half kind all left path) alone
      ∙ form_one half kind all left path (key, bytes) (one_long path link key bytes found)))

  -- what the law says of links a level lower
  abbrev Law : List Entry → ℕ → Type 0
  Law all left = (path : List ℕ) (link : Link) (items : List Entry) → StandsAt half stored kind nodes left path link items
      → part all path ≡ items → hash_at half kind nodes left link ≡ Sub all left path items

  fork_law : (all : List Entry) (left : ℕ) → Law all left → (path : List ℕ) (link : Link) (items : List Entry) (links : List Link)
      → found_at half stored kind nodes path link ≡ fork links
      → Forks (Below half stored kind nodes (suc left) path) path links items → part all path ≡ items
      → hash_at half kind nodes (suc left) link ≡ Sub all (suc left) path items
  fork_law all left law path link items links found forks whole =
      let kids_under : (c : ℕ) → c < 16 → AllUnder (path ++ c ∷ []) (forks.kids c) =
      λ c low. stands_under half stored kind nodes left (path ++ c ∷ []) (slice_index_or links c Empty) (forks.kids c)
      (forks.each c low) in
      let kid_is : (b : ℕ) → b < 16 → part all (path ++ b ∷ []) ≡ forks.kids b =
      λ b low. part_kid all path forks.kids b low (whole ∙ forks.joined) kids_under in
      let each : (b : ℕ) → b < 16
      → hash_at half kind nodes left (slice_index_or links b Empty) ≡ Sub all left (path ++ b ∷ []) (part all (path ++ b ∷ [])) =
      λ b low. law (path ++ b ∷ []) (slice_index_or links b Empty) (forks.kids b) (forks.each b low) (kid_is b low)
      ∙ ap (Sub all left (path ++ b ∷ [])) (sym (kid_is b low)) in
      fork_hash half size stored proper kind nodes path (form_below half kind nodes (suc left)) (hash_at half kind nodes left) refl
      (λ h. refl) (inner_below left) link links found
      ∙ ap (λ (xs : Bytes). half (inner_prefix ++ xs))
      (by_index (hash_at half kind nodes left) Empty links forks.width
      ∙ flat_each (λ b. hash_at half kind nodes left (slice_index_or links b Empty))
      (λ b. Sub all left (path ++ b ∷ []) (part all (path ++ b ∷ []))) each)
      ∙ sym (ap (hash_or_zero half) (part_fork half kind all left path items forks.enough))

  law_zero : (all : List Entry) (path : List ℕ) (link : Link) (items : List Entry) (f : Found)
      → found_at half stored kind nodes path link ≡ f → Holds (Below half stored kind nodes 0 path) path f items
      → hash_at half kind nodes 0 link ≡ Sub all 0 path items
  law_zero all path link items none found h = none_law all 0 path link items found h
  law_zero all path link items (one key bytes) found h = one_law all 0 path link items key bytes found h.alone
  law_zero all path link items (fork links) found h = absurd (h.each 0 (omega arith))
  law_zero all path link items (lacks g) found h = absurd h
  law_zero all path link items (breaks fault) found h = absurd h

  law_suc : (all : List Entry) (left : ℕ) → Law all left → (path : List ℕ) (link : Link) (items : List Entry) → part all path ≡ items
      → (f : Found) → found_at half stored kind nodes path link ≡ f
      → Holds (Below half stored kind nodes (suc left) path) path f items
      → hash_at half kind nodes (suc left) link ≡ Sub all (suc left) path items
  law_suc all left law path link items whole none found h = none_law all (suc left) path link items found h
  law_suc all left law path link items whole (one key bytes) found h = one_law all (suc left) path link items key bytes found h.alone
  law_suc all left law path link items whole (fork links) found h = fork_law all left law path link items links found h whole
  law_suc all left law path link items whole (lacks g) found h = absurd h
  law_suc all left law path link items whole (breaks fault) found h = absurd h

  -- the hash of a link is that of the map's node at its place
  pub hash_law : (all : List Entry) (left : ℕ) → Law all left
  hash_law all zero path link items stands whole =
      law_zero all path link items (found_at half stored kind nodes path link) refl
      (stands_into half stored kind nodes 0 path link items (found_at half stored kind nodes path link) refl stands)
  hash_law all (suc left) path link items stands whole =
      law_suc all left (hash_law all left) path link items whole (found_at half stored kind nodes path link) refl
      (stands_into half stored kind nodes (suc left) path link items (found_at half stored kind nodes path link) refl stands)

-- the hash of the top is the root hash of the map
pub root_law : (half : Half) → ((x : Bytes) → length (half x) ≡ 32) → (stored : Lookup) → AreOwn half stored
    → (m : CowTree) (items : Items) → StandsFor half stored m items → hash_at half m.kind m.nodes 64 m.top ≡ root_of half m.kind items
unfolding form_at
root_law half size stored proper m items stands =
    hash_law half size stored proper m.kind m.nodes items 64 [] m.top items stands (part_root items)
    ∙ ap (λ es. hash_or_zero half (form_of_part half m.kind items 64 [] es)) (sym (part_root items))
