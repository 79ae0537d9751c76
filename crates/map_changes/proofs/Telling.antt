-- What a map tells of a version's changes and its root.
use Rattle.std.proofs.Common.{◌≡◌, ◌≢◌, ℕ, zero, suc, ◌<◌, List, [], ◌∷◌, ◌++◌, length, map, Option, None, Some, refl, Bool, true, false}
use Rattle.std.proofs.Common.{sym, ap, ◌∙◌, subst, arith}
use Rattle.std.specs.Prelude.{MatchBool, not}
use Rattle.std.specs.List.{slice_get, slice_index_or}
use Rattle.std.proofs.Math.ListN.{get_or-map}
use Rattle.ledger_spec.specs.declared.Kind.{Kind}
use Rattle.ledger_spec.specs.Bytes.{Bytes, Hash, Half, Items, same_bytes}
use Rattle.ledger_spec.specs.Forms.{form_of, hash_of, hash_or_zero}
use Rattle.ledger_spec.specs.Tree.{form_of_part, form_at, root_of}
use Rattle.ledger_spec.specs.Wire.{wire_of}
use Rattle.cow_map.specs.declared.link.Link.{Link}
use Rattle.cow_map.specs.declared.link.Link.TheVariants.{Empty, Unloaded, Own}
use Rattle.cow_map.specs.Bodies.{Body, IsBelow, AreBodies}
use Rattle.cow_map.specs.Gathered.{nothing_held}
use Rattle.cow_map.specs.Trees.{StandsAt, StandsFor}
use Rattle.cow_map.proofs.shared.Filters.{part_root}
use Rattle.map_changes.specs.declared.tracked.Root.{Root}
use Rattle.map_changes.specs.declared.tracked.PlacedNode.{PlacedNode}
use Rattle.map_changes.specs.Placed.{nodes_of, changed}
use Rattle.map_changes.specs.Given.{given, IsRoot}
use Rattle.map_changes.specs.Placed.{root_blob}
use Rattle.map_changes.specs.Trees as shared
use Rattle.map_changes.specs.Walks.{shared_nodes, placed_at}
use Rattle.map_changes.specs.Tracking.{place_of, link_hash, node_at, kid_at, entries_at, items_at, AreHashes, Tracking, Keeps}
use Rattle.map_changes.specs.Tracking.{leaves_in, versions_in, version_at, nodes_at, under, IsVersion, HaveTwoHashes}
use Rattle.map_changes.proofs.Linking.{hash_is}
use Rattle.std.specs.Cmp.Lexicographic.{same_text}
use Rattle.map_changes.proofs.Hashed.{some_within, hash_law}
use Rattle.map_changes.proofs.Sharing.{nothing_there, share_law}
use Rattle.map_changes.proofs.Standings.{shared_map}
use Rattle.map_changes.proofs.Walking.{shared_say}

-- the nodes below a link that stands for a map
pub link_nodes : (half : Half) (kind : Kind) (nodes : List Body) (link : Link) (items : Items) → AreBodies nodes
    → IsBelow (length nodes) link → StandsAt half nothing_held kind nodes 64 [] link items
    → shared_nodes (node_at half kind nodes) (kid_at nodes) (place_of link) [] ≡ nodes_of half kind items
link_nodes half kind nodes link items bodies below stands =
    shared_map half kind items (node_at half kind nodes) (kid_at nodes) (place_of link)
    (subst (λ (es : Items). shared.StandsFor half kind items (node_at half kind nodes) (kid_at nodes) 64 [] (place_of link) es)
    (sym (part_root items)) (share_law half kind nodes bodies items 64 [] link items below stands (part_root items)))

-- the hash of a node that is there is that of its form
pub known_hash : (half : Half) (kind : Kind) (nodes : List Body) → AreBodies nodes → (i : ℕ) → i < length nodes
    → link_hash half kind nodes (Own i) ≡ hash_of half (node_at half kind nodes i)
known_hash half kind nodes bodies i low = by (slice_get nodes i) refl
  where
    by : (o : Option Body) → slice_get nodes i ≡ o → link_hash half kind nodes (Own i) ≡ hash_of half (node_at half kind nodes i)
    by None is = absurd (some_within nodes i low is)
    by (Some body) is = hash_is half kind nodes bodies i body is

-- a link that leads to no place reaches nothing
pub no_entries : (nodes : List Body) (left : ℕ) (link : Link) → place_of link ≡ None → entries_at nodes left link ≡ []
unfolding entries_at
no_entries nodes zero Empty e = refl
no_entries nodes (suc left) Empty e = refl
no_entries nodes zero (Unloaded h) e = refl
no_entries nodes (suc left) (Unloaded h) e = refl
no_entries nodes left (Own i) e = cc

-- the top of a version, and behind the last one
pub top_some : (tops : List Link) (n : ℕ) (top : Link) → slice_get tops n ≡ Some top → slice_index_or tops n Empty ≡ top
top_some [] n top is = cc
top_some (x ∷ tops) zero top is = cc
top_some (x ∷ tops) (suc n) top is = top_some tops n top is

pub top_none : (tops : List Link) (n : ℕ) → slice_get tops n ≡ None → slice_index_or tops n Empty ≡ Empty
top_none [] n is = refl
top_none (x ∷ tops) zero is = cc
top_none (x ∷ tops) (suc n) is = top_none tops n is

-- version n, below its top
pub version_is : (t : Tracking) (n : ℕ) → version_at t n ≡ items_at t.tree.nodes (slice_index_or t.tops n Empty)
unfolding versions_in entries_at
version_is t n = get_or-map (items_at t.tree.nodes) t.tops n Empty

-- what is told of a top, by the items below it
module _ (half : Half) (t : Tracking) (keeps : Keeps half t) (bodies : AreBodies t.tree.nodes) where
  module _ (top : Link) (version : IsVersion half t.tree top) where
    abbrev items : Items
    items = items_at t.tree.nodes top

    -- there are items where the top leads to a node
    not_empty : (at : ℕ) → place_of top ≡ Some at → items ≢ []
    not_empty at is nothing =
        let stands = subst (λ (es : Items). StandsFor half nothing_held (under t.tree top) es) nothing version.stands in
        let none : place_of top ≡ None =
        nothing_there half t.tree.kind [] (node_at half t.tree.kind t.tree.nodes) (kid_at t.tree.nodes) 64 [] (place_of top)
        (share_law half t.tree.kind t.tree.nodes bodies [] 64 [] top [] version.below stands refl) in
        cc

    -- the link is the place's
    own_is : (link : Link) (at : ℕ) → place_of link ≡ Some at → link ≡ Own at
    own_is Empty at e = cc
    own_is (Unloaded h) at e = cc
    own_is (Own i) at e = let same : i ≡ at = cc in ap Own same

    root_hash : (at : ℕ) (h : Hash) → place_of top ≡ Some at → slice_get t.hashes at ≡ Some (Some h) → h ≡ root_of half t.tree.kind items
    unfolding form_at
    root_hash at h is known =
        keeps.hashes.each at h known ∙ ap (link_hash half t.tree.kind t.tree.nodes) (sym (own_is top at is))
        ∙ hash_law half t.tree.kind t.tree.nodes bodies items 64 [] top items version.stands (part_root items)
        ∙ ap (λ (es : Items). hash_or_zero half (form_of_part half t.tree.kind items 64 [] es)) (sym (part_root items))

    root_node : (at : ℕ) → place_of top ≡ Some at
        → wire_of (node_at half t.tree.kind t.tree.nodes at) ≡ root_blob (nodes_of half t.tree.kind items)
    root_node at is =
        let held = node_at half t.tree.kind t.tree.nodes in
        let kid = kid_at t.tree.nodes in
        ap root_blob (sym ((shared_say held kid).some at [] (omega arith)) ∙ ap (λ l. shared_nodes held kid l []) (sym is)
        ∙ link_nodes half t.tree.kind t.tree.nodes top items bodies version.below version.stands)

    pub root_is : (at : ℕ) (root : Root) → place_of top ≡ Some at → slice_get t.hashes at ≡ Some (Some root.hash)
        → root.blob ≡ wire_of (node_at half t.tree.kind t.tree.nodes at) → (items ≢ []) × IsRoot half t.tree.kind items root
    root_is at root is known blob =
        (not_empty at is, record { is_hash = root_hash at root.hash is known; is_blob = blob ∙ root_node at is })

  -- what the map tells of version n, in the words of its clauses
  pub root_told : (n at : ℕ) (root : Root) → place_of (slice_index_or t.tops n Empty) ≡ Some at
      → slice_get t.hashes at ≡ Some (Some root.hash) → root.blob ≡ wire_of (node_at half t.tree.kind t.tree.nodes at)
      → (version_at t n ≢ []) × IsRoot half (leaves_in t) (version_at t n) root
  unfolding leaves_in
  root_told n at root is known blob =
      let top = slice_index_or t.tops n Empty in
      subst (λ (es : Items). (es ≢ []) × IsRoot half t.tree.kind es root) (sym (version_is t n))
      (root_is top (keeps.each n) at root is known blob)

  nodes_are : (n : ℕ)
      → shared_nodes (node_at half t.tree.kind t.tree.nodes) (kid_at t.tree.nodes) (place_of (slice_index_or t.tops n Empty)) []
      ≡ nodes_at half t n
  unfolding leaves_in
  nodes_are n =
      let top = slice_index_or t.tops n Empty in
      let version = keeps.each n in
      link_nodes half t.tree.kind t.tree.nodes top (items_at t.tree.nodes top) bodies version.below version.stands
      ∙ ap (nodes_of half t.tree.kind) (sym (version_is t n))

  pub changes_told : (n m : ℕ) (old new : Option ℕ) (root : List ℕ) (before out : List PlacedNode) → before ≡ [] → root ≡ []
      → old ≡ place_of (slice_index_or t.tops m Empty) → new ≡ place_of (slice_index_or t.tops n Empty)
      → out ≡ before ++ map (given half) (changed (shared_nodes (node_at half t.tree.kind t.tree.nodes) (kid_at t.tree.nodes) old root)
      (shared_nodes (node_at half t.tree.kind t.tree.nodes) (kid_at t.tree.nodes) new root))
      → out ≡ map (given half) (changed (nodes_at half t m) (nodes_at half t n))
  changes_told n m old new root before out b r o now is =
      let nodes = shared_nodes (node_at half t.tree.kind t.tree.nodes) (kid_at t.tree.nodes) in
      is ∙ (λ i. b i ++ map (given half) (changed (nodes (o i) (r i)) (nodes (now i) (r i))))
      ∙ (λ i. map (given half) (changed (nodes_are m i) (nodes_are n i)))

-- a version whose top leads nowhere is empty
pub nothing_told : (t : Tracking) (n : ℕ) → place_of (slice_index_or t.tops n Empty) ≡ None → version_at t n ≡ []
nothing_told t n is = version_is t n ∙ no_entries t.tree.nodes 64 (slice_index_or t.tops n Empty) is

-- a node with its place, its hash and its wire form
abbrev pub placed : List ℕ → Hash → Bytes → PlacedNode
placed id hash blob = record { id = id; hash = hash; blob = blob }

-- what is shown of a node whose hash is known
pub node_told : (half : Half) (t : Tracking) → Keeps half t → AreBodies t.tree.nodes → (hashes others : List (Option Hash))
    → hashes ≡ t.hashes → others ≡ t.hashes → (node : ℕ) (place : List ℕ) (hash : Hash) (blob : Bytes)
    → slice_get hashes node ≡ Some (Some hash)
    → ((k : Half) → AreHashes k t.tree.kind t.tree.nodes others → blob ≡ wire_of (node_at k t.tree.kind t.tree.nodes node))
    → placed place hash blob ≡ given half (placed_at place (node_at half t.tree.kind t.tree.nodes node))
node_told half t keeps bodies hashes others same same_too node place hash blob known wire =
    let is : slice_get t.hashes node ≡ Some (Some hash) = ap (λ (hs : List (Option Hash)). slice_get hs node) (sym same) ∙ known in
    let at : hash ≡ hash_of half (node_at half t.tree.kind t.tree.nodes node) =
    keeps.hashes.each node hash is ∙ known_hash half t.tree.kind t.tree.nodes bodies node (keeps.hashes.within node hash is) in
    let told : blob ≡ wire_of (node_at half t.tree.kind t.tree.nodes node) =
    wire half (subst (AreHashes half t.tree.kind t.tree.nodes) (sym same_too) keeps.hashes) in
    λ i. placed place (at i) (told i)

-- what isn't equal is two
pub are_two : (P Q : Type 0) (same : Bool) → MatchBool same P Q → not same ≡ true → Q
are_two P Q true one t = cc
are_two P Q false two t = two

-- nodes of two hashes have two forms
pub two_forms : (half : Half) (kind : Kind) (nodes : List Body) → AreBodies nodes → (hashes : List (Option Hash)) (i j : ℕ)
    → HaveTwoHashes hashes i j → AreHashes half kind nodes hashes
    → false ≡ same_bytes (form_of (node_at half kind nodes i)) (form_of (node_at half kind nodes j))
two_forms half kind nodes bodies hashes i j two are = by (same_bytes (form_of (node_at half kind nodes i))
    (form_of (node_at half kind nodes j))) refl
  where
    hash_at : (n : ℕ) (h : Hash) → slice_get hashes n ≡ Some (Some h) → h ≡ half (form_of (node_at half kind nodes n))
    hash_at n h is = are.each n h is ∙ known_hash half kind nodes bodies n (are.within n h is)

    by : (t : Bool) → same_bytes (form_of (node_at half kind nodes i)) (form_of (node_at half kind nodes j)) ≡ t
        → false ≡ same_bytes (form_of (node_at half kind nodes i)) (form_of (node_at half kind nodes j))
    by false e = sym e
    by true e = absurd (two.apart (hash_at i two.own.0 two.own.1
        ∙ ap half (same_text (form_of (node_at half kind nodes i)) (form_of (node_at half kind nodes j)) (sym e))
        ∙ sym (hash_at j two.others.0 two.others.1)))
