-- What a map keeps while items are set, versions are kept and hashes are added.
use Rattle.std.proofs.Common.{◌≡◌, ℕ, zero, suc, ◌<◌, ◌≤◌, List, [], ◌∷◌, ◌++◌, length, map, Option, Some, refl}
use Rattle.std.proofs.Common.{sym, ap, ◌∙◌, subst, arith, length-append, Result, Ok, Err, IfOk}
use Rattle.std.specs.List.{slice_get, slice_index_or}
use Rattle.std.proofs.lemmas.List.{map-append}
use Rattle.ledger_spec.specs.declared.Kind.{Kind}
use Rattle.ledger_spec.specs.Bytes.{Bytes, Hash, Half, Items}
use Rattle.ledger_spec.specs.Maps.{hash_cmp, insert_in}
use Rattle.cow_map.specs.declared.link.Link.{Link}
use Rattle.cow_map.specs.declared.link.Link.TheVariants.{Empty, Own}
use Rattle.cow_map.specs.Bodies.{Body, CowTree, IsBelow, AreBodies}
use Rattle.cow_map.specs.Edits.{GrowsBy, SetsItem}
use Rattle.cow_map.specs.Gathered.{nothing_held}
use Rattle.cow_map.specs.Trees.{StandsAt, StandsFor}
use Rattle.cow_map.proofs.shared.Gathered.{nothing_sub}
use Rattle.cow_map.proofs.shared.Leading.{weaker}
use Rattle.cow_map.proofs.shared.Planting.{empty_stands}
use Rattle.cow_map.proofs.shared.Standing.{stands_grows}
use Rattle.map_changes.specs.Tracking.{link_hash, entries_at, items_at, AreHashes, AreClosed, Tracking, IsVersion, Keeps}
use Rattle.map_changes.specs.Tracking.{leaves_in, items_in, versions_in}
use Rattle.map_changes.proofs.Closing.{none_closed, closed_more}
use Rattle.map_changes.proofs.Linking.{link_grows}
use Rattle.map_changes.proofs.Reaching.{entries_law}

-- with nothing on top it is the empty map
pub nothing_version : (half : Half) (tree : CowTree) → IsVersion half tree Empty
unfolding entries_at
nothing_version half tree = record { stands = empty_stands half nothing_held tree.kind tree.nodes 64 []; below = tt }

-- one version more
pub version_more : (P : Link → Type 0) (tops : List Link) (top : Link) → ((n : ℕ) → P (slice_index_or tops n Empty)) → P top → (n : ℕ)
    → P (slice_index_or (tops ++ top ∷ []) n Empty)
version_more P [] top each last zero = last
version_more P [] top each last (suc n) = each n
version_more P (x ∷ tops) top each last zero = each 0
version_more P (x ∷ tops) top each last (suc n) = version_more P tops top (λ m. each (suc m)) last n

-- what is the same of each top
same_maps : (f g : Link → Items) (tops : List Link) → ((n : ℕ) → f (slice_index_or tops n Empty) ≡ g (slice_index_or tops n Empty))
    → map f tops ≡ map g tops
same_maps f g [] same = refl
same_maps f g (x ∷ tops) same = λ i. same 0 i ∷ same_maps f g tops (λ n. same (suc n)) i

-- an item is set
module _ (half : Half) (t : Tracking) (new : CowTree) (keeps : Keeps half t) (bodies : AreBodies t.tree.nodes)
    (same_kind : new.kind ≡ t.tree.kind) (grows : GrowsBy 65 t.tree.nodes new.nodes) where
  longer : length t.tree.nodes ≤ length new.nodes
  longer = omega (arith, ap length grows.1 ∙ length-append t.tree.nodes grows.0)

  -- a version is still there
  module _ (top : Link) (version : IsVersion half t.tree top) where
    still_stands : StandsAt half nothing_held new.kind new.nodes 64 [] top (items_at t.tree.nodes top)
    still_stands =
        subst (λ k. StandsAt half nothing_held k new.nodes 64 [] top (items_at t.tree.nodes top)) (sym same_kind)
        (subst (λ ns. StandsAt half nothing_held t.tree.kind ns 64 [] top (items_at t.tree.nodes top)) (sym grows.1)
        (stands_grows half nothing_held t.tree.kind t.tree.nodes grows.0 bodies 64 [] top (items_at t.tree.nodes top) version.below
        version.stands))

    still_same : items_at t.tree.nodes top ≡ items_at new.nodes top
    still_same = entries_law half new.kind new.nodes 64 [] top (items_at t.tree.nodes top) still_stands

    still_version : IsVersion half new top
    still_version = record {
      stands = subst (λ (es : Items). StandsAt half nothing_held new.kind new.nodes 64 [] top es) still_same still_stands;
      below = weaker (length t.tree.nodes) (length new.nodes) top longer version.below;
    }

  hash_grows : (i : ℕ) → i < length t.tree.nodes
      → link_hash half t.tree.kind t.tree.nodes (Own i) ≡ link_hash half new.kind new.nodes (Own i)
  hash_grows i low =
      sym (link_grows half t.tree.kind t.tree.nodes bodies grows.0 (Own i) low)
      ∙ (λ j. link_hash half (sym same_kind j) (sym grows.1 j) (Own i))

  hashes_grow : AreHashes half new.kind new.nodes t.hashes
  hashes_grow = record {
    within = λ i h is. omega (arith, keeps.hashes.within i h is, longer);
    each = λ i h is. keeps.hashes.each i h is ∙ hash_grows i (keeps.hashes.within i h is);
  }

  closed_grow : AreClosed new.nodes t.hashes
  closed_grow =
      subst (λ ns. AreClosed ns t.hashes) (sym grows.1) (closed_more t.tree.nodes grows.0 t.hashes keeps.hashes.within keeps.closed)

  -- the map after it, with its versions
  abbrev after : Tracking
  after = record { tree = new; tops = t.tops; hashes = t.hashes }

  pub set_leaves : leaves_in after ≡ leaves_in t
  unfolding leaves_in
  set_leaves = same_kind

  pub set_versions : versions_in after ≡ versions_in t
  unfolding versions_in
  set_versions =
      same_maps (items_at new.nodes) (items_at t.tree.nodes) t.tops
      (λ n. sym (still_same (slice_index_or t.tops n Empty) (keeps.each n)))

  module _ (key : Hash) (value : Bytes) (sets : SetsItem half nothing_held t.tree new key value) where
    now_stands : StandsFor half nothing_held new (insert_in hash_cmp (items_at t.tree.nodes t.tree.top) key value)
    now_stands = sets nothing_held (nothing_sub nothing_held) (items_at t.tree.nodes t.tree.top) keeps.now

    pub now_is : insert_in hash_cmp (items_at t.tree.nodes t.tree.top) key value ≡ items_at new.nodes new.top
    now_is = entries_law half new.kind new.nodes 64 [] new.top (insert_in hash_cmp (items_at t.tree.nodes t.tree.top) key value) now_stands

    pub set_items : items_in after ≡ insert_in hash_cmp (items_in t) key value
    unfolding items_in
    set_items = sym now_is

    pub set_keeps : Keeps half after
    set_keeps = record {
      now = subst (λ (es : Items). StandsFor half nothing_held new es) now_is now_stands;
      each = λ n. still_version (slice_index_or t.tops n Empty) (keeps.each n);
      hashes = hashes_grow;
      closed = closed_grow;
    }

-- the map is kept as its next version
module _ (half : Half) (t : Tracking) (keeps : Keeps half t) (below : IsBelow (length t.tree.nodes) t.tree.top) (top : Link)
    (is : top ≡ t.tree.top) where
  -- the map after it
  abbrev kept : Tracking
  kept = record { tree = t.tree; tops = t.tops ++ top ∷ []; hashes = t.hashes }

  pub keep_keeps : Keeps half kept
  keep_keeps = record {
    now = keeps.now;
    each = version_more (IsVersion half t.tree) t.tops top keeps.each
        (subst (IsVersion half t.tree) (sym is) (record { stands = keeps.now; below = below }));
    hashes = keeps.hashes;
    closed = keeps.closed;
  }

  pub keep_leaves : leaves_in kept ≡ leaves_in t
  unfolding leaves_in
  keep_leaves = refl

  pub keep_items : items_in kept ≡ items_in t
  unfolding items_in
  keep_items = refl

  pub keep_versions : versions_in kept ≡ versions_in t ++ items_in t ∷ []
  unfolding versions_in items_in
  keep_versions =
      map-append (items_at t.tree.nodes) t.tops (top ∷ [])
      ∙ ap (λ (l : Link). map (items_at t.tree.nodes) t.tops ++ items_at t.tree.nodes l ∷ []) is

-- no hash is known
no_hashes : (half : Half) (kind : Kind) (nodes : List Body) → AreHashes half kind nodes []
no_hashes half kind nodes = record {
  within = λ i h is. absurd (none [] i h refl is);
  each = λ i h is. absurd (none [] i h refl is);
}
  where
    none : (hashes : List (Option Hash)) (i : ℕ) (h : Hash) → hashes ≡ [] → slice_get hashes i ≡ Some (Some h) → ⊥
    none [] zero h e is = cc
    none [] (suc i) h e is = cc
    none (x ∷ hashes) i h e is = cc

-- a map of which the empty map is the only version
module _ (half : Half) (tree : CowTree) (stands : StandsFor half nothing_held tree (items_at tree.nodes tree.top))
    (tops : List Link) (only : tops ≡ Empty ∷ []) (hashes : List (Option Hash)) (nothing : hashes ≡ []) where
  -- the map with this version
  abbrev begun : Tracking
  begun = record { tree = tree; tops = tops; hashes = hashes }

  empty_each : (n : ℕ) → IsVersion half tree (slice_index_or (Empty ∷ []) n Empty)
  empty_each zero = nothing_version half tree
  empty_each (suc n) = nothing_version half tree

  pub begun_keeps : Keeps half begun
  begun_keeps = record {
    now = stands;
    each = subst (λ (ls : List Link). (n : ℕ) → IsVersion half tree (slice_index_or ls n Empty)) (sym only) empty_each;
    hashes = subst (AreHashes half tree.kind tree.nodes) (sym nothing) (no_hashes half tree.kind tree.nodes);
    closed = subst (AreClosed tree.nodes) (sym nothing) (none_closed tree.nodes);
  }

  pub begun_leaves : leaves_in begun ≡ tree.kind
  unfolding leaves_in
  begun_leaves = refl

  pub begun_items : items_in begun ≡ items_at tree.nodes tree.top
  unfolding items_in
  begun_items = refl

  pub begun_versions : versions_in begun ≡ [] ∷ []
  unfolding versions_in entries_at
  begun_versions = ap (map (items_at tree.nodes)) only

-- where it stands for items, those are the ones that its links reach
pub stands_as : (half : Half) (tree : CowTree) (items : Items) → StandsFor half nothing_held tree items
    → StandsFor half nothing_held tree (items_at tree.nodes tree.top)
stands_as half tree items stands =
    subst (λ (es : Items). StandsFor half nothing_held tree es) (entries_law half tree.kind tree.nodes 64 [] tree.top items stands) stands

-- they are its items then
pub then_items : {E : Type 0} (half : Half) (tree : CowTree) (items : Items) → StandsFor half nothing_held tree items
    → (r : Result Tracking E) → IfOk r (λ m. items_in m ≡ items_at tree.nodes tree.top) → IfOk r (λ m. items_in m ≡ items)
then_items half tree items stands (Ok m) is = is ∙ sym (entries_law half tree.kind tree.nodes 64 [] tree.top items stands)
then_items half tree items stands (Err e) is = tt

-- other hashes are no part of the map
module _ (half : Half) (t : Tracking) (hashes : List (Option Hash)) where
  abbrev hashed : Tracking
  hashed = record t { hashes = hashes }

  pub hashed_keeps : Keeps half t → AreHashes half t.tree.kind t.tree.nodes hashes → AreClosed t.tree.nodes hashes → Keeps half hashed
  hashed_keeps keeps are closed = record { now = keeps.now; each = keeps.each; hashes = are; closed = closed }

  pub hashed_leaves : leaves_in hashed ≡ leaves_in t
  unfolding leaves_in
  hashed_leaves = refl

  pub hashed_items : items_in hashed ≡ items_in t
  unfolding items_in
  hashed_items = refl

  pub hashed_versions : versions_in hashed ≡ versions_in t
  unfolding versions_in
  hashed_versions = refl
