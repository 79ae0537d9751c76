-- Where a map of links stands for entries and leaves nothing to a source, its nodes stand for them with all their hashes.
use Rattle.std.proofs.Common.{◌≡◌, ℕ, zero, suc, ◌<◌, ◌≤◌, List, [], ◌∷◌, ◌++◌, length, map, Option, None, Some, refl}
use Rattle.std.proofs.Common.{sym, ap, ◌∙◌, subst, arith, slice_index_or}
use Rattle.std.specs.List.{slice_get}
use Rattle.ledger_spec.specs.declared.Kind.{Kind}
use Rattle.ledger_spec.specs.Bytes.{Bytes, Hash, Half, branches}
use Rattle.ledger_spec.specs.Forms as held
use Rattle.ledger_spec.specs.Forms.{Held}
use Rattle.ledger_spec.specs.Tree.{Entry, part}
use Rattle.cow_map.specs.declared.link.Link.{Link}
use Rattle.cow_map.specs.declared.link.Link.TheVariants.{Empty, Unloaded, Own}
use Rattle.cow_map.specs.Bodies.{Body, leaf, inner, IsBelow, AreBodies}
use Rattle.cow_map.specs.Gathered.{nothing_held, branch_in}
use Rattle.cow_map.specs.Trees.{Found, none, one, fork, lacks, breaks, fewest, Forks, Holds}
use Rattle.cow_map.proofs.shared.Leading.{weaker, body_none}
use Rattle.cow_map.proofs.shared.Standing.{Below, stands_into}
use Rattle.cow_map.proofs.shared.Filters.{crowded}
use Rattle.map_changes.specs.Trees.{IsLeafNode, hashes_below, IsInnerNode, IsNode, StandsFor}
use Rattle.map_changes.specs.Tracking.{place_of, link_hash, node_of, node_at, kid_at}
use Rattle.map_changes.proofs.Hashed.{map_by_index, map_each, some_within, fewest_some, found, Stands, one_link, fork_link, one_long}
use Rattle.map_changes.proofs.Hashed.{kid_stands, Sub, kid_hashes, hash_law}

-- a link that stands for no entry leads nowhere
pub nothing_there : (half : Half) (kind : Kind) (all : List Entry) (held : ℕ → Held) (kid : ℕ → ℕ → Option ℕ) (left : ℕ) (path : List ℕ)
    (link : Option ℕ) → StandsFor half kind all held kid left path link [] → link ≡ None
unfolding StandsFor
nothing_there half kind all held kid zero path link s = s
nothing_there half kind all held kid (suc left) path link s = s

module _ (half : Half) (kind : Kind) (nodes : List Body) where
  -- the node at a place, and where it leads
  abbrev Shares : List Entry → ℕ → List ℕ → Option ℕ → List Entry → Type 0
  Shares all left path link items = StandsFor half kind all (node_at half kind nodes) (kid_at nodes) left path link items

  nowhere : (path : List ℕ) (link : Link) → IsBelow (length nodes) link → found half kind nodes path link ≡ none → place_of link ≡ None
  nowhere path Empty low e = refl
  nowhere path (Unloaded h) low e = refl
  nowhere path (Own i) low e = absurd (some_within nodes i low (body_none path (slice_get nodes i) e))

  none_shares : (all : List Entry) (left : ℕ) (path : List ℕ) (link : Option ℕ) → link ≡ None → Shares all left path link []
  unfolding StandsFor
  none_shares all zero path link e = e
  none_shares all (suc left) path link e = e

  leaf_shares : (all : List Entry) (left : ℕ) (path : List ℕ) (i : ℕ) (e : Entry) → 0 < length path
      → slice_get nodes i ≡ Some (leaf e.0 e.1) → Shares all left path (Some i) (e ∷ [])
  unfolding StandsFor
  leaf_shares all zero path i e long is = (
    i,
    refl,
    record {
      is_leaf = ap (node_of kind (link_hash half kind nodes)) is;
      no_kids = λ b low. ap (λ o. place_of (branch_in b o)) is;
    },
  )
  leaf_shares all (suc left) [] i e long is = absurd (omega arith)
  leaf_shares all (suc left) (n ∷ path) i e long is = (
    i,
    refl,
    record {
      is_leaf = ap (node_of kind (link_hash half kind nodes)) is;
      no_kids = λ b low. ap (λ o. place_of (branch_in b o)) is;
    },
  )

  -- what is said of an inner node at a place
  abbrev IsInner : List Entry → ℕ → List ℕ → ℕ → Type 0
  IsInner all left path i =
      IsInnerNode (λ b below. Shares all left (path ++ b ∷ []) below (part all (path ++ b ∷ []))) (node_at half kind nodes) (kid_at nodes) i
      (hashes_below half kind all left path)

  inner_shares : (all : List Entry) (left : ℕ) (path : List ℕ) (i : ℕ) (items : List Entry) → fewest path ≤ length items
      → IsInner all left path i → Shares all (suc left) path (Some i) items
  unfolding StandsFor
  inner_shares all left path i [] enough x = absurd (omega (arith, fewest_some path, enough))
  inner_shares all left path i (e ∷ others) enough x = (
    i,
    refl,
    subst (λ t. IsNode t (IsLeafNode (node_at half kind nodes) (kid_at nodes) kind i e) (IsInner all left path i))
        (sym (crowded path e others enough)) x,
  )

  -- what is said of links a level lower
  abbrev Share : List Entry → ℕ → Type 0
  Share all left = (path : List ℕ) (link : Link) (items : List Entry) → IsBelow (length nodes) link
      → Stands half kind nodes left path link items → part all path ≡ items → Shares all left path (place_of link) items

  kid_shares : AreBodies nodes → (all : List Entry) (left : ℕ) → Share all left → (path : List ℕ) (items : List Entry) (links : List Link)
      (i : ℕ) → i < length nodes → slice_get nodes i ≡ Some (inner links)
      → Forks (Below half nothing_held kind nodes (suc left) path) path links items → part all path ≡ items
      → (b : ℕ) → b < 16 → Shares all left (path ++ b ∷ []) (kid_at nodes i b) (part all (path ++ b ∷ []))
  kid_shares bodies all left more path items links i within is forks whole b low =
      let link = slice_index_or links b Empty in
      let below : IsBelow (length nodes) link = weaker i (length nodes) link (omega arith) ((bodies i (inner links) is).1 b) in
      let at : kid_at nodes i b ≡ place_of link = ap (λ o. place_of (branch_in b o)) is in
      subst (λ l. Shares all left (path ++ b ∷ []) l (part all (path ++ b ∷ []))) (sym at)
      (more (path ++ b ∷ []) link (part all (path ++ b ∷ [])) below
      (kid_stands half kind nodes all left path links items forks whole b low) refl)

  fork_shares : AreBodies nodes → (all : List Entry) (left : ℕ) → Share all left → (path : List ℕ) (link : Link) (items : List Entry)
      (links : List Link) → IsBelow (length nodes) link → found half kind nodes path link ≡ fork links
      → Forks (Below half nothing_held kind nodes (suc left) path) path links items → part all path ≡ items
      → Shares all (suc left) path (place_of link) items
  fork_shares bodies all left more path link items links low e forks whole =
      let is = fork_link half kind nodes path link links e in
      let within : is.0 < length nodes = subst (IsBelow (length nodes)) is.1 low in
      let same : map (link_hash half kind nodes) links
      ≡ map (λ b. Sub half kind nodes all left (path ++ b ∷ []) (part all (path ++ b ∷ []))) branches =
      map_by_index (link_hash half kind nodes) Empty links forks.width
      ∙ map_each (λ b. link_hash half kind nodes (slice_index_or links b Empty))
      (λ b. Sub half kind nodes all left (path ++ b ∷ []) (part all (path ++ b ∷ [])))
      (kid_hashes half kind nodes all left (hash_law half kind nodes bodies all left) path links items forks whole) in
      subst (λ l. Shares all (suc left) path (place_of l) items) (sym is.1)
      (inner_shares all left path is.0 items forks.enough record {
        is_inner = ap (node_of kind (link_hash half kind nodes)) is.2 ∙ ap held.inner same;
        each = kid_shares bodies all left more path items links is.0 within is.2 forks whole;
      })

  found_none : (all : List Entry) (left : ℕ) (path : List ℕ) (link : Link) (items : List Entry) → IsBelow (length nodes) link
      → found half kind nodes path link ≡ none → items ≡ [] → Shares all left path (place_of link) items
  found_none all left path link items low e nothing =
      subst (λ es. Shares all left path (place_of link) es) (sym nothing)
      (none_shares all left path (place_of link) (nowhere path link low e))

  found_one : (all : List Entry) (left : ℕ) (path : List ℕ) (link : Link) (items : List Entry) (key : Hash) (bytes : Bytes)
      → found half kind nodes path link ≡ one key bytes → items ≡ (key, bytes) ∷ [] → Shares all left path (place_of link) items
  found_one all left path link items key bytes e alone =
      let is = one_link half kind nodes path link key bytes e in
      subst (λ es. Shares all left path (place_of link) es) (sym alone)
      (subst (λ l. Shares all left path (place_of l) ((key, bytes) ∷ [])) (sym is.1)
      (leaf_shares all left path is.0 (key, bytes) (one_long half kind nodes path link key bytes e) is.2))

  share_zero : (all : List Entry) (path : List ℕ) (link : Link) (items : List Entry) → IsBelow (length nodes) link → (f : Found)
      → found half kind nodes path link ≡ f → Holds (Below half nothing_held kind nodes zero path) path f items
      → Shares all zero path (place_of link) items
  share_zero all path link items low none e h = found_none all zero path link items low e h
  share_zero all path link items low (one key bytes) e h = found_one all zero path link items key bytes e h.alone
  share_zero all path link items low (fork links) e h = absurd (h.each 0 (omega arith))
  share_zero all path link items low (lacks g) e h = absurd h
  share_zero all path link items low (breaks fault) e h = absurd h

  share_suc : AreBodies nodes → (all : List Entry) (left : ℕ) → Share all left → (path : List ℕ) (link : Link) (items : List Entry)
      → IsBelow (length nodes) link → part all path ≡ items → (f : Found) → found half kind nodes path link ≡ f
      → Holds (Below half nothing_held kind nodes (suc left) path) path f items → Shares all (suc left) path (place_of link) items
  share_suc bodies all left more path link items low whole none e h = found_none all (suc left) path link items low e h
  share_suc bodies all left more path link items low whole (one key bytes) e h =
      found_one all (suc left) path link items key bytes e h.alone
  share_suc bodies all left more path link items low whole (fork links) e h =
      fork_shares bodies all left more path link items links low e h whole
  share_suc bodies all left more path link items low whole (lacks g) e h = absurd h
  share_suc bodies all left more path link items low whole (breaks fault) e h = absurd h

  -- the nodes of the list stand for what the links stand for
  pub share_law : AreBodies nodes → (all : List Entry) (left : ℕ) → Share all left
  share_law bodies all zero path link items low stands whole =
      share_zero all path link items low (found half kind nodes path link) refl
      (stands_into half nothing_held kind nodes zero path link items (found half kind nodes path link) refl stands)
  share_law bodies all (suc left) path link items low stands whole =
      share_suc bodies all left (share_law bodies all left) path link items low whole (found half kind nodes path link) refl
      (stands_into half nothing_held kind nodes (suc left) path link items (found half kind nodes path link) refl stands)
