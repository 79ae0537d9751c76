-- A map over another source that has the same where the map needs it.
use Rattle.std.proofs.Common.{◌≡◌, ℕ, zero, suc, Bool, true, false, cond, if◌then◌else◌, not, List, [], ◌∷◌, ◌++◌, map, Option, None}
use Rattle.std.proofs.Common.{Some, refl, sym, ap, ◌∙◌, subst, arith, slice_index_or, filter, Contains}
use Rattle.std.specs.List.{slice_get, flat_map}
use Rattle.std.specs.Option.{option_or, option_map}
use Rattle.std.proofs.lemmas.List.Elements.{Contains-append_left, Contains-append_right}
use Rattle.ledger_spec.specs.declared.Kind.{Kind}
use Rattle.ledger_spec.specs.declared.Kind.TheVariants.{State, Tx, Set}
use Rattle.ledger_spec.specs.Bytes.{Bytes, Hash, Half, Lookup, is_zero, is_nonzero}
use Rattle.ledger_spec.specs.Forms as held
use Rattle.ledger_spec.specs.Forms.{Held, inner_of, header_of, keyed_leaf_of, bare_leaf_of}
use Rattle.ledger_spec.specs.Rules.{fault_of}
use Rattle.ledger_spec.specs.Findings.{sight_of, held_of, sound}
use Rattle.ledger_spec.specs.Reach.{Reach, root, kid, named_by, Stored}
use Rattle.ledger_spec.specs.Tree.{Entry}
pub use Rattle.tree_laws.proofs.shared.Joins.{in_head}
use Rattle.cow_map.specs.declared.link.Link.{Link}
use Rattle.cow_map.specs.declared.link.Link.TheVariants.{Empty, Unloaded, Own}
use Rattle.cow_map.specs.Bodies.{Body, leaf, inner}
use Rattle.cow_map.specs.Trees.{none, fork, lacks, found_at, found_seen, StandsAt, link_to}
use Rattle.cow_map.specs.Unloaded.{unloaded_of, unloaded_at, unloaded, StaysOverReach}
use Rattle.cow_map.proofs.shared.Leading.{body_fork}
use Rattle.cow_map.proofs.Leading.{seen_fork}
use Rattle.cow_map.proofs.shared.Standing.{Below, stands_into, holds_map}
use Rattle.cow_map.proofs.Standing.{stands_from}
use Rattle.cow_map.proofs.Sealing.{sound_held}

pub in_tail : {A : Type 0} (x y : A) (xs : List A) → Contains xs y → Contains (x ∷ xs) y
in_tail x y xs c = (suc c.0, omega (arith, c.1), c.2)

-- bytes that hold an inner node are its form
cond_leaf : (t : Bool) (k : Kind) (key : Hash) (v : Bytes) (hs : List Hash)
    → (if t then Some (held.leaf k key v) else None) ≡ Some (held.inner hs) → ⊥
cond_leaf true k key v hs e = cc
cond_leaf false k key v hs e = cc

keyed_inner : (kind : Kind) (b : Bytes) (hs : List Hash) → keyed_leaf_of kind b ≡ Some (held.inner hs) → ⊥
unfolding keyed_leaf_of
keyed_inner kind b hs e = cond_leaf _ kind _ _ hs e

bare_inner : (half : Half) (b : Bytes) (hs : List Hash) → bare_leaf_of half b ≡ Some (held.inner hs) → ⊥
unfolding bare_leaf_of
bare_inner half b hs e = cond_leaf _ Set _ _ hs e

by_parts : (i : Option (List Hash)) (h : Option Bytes) (s t u : Option Held) (hashes : List Hash) → (s ≡ Some (held.inner hashes) → ⊥)
    → (t ≡ Some (held.inner hashes) → ⊥) → (u ≡ Some (held.inner hashes) → ⊥)
    → option_or (option_map held.inner i) (option_or (option_map held.header h) (option_or s (option_or t u))) ≡ Some (held.inner hashes)
    → i ≡ Some hashes
by_parts (Some hs) h s t u hashes p q r e = cc
by_parts None (Some b) s t u hashes p q r e = cc
by_parts None None (Some n) t u hashes p q r e = absurd (p e)
by_parts None None None (Some n) u hashes p q r e = absurd (q e)
by_parts None None None None u hashes p q r e = absurd (r e)

inner_held : (half : Half) (form : Bytes) (hashes : List Hash) → held_of half form ≡ Some (held.inner hashes) → inner_of form ≡ Some hashes
inner_held half form hashes e =
    by_parts (inner_of form) (header_of form) (keyed_leaf_of State form) (keyed_leaf_of Tx form) (bare_leaf_of half form) hashes
    (keyed_inner State form hashes) (keyed_inner Tx form hashes) (bare_inner half form hashes) e

pub none_left : (nodes : List Body) (left : ℕ) → unloaded_at nodes left Empty ≡ []
unfolding unloaded_at
none_left nodes zero = refl
none_left nodes (suc left) = refl

pub one_left : (nodes : List Body) (left : ℕ) (h : Hash) → unloaded_at nodes left (Unloaded h) ≡ h ∷ []
unfolding unloaded_at
one_left nodes zero h = refl
one_left nodes (suc left) h = refl

pub own_left : (nodes : List Body) (left i : ℕ) (links : List Link) → slice_get nodes i ≡ Some (inner links)
    → unloaded_at nodes (suc left) (Own i) ≡ flat_map (unloaded_at nodes left) links
unfolding unloaded_at
own_left nodes left i links at = ap (unloaded_of (unloaded_at nodes left)) at

pub own_end : (nodes : List Body) (i : ℕ) → unloaded_at nodes 0 (Own i) ≡ []
unfolding unloaded_at
own_end nodes i = by (slice_get nodes i)
  where
    flat_none : (links : List Link) → flat_map {A = Hash} (λ (l : Link). []) links ≡ []
    flat_none [] = refl
    flat_none (l ∷ links) = flat_none links

    by : (o : Option Body) → unloaded_of (λ l. []) o ≡ []
    by None = refl
    by (Some (leaf key bytes)) = refl
    by (Some (inner links)) = flat_none links

pub not_in_none : {A : Type 0} (x : A) → Contains [] x → ⊥
not_in_none x c = omega (arith, c.1)

pub in_one : {A : Type 0} (x y : A) → Contains (x ∷ []) y → x ≡ y
in_one x y (zero, low, is) = is
in_one x y (suc k, low, is) = absurd (omega arith)

in_filter : (xs ys : List Hash) (x : Hash) (t : Bool) → is_zero x ≡ t → (h : Hash) → Contains (filter is_nonzero xs) h
    → Contains (filter is_nonzero (x ∷ xs)) h
in_filter xs ys x true z h c = subst (λ t. Contains (cond (not t) (x ∷ filter is_nonzero xs) (filter is_nonzero xs)) h) (sym z) c
in_filter xs ys x false z h c =
    subst (λ t. Contains (cond (not t) (x ∷ filter is_nonzero xs) (filter is_nonzero xs)) h) (sym z) (in_tail x h (filter is_nonzero xs) c)

-- a hash that a branch leaves to the source is a kid of the node
branch_here : (nodes : List Body) (left : ℕ) (x : Hash) (hashes : List Hash) (t : Bool) → is_zero x ≡ t → (h : Hash)
    → Contains (unloaded_at nodes left (link_to x)) h → Contains (filter is_nonzero (x ∷ hashes)) h
branch_here nodes left x hashes true z h c =
    absurd (not_in_none h
    (subst (λ xs. Contains xs h) (ap (λ t. unloaded_at nodes left (if t then Empty else Unloaded x)) z ∙ none_left nodes left) c))
branch_here nodes left x hashes false z h c =
    let same : x ≡ h = in_one x h
    (subst (λ xs. Contains xs h) (ap (λ t. unloaded_at nodes left (if t then Empty else Unloaded x)) z ∙ one_left nodes left x) c) in
    subst (λ t. Contains (cond (not t) (x ∷ filter is_nonzero hashes) (filter is_nonzero hashes)) h) (sym z)
    (subst (λ y. Contains (x ∷ filter is_nonzero hashes) y) same (in_head x (filter is_nonzero hashes)))

branch_kid : (nodes : List Body) (left : ℕ) (hashes : List Hash) (b : ℕ) (h : Hash)
    → Contains (unloaded_at nodes left (slice_index_or (map link_to hashes) b Empty)) h → Contains (filter is_nonzero hashes) h
branch_kid nodes left [] b h c = absurd (not_in_none h (subst (λ xs. Contains xs h) (none_left nodes left) c))
branch_kid nodes left (x ∷ hashes) zero h c = branch_here nodes left x hashes (is_zero x) refl h c
branch_kid nodes left (x ∷ hashes) (suc b) h c = in_filter hashes hashes x (is_zero x) refl h (branch_kid nodes left hashes b h c)

-- what a branch of a node of its own leaves to the source, the node does
in_flat : (f : Link → List Hash) (links : List Link) (b : ℕ) (h : Hash) → f Empty ≡ [] → Contains (f (slice_index_or links b Empty)) h
    → Contains (flat_map f links) h
in_flat f [] b h none_is c = absurd (not_in_none h (subst (λ xs. Contains xs h) none_is c))
in_flat f (l ∷ links) zero h none_is c = Contains-append_left (f l) (flat_map f links) h c
in_flat f (l ∷ links) (suc b) h none_is c = Contains-append_right (f l) (flat_map f links) h (in_flat f links b h none_is c)

module _ (half : Half) (stored other : Lookup) (kind : Kind) (nodes : List Body) (roots : List Hash)
    (same : (h : Hash) → Reach stored roots h → other h ≡ stored h) where
  -- what the link leaves to the source is reached
  abbrev Reached : ℕ → Link → Type 0
  Reached left link = (h : Hash) → Contains (unloaded_at nodes left link) h → Stored stored h → Reach stored roots h

  seen_stored : (path : List ℕ) (h : Hash) (o : Option Bytes) → stored h ≡ o
      → (found_at half stored kind nodes path (Unloaded h) ≡ lacks h → ⊥) → Stored stored h
  seen_stored path h None is no_lack = absurd (no_lack (ap (λ o. found_seen h (sight_of half (λ n. fault_of n None kind path) o)) is))
  seen_stored path h (Some form) is no_lack = (form, is)

  pub link_stored : (left : ℕ) (path : List ℕ) (h : Hash) (items : List Entry)
      → StandsAt half stored kind nodes left path (Unloaded h) items
      → Stored stored h
  link_stored left path h items stands =
      seen_stored path h (stored h) refl
      (λ lacks_it. stands_into half stored kind nodes left path (Unloaded h) items (lacks h) lacks_it stands)

  pub link_reached : (left : ℕ) (path : List ℕ) (h : Hash) (items : List Entry) → Reached left (Unloaded h)
      → StandsAt half stored kind nodes left path (Unloaded h) items → Reach stored roots h
  link_reached left path h items reached stands =
      reached h (subst (λ xs. Contains xs h) (sym (one_left nodes left h)) (in_head h [])) (link_stored left path h items stands)

  found_other : (left : ℕ) (path : List ℕ) (link : Link) (items : List Entry) → Reached left link
      → StandsAt half stored kind nodes left path link items
      → found_at half other kind nodes path link ≡ found_at half stored kind nodes path link
  found_other left path Empty items reached stands = refl
  found_other left path (Own i) items reached stands = refl
  found_other left path (Unloaded h) items reached stands =
      ap (λ o. found_seen h (sight_of half (λ n. fault_of n None kind path) o)) (same h (link_reached left path h items reached stands))

  sight_held : (o : Option Bytes) (path : List ℕ) (n : Held) → sight_of half (λ m. fault_of m None kind path) o ≡ sound n → (form : Bytes)
      × (o ≡ Some form) × (held_of half form ≡ Some n)
  sight_held None path n e = cc
  sight_held (Some form) path n e = (form, refl, (sound_held (λ m. fault_of m None kind path) (held_of half form) n e).0)

  -- and what its branches leave
  pub kid_reached : (left : ℕ) (path : List ℕ) (link : Link) (items : List Entry) (links : List Link) → Reached (suc left) link
      → StandsAt half stored kind nodes (suc left) path link items → found_at half stored kind nodes path link ≡ fork links
      → (b : ℕ) → Reached left (slice_index_or links b Empty)
  kid_reached left path Empty items links reached stands found b h c is = absurd (no_fork found)
    where
      no_fork : none ≡ fork links → ⊥
      no_fork e = cc
  kid_reached left path (Own i) items links reached stands found b h c is =
      reached h (subst (λ xs. Contains xs h) (sym (own_left nodes left i links (body_fork path (slice_get nodes i) links found)))
      (in_flat (unloaded_at nodes left) links b h (none_left nodes left) c)) is
  kid_reached left path (Unloaded g) items links reached stands found b h c is =
      let seen = seen_fork g (sight_of half (λ n. fault_of n None kind path) (stored g)) links found in
      let at = sight_held (stored g) path (held.inner seen.0) seen.1 in
      let in_kids : Contains (filter is_nonzero seen.0) h =
      branch_kid nodes left seen.0 b h (subst (λ ls. Contains (unloaded_at nodes left (slice_index_or ls b Empty)) h) seen.2 c) in
      kid (link_reached (suc left) path g items reached stands) at.1
      (subst (λ o. Contains (filter is_nonzero (named_by o (header_of at.0))) h) (sym (inner_held half at.0 seen.0 at.2)) in_kids) is

  pub stands_other : (left : ℕ) (path : List ℕ) (link : Link) (items : List Entry) → Reached left link
      → StandsAt half stored kind nodes left path link items → StandsAt half other kind nodes left path link items
  stands_other zero path link items reached stands =
      stands_from half other kind nodes 0 path link items (found_at half stored kind nodes path link)
      (found_other 0 path link items reached stands)
      (holds_map (Below half stored kind nodes 0 path) (Below half other kind nodes 0 path) path
      (found_at half stored kind nodes path link) items (λ links b es is low below. below)
      (stands_into half stored kind nodes 0 path link items (found_at half stored kind nodes path link) refl stands))
  stands_other (suc left) path link items reached stands =
      stands_from half other kind nodes (suc left) path link items (found_at half stored kind nodes path link)
      (found_other (suc left) path link items reached stands)
      (holds_map (Below half stored kind nodes (suc left) path) (Below half other kind nodes (suc left) path) path
      (found_at half stored kind nodes path link) items
      (λ links b es is low below. stands_other left (path ++ b ∷ []) (slice_index_or links b Empty) es
      (kid_reached left path link items links reached stands is b) below)
      (stands_into half stored kind nodes (suc left) path link items (found_at half stored kind nodes path link) refl stands))

pub stays : StaysOverReach
stays half stored other m items same stands =
    stands_other half stored other m.kind m.nodes (unloaded m) same 64 [] m.top items (λ h c is. root c is) stands
