-- What a change leaves to the source was left to it, or is reached from what was.
use Rattle.std.proofs.Common.{◌≡◌, inl, inr, ℕ, zero, suc, ◌+◌, ◌-◌, ◌<◌, ◌≤◌, ◌==◌, ◌||◌, Bool, true, false, if◌then◌else◌, List, []}
use Rattle.std.proofs.Common.{◌∷◌, ◌++◌}
use Rattle.std.proofs.Common.{length, Option, None, Some, refl, sym, ap, ◌∙◌, subst, arith, slice_index_or, Contains}
use Rattle.std.specs.List.{slice_get, flat_map, list_any, range_with_len}
use Rattle.std.proofs.lemmas.List.Elements.{Contains-append_left, Contains-append_right, Contains-append_cases}
use Rattle.std.proofs.lemmas.Bool.{cases_eq}
use Rattle.std.proofs.lemmas.Map.Views.{Contains-from_any}
use Rattle.std.proofs.lemmas.Slice.Eq.{bytes_eq-Decides}
use Rattle.ledger_spec.specs.declared.Kind.{Kind}
use Rattle.ledger_spec.specs.declared.ShapeFault.TheVariants.{InnerAtBottom}
use Rattle.ledger_spec.specs.Bytes.{Bytes, Hash, Half, Items, Lookup, same_bytes, branches}
use Rattle.ledger_spec.specs.Maps.{hash_cmp, insert_in, remove_in}
use Rattle.ledger_spec.specs.Rules.{fault_of}
use Rattle.ledger_spec.specs.Findings.{sight_of}
use Rattle.ledger_spec.specs.Reach.{Reach, root, Stored}
use Rattle.ledger_spec.specs.Tree.{Entry}
use Rattle.cow_map.specs.declared.link.Link.{Link}
use Rattle.cow_map.specs.declared.link.Link.TheVariants.{Empty, Unloaded, Own}
use Rattle.cow_map.specs.Bodies.{Body, leaf, inner, CowTree}
use Rattle.cow_map.specs.Edits.{IsSub, Sets, Removes}
use Rattle.cow_map.specs.Trees.{Found, none, one, fork, lacks, breaks, found_at, found_body, found_seen, Forks, StandsAt, StandsFor}
use Rattle.cow_map.specs.Unloaded.{unloaded_of, unloaded_at, unloaded, KeepsReach}
use Rattle.cow_map.proofs.Moving.{kid_reached, link_reached, link_stored, own_end, not_in_none, in_one, in_head}
use Rattle.cow_map.proofs.shared.Standing.{Below, stands_into, holds_map}
use Rattle.cow_map.proofs.Standing.{stands_from}

-- whether a hash is in the list
abbrev is_in : Hash → List Hash → Bool
is_in h hashes = list_any (same_bytes h) hashes

or_left : (a b : Bool) → a ≡ true → (a || b) ≡ true
or_left true b e = refl
or_left false b e = cc

or_right : (a b : Bool) → b ≡ true → (a || b) ≡ true
or_right true b e = refl
or_right false b e = e

has_in : (hashes : List Hash) (h : Hash) → Contains hashes h → is_in h hashes ≡ true
has_in [] h c = absurd (omega (arith, c.1))
has_in (x ∷ hashes) h (zero, low, is) = or_left (same_bytes h x) (is_in h hashes) ((bytes_eq-Decides h x).1 (sym is))
has_in (x ∷ hashes) h (suc k, low, is) = or_right (same_bytes h x) (is_in h hashes) (has_in hashes h (k, omega arith, is))

-- a source that holds what the other does under these hashes alone
abbrev kept_under : List Hash → Lookup → Lookup
kept_under hashes stored h = if is_in h hashes then stored h else None

kept_same : (hashes : List Hash) (stored : Lookup) (h : Hash) → is_in h hashes ≡ true → kept_under hashes stored h ≡ stored h
kept_same hashes stored h is = ap (λ t. if t then stored h else None) is

kept_sub : (hashes : List Hash) (stored : Lookup) → IsSub (kept_under hashes stored) stored
kept_sub hashes stored h form e = by (is_in h hashes) refl
  where
    by : (t : Bool) → is_in h hashes ≡ t → stored h ≡ Some form
    by true is = sym (kept_same hashes stored h is) ∙ e
    by false is = let wrong : None ≡ Some form = sym (ap (λ t. if t then stored h else None) is) ∙ e in cc

kept_in : (hashes : List Hash) (stored : Lookup) (h : Hash) → Stored (kept_under hashes stored) h → is_in h hashes ≡ true
kept_in hashes stored h held = by (is_in h hashes) refl
  where
    by : (t : Bool) → is_in h hashes ≡ t → is_in h hashes ≡ true
    by true is = is
    by false is = let wrong : None ≡ Some held.0 = sym (ap (λ t. if t then stored h else None) is) ∙ held.1 in cc

-- the hashes of a branch are among those of all
in_range : (f : ℕ → List Hash) (n a b : ℕ) (h : Hash) → a ≤ b → b < a + n → Contains (f b) h → Contains (flat_map f (range_with_len a n)) h
in_range f zero a b h from low c = absurd (omega arith)
in_range f (suc n) a b h from low c = elim (cases_eq a b) [
  | inl same ↦ Contains-append_left (f a) (flat_map f (range_with_len (a + 1) n)) h (subst (λ d. Contains (f d) h) (sym same) c)
  | inr other ↦ Contains-append_right (f a) (flat_map f (range_with_len (a + 1) n)) h
      (in_range f n (a + 1) b h (omega (arith, other)) (omega arith) c)
]

-- and one of all is one of some branch
range_cases : (f : ℕ → List Hash) (n a : ℕ) (h : Hash) → Contains (flat_map f (range_with_len a n)) h
    → (b : ℕ) × (a ≤ b) × (b < a + n) × Contains (f b) h
range_cases f zero a h c = absurd (not_in_none h c)
range_cases f (suc n) a h c = elim (Contains-append_cases (f a) (flat_map f (range_with_len (a + 1) n)) h c) [
  | inl first ↦ (a, omega arith, omega arith, first)
  | inr more ↦ let rest = range_cases f n (a + 1) h more in (rest.0, omega (arith, rest.1), omega (arith, rest.2), rest.3)
]

link_cases : (f : Link → List Hash) (links : List Link) (h : Hash) → Contains (flat_map f links) h
    → (b : ℕ) × (b < length links) × Contains (f (slice_index_or links b Empty)) h
link_cases f [] h c = absurd (not_in_none h c)
link_cases f (l ∷ links) h c = elim (Contains-append_cases (f l) (flat_map f links) h c) [
  | inl first ↦ (0, omega arith, first)
  | inr more ↦ let rest = link_cases f links h more in (suc rest.0, omega (arith, rest.1), rest.2)
]

-- the hash of a link to a node of the source
abbrev hash_in : Link → List Hash
hash_in Empty = []
hash_in (Unloaded h) = h ∷ []
hash_in (Own i) = []

abbrev below_found : (ℕ → Link → List Hash) → Found → List Hash
below_found next none = []
below_found next (one key bytes) = []
below_found next (fork links) = flat_map (λ b. next b (slice_index_or links b Empty)) branches
below_found next (lacks h) = []
below_found next (breaks fault) = []

-- the hashes under which the source is needed, with `left` levels below the link
unfoldable needed : Half → Lookup → Kind → List Body → ℕ → List ℕ → Link → List Hash
needed half stored kind nodes zero path link = hash_in link
needed half stored kind nodes (suc left) path link =
    hash_in link ++ below_found (λ b l. needed half stored kind nodes left (path ++ b ∷ []) l) (found_at half stored kind nodes path link)

module _ (half : Half) (stored : Lookup) (kind : Kind) (nodes : List Body) where
  abbrev Next : ℕ → List ℕ → ℕ → Link → List Hash
  Next left path b l = needed half stored kind nodes left (path ++ b ∷ []) l

  needs_here : (left : ℕ) (path : List ℕ) (g : Hash) → Contains (needed half stored kind nodes left path (Unloaded g)) g
  unfolding needed
  needs_here zero path g = in_head g []
  needs_here (suc left) path g = in_head g (below_found (Next left path) (found_at half stored kind nodes path (Unloaded g)))

  needs_below : (left : ℕ) (path : List ℕ) (link : Link) (links : List Link) → found_at half stored kind nodes path link ≡ fork links
      → (b : ℕ) → b < 16 → (h : Hash) → Contains (needed half stored kind nodes left (path ++ b ∷ []) (slice_index_or links b Empty)) h
      → Contains (needed half stored kind nodes (suc left) path link) h
  unfolding needed
  needs_below left path link links found b low h c =
      Contains-append_right (hash_in link) (below_found (Next left path) (found_at half stored kind nodes path link)) h
      (subst (λ f. Contains (below_found (Next left path) f) h) (sym found)
      (in_range (λ d. needed half stored kind nodes left (path ++ d ∷ []) (slice_index_or links d Empty)) 16 0 b h (omega arith)
      (omega arith) c))

  -- over a source that keeps what is needed
  module _ (hashes : List Hash) where
    abbrev Covers : ℕ → List ℕ → Link → Type 0
    Covers left path link = (h : Hash) → Contains (needed half stored kind nodes left path link) h → is_in h hashes ≡ true

    found_kept : (left : ℕ) (path : List ℕ) (link : Link) → Covers left path link
        → found_at half (kept_under hashes stored) kind nodes path link ≡ found_at half stored kind nodes path link
    found_kept left path Empty covers = refl
    found_kept left path (Own i) covers = refl
    found_kept left path (Unloaded g) covers =
        ap (λ o. found_seen g (sight_of half (λ n. fault_of n None kind path) o))
        (kept_same hashes stored g (covers g (needs_here left path g)))

    stands_kept : (left : ℕ) (path : List ℕ) (link : Link) (items : List Entry) → Covers left path link
        → StandsAt half stored kind nodes left path link items → StandsAt half (kept_under hashes stored) kind nodes left path link items
    stands_kept zero path link items covers stands =
        stands_from half (kept_under hashes stored) kind nodes 0 path link items (found_at half stored kind nodes path link)
        (found_kept 0 path link covers)
        (holds_map (Below half stored kind nodes 0 path) (Below half (kept_under hashes stored) kind nodes 0 path) path
        (found_at half stored kind nodes path link) items (λ links b es is low below. below)
        (stands_into half stored kind nodes 0 path link items (found_at half stored kind nodes path link) refl stands))
    stands_kept (suc left) path link items covers stands =
        stands_from half (kept_under hashes stored) kind nodes (suc left) path link items (found_at half stored kind nodes path link)
        (found_kept (suc left) path link covers)
        (holds_map (Below half stored kind nodes (suc left) path) (Below half (kept_under hashes stored) kind nodes (suc left) path) path
        (found_at half stored kind nodes path link) items
        (λ links b es is low below. stands_kept left (path ++ b ∷ []) (slice_index_or links b Empty) es
        (λ h c. covers h (needs_below left path link links is b low h c)) below)
        (stands_into half stored kind nodes (suc left) path link items (found_at half stored kind nodes path link) refl stands))

  -- all that is needed is reached
  module _ (roots : List Hash) where
    abbrev IsReached : ℕ → Link → Type 0
    IsReached left link = (h : Hash) → Contains (unloaded_at nodes left link) h → Stored stored h → Reach stored roots h

    here_reached : (left : ℕ) (path : List ℕ) (link : Link) (items : List Entry) → IsReached left link
        → StandsAt half stored kind nodes left path link items → (h : Hash) → Contains (hash_in link) h → Reach stored roots h
    here_reached left path Empty items reached stands h c = absurd (not_in_none h c)
    here_reached left path (Own i) items reached stands h c = absurd (not_in_none h c)
    here_reached left path (Unloaded g) items reached stands h c =
        subst (Reach stored roots) (in_one g h c)
        (link_reached half stored stored kind nodes roots (λ x r. refl) left path g items reached stands)

    abbrev IsNeeded : ℕ → Type 0
    IsNeeded left =
        (path : List ℕ) (link : Link) (items : List Entry) → IsReached left link → StandsAt half stored kind nodes left path link items
        → (h : Hash) → Contains (needed half stored kind nodes left path link) h → Reach stored roots h

    below_reached : (left : ℕ) → IsNeeded left → (path : List ℕ) (link : Link) (items : List Entry) → IsReached (suc left) link
        → StandsAt half stored kind nodes (suc left) path link items → (h : Hash) (f : Found)
        → found_at half stored kind nodes path link ≡ f
        → Contains (below_found (Next left path) f) h → Reach stored roots h
    below_reached left law path link items reached stands h none is c = absurd (not_in_none h c)
    below_reached left law path link items reached stands h (one key bytes) is c = absurd (not_in_none h c)
    below_reached left law path link items reached stands h (lacks g) is c = absurd (not_in_none h c)
    below_reached left law path link items reached stands h (breaks fault) is c = absurd (not_in_none h c)
    below_reached left law path link items reached stands h (fork links) is c =
        let at = range_cases (λ b. Next left path b (slice_index_or links b Empty)) 16 0 h c in
        let forks : Forks (Below half stored kind nodes (suc left) path) path links items =
        stands_into half stored kind nodes (suc left) path link items (fork links) is stands in
        law (path ++ at.0 ∷ []) (slice_index_or links at.0 Empty) (forks.kids at.0)
        (kid_reached half stored stored kind nodes roots (λ x r. refl) left path link items links reached stands is at.0)
        (forks.each at.0 at.2) h at.3

    needed_reached : (left : ℕ) → IsNeeded left
    unfolding needed
    needed_reached zero path link items reached stands h c = here_reached zero path link items reached stands h c
    needed_reached (suc left) path link items reached stands h c =
        elim (Contains-append_cases (hash_in link) (below_found (Next left path) (found_at half stored kind nodes path link)) h c) [
          | inl here ↦ here_reached (suc left) path link items reached stands h here
          | inr below ↦ below_reached left (needed_reached left) path link items reached stands h
              (found_at half stored kind nodes path link) refl below
        ]

  -- what a link that stands for something leaves to the source is held there
  abbrev pub IsHeldLeft : ℕ → Type 0
  IsHeldLeft left =
      (path : List ℕ) (link : Link) (items : List Entry) → StandsAt half stored kind nodes left path link items
      → (h : Hash) → Contains (unloaded_at nodes left link) h → Stored stored h

  pub forked : (left : ℕ) (path : List ℕ) (i : ℕ) (items : List Entry) (links : List Link) (t : Bool) → (length path == 64) ≡ t
      → slice_get nodes i ≡ Some (inner links) → StandsAt half stored kind nodes left path (Own i) items
      → found_at half stored kind nodes path (Own i) ≡ fork links
  forked left path i items links true deep at stands =
      absurd (stands_into half stored kind nodes left path (Own i) items (breaks InnerAtBottom)
      (ap (found_body path) at ∙ ap (λ t. if t then breaks InnerAtBottom else fork links) deep) stands)
  forked left path i items links false short at stands =
      ap (found_body path) at ∙ ap (λ t. if t then breaks InnerAtBottom else fork links) short

  own_held : (left : ℕ) → IsHeldLeft left → (path : List ℕ) (i : ℕ) (items : List Entry)
      → StandsAt half stored kind nodes (suc left) path (Own i) items → (h : Hash) (o : Option Body) → slice_get nodes i ≡ o
      → Contains (unloaded_of (unloaded_at nodes left) o) h → Stored stored h
  own_held left law path i items stands h None at c = absurd (not_in_none h c)
  own_held left law path i items stands h (Some (leaf key bytes)) at c = absurd (not_in_none h c)
  own_held left law path i items stands h (Some (inner links)) at c =
      let found = forked (suc left) path i items links (length path == 64) refl at stands in
      let forks : Forks (Below half stored kind nodes (suc left) path) path links items =
      stands_into half stored kind nodes (suc left) path (Own i) items (fork links) found stands in
      let in_links = link_cases (unloaded_at nodes left) links h c in
      law (path ++ in_links.0 ∷ []) (slice_index_or links in_links.0 Empty) (forks.kids in_links.0)
      (forks.each in_links.0 (omega (arith, in_links.1, forks.width))) h in_links.2

  pub left_held : (left : ℕ) → IsHeldLeft left
  unfolding unloaded_at
  left_held zero path Empty items stands h c = absurd (not_in_none h c)
  left_held (suc left) path Empty items stands h c = absurd (not_in_none h c)
  left_held zero path (Unloaded g) items stands h c =
      subst (Stored stored) (in_one g h c) (link_stored half stored stored kind nodes [] (λ x r. refl) zero path g items stands)
  left_held (suc left) path (Unloaded g) items stands h c =
      subst (Stored stored) (in_one g h c) (link_stored half stored stored kind nodes [] (λ x r. refl) (suc left) path g items stands)
  left_held zero path (Own i) items stands h c = absurd (not_in_none h (subst (λ hs. Contains hs h) (own_end nodes i) c))
  left_held (suc left) path (Own i) items stands h c = own_held left (left_held left) path i items stands h (slice_get nodes i) refl c

-- where the new map stands for something over each smaller source over which the old one stands for these items
change_keeps : (half : Half) (stored : Lookup) (old new : CowTree) (items : Items) → StandsFor half stored old items
    → ((small : Lookup) → IsSub small stored → StandsFor half small old items → (next : Items) × StandsFor half small new next)
    → (h : Hash) → Contains (unloaded new) h → Reach stored (unloaded old) h
change_keeps half stored old new items stands change h c =
    let hashes = needed half stored old.kind old.nodes 64 [] old.top in
    let small = kept_under hashes stored in
    let old_small = stands_kept half stored old.kind old.nodes hashes 64 [] old.top items (λ g in_needed. has_in hashes g in_needed)
    stands in
    let next = change small (kept_sub hashes stored) old_small in
    let held = left_held half small new.kind new.nodes 64 [] new.top next.0 next.1 h c in
    let in_needed = Contains-from_any (λ x y. (bytes_eq-Decides x y).0) h hashes (kept_in hashes stored h held) in
    needed_reached half stored old.kind old.nodes (unloaded old) 64 [] old.top items (λ g inside is. root inside is) stands h in_needed

-- the same map
pub same_keeps : (half : Half) (stored : Lookup) (m : CowTree) → KeepsReach half stored m m
same_keeps half stored m items stands h c = root c (left_held half stored m.kind m.nodes 64 [] m.top items stands h c)

module _ (half : Half) (stored : Lookup) (kind : Kind) (nodes after : List Body) (top next : Link) (path key : List ℕ)
    (root_is : path ≡ []) where
  abbrev Before : CowTree
  Before = record { kind = kind; nodes = nodes; top = top }

  abbrev After : CowTree
  After = record { kind = kind; nodes = after; top = next }

  -- an item was set
  pub set_keeps : (value : Bytes) → Sets half stored kind nodes after (64 - length path) path top next key value
      → KeepsReach half stored Before After
  set_keeps value sets items stands h c =
      let at_root = subst (λ p. Sets half stored kind nodes after (64 - length p) p top next key value) root_is sets in
      change_keeps half stored Before After items stands
      (λ small sub old. (insert_in hash_cmp items key value, at_root small sub items old)) h c

  -- a key was removed
  pub removed_keeps : Removes half stored kind nodes after (64 - length path) path top key (Some next)
      → KeepsReach half stored Before After
  removed_keeps removes items stands h c =
      let at_root = subst (λ p. Removes half stored kind nodes after (64 - length p) p top key (Some next)) root_is removes in
      change_keeps half stored Before After items stands
      (λ small sub old. (remove_in hash_cmp items key, (at_root small sub items old).1)) h c
