-- The trees that a map leaves to its source are held there, and whole.
use Rattle.std.proofs.Common.{◌≡◌, ◌≢◌, inl, inr, ℕ, zero, suc, ◌+◌, ◌<◌, ◌≤◌, ◌==◌, ◌&&◌, nat_le, Bool, true, false, cond, not}
use Rattle.std.proofs.Common.{if◌then◌else◌, List, [], ◌∷◌, ◌++◌, length, map, Option, None, Some, refl, sym, ap, ◌∙◌, subst, arith}
use Rattle.std.proofs.Common.{slice_index_or, count_by, Contains}
use Rattle.std.specs.List.{slice_get, flat_map, range_with_len}
use Rattle.std.proofs.lemmas.Bool.{leb-true}
use Rattle.ledger_spec.specs.declared.Kind.{Kind}
use Rattle.ledger_spec.specs.declared.ShapeFault.{ShapeFault}
use Rattle.ledger_spec.specs.declared.ShapeFault.TheVariants.{WrongKind, LeafElsewhere, LoneLeaf, LeafAtRoot, Foreign}
use Rattle.ledger_spec.specs.Bytes.{Bytes, Hash, Half, Lookup, zero_hash, is_zero, is_nonzero}
use Rattle.ledger_spec.specs.Forms as held
use Rattle.ledger_spec.specs.Forms.{Held}
use Rattle.ledger_spec.specs.Rules.{fault_of, same_kind, is_lone}
use Rattle.ledger_spec.specs.Findings.{Sight, missing, broken, sound, Finding}
use Rattle.ledger_spec.specs.Tree.{Entry}
use Rattle.nib_path.specs.Paths.{lies_under}
use Rattle.tree_laws.specs.Walks.{at_place, found_below, found_in}
use Rattle.tree_laws.proofs.shared.Below.{below_zero, below_end, below_inner}
use Rattle.cow_map.specs.declared.link.Link.{Link}
use Rattle.cow_map.specs.declared.link.Link.TheVariants.{Empty, Unloaded, Own}
use Rattle.cow_map.specs.Bodies.{Body, leaf, inner}
use Rattle.cow_map.specs.Trees.{one, fork, lacks, breaks, found_seen, Forks, StandsAt, link_to}
use Rattle.cow_map.specs.Ways.{is_link, is_only}
use Rattle.cow_map.specs.Gathered.{nothing_held}
use Rattle.cow_map.specs.Unloaded.{unloaded, EachIn, EachLeft, IsLeftWhole, StandsAnywhere}
use Rattle.cow_map.proofs.Counting.{links_in, links_by}
use Rattle.cow_map.proofs.Freeing.{kid_fine, Fine}
use Rattle.cow_map.proofs.shared.Gathered.{stands_anywhere}
use Rattle.cow_map.proofs.Leading.{sight_judged}
use Rattle.cow_map.proofs.Moving.{in_head}
use Rattle.cow_map.proofs.Needing.{forked, left_held}
use Rattle.cow_map.proofs.BranchWalks.{counts, counts_by}
use Rattle.cow_map.proofs.shared.Standing.{Below, stands_into}

-- as many links lead somewhere as hashes aren't zero
count_step : (h : Hash) (hs : List Hash) (t : Bool) → is_zero h ≡ t → links_in (map link_to hs) ≡ counts hs
    → links_in (link_to h ∷ map link_to hs) ≡ counts (h ∷ hs)
unfolding links_in counts
count_step h hs true z e =
    ap (λ t. cond (is_link (if t then Empty else Unloaded h)) (1 + links_in (map link_to hs)) (links_in (map link_to hs))) z ∙ e
    ∙ sym (ap (λ t. cond (not t) (1 + counts hs) (counts hs)) z)
count_step h hs false z e =
    ap (λ t. cond (is_link (if t then Empty else Unloaded h)) (1 + links_in (map link_to hs)) (links_in (map link_to hs))) z
    ∙ ap (λ n. 1 + n) e ∙ sym (ap (λ t. cond (not t) (1 + counts hs) (counts hs)) z)

count_links : (hs : List Hash) → links_in (map link_to hs) ≡ counts hs
unfolding links_in counts
count_links [] = refl
count_links (h ∷ hs) = count_step h hs (is_zero h) refl (count_links hs)

only_links : (hs : List Hash) → is_only (map link_to hs) ≡ (count_by is_nonzero hs == 1)
only_links hs = ap (λ n. n == 1) (sym (links_by (map link_to hs)) ∙ count_links hs ∙ counts_by hs)

-- a leaf that isn't lone breaks no rule that it doesn't break without a parent
with_parent : (a b c d : Bool) (f g h l : ShapeFault)
    → (if not a then Some f else if b then Some g else if not c then Some h else None) ≡ None → d ≡ false
    → (if not a then Some f else if b then Some g else if not c then Some h else if d then Some l else None) ≡ None
with_parent false b c d f g h l e lone = cc
with_parent true true c d f g h l e lone = cc
with_parent true false false d f g h l e lone = cc
with_parent true false true true f g h l e lone = cc
with_parent true false true false f g h l e lone = refl

both_true : (a b : Bool) → (a && b) ≡ true → (a ≡ true) × (b ≡ true)
both_true true true e = (refl, refl)
both_true true false e = cc
both_true false b e = cc

flat_none : (f : ℕ → List Finding) (n a : ℕ) → ((b : ℕ) → a ≤ b → b < a + n → f b ≡ []) → flat_map f (range_with_len a n) ≡ []
flat_none f zero a none_of = refl
flat_none f (suc n) a none_of =
    let rest : flat_map f (range_with_len (a + 1) n) ≡ [] =
    flat_none f n (a + 1) (λ b low high. none_of b (omega arith) (omega arith)) in
    ap (λ xs. xs ++ flat_map f (range_with_len (a + 1) n)) (none_of a (omega arith) (omega arith)) ∙ rest

module _ (half : Half) (stored : Lookup) (kind : Kind) (nodes : List Body) where
  -- the leaf at a place is lone only where it isn't the one entry
  abbrev NotLone : Option (List Hash) → List ℕ → List Entry → Type 0
  NotLone parent path items = is_lone parent path ≡ true → length items ≢ 1

  abbrev IsWholeAt : ℕ → Type 0
  IsWholeAt left = (parent : Option (List Hash)) (path : List ℕ) (h : Hash) (items : List Entry)
      → StandsAt half stored kind nodes left path (Unloaded h) items → NotLone parent path items
      → found_below half stored kind left parent path h ≡ []

  branch_link : (hashes : List Hash) (b : ℕ)
      → slice_index_or (map link_to hashes) b Empty ≡ link_to (slice_index_or hashes b zero_hash)
  branch_link [] b = refl
  branch_link (h ∷ hashes) zero = refl
  branch_link (h ∷ hashes) (suc b) = branch_link hashes b

  -- below a branch of an inner node of the source
  branch_whole : (left : ℕ) → IsWholeAt left → (path : List ℕ) (hashes : List Hash) (items : List Entry)
      (forks : Forks (Below half stored kind nodes (suc left) path) path (map link_to hashes) items) (b : ℕ) → b < 16
      → found_below half stored kind left (Some hashes) (path ++ b ∷ []) (slice_index_or hashes b zero_hash) ≡ []
  branch_whole left law path hashes items forks b low = by (is_zero (slice_index_or hashes b zero_hash)) refl
    where
      not_lone : NotLone (Some hashes) (path ++ b ∷ []) (forks.kids b)
      not_lone lone =
          let both = both_true (nat_le 2 (length (path ++ b ∷ []))) (count_by is_nonzero hashes == 1) lone in
          let fine : Fine half stored kind nodes [] true (path ++ b ∷ []) (forks.kids b) = subst
          (λ t. Fine half stored kind nodes [] t (path ++ b ∷ []) (forks.kids b)) (only_links hashes ∙ both.1)
          (kid_fine half stored kind nodes [] left path (map link_to hashes) items forks b low) in
          apart fine (leb-true 2 (length (path ++ b ∷ [])) both.0)
        where
          apart : Fine half stored kind nodes [] true (path ++ b ∷ []) (forks.kids b) → 2 ≤ length (path ++ b ∷ [])
              → length (forks.kids b) ≢ 1
          apart (inl short) deep = absurd (omega arith)
          apart (inr other) deep = other

      by : (t : Bool) → is_zero (slice_index_or hashes b zero_hash) ≡ t
          → found_below half stored kind left (Some hashes) (path ++ b ∷ []) (slice_index_or hashes b zero_hash) ≡ []
      by true z = below_zero half stored kind left (Some hashes) (path ++ b ∷ []) (slice_index_or hashes b zero_hash) z
      by false z =
          law (Some hashes) (path ++ b ∷ []) (slice_index_or hashes b zero_hash) (forks.kids b)
          (subst (λ l. StandsAt half stored kind nodes left (path ++ b ∷ []) l (forks.kids b))
          (branch_link hashes b ∙ ap (λ t. if t then Empty else Unloaded (slice_index_or hashes b zero_hash)) z) (forks.each b low))
          not_lone

  leaf_whole : (left : ℕ) (parent : Option (List Hash)) (path : List ℕ) (h : Hash) (items : List Entry) (own : Kind) (key : Hash)
      (bytes : Bytes) → is_zero h ≡ false → at_place half stored kind None path h ≡ sound (held.leaf own key bytes)
      → length items ≡ 1 → NotLone parent path items → found_below half stored kind left parent path h ≡ []
  leaf_whole left parent path h items own key bytes z seen alone fine =
      let here : at_place half stored kind parent path h ≡ sound (held.leaf own key bytes) =
      sight_judged half (λ n. fault_of n None kind path) (λ n. fault_of n parent kind path) (stored h) (held.leaf own key bytes) seen
      (λ e. with_parent (same_kind own kind) (length path == 0) (lies_under path key) (is_lone parent path) WrongKind LeafAtRoot
      (LeafElsewhere key) LoneLeaf e (by (is_lone parent path) refl)) in
      below_end half stored kind left parent path h (sound (held.leaf own key bytes)) z (sym here) (λ each. refl)
    where
      by : (t : Bool) → is_lone parent path ≡ t → is_lone parent path ≡ false
      by true is = absurd (fine is alone)
      by false is = is

  fork_whole : (left : ℕ) → ((n : ℕ) → left ≡ suc n → IsWholeAt n) → (parent : Option (List Hash)) (path : List ℕ) (h : Hash)
      (items : List Entry) (hashes : List Hash) → is_zero h ≡ false
      → at_place half stored kind None path h ≡ sound (held.inner hashes)
      → Forks (Below half stored kind nodes left path) path (map link_to hashes) items
      → found_below half stored kind left parent path h ≡ []
  unfolding found_in
  fork_whole zero law parent path h items hashes z seen forks = absurd (forks.each 0 (omega arith))
  fork_whole (suc left) law parent path h items hashes z seen forks =
      let here : at_place half stored kind parent path h ≡ sound (held.inner hashes) =
      sight_judged half (λ n. fault_of n None kind path) (λ n. fault_of n parent kind path) (stored h) (held.inner hashes) seen
      (λ e. e) in
      below_inner half stored kind left parent path h hashes z (sym here) ∙ in_none
    where
      in_none : found_in half stored kind left hashes path 16 ≡ []
      in_none = flat_none
          (λ b. found_below half stored kind left (Some hashes) (path ++ b ∷ []) (slice_index_or hashes b zero_hash)) 16 0
          (λ b from to. branch_whole left (law left refl) path hashes items forks b (omega arith))

  seen_whole : (left : ℕ) → ((n : ℕ) → left ≡ suc n → IsWholeAt n) → (parent : Option (List Hash)) (path : List ℕ) (h : Hash)
      (items : List Entry) → StandsAt half stored kind nodes left path (Unloaded h) items → NotLone parent path items
      → is_zero h ≡ false → (s : Sight) → at_place half stored kind None path h ≡ s
      → found_below half stored kind left parent path h ≡ []
  seen_whole left law parent path h items stands fine z missing seen =
      absurd (stands_into half stored kind nodes left path (Unloaded h) items (lacks h) (ap (found_seen h) seen) stands)
  seen_whole left law parent path h items stands fine z (broken fault) seen =
      absurd (stands_into half stored kind nodes left path (Unloaded h) items (breaks fault) (ap (found_seen h) seen) stands)
  seen_whole left law parent path h items stands fine z (sound (held.header bytes)) seen =
      absurd (stands_into half stored kind nodes left path (Unloaded h) items (breaks Foreign) (ap (found_seen h) seen) stands)
  seen_whole left law parent path h items stands fine z (sound (held.leaf own key bytes)) seen =
      let is = stands_into half stored kind nodes left path (Unloaded h) items (one key bytes) (ap (found_seen h) seen) stands in
      leaf_whole left parent path h items own key bytes z seen (ap length is.alone) fine
  seen_whole left law parent path h items stands fine z (sound (held.inner hashes)) seen =
      fork_whole left law parent path h items hashes z seen
      (stands_into half stored kind nodes left path (Unloaded h) items (fork (map link_to hashes)) (ap (found_seen h) seen) stands)

  place_whole : (left : ℕ) → ((n : ℕ) → left ≡ suc n → IsWholeAt n) → IsWholeAt left
  place_whole left law parent path h items stands fine = by (is_zero h) refl
    where
      by : (t : Bool) → is_zero h ≡ t → found_below half stored kind left parent path h ≡ []
      by true z = below_zero half stored kind left parent path h z
      by false z = seen_whole left law parent path h items stands fine z (at_place half stored kind None path h) refl

  suc_is : (m n : ℕ) → suc m ≡ suc n → m ≡ n
  suc_is m n e = omega arith

  whole_law : (left : ℕ) → IsWholeAt left
  whole_law zero = place_whole zero (λ n e. absurd (no_suc n e))
    where
      no_suc : (n : ℕ) → 0 ≡ suc n → ⊥
      no_suc n e = omega arith
  whole_law (suc left) = place_whole (suc left) (λ n e. subst IsWholeAt (suc_is left n e) (whole_law left))

  -- what a link leaves to the source has no finding
  abbrev Clean : ℕ → List ℕ → Hash → Type 0
  Clean left path h = found_below half stored kind left None path h ≡ []

  not_alone : (items : List Entry) (path : List ℕ) → NotLone None path items
  not_alone items path e = cc

  each_own : (left : ℕ)
      → ((path : List ℕ) (link : Link) (items : List Entry) → StandsAt half stored kind nodes left path link items
      → EachLeft Clean nodes left path link) → (path : List ℕ) (i : ℕ) (items : List Entry)
      → StandsAt half stored kind nodes (suc left) path (Own i) items → (o : Option Body) → slice_get nodes i ≡ o
      → EachIn (λ b l. EachLeft Clean nodes left (path ++ b ∷ []) l) o
  each_own left law path i items stands None at = tt
  each_own left law path i items stands (Some (leaf key bytes)) at = tt
  each_own left law path i items stands (Some (inner links)) at =
      let found = forked half stored kind nodes (suc left) path i items links (length path == 64) refl at stands in
      let forks : Forks (Below half stored kind nodes (suc left) path) path links items =
      stands_into half stored kind nodes (suc left) path (Own i) items (fork links) found stands in
      λ b low. law (path ++ b ∷ []) (slice_index_or links b Empty) (forks.kids b) (forks.each b low)

  each_end : (o : Option Body) → EachIn (λ b l. Unit {0}) o
  each_end None = tt
  each_end (Some (leaf key bytes)) = tt
  each_end (Some (inner links)) = λ b low. tt

  pub each_whole : (left : ℕ) (path : List ℕ) (link : Link) (items : List Entry) → StandsAt half stored kind nodes left path link items
      → EachLeft Clean nodes left path link
  unfolding EachLeft
  each_whole zero path Empty items stands = tt
  each_whole (suc left) path Empty items stands = tt
  each_whole zero path (Unloaded h) items stands = whole_law zero None path h items stands (not_alone items path)
  each_whole (suc left) path (Unloaded h) items stands = whole_law (suc left) None path h items stands (not_alone items path)
  each_whole zero path (Own i) items stands = each_end (slice_get nodes i)
  each_whole (suc left) path (Own i) items stands = each_own left (each_whole left) path i items stands (slice_get nodes i) refl

pub left_whole : IsLeftWhole
left_whole half stored m items stands =
    (each_whole half stored m.kind m.nodes 64 [] m.top items stands, left_held half stored m.kind m.nodes 64 [] m.top items stands)

-- where nothing is held, nothing is left
empty_list : (hs : List Hash) → ((h : Hash) → Contains hs h → ⊥) → hs ≡ []
empty_list [] none_of = refl
empty_list (h ∷ hs) none_of = absurd (none_of h (in_head h hs))

pub anywhere : StandsAnywhere
anywhere half m items stands = (
  empty_list (unloaded m) (λ h c.
      let found = left_held half nothing_held m.kind m.nodes 64 [] m.top items stands h c in
      let wrong : None ≡ Some found.0 = found.1 in cc),
  λ other stored. stands_anywhere half other stored m items stands,
)
