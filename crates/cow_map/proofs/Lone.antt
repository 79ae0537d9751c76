-- What an inner node that loses a branch leaves: nothing, itself, or its only leaf.
use Rattle.std.proofs.Common.{◌≡◌, ◌≢◌, ◌⊎◌, inl, inr, ℕ, zero, suc, ◌<◌, Bool, true, false, if◌then◌else◌, Option, None, Some}
use Rattle.std.proofs.Common.{List, [], ◌∷◌, ◌++◌, length, refl, sym, ap, ◌∙◌, subst, arith, IsTrue, slice_index_or, nat_le}
use Rattle.std.specs.Prelude.{MatchOption}
use Rattle.std.specs.List.{slice_get}
use Rattle.std.proofs.lemmas.Bool.{cases_eq, leb-false, ne_eqb}
use Rattle.nib_path.specs.Paths.{lies_under}
use Rattle.ledger_spec.specs.declared.Kind.{Kind}
use Rattle.ledger_spec.specs.declared.ShapeFault.TheVariants.{LoneLeaf}
use Rattle.ledger_spec.specs.Bytes.{Bytes, Hash, Half, Lookup}
use Rattle.cow_map.specs.declared.link.Link.{Link}
use Rattle.cow_map.specs.declared.link.Link.TheVariants.{Empty, Own}
use Rattle.cow_map.specs.Bodies.{Body, inner, IsBelow}
use Rattle.cow_map.specs.Trees.{Found, none, one, fork, lacks, breaks, found_at}
use Rattle.cow_map.specs.Ways.{lone_or, only_branch, stop_here, stop_at_branch, stop_left}
use Rattle.cow_map.specs.Ways.{beside_in, beside_at}
use Rattle.cow_map.specs.declared.link.Only.TheVariants as only
use Rattle.cow_map.specs.Edits.{Counts, Leaves}
use Rattle.cow_map.proofs.Branches.{AllUnder, under_place}
use Rattle.cow_map.proofs.Counting.{branch_alone, branch_many, alone_at}
use Rattle.cow_map.proofs.Leading.{get_last, found_grows, leaf_moves}
use Rattle.cow_map.proofs.Looking.{own_shows}
use Rattle.cow_map.proofs.Putting.{lone_one}

-- only a leaf that isn't alone below the root is seen there
pub lone_short : (lone : Bool) (path : List ℕ) (found : Found) (own : Hash) (bytes : Bytes) → lone_or lone path found ≡ one own bytes
    → IsTrue lone → length path < 2
lone_short false path found own bytes e is = cc
lone_short true path none own bytes e is = cc
lone_short true path (one k v) own bytes e is = by (nat_le 2 (length path)) refl e
  where
    by : (t : Bool) → nat_le 2 (length path) ≡ t → (if t then breaks LoneLeaf else one k v) ≡ one own bytes → length path < 2
    by true deep e = cc
    by false short e = leb-false 2 (length path) short
lone_short true path (fork links) own bytes e is = cc
lone_short true path (lacks h) own bytes e is = cc
lone_short true path (breaks fault) own bytes e is = cc

-- what each kind of node leaves
module _ (there : Link → Found) (lone : Bool) (path : List ℕ) (key : Hash) (found : Found) where
  pub nothing_leaves : found ≡ none → Leaves there lone path key found None
  nothing_leaves is = subst (λ f. Leaves there lone path key f None) (sym is) refl

  pub leaf_leaves : (own : Hash) (bytes : Bytes) (left : Option Link) → lone_or lone path found ≡ one own bytes
      → MatchOption left (own ≢ key) (λ l. (l ≡ Empty) × (own ≡ key)) → Leaves there lone path key found left
  leaf_leaves own bytes left is gone =
      subst (λ f. Leaves there lone path key f left) (sym (lone_one lone path found own bytes is))
      (lone_short lone path found own bytes is, gone)

  pub fork_keeps : (links : List Link) → found ≡ fork links → Leaves there lone path key found None
  fork_keeps links is = subst (λ f. Leaves there lone path key f None) (sym is) tt

  pub fork_leaves : (links : List Link) (left : Link) → found ≡ fork links → (0 < length path → left ≢ Empty)
      → stop_here path (there left) ≡ None → Leaves there lone path key found (Some left)
  fork_leaves links left is some sound = subst (λ f. Leaves there lone path key f (Some left)) (sym is) (some, sound)

-- what stands beside the leaf of a key, in one list and over one source
module _ (half : Half) (stored : Lookup) (kind : Kind) where
  pub beside_none : (nodes : List Body) (left : ℕ) (path : List ℕ) (link : Link) (key : Hash)
      → found_at half stored kind nodes path link ≡ none → beside_at half stored kind nodes left path link key ≡ None
  unfolding beside_at
  beside_none nodes zero path link key found = refl
  beside_none nodes (suc left) path link key found =
      ap (beside_in (λ b l. beside_at half stored kind nodes left (path ++ b ∷ []) l key) (found_at half stored kind nodes) path key) found

  pub beside_one : (nodes : List Body) (left : ℕ) (path : List ℕ) (link : Link) (key own : Hash) (bytes : Bytes)
      → found_at half stored kind nodes path link ≡ one own bytes → beside_at half stored kind nodes left path link key ≡ None
  unfolding beside_at
  beside_one nodes zero path link key own bytes found = refl
  beside_one nodes (suc left) path link key own bytes found =
      ap (beside_in (λ b l. beside_at half stored kind nodes left (path ++ b ∷ []) l key) (found_at half stored kind nodes) path key) found

  pub beside_fork : (nodes : List Body) (left : ℕ) (path : List ℕ) (link : Link) (key : Hash) (links : List Link)
      → found_at half stored kind nodes path link ≡ fork links
      → beside_at half stored kind nodes (suc left) path link key
      ≡ beside_in (λ b l. beside_at half stored kind nodes left (path ++ b ∷ []) l key) (found_at half stored kind nodes) path key
      (fork links)
  unfolding beside_at
  beside_fork nodes left path link key links found =
      ap (beside_in (λ b l. beside_at half stored kind nodes left (path ++ b ∷ []) l key) (found_at half stored kind nodes) path key) found

  -- what is stopped at the only branch that is left, in a list that grew
  pub left_grows : (nodes more : List Body) (path : List ℕ) (links : List Link)
      → ((b : ℕ) → IsBelow (length nodes) (slice_index_or links b Empty))
      → stop_left (found_at half stored kind (nodes ++ more)) path links ≡ stop_left (found_at half stored kind nodes) path links
  left_grows nodes more [] links below = refl
  left_grows nodes more (n ∷ path) links below = by (only_branch links)
    where
      by : (o : Option ℕ) → stop_at_branch (found_at half stored kind (nodes ++ more)) (n ∷ path) links o ≡ stop_at_branch
          (found_at half stored kind nodes) (n ∷ path) links o
      by None = refl
      by (Some b) = ap (stop_here ((n ∷ path) ++ b ∷ []))
          (found_grows half stored kind nodes more ((n ∷ path) ++ b ∷ []) (slice_index_or links b Empty) (below b))

  -- what stops one at the branch that alone leads anywhere
  pub left_alone : (nodes : List Body) (path : List ℕ) (links : List Link) (b : ℕ) → only_branch links ≡ Some b → 0 < length path
      → stop_left (found_at half stored kind nodes) path links ≡ stop_here (path ++ b ∷ [])
      (found_at half stored kind nodes (path ++ b ∷ []) (slice_index_or links b Empty))
  left_alone nodes [] links b is long = absurd (omega arith)
  left_alone nodes (n ∷ path) links b is long = ap (stop_at_branch (found_at half stored kind nodes) (n ∷ path) links) is

  pub left_none : (nodes : List Body) (path : List ℕ) (links : List Link) → only_branch links ≡ None
      → stop_left (found_at half stored kind nodes) path links ≡ None
  left_none nodes [] links is = refl
  left_none nodes (n ∷ path) links is = ap (stop_at_branch (found_at half stored kind nodes) (n ∷ path) links) is

  pub left_root : (nodes : List Body) (path : List ℕ) (links : List Link) → length path ≡ 0
      → stop_left (found_at half stored kind nodes) path links ≡ None
  left_root nodes [] links root = refl
  left_root nodes (n ∷ path) links root = absurd (omega arith)

  -- where the branch that changed leads to something sound
  pub left_sound : (nodes : List Body) (path : List ℕ) (changed : List Link) (b : ℕ) (next : Link) → slice_index_or changed b Empty ≡ next
      → next ≢ Empty
      → stop_here (path ++ b ∷ []) (found_at half stored kind nodes (path ++ b ∷ []) next) ≡ None
      → stop_left (found_at half stored kind nodes) path changed ≡ None
  left_sound nodes [] changed b next at some sound = refl
  left_sound nodes (n ∷ path) changed b next at some sound = by (only_branch changed) refl
    where
      at_branch : (c : ℕ) → only_branch changed ≡ Some c → (b ≡ c) ⊎ (b ≢ c)
          → stop_at_branch (found_at half stored kind nodes) (n ∷ path) changed (Some c) ≡ None
      at_branch c is (inl same) =
          subst (λ d. stop_at_branch (found_at half stored kind nodes) (n ∷ path) changed (Some d) ≡ None) same
          (ap (λ l. stop_here ((n ∷ path) ++ b ∷ []) (found_at half stored kind nodes ((n ∷ path) ++ b ∷ []) l)) at ∙ sound)
      at_branch c is (inr apart) = absurd (some (sym at ∙ (alone_at changed c is).1 b apart))

      by : (o : Option ℕ) → only_branch changed ≡ o → stop_at_branch (found_at half stored kind nodes) (n ∷ path) changed o ≡ None
      by None is = refl
      by (Some c) is = at_branch c is (cases_eq b c)

-- what is left of an inner node
module _ (half : Half) (stored : Lookup) (kind : Kind) where
  -- what stops one at the branch that alone leads anywhere, as the code looks
  pub left_at : (nodes : List Body) (path p : List ℕ) (l : Link) (links : List Link) (b : ℕ) → Counts links (only.One b) → 0 < length path
      → p ≡ path ++ b ∷ [] → l ≡ slice_index_or links b Empty
      → stop_left (found_at half stored kind nodes) path links ≡ stop_here p (found_at half stored kind nodes p l)
  left_at nodes path p l links b counts long at_p at_l =
      left_alone half stored kind nodes path links b (branch_alone links b counts.1 counts.2) long
      ∙ ap (λ x. stop_here (path ++ b ∷ []) (found_at half stored kind nodes (path ++ b ∷ []) x)) (sym at_l)
      ∙ ap (λ q. stop_here q (found_at half stored kind nodes q l)) (sym at_p)

  pub left_many : (nodes : List Body) (path : List ℕ) (links : List Link) → Counts links only.Many
      → stop_left (found_at half stored kind nodes) path links ≡ None
  left_many nodes path links counts =
      left_none half stored kind nodes path links (branch_many links counts.0 counts.1 counts.4 counts.5 counts.6)

  -- a leaf that moves up is sound there
  pub leaf_sound : (nodes : List Body) (path p : List ℕ) (b : ℕ) (l : Link) (key : Hash) (bytes : Bytes)
      → found_at half stored kind nodes p l ≡ one key bytes → p ≡ path ++ b ∷ [] → IsTrue (lies_under p key) → 0 < length path
      → stop_here path (found_at half stored kind nodes path l) ≡ None
  leaf_sound nodes path p b l key bytes found at_p under long =
      let above : AllUnder path ((key, bytes) ∷ []) =
      under_place path b ((key, bytes) ∷ []) (subst (λ q. IsTrue (lies_under q key)) at_p under, tt) in
      ap (stop_here path) (leaf_moves half stored kind nodes p l key bytes found path long above.0)

  -- and so is a new inner node
  pub inner_sound : (before after : List Body) (path : List ℕ) (l : Link) (links : List Link) → after ≡ before ++ inner links ∷ []
      → l ≡ Own (length before) → length path < 64
      → stop_here path (found_at half stored kind after path l) ≡ None
  inner_sound before after path l links grown at low =
      ap (λ x. stop_here path (found_at half stored kind after path x)) at
      ∙ ap (λ ns. stop_here path (found_at half stored kind ns path (Own (length before)))) grown
      ∙ ap (stop_here path)
      (own_shows path (slice_get (before ++ inner links ∷ []) (length before)) links (get_last before (inner links))
      (ne_eqb (length path) 64 (λ e. absurd (omega arith))))
