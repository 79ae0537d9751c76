-- What is left of an inner node that lost a branch: nothing, its one leaf in its place, or the node itself, by how many entries the
-- branches hold.
use Rattle.std.proofs.Common.{◌≡◌, ◌≢◌, ◌⊎◌, inl, inr, ℕ, suc, ◌+◌, ◌-◌, ◌<◌, ◌≤◌, List, [], ◌∷◌, ◌++◌, length, refl, sym, ap, ◌∙◌, subst}
use Rattle.std.proofs.Common.{arith, slice_index_or, length-append}
use Rattle.std.specs.List.{flat_map, range_with_len}
use Rattle.std.proofs.lemmas.Bool.{cases_eq}
use Rattle.ledger_spec.specs.declared.Kind.{Kind}
use Rattle.ledger_spec.specs.Bytes.{Bytes, Hash, Half, Lookup, branches}
use Rattle.ledger_spec.specs.Tree.{Entry}
use Rattle.cow_map.specs.declared.link.Link.{Link}
use Rattle.cow_map.specs.declared.link.Link.TheVariants.{Empty, Own}
use Rattle.cow_map.specs.declared.link.Only.TheVariants as only
use Rattle.cow_map.specs.Bodies.{Body, inner, IsBelow, AreBodies}
use Rattle.cow_map.specs.Trees.{none, one, fork, found_at, fewest, Forks, IsOne, StandsAt}
use Rattle.cow_map.specs.Edits.{IsSub, Branches, SettlesAt, Counts}
use Rattle.cow_map.proofs.Leading.{get_last, leaf_moves}
use Rattle.cow_map.proofs.Branches.{AllUnder, with_kid, kid_same, kid_other, flat_split, flat_with, flat_one, flat_same, all_range}
use Rattle.cow_map.proofs.Branches.{under_place}
use Rattle.cow_map.proofs.shared.Standing.{Below, stands_into, stands_grows}
use Rattle.cow_map.proofs.Standing.{found_small}
use Rattle.cow_map.proofs.shared.Planting.{empty_stands, inner_stands, leads_stands}
use Rattle.cow_map.proofs.Maps.{stands_none, stands_some}

-- what one branch holds is no longer than all
pub kid_length : (kids : ℕ → List Entry) (b : ℕ) → b < 16
    → length (flat_map kids branches) ≡ length (kids b) + length (flat_map (with_kid b [] kids) branches)
kid_length kids b low =
    let whole = ap length (flat_split kids b low) in
    let rest = ap length (flat_with kids b [] low) in
    let front = flat_map kids (range_with_len 0 b) in
    let back = flat_map kids (range_with_len (b + 1) (15 - b)) in
    omega (
      arith,
      whole,
      rest,
      length-append (front ++ kids b) back,
      length-append front (kids b),
      length-append (front ++ []) back,
      length-append front [],
    )

pub two_lengths : (kids : ℕ → List Entry) (b c : ℕ) → b < 16 → c < 16 → c ≢ b
    → length (kids b) + length (kids c) ≤ length (flat_map kids branches)
two_lengths kids b c low in_16 apart =
    omega (arith, kid_length kids b low, kid_length (with_kid b [] kids) c in_16, ap length (kid_other b c [] kids apart))

-- where all but one hold nothing
pub only_kid : (kids : ℕ → List Entry) (b : ℕ) → b < 16 → ((d : ℕ) → d < 16 → d ≢ b → kids d ≡ []) → flat_map kids branches ≡ kids b
only_kid kids b low others =
    flat_same kids (with_kid b (kids b) (λ d. [])) branches
    (all_range (λ d. kids d ≡ with_kid b (kids b) (λ d. []) d) 16 0 (λ d at in_16. by d in_16 (cases_eq d b))) ∙ flat_one b (kids b) low
  where
    by : (d : ℕ) → d < 16 → (d ≡ b) ⊎ (d ≢ b) → kids d ≡ with_kid b (kids b) (λ d. []) d
    by d in_16 (inl same) = ap kids same ∙ sym (kid_same b (kids b) (λ d. [])) ∙ ap (with_kid b (kids b) (λ d. [])) (sym same)
    by d in_16 (inr apart) = others d in_16 apart ∙ sym (kid_other b d (kids b) (λ d. []) apart)

no_kids : (kids : ℕ → List Entry) → ((d : ℕ) → d < 16 → kids d ≡ []) → flat_map kids branches ≡ []
no_kids kids none_of = only_kid kids 0 (omega arith) (λ d low apart. none_of d low) ∙ none_of 0 (omega arith)

pub some_length : (es : List Entry) → es ≢ [] → 1 ≤ length es
some_length [] some = absurd (some refl)
some_length (e ∷ es) some = omega arith

pub fewest_most : (path : List ℕ) (n : ℕ) → 2 ≤ n → fewest path ≤ n
fewest_most [] n h = omega arith
fewest_most (p ∷ path) n h = h

fewest_root : (path : List ℕ) (n : ℕ) → length path ≡ 0 → 1 ≤ n → fewest path ≤ n
fewest_root [] n e h = h
fewest_root (p ∷ path) n e h = absurd (omega arith)

pub fewest_below : (path : List ℕ) (b n : ℕ) → fewest (path ++ b ∷ []) ≤ n → 2 ≤ n
fewest_below [] b n h = h
fewest_below (p ∷ path) b n h = h

module _ (half : Half) (stored : Lookup) (kind : Kind) (before : List Body) (lower : ℕ) (path : List ℕ) (links : List Link) where
  -- what the branches stand for
  abbrev Stand : ℕ → Link → List Entry → Type 0
  Stand b l es = StandsAt half stored kind before lower (path ++ b ∷ []) l es

  empty_kid : (kids : ℕ → List Entry) (items : List Entry) → Branches Stand links kids items → (d : ℕ) → d < 16
      → slice_index_or links d Empty ≡ Empty → kids d ≡ []
  empty_kid kids items h d low empty =
      stands_none half stored kind before lower (path ++ d ∷ []) (slice_index_or links d Empty) (kids d) empty (h.1 d low)

  some_kid : (kids : ℕ → List Entry) (items : List Entry) → Branches Stand links kids items
      → ((c : ℕ) → IsBelow (length before) (slice_index_or links c Empty)) → (d : ℕ) → d < 16 → slice_index_or links d Empty ≢ Empty
      → 1 ≤ length (kids d)
  some_kid kids items h below d low some =
      some_length (kids d)
      (stands_some half stored kind before lower (path ++ d ∷ []) (slice_index_or links d Empty) (kids d) (below d) some (h.1 d low))

  -- nothing
  pub nowhere_settles : Counts links only.Nowhere → SettlesAt half stored kind before before lower path links Empty
  nowhere_settles counts items kids h =
      subst (StandsAt half stored kind before (suc lower) path Empty)
      (sym (h.0 ∙ no_kids kids (λ d low. empty_kid kids items h d low (counts d)))) (empty_stands half stored kind before (suc lower) path)

  -- a leaf moves up
  pub leaf_settles : (c : ℕ) → Counts links (only.One c) → (big : Lookup) → IsSub stored big → (key : Hash) (bytes : Bytes)
      → found_at half big kind before (path ++ c ∷ []) (slice_index_or links c Empty) ≡ one key bytes → 0 < length path
      → SettlesAt half stored kind before before lower path links (slice_index_or links c Empty)
  leaf_settles c counts big sub key bytes found_big long items kids h =
      let link = slice_index_or links c Empty in
      let found = found_small half stored big kind before lower (path ++ c ∷ []) link (kids c) sub (h.1 c counts.0) ∙ found_big in
      let leaf_is : IsOne (path ++ c ∷ []) key bytes (kids c) =
      stands_into half stored kind before lower (path ++ c ∷ []) link (kids c) (one key bytes) found (h.1 c counts.0) in
      let all : items ≡ (key, bytes) ∷ [] = h.0
      ∙ only_kid kids c counts.0 (λ d low apart. empty_kid kids items h d low (counts.2 d apart)) ∙ leaf_is.alone in
      let under : AllUnder path ((key, bytes) ∷ []) = under_place path c ((key, bytes) ∷ []) (leaf_is.under, tt) in
      subst (StandsAt half stored kind before (suc lower) path link) (sym all)
      (leads_stands half stored kind before (suc lower) path link key bytes
      (leaf_is.item, leaf_moves half stored kind before (path ++ c ∷ []) link key bytes found) long under.0)

  -- an inner node
  node_settles : AreBodies before → ((c : ℕ) → IsBelow (length before) (slice_index_or links c Empty)) → length links ≡ 16
      → length path < 64
      → ((items : List Entry) (kids : ℕ → List Entry) → Branches Stand links kids items → fewest path ≤ length items)
      → SettlesAt half stored kind before (before ++ inner links ∷ []) lower path links (Own (length before))
  node_settles bodies below width low enough items kids h =
      inner_stands half stored kind (before ++ inner links ∷ []) (suc lower) (length before) path links items
      (get_last before (inner links)) low record {
        width = width;
        kids = kids;
        joined = h.0;
        each = λ b in_16. stands_grows half stored kind before (inner links ∷ []) bodies lower (path ++ b ∷ [])
            (slice_index_or links b Empty) (kids b) (below b) (h.1 b in_16);
        enough = enough items kids h;
      }

  pub settles_by : (after : List Body) (made : Link) → AreBodies before
      → ((c : ℕ) → IsBelow (length before) (slice_index_or links c Empty)) → length links ≡ 16 → length path < 64
      → made ≡ Own (length before) → after ≡ before ++ inner links ∷ []
      → ((items : List Entry) (kids : ℕ → List Entry) → Branches Stand links kids items → fewest path ≤ length items)
      → SettlesAt half stored kind before after lower path links made
  settles_by after made bodies below width low at grown enough =
      subst (λ m. SettlesAt half stored kind before after lower path links m) (sym at)
      (subst (λ ns. SettlesAt half stored kind before ns lower path links (Own (length before))) (sym grown)
      (node_settles bodies below width low enough))

  pub many_enough : Counts links only.Many → ((c : ℕ) → IsBelow (length before) (slice_index_or links c Empty))
      → (items : List Entry) (kids : ℕ → List Entry) → Branches Stand links kids items → fewest path ≤ length items
  many_enough counts below items kids h =
      let first = some_kid kids items h below counts.0 counts.2 counts.5 in
      let second = some_kid kids items h below counts.1 counts.3 counts.6 in
      fewest_most path (length items)
      (omega (arith, first, second, two_lengths kids counts.0 counts.1 counts.2 counts.3 counts.4, ap length h.0))

  pub root_enough : (c : ℕ) → Counts links (only.One c) → length path ≡ 0
      → ((c : ℕ) → IsBelow (length before) (slice_index_or links c Empty)) → (items : List Entry) (kids : ℕ → List Entry)
      → Branches Stand links kids items → fewest path ≤ length items
  root_enough c counts root below items kids h =
      let first = some_kid kids items h below c counts.0 counts.1 in
      fewest_root path (length items) root (omega (arith, first, kid_length kids c counts.0, ap length h.0))

  pub fork_enough : (c : ℕ) → Counts links (only.One c) → (big : Lookup) → IsSub stored big → (ls : List Link)
      → found_at half big kind before (path ++ c ∷ []) (slice_index_or links c Empty) ≡ fork ls
      → (items : List Entry) (kids : ℕ → List Entry) → Branches Stand links kids items → fewest path ≤ length items
  fork_enough c counts big sub ls found_big items kids h =
      let found = found_small half stored big kind before lower (path ++ c ∷ []) (slice_index_or links c Empty) (kids c) sub
      (h.1 c counts.0) ∙ found_big in
      let forks : Forks (Below half stored kind before lower (path ++ c ∷ [])) (path ++ c ∷ []) ls (kids c) =
      stands_into half stored kind before lower (path ++ c ∷ []) (slice_index_or links c Empty) (kids c) (fork ls) found
      (h.1 c counts.0) in
      let two : 2 ≤ length (kids c) = fewest_below path c (length (kids c)) forks.enough in
      fewest_most path (length items) (omega (arith, two, kid_length kids c counts.0, ap length h.0))

  -- nothing can't be found where a link leads somewhere
  pub none_enough : (c : ℕ) → Counts links (only.One c) → ((c : ℕ) → IsBelow (length before) (slice_index_or links c Empty))
      → (big : Lookup) → IsSub stored big → found_at half big kind before (path ++ c ∷ []) (slice_index_or links c Empty) ≡ none
      → (items : List Entry) (kids : ℕ → List Entry) → Branches Stand links kids items → fewest path ≤ length items
  none_enough c counts below big sub found_big items kids h =
      let found = found_small half stored big kind before lower (path ++ c ∷ []) (slice_index_or links c Empty) (kids c) sub
      (h.1 c counts.0) ∙ found_big in
      let first = some_kid kids items h below c counts.0 counts.1 in
      let nothing : kids c ≡ [] =
      stands_into half stored kind before lower (path ++ c ∷ []) (slice_index_or links c Empty) (kids c) none found (h.1 c counts.0) in
      absurd (omega (arith, first, ap length nothing))
