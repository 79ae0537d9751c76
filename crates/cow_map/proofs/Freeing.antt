-- Nothing stops one on the way through a map that stands for something.
use Rattle.std.proofs.Common.{◌≡◌, ◌≢◌, ◌⊎◌, inl, inr, ℕ, zero, suc, ◌-◌, subst, ◌<◌, ◌≤◌, Bool, true, false, if◌then◌else◌, List, []}
use Rattle.std.proofs.Common.{◌∷◌, ◌++◌, length, None, refl, sym, ap, ◌∙◌, arith, slice_index_or, length-append, nat_le, nat_lt, count_by}
use Rattle.std.proofs.Common.{Option, Some}
use Rattle.std.proofs.lemmas.Bool.{cases_eq, cases_lt, eqb-true, leb-true, ltb-true, ltb-false}
use Rattle.std.proofs.lemmas.List.{get_or-set_other}
use Rattle.std.specs.Prelude.{slice_set, IfErr, Result}
use Rattle.std.specs.Option.{option_or}
use Rattle.nib_path.specs.Paths.{nibble_of}
use Rattle.ledger_spec.specs.declared.Kind.{Kind}
use Rattle.ledger_spec.specs.declared.ShapeFault.TheVariants.{LoneLeaf}
use Rattle.ledger_spec.specs.Bytes.{Bytes, Hash, Half, Lookup}
use Rattle.ledger_spec.specs.Tree.{Entry}
use Rattle.cow_map.specs.declared.link.Link.{Link}
use Rattle.cow_map.specs.declared.link.Link.TheVariants.{Empty}
use Rattle.cow_map.specs.Bodies.{Body}
use Rattle.cow_map.specs.Trees.{Found, none, one, fork, lacks, breaks, found_at, fewest, Forks, Holds, StandsAt}
use Rattle.cow_map.specs.Ways.{is_link, is_only, only_branch, lone_or, stop_at, stop_here, stop_at_branch, stop_left, is_leaf_of}
use Rattle.cow_map.specs.Ways.{beside_at, removal_stop_at, Goes, IsFailure}
use Rattle.run_io.specs.Bytes.{Rose}
use Rattle.cow_map.specs.declared.fault.MapFault.{MapFault}
use Rattle.cow_map.specs.declared.fault.MapFault.TheVariants as causes
use Rattle.cow_map.proofs.Lone.{beside_none, beside_one, beside_fork}
use Rattle.cow_map.proofs.Beside.{goes_free}
use Rattle.cow_map.proofs.shared.Standing.{Below, stands_into}
use Rattle.cow_map.proofs.Counting.{links_by, one_leads}
use Rattle.cow_map.proofs.Settling.{only_kid}
use Rattle.cow_map.proofs.Maps.{stands_none}
use Rattle.cow_map.proofs.Putting.{way_none, way_one, way_fork}
use Rattle.cow_map.specs.Laws.{IsFree}

module _ (half : Half) (stored : Lookup) (kind : Kind) (nodes : List Body) (key : Hash) where
  -- the only link isn't a leaf's
  abbrev pub Fine : Bool → List ℕ → List Entry → Type 0
  Fine false path items = Unit {0}
  Fine true path items = (length path ≤ 1) ⊎ (length items ≢ 1)

  lone_stays : (lone : Bool) (path : List ℕ) (k : Hash) (v : Bytes) (items : List Entry) → items ≡ (k, v) ∷ [] → Fine lone path items
      → lone_or lone path (one k v) ≡ one k v
  lone_stays false path k v items alone fine = refl
  lone_stays true path k v items alone (inl short) = shallow (nat_le 2 (length path)) refl
    where
      shallow : (t : Bool) → nat_le 2 (length path) ≡ t → lone_or true path (one k v) ≡ one k v
      shallow true is = absurd (omega (arith, leb-true 2 (length path) is))
      shallow false is = ap (λ t. if t then breaks LoneLeaf else one k v) is
  lone_stays true path k v items alone (inr other) = absurd (other (ap length alone))

  -- the branch towards the key
  pub kid_fine : (left : ℕ) (path : List ℕ) (links : List Link) (items : List Entry)
      (forks : Forks (Below half stored kind nodes (suc left) path) path links items) (b : ℕ) → b < 16
      → Fine (is_only links) (path ++ b ∷ []) (forks.kids b)
  kid_fine left path links items forks b low = by (is_only links) refl
    where
      root_or : (p : List ℕ) → (length p ≡ 0) ⊎ (2 ≤ fewest p)
      root_or [] = inl refl
      root_or (n ∷ p) = inr (omega arith)

      only_long : (c : ℕ) → ((d : ℕ) → d ≢ c → slice_index_or links d Empty ≡ Empty) → (b ≡ c) ⊎ (b ≢ c) → 2 ≤ fewest path
          → length (forks.kids b) ≢ 1
      only_long c others (inl same) two e =
          let all = ap length forks.joined
          ∙ ap length (only_kid forks.kids b low
          (λ d in_16 apart. stands_none half stored kind nodes left (path ++ d ∷ []) (slice_index_or links d Empty) (forks.kids d)
          (others d (λ at. apart (at ∙ sym same))) (forks.each d in_16))) in
          omega (arith, all, forks.enough)
      only_long c others (inr apart) two e =
          let nothing = stands_none half stored kind nodes left (path ++ b ∷ []) (slice_index_or links b Empty) (forks.kids b)
          (others b apart) (forks.each b low) in
          omega (arith, ap length nothing)

      by : (t : Bool) → is_only links ≡ t → Fine t (path ++ b ∷ []) (forks.kids b)
      by false is = tt
      by true is =
          let only = one_leads links (links_by links ∙ eqb-true (count_by is_link links) 1 is) in
          elim (root_or path) [
            | inl root ↦ inl (omega (arith, length-append path (b ∷ [])))
            | inr two ↦ inr (only_long only.0 only.1 (cases_eq b only.0) two)
          ]

  lone_nothing : (lone : Bool) (path : List ℕ) → lone_or lone path none ≡ none
  lone_nothing false path = refl
  lone_nothing true path = refl

  lone_inner : (lone : Bool) (path : List ℕ) (links : List Link) → lone_or lone path (fork links) ≡ fork links
  lone_inner false path links = refl
  lone_inner true path links = refl

  -- what the law says a level lower
  abbrev Free : ℕ → Type 0
  Free left = (lone : Bool) (path : List ℕ) (link : Link) (items : List Entry) → StandsAt half stored kind nodes left path link items
      → Fine lone path items → stop_at half stored kind nodes left lone path link key ≡ None

  past_end : (links : List Link) (b : ℕ) → length links ≤ b → slice_index_or links b Empty ≡ Empty
  past_end [] b h = refl
  past_end (l ∷ links) zero h = absurd (omega arith)
  past_end (l ∷ links) (suc b) h = past_end links b (omega arith)

  fork_free : (left : ℕ) → Free left → (lone : Bool) (path : List ℕ) (link : Link) (items : List Entry) (links : List Link)
      → found_at half stored kind nodes path link ≡ fork links
      → Forks (Below half stored kind nodes (suc left) path) path links items
      → stop_at half stored kind nodes (suc left) lone path link key ≡ None
  fork_free left law lone path link items links found forks =
      way_fork half stored kind nodes lone path link key (suc left) left (nibble_of key (length path)) links refl refl
      (ap (lone_or lone path) found ∙ lone_inner lone path links)
      ∙ by (nat_lt (nibble_of key (length path)) 16) refl
    where
      by : (t : Bool) → nat_lt (nibble_of key (length path)) 16 ≡ t
          → stop_at half stored kind nodes left (is_only links) (path ++ nibble_of key (length path) ∷ [])
          (slice_index_or links (nibble_of key (length path)) Empty) key ≡ None
      by true is =
          let low : nibble_of key (length path) < 16 = ltb-true (nibble_of key (length path)) 16 is in
          law (is_only links) (path ++ nibble_of key (length path) ∷ []) (slice_index_or links (nibble_of key (length path)) Empty)
          (forks.kids (nibble_of key (length path))) (forks.each (nibble_of key (length path)) low)
          (kid_fine left path links items forks (nibble_of key (length path)) low)
      by false is =
          let far : 16 ≤ nibble_of key (length path) = ltb-false (nibble_of key (length path)) 16 is in
          let empty : slice_index_or links (nibble_of key (length path)) Empty ≡ Empty =
          past_end links (nibble_of key (length path)) (omega (arith, forks.width, far)) in
          way_none half stored kind nodes (is_only links) (path ++ nibble_of key (length path) ∷ [])
          (slice_index_or links (nibble_of key (length path)) Empty) key left
          (ap (λ l. lone_or (is_only links) (path ++ nibble_of key (length path) ∷ [])
          (found_at half stored kind nodes (path ++ nibble_of key (length path) ∷ []) l)) empty
          ∙ lone_nothing (is_only links) (path ++ nibble_of key (length path) ∷ []))

  none_free : (left : ℕ) (lone : Bool) (path : List ℕ) (link : Link) → found_at half stored kind nodes path link ≡ none
      → stop_at half stored kind nodes left lone path link key ≡ None
  none_free left lone path link found =
      way_none half stored kind nodes lone path link key left (ap (lone_or lone path) found ∙ lone_nothing lone path)

  one_free : (left : ℕ) (lone : Bool) (path : List ℕ) (link : Link) (items : List Entry) (k : Hash) (v : Bytes)
      → found_at half stored kind nodes path link ≡ one k v → items ≡ (k, v) ∷ [] → Fine lone path items
      → stop_at half stored kind nodes left lone path link key ≡ None
  one_free left lone path link items k v found alone fine =
      way_one half stored kind nodes lone path link key left k v (ap (lone_or lone path) found ∙ lone_stays lone path k v items alone fine)

  free_zero : (lone : Bool) (path : List ℕ) (link : Link) (items : List Entry) → Fine lone path items → (f : Found)
      → found_at half stored kind nodes path link ≡ f → Holds (Below half stored kind nodes 0 path) path f items
      → stop_at half stored kind nodes 0 lone path link key ≡ None
  free_zero lone path link items fine none found h = none_free 0 lone path link found
  free_zero lone path link items fine (one k v) found h = one_free 0 lone path link items k v found h.alone fine
  free_zero lone path link items fine (fork links) found h = absurd (h.each 0 (omega arith))
  free_zero lone path link items fine (lacks g) found h = absurd h
  free_zero lone path link items fine (breaks fault) found h = absurd h

  free_suc : (left : ℕ) → Free left → (lone : Bool) (path : List ℕ) (link : Link) (items : List Entry) → Fine lone path items
      → (f : Found) → found_at half stored kind nodes path link ≡ f → Holds (Below half stored kind nodes (suc left) path) path f items
      → stop_at half stored kind nodes (suc left) lone path link key ≡ None
  free_suc left law lone path link items fine none found h = none_free (suc left) lone path link found
  free_suc left law lone path link items fine (one k v) found h = one_free (suc left) lone path link items k v found h.alone fine
  free_suc left law lone path link items fine (fork links) found h = fork_free left law lone path link items links found h
  free_suc left law lone path link items fine (lacks g) found h = absurd h
  free_suc left law lone path link items fine (breaks fault) found h = absurd h

  pub free_law : (left : ℕ) → Free left
  free_law zero lone path link items stands fine =
      free_zero lone path link items fine (found_at half stored kind nodes path link) refl
      (stands_into half stored kind nodes 0 path link items (found_at half stored kind nodes path link) refl stands)
  free_law (suc left) lone path link items stands fine =
      free_suc left (free_law left) lone path link items fine (found_at half stored kind nodes path link) refl
      (stands_into half stored kind nodes (suc left) path link items (found_at half stored kind nodes path link) refl stands)

  -- nor beside a leaf
  stands_free : (left : ℕ) (path : List ℕ) (link : Link) (items : List Entry) → StandsAt half stored kind nodes left path link items
      → stop_here path (found_at half stored kind nodes path link) ≡ None
  stands_free left path link items stands =
      by (found_at half stored kind nodes path link)
      (stands_into half stored kind nodes left path link items (found_at half stored kind nodes path link) refl stands)
    where
      by : (f : Found) → Holds (Below half stored kind nodes left path) path f items → stop_here path f ≡ None
      by none h = refl
      by (one k v) h = refl
      by (fork links) h = refl
      by (lacks g) h = absurd h
      by (breaks fault) h = absurd h

  kid_free : (left : ℕ) (path : List ℕ) (links : List Link) (items : List Entry)
      → Forks (Below half stored kind nodes (suc left) path) path links items → (c : ℕ)
      → stop_here (path ++ c ∷ []) (found_at half stored kind nodes (path ++ c ∷ []) (slice_index_or links c Empty)) ≡ None
  kid_free left path links items forks c = elim (cases_lt c 16) [
    | inl low ↦ stands_free left (path ++ c ∷ []) (slice_index_or links c Empty) (forks.kids c) (forks.each c low)
    | inr far ↦ ap (λ l. stop_here (path ++ c ∷ []) (found_at half stored kind nodes (path ++ c ∷ []) l))
        (past_end links c (omega (arith, forks.width, far)))
  ]

  set_empty : (links : List Link) (b : ℕ) → slice_index_or (slice_set links b Empty) b Empty ≡ Empty
  set_empty [] b = refl
  set_empty (l ∷ links) zero = refl
  set_empty (l ∷ links) (suc b) = set_empty links b

  left_free : (left : ℕ) (path : List ℕ) (links : List Link) (items : List Entry)
      → Forks (Below half stored kind nodes (suc left) path) path links items → (b : ℕ)
      → stop_left (found_at half stored kind nodes) path (slice_set links b Empty) ≡ None
  left_free left [] links items forks b = refl
  left_free left (n ∷ path) links items forks b = by (only_branch (slice_set links b Empty))
    where
      by : (o : Option ℕ) → stop_at_branch (found_at half stored kind nodes) (n ∷ path) (slice_set links b Empty) o ≡ None
      by None = refl
      by (Some c) = elim (cases_eq b c) [
        | inl same ↦ ap (λ l. stop_here ((n ∷ path) ++ c ∷ []) (found_at half stored kind nodes ((n ∷ path) ++ c ∷ []) l))
            (ap (λ d. slice_index_or (slice_set links b Empty) d Empty) (sym same) ∙ set_empty links b)
        | inr apart ↦ ap (λ l. stop_here ((n ∷ path) ++ c ∷ []) (found_at half stored kind nodes ((n ∷ path) ++ c ∷ []) l))
            (get_or-set_other links b c Empty Empty (λ e. apart (sym e)))
            ∙ kid_free left (n ∷ path) links items forks c
      ]

  abbrev FreeBeside : ℕ → Type 0
  FreeBeside left = (path : List ℕ) (link : Link) (items : List Entry) → StandsAt half stored kind nodes left path link items
      → beside_at half stored kind nodes left path link key ≡ None

  branch_beside : (left : ℕ) → FreeBeside left → (path : List ℕ) (links : List Link) (items : List Entry)
      → Forks (Below half stored kind nodes (suc left) path) path links items → (b : ℕ) (t : Bool)
      → (if t then stop_left (found_at half stored kind nodes) path (slice_set links b Empty) else beside_at half stored kind nodes left
      (path ++ b ∷ []) (slice_index_or links b Empty) key) ≡ None
  branch_beside left law path links items forks b true = left_free left path links items forks b
  branch_beside left law path links items forks b false = elim (cases_lt b 16) [
    | inl low ↦ law (path ++ b ∷ []) (slice_index_or links b Empty) (forks.kids b) (forks.each b low)
    | inr far ↦ beside_none half stored kind nodes left (path ++ b ∷ []) (slice_index_or links b Empty) key
        (ap (found_at half stored kind nodes (path ++ b ∷ [])) (past_end links b (omega (arith, forks.width, far))))
  ]

  fork_beside : (left : ℕ) → FreeBeside left → (path : List ℕ) (link : Link) (items : List Entry) (links : List Link)
      → found_at half stored kind nodes path link ≡ fork links
      → Forks (Below half stored kind nodes (suc left) path) path links items
      → beside_at half stored kind nodes (suc left) path link key ≡ None
  fork_beside left law path link items links found forks =
      beside_fork half stored kind nodes left path link key links found
      ∙ branch_beside left law path links items forks (nibble_of key (length path))
      (is_leaf_of key (found_at half stored kind nodes (path ++ nibble_of key (length path) ∷ [])
      (slice_index_or links (nibble_of key (length path)) Empty)))

  beside_suc : (left : ℕ) → FreeBeside left → (path : List ℕ) (link : Link) (items : List Entry) → (f : Found)
      → found_at half stored kind nodes path link ≡ f → Holds (Below half stored kind nodes (suc left) path) path f items
      → beside_at half stored kind nodes (suc left) path link key ≡ None
  beside_suc left law path link items none found h = beside_none half stored kind nodes (suc left) path link key found
  beside_suc left law path link items (one k v) found h = beside_one half stored kind nodes (suc left) path link key k v found
  beside_suc left law path link items (fork links) found h = fork_beside left law path link items links found h
  beside_suc left law path link items (lacks g) found h = absurd h
  beside_suc left law path link items (breaks fault) found h = absurd h

  pub beside_law : (left : ℕ) → FreeBeside left
  unfolding beside_at
  beside_law zero path link items stands = refl
  beside_law (suc left) path link items stands =
      beside_suc left (beside_law left) path link items (found_at half stored kind nodes path link) refl
      (stands_into half stored kind nodes (suc left) path link items (found_at half stored kind nodes path link) refl stands)

pub free : IsFree
free half stored m items key stands =
    let way = free_law half stored m.kind m.nodes key 64 false [] m.top items stands tt in
    let beside = beside_law half stored m.kind m.nodes key 64 [] m.top items stands in
    (way, λ i. option_or (way i) (beside i))

-- so a call that goes by the way meets only a failure of the source or want of memory
module _ (X : Type 0) (half : Half) (stored : Lookup) (kind : Kind) (nodes : List Body) (top : Link) (path : List ℕ) (key : Hash)
    (items : List Entry) (r : Result X MapFault) where
  pub way_free : path ≡ [] → StandsAt half stored kind nodes 64 [] top items
      → Goes (stop_at half stored kind nodes (64 - length path) false path top key) r → IfErr r IsFailure
  way_free root stands goes =
      goes_free X r (stop_at half stored kind nodes 64 false [] top key)
      (free_law half stored kind nodes key 64 false [] top items stands tt)
      (subst (λ p. Goes (stop_at half stored kind nodes (64 - length p) false p top key) r) root goes)

  pub removal_free : path ≡ [] → StandsAt half stored kind nodes 64 [] top items
      → Goes (removal_stop_at half stored kind nodes (64 - length path) false path top key) r → IfErr r IsFailure
  removal_free root stands goes =
      let way = free_law half stored kind nodes key 64 false [] top items stands tt in
      let beside = beside_law half stored kind nodes key 64 [] top items stands in
      goes_free X r (removal_stop_at half stored kind nodes 64 false [] top key) (λ i. option_or (way i) (beside i))
      (subst (λ p. Goes (removal_stop_at half stored kind nodes (64 - length p) false p top key) r) root goes)

-- a failure of a source that didn't fail is want of memory
pub only_memory : (fault : MapFault) → IsFailure fault → (fault ≡ causes.Fault → Rose 0 0) → fault ≡ causes.Memory
only_memory (causes.Absent h) failure rose = absurd failure
only_memory (causes.Shape place rule) failure rose = absurd failure
only_memory (causes.ZeroHash form) failure rose = absurd failure
only_memory causes.Memory failure rose = refl
only_memory causes.Fault failure rose = absurd (no_rise (rose refl))
  where
    no_rise : Rose 0 0 → ⊥
    no_rise (inl more) = omega arith
    no_rise (inr last) = omega arith
