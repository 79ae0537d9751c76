-- What stops one who removes a key: on its way, and then beside its leaf.
use Rattle.std.proofs.Common.{◌≡◌, ◌≢◌, ℕ, ◌-◌, ◌<◌, ◌≤◌, Bool, true, if◌then◌else◌, Option, None, Some}
use Rattle.std.proofs.Common.{Result, Ok, Err}
use Rattle.std.proofs.Common.{List, [], ◌∷◌, ◌++◌, length, refl, sym, ap, ◌∙◌, arith, slice_index_or, length-append}
use Rattle.std.specs.Prelude.{slice_set, IfErr}
use Rattle.std.specs.Option.{option_or}
use Rattle.std.proofs.lemmas.List.{get_or-set_same, get_or-set_other}
use Rattle.nib_path.specs.Paths.{nibble_of}
use Rattle.ledger_spec.specs.declared.Kind.{Kind}
use Rattle.ledger_spec.specs.Bytes.{Bytes, Hash, Half, Lookup}
use Rattle.cow_map.specs.declared.fault.MapFault.{MapFault}
use Rattle.cow_map.specs.declared.fault.MapFault.TheVariants as causes
use Rattle.cow_map.specs.declared.link.Link.{Link}
use Rattle.cow_map.specs.declared.link.Link.TheVariants.{Empty}
use Rattle.cow_map.specs.Bodies.{Body, IsBelow}
use Rattle.cow_map.specs.Trees.{Found, none, one, fork, lacks, breaks, found_at}
use Rattle.cow_map.specs.Ways.{Stop, absent, misfit, Goes, is_only, lone_or, stop_at, stop_here, stop_left}
use Rattle.cow_map.specs.Ways.{is_leaf_of, beside_at, removal_stop_at, IsFailure}
use Rattle.cow_map.specs.Edits.{Leaves}
use Rattle.cow_map.proofs.Counting.{only_one}
use Rattle.cow_map.proofs.shared.Planting.{below_set, one_lower}
use Rattle.cow_map.proofs.Putting.{lone_none, lone_one, way_none, way_one, way_step}
use Rattle.cow_map.proofs.Stops.{goes_next, or_both, leaf_same, leaf_is, nothing_went}
use Rattle.cow_map.proofs.Lone.{beside_none, beside_one, beside_fork, left_grows, left_sound}

-- what stops one beside the branch b, or below it
abbrev pub Next : Half → Kind → List Body → List ℕ → Hash → List Link → ℕ → Lookup → ℕ → List ℕ → Link → Option Stop
Next half kind nodes path key links b stored lower p l =
    if is_leaf_of key (found_at half stored kind nodes p l) then stop_left (found_at half stored kind nodes) path (slice_set links b Empty)
    else beside_at half stored kind nodes lower p l key

module _ (half : Half) (stored : Lookup) (kind : Kind) where
  -- where nothing stands, and where a leaf does
  pub removal_none : (nodes : List Body) (left : ℕ) (lone : Bool) (path : List ℕ) (link : Link) (key : Hash)
      → lone_or lone path (found_at half stored kind nodes path link) ≡ none
      → removal_stop_at half stored kind nodes left lone path link key ≡ None
  removal_none nodes left lone path link key is =
      let way = way_none half stored kind nodes lone path link key left is in
      let beside = beside_none half stored kind nodes left path link key (lone_none lone path _ is) in
      λ i. option_or (way i) (beside i)

  pub removal_one : (nodes : List Body) (left : ℕ) (lone : Bool) (path : List ℕ) (link : Link) (key own : Hash) (bytes : Bytes)
      → lone_or lone path (found_at half stored kind nodes path link) ≡ one own bytes
      → removal_stop_at half stored kind nodes left lone path link key ≡ None
  removal_one nodes left lone path link key own bytes is =
      let way = way_one half stored kind nodes lone path link key left own bytes is in
      let beside = beside_one half stored kind nodes left path link key own bytes (lone_one lone path _ own bytes is) in
      λ i. option_or (way i) (beside i)

  -- one step of the way of a removal, as the code goes
  pub removal_step : (other : Lookup) (nodes : List Body) (lone : Bool) (path p : List ℕ) (link l : Link) (key : Hash) (only : Bool)
      (b : ℕ) (links : List Link) → other ≡ stored → length path < 64
      → b ≡ nibble_of key (length path) → lone_or lone path (found_at half stored kind nodes path link) ≡ fork links
      → found_at half stored kind nodes path link ≡ fork links
      → p ≡ path ++ b ∷ [] → l ≡ slice_index_or links b Empty → only ≡ is_only links
      → removal_stop_at half stored kind nodes (64 - length path) lone path link key
      ≡ option_or (stop_at half other kind nodes (64 - length p) only p l key)
      (Next half kind nodes path key links b other (64 - length p) p l)
  removal_step other nodes lone path p link l key only b links same low at loned found at_p at_l at_only = λ i. option_or (way i) (next i)
    where
      way : stop_at half stored kind nodes (64 - length path) lone path link key ≡ stop_at half other kind nodes (64 - length p) only p l
          key
      way = way_step half stored kind nodes lone path link key other p l only b links same low at loned at_p at_l at_only

      next : beside_at half stored kind nodes (64 - length path) path link key ≡ Next half kind nodes path key links b other
          (64 - length p) p l
      next =
          ap (λ n. beside_at half stored kind nodes n path link key) (one_lower path b low)
          ∙ beside_fork half stored kind nodes (64 - length (path ++ b ∷ [])) path link key links found
          ∙ ap (λ n. Next half kind nodes path key links n stored (64 - length (path ++ b ∷ [])) (path ++ n ∷ [])
          (slice_index_or links n Empty)) (sym at)
          ∙ ap (λ x. Next half kind nodes path key links b stored (64 - length (path ++ b ∷ [])) (path ++ b ∷ []) x) (sym at_l)
          ∙ ap (λ q. Next half kind nodes path key links b stored (64 - length q) q l) (sym at_p)
          ∙ ap (λ st. Next half kind nodes path key links b st (64 - length p) p l) (sym same)

  -- the key's leaf has nothing beside it below its place
  leaf_alone : (nodes : List Body) (left : ℕ) (p : List ℕ) (l : Link) (key : Hash)
      → is_leaf_of key (found_at half stored kind nodes p l) ≡ true → beside_at half stored kind nodes left p l key ≡ None
  leaf_alone nodes left p l key is =
      let same = leaf_same key (found_at half stored kind nodes p l) is in
      beside_one half stored kind nodes left p l key same.0 same.1 same.2

  -- one who is stopped below the branch is stopped there
  pub stopped_below : (X Y : Type 0) (nodes : List Body) (path p : List ℕ) (l : Link) (key : Hash) (only : Bool) (b : ℕ)
      (links : List Link) (fault : MapFault)
      → Goes {X = Y} (removal_stop_at half stored kind nodes (64 - length p) only p l key) (Err fault)
      → Goes {X = X} (option_or (stop_at half stored kind nodes (64 - length p) only p l key)
      (Next half kind nodes path key links b stored (64 - length p) p l)) (Err fault)
  stopped_below X Y nodes path p l key only b links fault goes =
      goes_next X Y fault (stop_at half stored kind nodes (64 - length p) only p l key)
      (beside_at half stored kind nodes (64 - length p) p l key)
      (stop_left (found_at half stored kind nodes) path (slice_set links b Empty)) (is_leaf_of key (found_at half stored kind nodes p l))
      (leaf_alone nodes (64 - length p) p l key) goes

  -- one who doesn't find the key isn't stopped
  pub passed_below : (there : Link → Found) (nodes : List Body) (path p : List ℕ) (l : Link) (key : Hash) (only : Bool) (b : ℕ)
      (links : List Link)
      → removal_stop_at half stored kind nodes (64 - length p) only p l key ≡ None
      → Leaves there only p key (found_at half stored kind nodes p l) None
      → option_or (stop_at half stored kind nodes (64 - length p) only p l key)
      (Next half kind nodes path key links b stored (64 - length p) p l) ≡ None
  passed_below there nodes path p l key only b links goes leaves =
      ap (λ t. option_or (stop_at half stored kind nodes (64 - length p) only p l key)
      (if t then stop_left (found_at half stored kind nodes) path (slice_set links b Empty) else beside_at half stored kind nodes
      (64 - length p) p l key))
      (nothing_went there only p key (found_at half stored kind nodes p l) leaves) ∙ goes

  -- where the key was removed below the branch, one can be stopped at what is left alone
  pub left_below : (third : Lookup) (nodes mid more : List Body) (path p : List ℕ) (l next : Link) (key : Hash) (only : Bool) (b : ℕ)
      (links changed : List Link) → third ≡ stored → mid ≡ nodes ++ more → length links ≡ 16 → b < 16
      → ((c : ℕ) → IsBelow (length nodes) (slice_index_or links c Empty)) → p ≡ path ++ b ∷ [] → changed ≡ slice_set links b next
      → removal_stop_at half stored kind nodes (64 - length p) only p l key ≡ None
      → Leaves (found_at half stored kind mid p) only p key (found_at half stored kind nodes p l) (Some next)
      → option_or (stop_at half stored kind nodes (64 - length p) only p l key)
      (Next half kind nodes path key links b stored (64 - length p) p l) ≡ stop_left (found_at half third kind mid) path changed
  left_below third nodes mid more path p l next key only b links changed same grown width in_16 below at_p at_changed goes leaves =
      ap (λ a. option_or a (Next half kind nodes path key links b stored (64 - length p) p l)) free.0
      ∙ by (found_at half stored kind nodes p l) refl leaves
    where
      free : (stop_at half stored kind nodes (64 - length p) only p l key ≡ None)
          × (beside_at half stored kind nodes (64 - length p) p l key ≡ None)
      free = or_both (stop_at half stored kind nodes (64 - length p) only p l key)
          (beside_at half stored kind nodes (64 - length p) p l key) goes

      by : (f : Found) → found_at half stored kind nodes p l ≡ f → Leaves (found_at half stored kind mid p) only p key f (Some next)
          → Next half kind nodes path key links b stored (64 - length p) p l ≡ stop_left (found_at half third kind mid) path changed
      by none is leaves = cc
      by (one own bytes) is leaves =
          let gone = leaves.1 in
          ap (λ t. if t then stop_left (found_at half stored kind nodes) path (slice_set links b Empty) else beside_at half stored kind
          nodes (64 - length p) p l key) (ap (is_leaf_of key) is ∙ leaf_is key own bytes gone.1)
          ∙ sym (left_grows half stored kind nodes more path (slice_set links b Empty) (below_set (length nodes) links b Empty below tt))
          ∙ ap (λ ns. stop_left (found_at half stored kind ns) path (slice_set links b Empty)) (sym grown)
          ∙ ap (λ x. stop_left (found_at half stored kind mid) path (slice_set links b x)) (sym gone.0)
          ∙ ap (λ ls. stop_left (found_at half stored kind mid) path ls) (sym at_changed)
          ∙ ap (λ st. stop_left (found_at half st kind mid) path changed) (sym same)
      by (fork ls) is leaves =
          let long : 0 < length p = omega (arith, ap length at_p, length-append path (b ∷ [])) in
          let within : b < length links = omega (arith, width) in
          let at : slice_index_or changed b Empty ≡ next = ap (λ xs. slice_index_or xs b Empty) at_changed
          ∙ get_or-set_same links b next Empty within in
          ap (λ t. if t then stop_left (found_at half stored kind nodes) path (slice_set links b Empty) else beside_at half stored kind
          nodes (64 - length p) p l key) (ap (is_leaf_of key) is)
          ∙ free.1
          ∙ sym (left_sound half third kind mid path changed b next at (leaves.0 long)
          (ap (λ q. stop_here q (found_at half third kind mid q next)) (sym at_p)
          ∙ ap (λ st. stop_here p (found_at half st kind mid p next)) same ∙ leaves.1))
      by (lacks h) is leaves = absurd leaves
      by (breaks fault) is leaves = absurd leaves

  -- below the root an inner node leaves something
  pub some_left : (there : Link → Found) (nodes : List Body) (path p : List ℕ) (l next left : Link) (key : Hash) (only : Bool) (b : ℕ)
      (links changed : List Link) → length links ≡ 16 → b < 16 → p ≡ path ++ b ∷ []
      → l ≡ slice_index_or links b Empty → only ≡ is_only links → changed ≡ slice_set links b next
      → Leaves there only p key (found_at half stored kind nodes p l) (Some next)
      → (left ≡ Empty → (c : ℕ) → slice_index_or changed c Empty ≡ Empty) → 0 < length path → left ≢ Empty
  some_left there nodes path p l next left key only b links changed width in_16 at_p at_l at_only at_changed leaves some long empty =
      by (found_at half stored kind nodes p l) refl leaves
    where
      within : b < length links
      within = omega (arith, width)

      at : slice_index_or changed b Empty ≡ next
      at = ap (λ xs. slice_index_or xs b Empty) at_changed ∙ get_or-set_same links b next Empty within

      deep : 2 ≤ length p
      deep = omega (arith, ap length at_p, length-append path (b ∷ []))

      by : (f : Found) → found_at half stored kind nodes p l ≡ f → Leaves there only p key f (Some next) → ⊥
      by none is leaves = cc
      by (one own bytes) is leaves =
          let nowhere : slice_index_or links b Empty ≡ Empty → ⊥ = λ e. let wrong : none ≡ one own bytes =
          sym (ap (found_at half stored kind nodes p) (at_l ∙ e)) ∙ is in cc in
          let others : (d : ℕ) → d ≢ b → slice_index_or links d Empty ≡ Empty =
          λ d apart. sym (get_or-set_other links b d next Empty apart) ∙ ap (λ xs. slice_index_or xs d Empty) (sym at_changed)
          ∙ some empty d in
          let short = leaves.0 (at_only ∙ only_one links b nowhere others) in
          absurd (omega (arith, short, deep))
      by (fork ls) is leaves = leaves.0 (omega (arith, deep)) (sym at ∙ some empty b)
      by (lacks h) is leaves = leaves
      by (breaks fault) is leaves = leaves

-- where nothing is in the way, one only meets a failure of the source or want of memory
pub goes_free : (X : Type 0) (r : Result X MapFault) (stop : Option Stop) → stop ≡ None → Goes stop r → IfErr r IsFailure
goes_free X (Ok x) stop free goes = tt
goes_free X (Err (causes.Absent h)) stop free goes = let wrong : None ≡ Some (absent h) = sym free ∙ goes in cc
goes_free X (Err (causes.Shape place rule)) stop free goes = let wrong : None ≡ Some (misfit place rule) = sym free ∙ goes in cc
goes_free X (Err (causes.ZeroHash form)) stop free goes = goes
goes_free X (Err causes.Fault) stop free goes = tt
goes_free X (Err causes.Memory) stop free goes = tt
