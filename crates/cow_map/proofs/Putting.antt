-- A link made for a change stands for the changed entries.
use Rattle.std.proofs.Common.{◌≡◌, ◌≢◌, ℕ, zero, suc, ◌-◌, ◌<◌, ◌≤◌, ◌⊎◌, inl, inr, if◌then◌else◌, Err, Result, Bool, true, false, List}
use Rattle.std.proofs.Common.{[], ◌∷◌, ◌++◌, length, Option, None, Some, refl, sym, ap, ◌∙◌, subst, arith, IsTrue, slice_index_or}
use Rattle.std.proofs.Common.{append_assoc, length-append, nat_le}
use Rattle.std.specs.Prelude.{slice_set}
use Rattle.std.specs.Ordering.{match_ordering, ordering_reverse}
use Rattle.std.specs.declared.cmp.Ordering.{Ordering}
use Rattle.std.specs.declared.cmp.Ordering.TheVariants.{Less, Equal, Greater}
use Rattle.std.specs.List.{flat_map}
use Rattle.std.specs.Cmp.Lexicographic.{nat_list_cmp_total}
use Rattle.nib_path.specs.Paths.{lies_under, nibble_of}
use Rattle.ledger_spec.specs.declared.Kind.{Kind}
use Rattle.ledger_spec.specs.declared.ShapeFault.TheVariants.{LoneLeaf}
use Rattle.ledger_spec.specs.Bytes.{Bytes, Hash, Half, Lookup, branches}
use Rattle.ledger_spec.specs.Maps.{hash_cmp, insert_in}
use Rattle.ledger_spec.specs.Tree.{Entry}
use Rattle.cow_map.specs.declared.fault.MapFault.{MapFault}
use Rattle.cow_map.specs.declared.fault.MapFault.TheVariants as causes
use Rattle.cow_map.specs.declared.link.Link.{Link}
use Rattle.cow_map.specs.declared.link.Link.TheVariants.{Empty, Own}
use Rattle.cow_map.specs.Bodies.{Body, inner, IsBelow, AreBodies}
use Rattle.cow_map.specs.Trees.{Found, none, one, fork, lacks, breaks, found_at, fewest, Forks, IsOne, StandsAt}
use Rattle.cow_map.specs.Ways.{lone_or, Stop, misfit, stop_in, stop_at, Goes, is_only}
use Rattle.cow_map.specs.Looks.{Stops}
use Rattle.cow_map.specs.Edits.{Sets, LeadsTo}
use Rattle.cow_map.proofs.Leading.{get_last, fork_below, leaf_moves}
use Rattle.cow_map.proofs.shared.Leading.{weaker}
use Rattle.cow_map.proofs.Branches.{AllUnder, with_kid, insert_kids}
use Rattle.cow_map.proofs.Entries.{insert_longer}
use Rattle.cow_map.proofs.shared.Standing.{Below, stands_into, stands_under, stands_grows}
use Rattle.cow_map.proofs.Standing.{found_small, forks_set}
use Rattle.cow_map.proofs.shared.Planting.{inner_stands, below_set, one_lower}

module _ (half : Half) (stored : Lookup) (kind : Kind) where
  -- below a branch
  pub fork_sets : (before mid more : List Body) (left lower : ℕ) (path : List ℕ) (link : Link) (links : List Link) (b : ℕ) (next : Link)
      (key : Hash) (value : Bytes) → mid ≡ before ++ more → AreBodies before → AreBodies mid
      → IsBelow (length before) link → found_at half stored kind before path link ≡ fork links → length path < 64 → left ≡ suc lower
      → b < 16 → IsBelow (length mid) next → IsTrue (lies_under (path ++ b ∷ []) key)
      → Sets half stored kind before mid lower (path ++ b ∷ []) (slice_index_or links b Empty) next key value
      → Sets half stored kind before (mid ++ inner (slice_set links b next) ∷ []) left path link (Own (length mid)) key value
  fork_sets before mid more left lower path link links b next key value grown bodies mids in_before found low levels in_16 in_mid under
      sets small sub items stands =
      let found_is : found_at half small kind before path link ≡ fork links =
      found_small half small stored kind before left path link items sub stands ∙ found in
      let after = mid ++ inner (slice_set links b next) ∷ [] in
      let over : ℕ → Link → List Entry → Type 0 = Below half small kind after (suc lower) path in
      let forks : Forks (Below half small kind before (suc lower) path) path links items =
      stands_into half small kind before (suc lower) path link items (fork links) found_is
      (subst (λ n. StandsAt half small kind before n path link items) levels stands) in
      let seam : after ≡ before ++ (more ++ inner (slice_set links b next) ∷ []) =
      ap (λ ns. ns ++ inner (slice_set links b next) ∷ []) grown ∙ append_assoc before more (inner (slice_set links b next) ∷ []) in
      let others : (c : ℕ) → c < 16 → c ≢ b → over c (slice_index_or links c Empty) (forks.kids c) =
      λ c in_c apart. subst (λ ns. StandsAt half small kind ns lower (path ++ c ∷ []) (slice_index_or links c Empty) (forks.kids c))
      (sym seam)
      (stands_grows half small kind before (more ++ inner (slice_set links b next) ∷ []) bodies lower (path ++ c ∷ [])
      (slice_index_or links c Empty) (forks.kids c)
      (fork_below half small kind before bodies path link links in_before found_is c) (forks.each c in_c)) in
      let here : over b next (insert_in hash_cmp (forks.kids b) key value) =
      stands_grows half small kind mid (inner (slice_set links b next) ∷ []) mids lower (path ++ b ∷ []) next
      (insert_in hash_cmp (forks.kids b) key value) in_mid (sets small sub (forks.kids b) (forks.each b in_16)) in
      let kids_under : (c : ℕ) → c < 16 → AllUnder (path ++ c ∷ []) (forks.kids c) =
      λ c in_c. stands_under half small kind before lower (path ++ c ∷ []) (slice_index_or links c Empty) (forks.kids c)
      (forks.each c in_c) in
      let joined : insert_in hash_cmp items key value ≡ flat_map (with_kid b (insert_in hash_cmp (forks.kids b) key value) forks.kids)
      branches =
      ap (λ (es : List Entry). insert_in hash_cmp es key value) forks.joined
      ∙ insert_kids path key b forks.kids in_16 under kids_under value in
      let enough : fewest path ≤ length (insert_in hash_cmp items key value) =
      omega (arith, forks.enough, insert_longer key value items) in
      subst (λ n. StandsAt half small kind after n path (Own (length mid)) (insert_in hash_cmp items key value)) (sym levels)
      (inner_stands half small kind after (suc lower) (length mid) path (slice_set links b next) (insert_in hash_cmp items key value)
      (get_last mid (inner (slice_set links b next))) low
      (forks_set over path links forks.kids b next (insert_in hash_cmp (forks.kids b) key value) (insert_in hash_cmp items key value)
      forks.width in_16 others here joined enough))

  -- the same, as the code makes it
  pub fork_done : (other : Lookup) (before mid after more : List Body) (path p : List ℕ) (link l next made : Link)
      (links changed : List Link) (b : ℕ) (key : Hash) (value : Bytes) → other ≡ stored → mid ≡ before ++ more
      → AreBodies before → AreBodies mid → IsBelow (length before) link → found_at half stored kind before path link ≡ fork links
      → length path < 64 → b < 16 → IsBelow (length mid) next → IsTrue (lies_under (path ++ b ∷ []) key)
      → p ≡ path ++ b ∷ [] → l ≡ slice_index_or links b Empty → changed ≡ slice_set links b next → made ≡ Own (length mid)
      → after ≡ mid ++ inner changed ∷ []
      → Sets half other kind before mid (64 - length p) p l next key value
      → Sets half stored kind before after (64 - length path) path link made key value
  fork_done other before mid after more path p link l next made links changed b key value same grown bodies mids in_before found low in_16
      in_mid under at_p at_l at_changed at_made at_after sets =
      let q = path ++ b ∷ [] in
      let s1 = subst (λ st. Sets half st kind before mid (64 - length p) p l next key value) same sets in
      let s2 = subst (λ r. Sets half stored kind before mid (64 - length r) r l next key value) at_p s1 in
      let s3 = subst (λ x. Sets half stored kind before mid (64 - length q) q x next key value) at_l s2 in
      let r1 = fork_sets before mid more (64 - length path) (64 - length q) path link links b next key value grown bodies mids in_before
      found low (one_lower path b low) in_16 in_mid under s3 in
      let r2 = subst (λ ls. Sets half stored kind before (mid ++ inner ls ∷ []) (64 - length path) path link (Own (length mid)) key value)
      (sym at_changed) r1 in
      let r3 = subst (λ ns. Sets half stored kind before ns (64 - length path) path link (Own (length mid)) key value) (sym at_after) r2 in
      subst (λ m. Sets half stored kind before after (64 - length path) path link m key value) (sym at_made) r3

  -- where nothing stood
  pub none_sets : (before after : List Body) (left : ℕ) (path : List ℕ) (link next : Link) (key : Hash) (value : Bytes)
      → found_at half stored kind before path link ≡ none
      → ((st : Lookup) → StandsAt half st kind after left path next ((key, value) ∷ []))
      → Sets half stored kind before after left path link next key value
  none_sets before after left path link next key value found new small sub items stands =
      let nothing : items ≡ [] =
      stands_into half small kind before left path link items none
      (found_small half small stored kind before left path link items sub stands ∙ found) stands in
      subst (λ (es : List Entry). StandsAt half small kind after left path next (insert_in hash_cmp es key value)) (sym nothing)
      (new small)

  -- where a leaf stood
  pub leaf_sets : (before after : List Body) (left : ℕ) (path : List ℕ) (link next : Link) (own : Hash) (bytes : Bytes) (key : Hash)
      (value : Bytes) → found_at half stored kind before path link ≡ one own bytes
      → ((st : Lookup) → LeadsTo half st kind before link own bytes
      → StandsAt half st kind after left path next (insert_in hash_cmp ((own, bytes) ∷ []) key value))
      → Sets half stored kind before after left path link next key value
  leaf_sets before after left path link next own bytes key value found new small sub items stands =
      let found_is : found_at half small kind before path link ≡ one own bytes =
      found_small half small stored kind before left path link items sub stands ∙ found in
      let leaf_is : IsOne path own bytes items = stands_into half small kind before left path link items (one own bytes) found_is stands in
      subst (λ (es : List Entry). StandsAt half small kind after left path next (insert_in hash_cmp es key value)) (sym leaf_is.alone)
      (new small (leaf_is.item, leaf_moves half small kind before path link own bytes found_is))

pub equal_self : (k : Hash) → hash_cmp k k ≡ Equal
equal_self k = by (hash_cmp k k) refl
  where
    by : (o : Ordering) → hash_cmp k k ≡ o → hash_cmp k k ≡ Equal
    by Less is = let back : Less ≡ Greater = sym is ∙ nat_list_cmp_total.antisymm k k ∙ ap ordering_reverse is in cc
    by Equal is = is
    by Greater is = let back : Greater ≡ Less = sym is ∙ nat_list_cmp_total.antisymm k k ∙ ap ordering_reverse is in cc

-- an item in the place of one with its key
pub same_entry : (key own : Hash) (bytes value : Bytes) → own ≡ key → insert_in hash_cmp ((own, bytes) ∷ []) key value ≡ (key, value) ∷ []
same_entry key own bytes value same =
    ap (λ (k : Hash). insert_in hash_cmp ((k, bytes) ∷ []) key value) same
    ∙ ap (λ o. match_ordering {X = List Entry} o ((key, value) ∷ (key, bytes) ∷ []) ((key, value) ∷ [])
    ((key, bytes) ∷ (key, value) ∷ [])) (equal_self key)

-- what is found but for the rule of the lone leaf
cond_breaks : (t : Bool) (key : Hash) (bytes : Bytes) (found : Found) → (if t then breaks LoneLeaf else one key bytes) ≡ found
    → (found ≡ breaks LoneLeaf) ⊎ (found ≡ one key bytes)
cond_breaks true key bytes found e = inl (sym e)
cond_breaks false key bytes found e = inr (sym e)

pub lone_none : (lone : Bool) (path : List ℕ) (found : Found) → lone_or lone path found ≡ none → found ≡ none
lone_none false path found e = e
lone_none true path none e = e
lone_none true path (one key bytes) e = elim (cond_breaks (nat_le 2 (length path)) key bytes none e) [ inl is ↦ cc | inr is ↦ cc ]
lone_none true path (fork links) e = e
lone_none true path (lacks h) e = e
lone_none true path (breaks fault) e = e

pub lone_one : (lone : Bool) (path : List ℕ) (found : Found) (k : Hash) (v : Bytes) → lone_or lone path found ≡ one k v → found ≡ one k v
lone_one false path found k v e = e
lone_one true path none k v e = e
lone_one true path (one key bytes) k v e =
    elim (cond_breaks (nat_le 2 (length path)) key bytes (one k v) e) [ inl is ↦ cc | inr is ↦ sym is ]
lone_one true path (fork links) k v e = e
lone_one true path (lacks h) k v e = e
lone_one true path (breaks fault) k v e = e

pub lone_fork : (lone : Bool) (path : List ℕ) (found : Found) (ls : List Link) → lone_or lone path found ≡ fork ls → found ≡ fork ls
lone_fork false path found ls e = e
lone_fork true path none ls e = e
lone_fork true path (one key bytes) ls e = elim (cond_breaks (nat_le 2 (length path)) key bytes (fork ls) e) [ inl is ↦ cc | inr is ↦ cc ]
lone_fork true path (fork links) ls e = e
lone_fork true path (lacks h) ls e = e
lone_fork true path (breaks fault) ls e = e

module _ (half : Half) (stored : Lookup) (kind : Kind) (nodes : List Body) (lone : Bool) (path : List ℕ) (link : Link) (key : Hash) where
  -- what stops one below
  abbrev Next : ℕ → ℕ → Bool → Link → Option Stop
  Next zero b only l = None
  Next (suc left) b only l = stop_at half stored kind nodes left only (path ++ b ∷ []) l key

  stops_as : (left : ℕ)
      → stop_at half stored kind nodes left lone path link key ≡ stop_in (Next left) path key
      (lone_or lone path (found_at half stored kind nodes path link))
  unfolding stop_at
  stops_as zero = refl
  stops_as (suc left) = refl

  stops_by : (left : ℕ) (found : Found) → lone_or lone path (found_at half stored kind nodes path link) ≡ found
      → stop_at half stored kind nodes left lone path link key ≡ stop_in (Next left) path key found
  stops_by left found is = stops_as left ∙ ap (stop_in (Next left) path key) is

  pub way_none : (left : ℕ) → lone_or lone path (found_at half stored kind nodes path link) ≡ none
      → stop_at half stored kind nodes left lone path link key ≡ None
  way_none left found = stops_by left none found

  pub way_one : (left : ℕ) (own : Hash) (bytes : Bytes) → lone_or lone path (found_at half stored kind nodes path link) ≡ one own bytes
      → stop_at half stored kind nodes left lone path link key ≡ None
  way_one left own bytes found = stops_by left (one own bytes) found

  pub way_fork : (left lower b : ℕ) (links : List Link) → left ≡ suc lower → b ≡ nibble_of key (length path)
      → lone_or lone path (found_at half stored kind nodes path link) ≡ fork links
      → stop_at half stored kind nodes left lone path link key ≡ stop_at half stored kind nodes lower (is_only links) (path ++ b ∷ [])
      (slice_index_or links b Empty) key
  way_fork left lower b links levels at found =
      ap (λ n. stop_at half stored kind nodes n lone path link key) levels ∙ stops_by (suc lower) (fork links) found
      ∙ ap (λ n. stop_at half stored kind nodes lower (is_only links) (path ++ n ∷ []) (slice_index_or links n Empty) key) (sym at)

  pub way_stops : (X : Type 0) (left : ℕ) (fault : MapFault)
      → Stops path (lone_or lone path (found_at half stored kind nodes path link)) fault
      → Goes {X = X} (stop_at half stored kind nodes left lone path link key) (Err fault)
  way_stops X left (causes.Absent h) stops = stops_by left (lacks h) stops
  way_stops X left (causes.Shape place rule) stops = stops_by left (breaks rule) stops.1 ∙ ap (λ p. Some (misfit p rule)) (sym stops.0)
  way_stops X left (causes.ZeroHash form) stops = stops
  way_stops X left causes.Fault stops = tt
  way_stops X left causes.Memory stops = tt

  -- what stops one, as the code goes
  pub way_step : (other : Lookup) (p : List ℕ) (l : Link) (only : Bool) (b : ℕ) (links : List Link) → other ≡ stored → length path < 64
      → b ≡ nibble_of key (length path)
      → lone_or lone path (found_at half stored kind nodes path link) ≡ fork links → p ≡ path ++ b ∷ [] → l ≡ slice_index_or links b Empty
      → only ≡ is_only links
      → stop_at half stored kind nodes (64 - length path) lone path link key ≡ stop_at half other kind nodes (64 - length p) only p l key
  way_step other p l only b links same low at found at_p at_l at_only =
      way_fork (64 - length path) (64 - length (path ++ b ∷ [])) b links (one_lower path b low) at found
      ∙ ap (λ o. stop_at half stored kind nodes (64 - length (path ++ b ∷ [])) o (path ++ b ∷ []) (slice_index_or links b Empty) key)
      (sym at_only)
      ∙ ap (λ x. stop_at half stored kind nodes (64 - length (path ++ b ∷ [])) only (path ++ b ∷ []) x key) (sym at_l)
      ∙ ap (λ q. stop_at half stored kind nodes (64 - length q) only q l key) (sym at_p)
      ∙ ap (λ st. stop_at half st kind nodes (64 - length p) only p l key) (sym same)

pub goes_same : (X : Type 0) (r : Result X MapFault) (a b : Option Stop) → b ≡ a → Goes a r → Goes b r
goes_same X r a b e h = subst (λ s. Goes s r) (sym e) h

-- the links of an inner node with a new one
pub changed_below : (before mid : List Body) (more : List Body) (links changed : List Link) (b : ℕ) (next : Link) → mid ≡ before ++ more
    → ((c : ℕ) → IsBelow (length before) (slice_index_or links c Empty)) → IsBelow (length mid) next
    → changed ≡ slice_set links b next → (c : ℕ) → IsBelow (length mid) (slice_index_or changed c Empty)
changed_below before mid more links changed b next grown below in_mid are c =
    let longer : length before ≤ length mid = omega (arith, ap length grown, length-append before more) in
    subst (λ ls. IsBelow (length mid) (slice_index_or ls c Empty)) (sym are)
    (below_set (length mid) links b next (λ d. weaker (length before) (length mid) (slice_index_or links d Empty) longer (below d)) in_mid
    c)
