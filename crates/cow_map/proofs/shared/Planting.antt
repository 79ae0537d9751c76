-- New nodes stand for what they are made for. For proofs of other crates.
use Rattle.std.proofs.Common.{◌≡◌, ◌≢◌, ℕ, zero, suc, ◌-◌, ◌<◌, ◌≤◌, ◌==◌, Bool, true, false, List, [], ◌∷◌, ◌++◌, length, Some, refl}
use Rattle.std.proofs.Common.{sym, ap, ◌∙◌, subst, arith, IsTrue, slice_index_or, replicate, append_assoc, length-append, cond}
use Rattle.std.specs.Prelude.{slice_set}
use Rattle.std.specs.Ordering.{match_ordering}
use Rattle.std.specs.declared.cmp.Ordering.{Ordering}
use Rattle.std.specs.declared.cmp.Ordering.TheVariants.{Less, Equal, Greater}
use Rattle.std.specs.List.{slice_get, flat_map}
use Rattle.std.specs.FinMap.{nat_cmp-IsAntisymmetric, slice_cmp-IsAntisymmetric}
use Rattle.std.proofs.Math.ListN.{length-set}
use Rattle.std.proofs.lemmas.Bool.Decides.{nat_tests}
use Rattle.nib_path.specs.Paths.{lies_under}
use Rattle.ledger_spec.specs.declared.Kind.{Kind}
use Rattle.ledger_spec.specs.declared.ShapeFault.TheVariants.{InnerAtBottom}
use Rattle.ledger_spec.specs.Bytes.{Bytes, Hash, Half, Lookup, branches}
use Rattle.ledger_spec.specs.Forms.{IsItem}
use Rattle.ledger_spec.specs.Maps.{hash_cmp, insert_in}
use Rattle.ledger_spec.specs.Tree.{Entry}
use Rattle.cow_map.specs.declared.link.Link.{Link}
use Rattle.cow_map.specs.declared.link.Link.TheVariants.{Empty, Own}
use Rattle.cow_map.specs.Bodies.{Body, leaf, inner, IsBelow, AreBodies}
use Rattle.cow_map.specs.Trees.{none, one, fork, breaks, found_body, fewest, Forks, StandsAt}
use Rattle.cow_map.specs.Edits.{LeadsTo}
use Rattle.cow_map.proofs.Leading.{get_last, get_seam, found_leaf}
use Rattle.cow_map.proofs.shared.Leading.{weaker}
use Rattle.cow_map.proofs.Branches.{AllUnder, with_kid, kid_same, kid_other, insert_kids, flat_one}
use Rattle.cow_map.proofs.shared.Standing.{Below, stands_grows}
use Rattle.cow_map.proofs.Standing.{stands_from, each_set, forks_set}

pub below_set : (n : ℕ) (links : List Link) (b : ℕ) (link : Link) → ((c : ℕ) → IsBelow n (slice_index_or links c Empty)) → IsBelow n link
    → (c : ℕ) → IsBelow n (slice_index_or (slice_set links b link) c Empty)
below_set n [] b link all it c = tt
below_set n (l ∷ ls) zero link all it zero = it
below_set n (l ∷ ls) zero link all it (suc c) = all (suc c)
below_set n (l ∷ ls) (suc b) link all it zero = all 0
below_set n (l ∷ ls) (suc b) link all it (suc c) = below_set n ls b link (λ d. all (suc d)) it c

pub none_links : (n c : ℕ) → slice_index_or (replicate n Empty) c Empty ≡ Empty
none_links zero c = refl
none_links (suc n) zero = refl
none_links (suc n) (suc c) = none_links n c

pub none_below : (n m c : ℕ) → IsBelow n (slice_index_or (replicate m Empty) c Empty)
none_below n m c = subst (IsBelow n) (sym (none_links m c)) tt

pub more : (path : List ℕ) (b : ℕ) → 0 < length (path ++ b ∷ [])
more path b = omega (arith, length-append path (b ∷ []))

kid_all : (P : ℕ → List Entry → Type 0) (b : ℕ) (x : List Entry) (c : ℕ) → P b x → ((d : ℕ) → P d []) → P c (with_kid b x (λ d. []) c)
kid_all P b x c here others = by (c == b) refl
  where
    by : (t : Bool) → (c == b) ≡ t → P c (with_kid b x (λ d. []) c)
    by true is = let same : c ≡ b = grind (arith, nat_tests) in
        subst (λ n. P n (with_kid b x (λ d. []) n)) (sym same) (subst (P b) (sym (kid_same b x (λ d. []))) here)
    by false is = let other : c ≢ b = grind (arith, nat_tests) in subst (P c) (sym (kid_other b c x (λ d. []) other)) (others c)

pub fewest_two : (path : List ℕ) → fewest path ≤ 2
fewest_two [] = omega arith
fewest_two (n ∷ path) = omega arith

-- an item beside one of another key
pub two_entries : (path : List ℕ) (key own : Hash) (bytes value : Bytes) → key ≢ own
    → fewest path ≤ length (insert_in hash_cmp ((own, bytes) ∷ []) key value)
two_entries path key own bytes value apart = by (hash_cmp key own) refl
  where
    by : (o : Ordering) → hash_cmp key own ≡ o → fewest path ≤ length (insert_in hash_cmp ((own, bytes) ∷ []) key value)
    by Less is = subst (λ o. fewest path ≤ length {A = Entry}
        (match_ordering o ((key, value) ∷ (own, bytes) ∷ []) ((own, value) ∷ []) ((own, bytes) ∷ (key, value) ∷ []))) (sym is)
        (fewest_two path)
    by Equal is = absurd (apart (slice_cmp-IsAntisymmetric nat_cmp-IsAntisymmetric key own is))
    by Greater is = subst
        (λ o. fewest path ≤ length {A = Entry}
        (match_ordering o ((key, value) ∷ (own, bytes) ∷ []) ((own, value) ∷ []) ((own, bytes) ∷ (key, value) ∷ []))) (sym is)
        (fewest_two path)

-- the levels below a branch
pub one_lower : (path : List ℕ) (b : ℕ) → length path < 64 → 64 - length path ≡ suc (64 - length (path ++ b ∷ []))
one_lower path b low = omega (arith, length-append path (b ∷ []))

module _ (half : Half) (stored : Lookup) (kind : Kind) where
  -- nothing stands for nothing
  pub empty_stands : (nodes : List Body) (left : ℕ) (path : List ℕ) → StandsAt half stored kind nodes left path Empty []
  empty_stands nodes left path = stands_from half stored kind nodes left path Empty [] none refl refl

  -- a leaf of its own
  pub leaf_stands : (nodes : List Body) (left i : ℕ) (path : List ℕ) (key : Hash) (bytes : Bytes)
      → slice_get nodes i ≡ Some (leaf key bytes) → IsItem key bytes → 0 < length path → IsTrue (lies_under path key)
      → StandsAt half stored kind nodes left path (Own i) ((key, bytes) ∷ [])
  leaf_stands nodes left i path key bytes at item long under =
      stands_from half stored kind nodes left path (Own i) ((key, bytes) ∷ []) (one key bytes)
      (ap (found_body path) at ∙ found_leaf path key bytes long under)
      record { item = item; under = under; alone = refl }

  -- what leads to a leaf stands for it
  pub leads_stands : (nodes : List Body) (left : ℕ) (path : List ℕ) (link : Link) (key : Hash) (bytes : Bytes)
      → LeadsTo half stored kind nodes link key bytes → 0 < length path → IsTrue (lies_under path key)
      → StandsAt half stored kind nodes left path link ((key, bytes) ∷ [])
  leads_stands nodes left path link key bytes leads long under =
      stands_from half stored kind nodes left path link ((key, bytes) ∷ []) (one key bytes) (leads.1 path long under) record
      { item = leads.0; under = under; alone = refl }

  -- an inner node of its own
  pub inner_stands : (nodes : List Body) (left i : ℕ) (path : List ℕ) (links : List Link) (items : List Entry)
      → slice_get nodes i ≡ Some (inner links) → length path < 64
      → Forks (Below half stored kind nodes left path) path links items → StandsAt half stored kind nodes left path (Own i) items
  inner_stands nodes left i path links items at low forks =
      let other : (length path == 64) ≡ false = grind (arith, nat_tests) in
      stands_from half stored kind nodes left path (Own i) items (fork links)
      (ap (found_body path) at ∙ ap (λ t. cond t (breaks InnerAtBottom) (fork links)) other) forks

  -- an inner node with one branch
  pub lone_stands : (mid : List Body) (left : ℕ) (path : List ℕ) (b : ℕ) (next : Link) (x : List Entry) → AreBodies mid
      → IsBelow (length mid) next → length path < 64 → b < 16 → fewest path ≤ length x
      → StandsAt half stored kind mid left (path ++ b ∷ []) next x
      → StandsAt half stored kind (mid ++ inner (slice_set (replicate 16 Empty) b next) ∷ []) (suc left) path (Own (length mid)) x
  lone_stands mid left path b next x bodies in_mid low in_16 enough stands =
      let links = slice_set (replicate 16 Empty) b next in
      let after = mid ++ inner links ∷ [] in
      inner_stands after (suc left) (length mid) path links x (get_last mid (inner links)) low
      (forks_set (Below half stored kind after (suc left) path) path (replicate 16 Empty) (λ c. []) b next x x refl in_16
      (λ c low other. subst (λ l. StandsAt half stored kind after left (path ++ c ∷ []) l []) (sym (none_links 16 c))
      (empty_stands after left (path ++ c ∷ [])))
      (stands_grows half stored kind mid (inner links ∷ []) bodies left (path ++ b ∷ []) next x in_mid stands)
      (sym (flat_one b x in_16)) enough)

  -- an inner node over an old leaf and a new one
  pub pair_stands : (nodes : List Body) (left : ℕ) (path : List ℕ) (a b : ℕ) (old : Link) (key own : Hash) (bytes value : Bytes)
      → AreBodies nodes → IsBelow (length nodes) old → length path < 64 → a < 16 → b < 16 → a ≢ b
      → IsTrue (lies_under (path ++ a ∷ []) own) → IsTrue (lies_under (path ++ b ∷ []) key) → key ≢ own
      → LeadsTo half stored kind nodes old own bytes → IsItem key value
      → (links : List Link) → links ≡ slice_set (slice_set (replicate 16 Empty) a old) b (Own (length nodes))
      → StandsAt half stored kind ((nodes ++ leaf key value ∷ []) ++ inner links ∷ []) (suc left) path
      (Own (length (nodes ++ leaf key value ∷ []))) (insert_in hash_cmp ((own, bytes) ∷ []) key value)
  pair_stands nodes left path a b old key own bytes value bodies in_nodes low in_a in_b differ own_under under apart leads item links are =
      let after = (nodes ++ leaf key value ∷ []) ++ inner links ∷ [] in
      let kids = with_kid a ((own, bytes) ∷ []) (λ c. []) in
      let over : ℕ → Link → List Entry → Type 0 = Below half stored kind after (suc left) path in
      let long_a : 0 < length (path ++ a ∷ []) = more path a in
      let long_b : 0 < length (path ++ b ∷ []) = more path b in
      let seam : after ≡ nodes ++ leaf key value ∷ inner links ∷ [] = append_assoc nodes (leaf key value ∷ []) (inner links ∷ []) in
      let new_leaf : slice_get after (length nodes) ≡ Some (leaf key value) = ap (λ ns. slice_get ns (length nodes)) seam
      ∙ get_seam nodes (leaf key value) (inner links ∷ []) in
      let old_stands : over a old ((own, bytes) ∷ []) =
      subst (λ ns. StandsAt half stored kind ns left (path ++ a ∷ []) old ((own, bytes) ∷ [])) (sym seam)
      (stands_grows half stored kind nodes (leaf key value ∷ inner links ∷ []) bodies left (path ++ a ∷ []) old ((own, bytes) ∷ [])
      in_nodes (leads_stands nodes left (path ++ a ∷ []) old own bytes leads long_a own_under)) in
      let new_stands : over b (Own (length nodes)) ((key, value) ∷ []) =
      leaf_stands after left (length nodes) (path ++ b ∷ []) key value new_leaf item long_b under in
      let others : (c : ℕ) → c < 16 → c ≢ b → over c (slice_index_or (slice_set (replicate 16 Empty) a old) c Empty) (kids c) =
      λ c low other. each_set over (replicate 16 Empty) (λ c. []) a old ((own, bytes) ∷ []) in_a old_stands c
      (λ apart. subst (λ l. StandsAt half stored kind after left (path ++ c ∷ []) l []) (sym (none_links 16 c))
      (empty_stands after left (path ++ c ∷ []))) in
      let kids_under : (c : ℕ) → c < 16 → AllUnder (path ++ c ∷ []) (kids c) =
      λ c low. kid_all (λ d es. AllUnder (path ++ d ∷ []) es) a ((own, bytes) ∷ []) c (own_under, tt) (λ d. tt) in
      let joined : insert_in hash_cmp ((own, bytes) ∷ []) key value ≡ flat_map (with_kid b ((key, value) ∷ []) kids) branches =
      ap (λ (es : List Entry). insert_in hash_cmp es key value) (sym (flat_one a ((own, bytes) ∷ []) in_a))
      ∙ insert_kids path key b kids in_b under kids_under value
      ∙ ap (λ (es : List Entry). flat_map (with_kid b (insert_in hash_cmp es key value) kids) branches)
      (kid_other a b ((own, bytes) ∷ []) (λ c. []) (λ same. differ (sym same))) in
      inner_stands after (suc left) (length (nodes ++ leaf key value ∷ [])) path links (insert_in hash_cmp ((own, bytes) ∷ []) key value)
      (get_last (nodes ++ leaf key value ∷ []) (inner links)) low
      (subst (λ ls. Forks over path ls (insert_in hash_cmp ((own, bytes) ∷ []) key value)) (sym are)
      (forks_set over path (slice_set (replicate 16 Empty) a old) kids b (Own (length nodes)) ((key, value) ∷ [])
      (insert_in hash_cmp ((own, bytes) ∷ []) key value) (length-set (replicate 16 Empty) a old) in_b others new_stands joined
      (two_entries path key own bytes value apart)))

  -- the same, as the code makes them
  pub above_done : (nodes after : List Body) (path : List ℕ) (b : ℕ) (next link : Link) (links : List Link) (items : List Entry)
      → link ≡ Own (length nodes) → after ≡ nodes ++ inner links ∷ []
      → links ≡ slice_set (replicate 16 Empty) b next → AreBodies nodes → IsBelow (length nodes) next → length path < 64 → b < 16
      → fewest path ≤ length items
      → StandsAt half stored kind nodes (64 - length (path ++ b ∷ [])) (path ++ b ∷ []) next items
      → StandsAt half stored kind after (64 - length path) path link items
  above_done nodes after path b next link links items at grown are bodies in_nodes low in_16 enough stands =
      let levels : 64 - length path ≡ suc (64 - length (path ++ b ∷ [])) = one_lower path b low in
      let e : after ≡ nodes ++ inner (slice_set (replicate 16 Empty) b next) ∷ [] = grown ∙ ap (λ ls. nodes ++ inner ls ∷ []) are in
      subst (λ n. StandsAt half stored kind after n path link items) (sym levels)
      (subst (λ l. StandsAt half stored kind after (suc (64 - length (path ++ b ∷ []))) path l items) (sym at)
      (subst (λ ns. StandsAt half stored kind ns (suc (64 - length (path ++ b ∷ []))) path (Own (length nodes)) items) (sym e)
      (lone_stands nodes (64 - length (path ++ b ∷ [])) path b next items bodies in_nodes low in_16 enough stands)))

  pub pair_done : (nodes mid after : List Body) (path : List ℕ) (a b : ℕ) (old next made : Link) (links : List Link) (key own : Hash)
      (bytes value : Bytes) → made ≡ Own (length nodes) → mid ≡ nodes ++ leaf key value ∷ []
      → next ≡ Own (length mid) → after ≡ mid ++ inner links ∷ [] → links ≡ slice_set (slice_set (replicate 16 Empty) a old) b made
      → AreBodies nodes → IsBelow (length nodes) old → length path < 64 → a < 16 → b < 16 → a ≢ b
      → IsTrue (lies_under (path ++ a ∷ []) own) → IsTrue (lies_under (path ++ b ∷ []) key) → key ≢ own
      → LeadsTo half stored kind nodes old own bytes → IsItem key value
      → StandsAt half stored kind after (64 - length path) path next (insert_in hash_cmp ((own, bytes) ∷ []) key value)
  pair_done nodes mid after path a b old next made links key own bytes value made_at leaf_more at grown are bodies in_nodes low in_a in_b
      differ own_under under apart leads item =
      let levels : 64 - length path ≡ suc (64 - length (path ++ b ∷ [])) = one_lower path b low in
      let e : after ≡ (nodes ++ leaf key value ∷ []) ++ inner links ∷ [] = grown ∙ ap (λ ns. ns ++ inner links ∷ []) leaf_more in
      let link_is : next ≡ Own (length (nodes ++ leaf key value ∷ [])) = at ∙ ap (λ ns. Own (length ns)) leaf_more in
      let links_are : links ≡ slice_set (slice_set (replicate 16 Empty) a old) b (Own (length nodes)) = are
      ∙ ap (slice_set (slice_set (replicate 16 Empty) a old) b) made_at in
      let x = insert_in hash_cmp ((own, bytes) ∷ []) key value in
      subst (λ n. StandsAt half stored kind after n path next x) (sym levels)
      (subst (λ l. StandsAt half stored kind after (suc (64 - length (path ++ b ∷ []))) path l x) (sym link_is)
      (subst (λ ns. StandsAt half stored kind ns (suc (64 - length (path ++ b ∷ []))) path (Own (length (nodes ++ leaf key value ∷ [])))
      x) (sym e)
      (pair_stands nodes (64 - length (path ++ b ∷ [])) path a b old key own bytes value bodies in_nodes low in_a in_b differ own_under
      under apart leads item links links_are)))

  pub leaf_done : (nodes after : List Body) (left : ℕ) (path : List ℕ) (link : Link) (key : Hash) (value : Bytes)
      → link ≡ Own (length nodes) → after ≡ nodes ++ leaf key value ∷ [] → IsItem key value → 0 < length path
      → IsTrue (lies_under path key)
      → StandsAt half stored kind after left path link ((key, value) ∷ [])
  leaf_done nodes after left path link key value at grown item long under =
      subst (λ l. StandsAt half stored kind after left path l ((key, value) ∷ [])) (sym at)
      (leaf_stands after left (length nodes) path key value
      (ap (λ ns. slice_get ns (length nodes)) grown ∙ get_last nodes (leaf key value)) item long under)

-- a fork's links lead into the list
pub pair_below : (n m a b : ℕ) (old made : Link) (links : List Link) → links ≡ slice_set (slice_set (replicate 16 Empty) a old) b made
    → n ≤ m → IsBelow n old → IsBelow m made → (c : ℕ) → IsBelow m (slice_index_or links c Empty)
pair_below n m a b old made links are more in_n in_m c =
    subst (λ ls. IsBelow m (slice_index_or ls c Empty)) (sym are)
    (below_set m (slice_set (replicate 16 Empty) a old) b made
    (below_set m (replicate 16 Empty) a old (none_below m 16) (weaker n m old more in_n)) in_m c)
