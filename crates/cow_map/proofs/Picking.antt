-- The forms that a map has made are, in order, those of its tree that its source may lack.
use Rattle.std.proofs.Common.{◌≡◌, inl, inr, ℕ, zero, suc, ◌<◌, ◌≤◌, Bool, true, false, List, [], ◌∷◌, ◌++◌, length, map, None, Some}
use Rattle.std.proofs.Common.{refl, sym, ap, ◌∙◌, subst, arith, slice_index_or, if◌then◌else◌}
use Rattle.std.specs.List.{slice_get, flat_map, AllByRecursion}
use Rattle.ledger_spec.specs.declared.Kind.{Kind}
use Rattle.ledger_spec.specs.Bytes.{Bytes, Hash, Half, Lookup, Items, branches, is_zero}
use Rattle.ledger_spec.specs.Commits.{AreOwn}
use Rattle.ledger_spec.specs.Forms as held
use Rattle.ledger_spec.specs.Forms.{leaf_form, inner_prefix, hash_or_zero}
use Rattle.ledger_spec.specs.Rules.{fault_of}
use Rattle.ledger_spec.specs.Findings.{sight_of}
use Rattle.ledger_spec.specs.Tree.{Entry, part, form_of_part, forms_of_part, forms_of}
use Rattle.cow_map.specs.declared.link.Link.{Link}
use Rattle.cow_map.specs.declared.link.Link.TheVariants.{Empty, Unloaded, Own}
use Rattle.cow_map.specs.Bodies.{Body, leaf, inner, CowTree}
use Rattle.cow_map.specs.Trees.{Found, none, one, fork, lacks, breaks, found_at, fewest, Forks, Holds, StandsAt, StandsFor, link_to}
use Rattle.cow_map.specs.Seals.{Picks, hash_at, form_below, made_of, made_below}
use Rattle.cow_map.specs.Sealing.{made_at, made_of_map}
use Rattle.cow_map.proofs.shared.Leading.{body_one, body_fork, body_none}
use Rattle.cow_map.proofs.Leading.{seen_one, seen_fork, seen_none}
use Rattle.tree_laws.proofs.shared.Subtrees.{inner_above, kid_forms, forms_none, forms_one, forms_fork as forms_crowd}
use Rattle.cow_map.proofs.Branches.{AllUnder, all_range}
use Rattle.cow_map.proofs.shared.Standing.{Below, stands_into, stands_under}
use Rattle.cow_map.proofs.shared.Filters.{crowded, part_kid, part_root}
use Rattle.cow_map.proofs.shared.Sealing.{by_index, flat_each}
use Rattle.cow_map.proofs.Sealing.{hash_law, one_long, sound_form, own_leaf_kind}
use Rattle.cow_map.proofs.Sealing.{joined_links}
use Rattle.cow_map.proofs.Adding.{form_leaf, form_inner, made_leaf, made_inner, made_own}

module _ (half : Half) (stored : Lookup) where
  picks_append : (forms more made next : List Bytes) → Picks half stored made forms → Picks half stored next more
      → Picks half stored (made ++ next) (forms ++ more)
  picks_append [] more made next p q = subst (λ ms. Picks half stored (ms ++ next) more) (sym p) q
  picks_append (f ∷ forms) more made next (inl here) q =
      inl (here.0 ++ next, ap (λ ms. ms ++ next) here.1, picks_append forms more here.0 next here.2 q)
  picks_append (f ∷ forms) more made next (inr there) q = inr (there.0, picks_append forms more made next there.1 q)

  picks_flat : (forms made : ℕ → List Bytes) (cs : List ℕ) → AllByRecursion (λ c. Picks half stored (made c) (forms c)) cs
      → Picks half stored (flat_map made cs) (flat_map forms cs)
  picks_flat forms made [] h = refl
  picks_flat forms made (c ∷ cs) h =
      picks_append (forms c) (flat_map forms cs) (made c) (flat_map made cs) h.0 (picks_flat forms made cs h.1)

  picks_made : (f : Bytes) → Picks half stored (f ∷ []) (f ∷ [])
  picks_made f = inl ([], refl, refl)

  picks_stored : (f : Bytes) → stored (half f) ≡ Some f → Picks half stored [] (f ∷ [])
  picks_stored f is = inr (is, refl)

-- the forms of a part that an inner node stands above
forms_fork : (half : Half) (kind : Kind) (all : List Entry) (left : ℕ) (path : List ℕ) (items : List Entry) → fewest path ≤ length items
    → forms_of_part half kind all (suc left) path items ≡ flat_map
    (kid_forms half kind all left path) branches ++ inner_above half kind all left path ∷ []
forms_fork half kind all left [] [] enough = absurd (omega arith)
forms_fork half kind all left (n ∷ path) [] enough = absurd (omega arith)
forms_fork half kind all left path (e ∷ others) enough = forms_crowd half kind all left path e others (crowded path e others enough)

-- nothing is made of what is left to the source
none_made : (half : Half) (kind : Kind) (nodes : List Body) (left : ℕ) (hashes : List Hash)
    → flat_map (made_at half kind nodes left) (map link_to hashes) ≡ []
none_made half kind nodes left [] = refl
none_made half kind nodes left (h ∷ hashes) = λ i. first (is_zero h) refl i ++ none_made half kind nodes left hashes i
  where
    first : (t : Bool) → is_zero h ≡ t → made_at half kind nodes left (link_to h) ≡ []
    first true z = ap (λ t. made_at half kind nodes left (if t then Empty else Unloaded h)) z
    first false z = ap (λ t. made_at half kind nodes left (if t then Empty else Unloaded h)) z

module _ (half : Half) (size : (x : Bytes) → length (half x) ≡ 32) (stored : Lookup) (proper : AreOwn half stored) (kind : Kind)
    (nodes : List Body) (all : List Entry) where
  -- a form that is stored under its hash
  held_form : (h : Hash) (form same : Bytes) → stored h ≡ Some form → form ≡ same → stored (half same) ≡ Some same
  held_form h form same at is = subst (λ f. stored (half f) ≡ Some f) is (ap stored (sym (proper h form at)) ∙ at)

  none_picks : (left : ℕ) (path : List ℕ) (link : Link) (items : List Entry) → found_at half stored kind nodes path link ≡ none
      → items ≡ [] → Picks half stored (made_at half kind nodes left link) (forms_of_part half kind all left path items)
  none_picks left path link items found nothing =
      subst (Picks half stored (made_at half kind nodes left link))
      (sym (ap (forms_of_part half kind all left path) nothing ∙ forms_none half kind all left path)) (none_is link found)
    where
      none_is : (l : Link) → found_at half stored kind nodes path l ≡ none → made_at half kind nodes left l ≡ []
      none_is Empty e = refl
      none_is (Unloaded h) e = absurd (seen_none h (sight_of half (λ n. fault_of n None kind path) (stored h)) e)
      none_is (Own i) e = ap (made_of (made_below half kind nodes left)) (body_none path (slice_get nodes i) e)

  one_picks : (left : ℕ) (path : List ℕ) (link : Link) (items : List Entry) (key : Hash) (bytes : Bytes)
      → found_at half stored kind nodes path link ≡ one key bytes → items ≡ (key, bytes) ∷ []
      → Picks half stored (made_at half kind nodes left link) (forms_of_part half kind all left path items)
  one_picks left path link items key bytes found alone =
      subst (Picks half stored (made_at half kind nodes left link))
      (sym (ap (forms_of_part half kind all left path) alone
      ∙ forms_one half kind all left path (key, bytes) (one_long half size stored proper kind nodes path link key bytes found)))
      (by link found)
    where
      by : (l : Link) → found_at half stored kind nodes path l ≡ one key bytes
          → Picks half stored (made_at half kind nodes left l) (leaf_form kind key bytes ∷ [])
      by Empty e = absurd (no_one e)
        where
          no_one : none ≡ one key bytes → ⊥
          no_one e = cc
      by (Own i) e =
          let at = body_one path (slice_get nodes i) key bytes e in
          subst (λ ms. Picks half stored ms (leaf_form kind key bytes ∷ []))
          (sym (made_own half kind nodes left i (leaf key bytes) at ∙ made_leaf half kind nodes left key bytes
          ∙ ap (λ f. f ∷ []) (form_leaf half kind nodes left key bytes)))
          (picks_made half stored (leaf_form kind key bytes))
      by (Unloaded h) e =
          let seen = seen_one h (sight_of half (λ n. fault_of n None kind path) (stored h)) key bytes e in
          let is = sound_form half size (λ n. fault_of n None kind path) (stored h) (held.leaf seen.0 key bytes) seen.1 in
          picks_stored half stored (leaf_form kind key bytes)
          (held_form h is.0 (leaf_form kind key bytes) is.1
          (is.2.1 ∙ ap (λ k. leaf_form k key bytes) (own_leaf_kind seen.0 kind key bytes path is.3)))

  -- the node itself, behind what is below it
  fork_own : (left : ℕ) (path : List ℕ) (link : Link) (links : List Link) → found_at half stored kind nodes path link ≡ fork links
      → inner_prefix ++ flat_map (hash_at half kind nodes left) links ≡ inner_above half kind all left path
      → (forms : List Bytes) → Picks half stored (flat_map (made_at half kind nodes left) links) forms
      → Picks half stored (made_at half kind nodes (suc left) link) (forms ++ inner_above half kind all left path ∷ [])
  fork_own left path Empty links found form_is forms below = absurd (no_fork found)
    where
      no_fork : none ≡ fork links → ⊥
      no_fork e = cc
  fork_own left path (Own i) links found form_is forms below =
      let at = body_fork path (slice_get nodes i) links found in
      subst (λ ms. Picks half stored ms (forms ++ inner_above half kind all left path ∷ []))
      (sym (made_own half kind nodes (suc left) i (inner links) at ∙ made_inner half kind nodes left links
      ∙ ap (λ f. flat_map (made_at half kind nodes left) links ++ f ∷ []) (form_inner half kind nodes left links ∙ form_is)))
      (picks_append half stored forms (inner_above half kind all left path ∷ []) (flat_map (made_at half kind nodes left) links)
      (inner_above half kind all left path ∷ []) below (picks_made half stored (inner_above half kind all left path)))
  fork_own left path (Unloaded h) links found form_is forms below =
      let seen = seen_fork h (sight_of half (λ n. fault_of n None kind path) (stored h)) links found in
      let is = sound_form half size (λ n. fault_of n None kind path) (stored h) (held.inner seen.0) seen.1 in
      let joined = joined_links half size stored proper kind nodes path (form_below half kind nodes left) (hash_at half kind nodes left)
      refl (λ g. refl) seen.0 is.2.0.sizes in
      let same : is.0 ≡ inner_above half kind all left path =
      is.2.1 ∙ ap (λ xs. inner_prefix ++ xs) joined ∙ ap (λ ls. inner_prefix ++ flat_map (hash_at half kind nodes left) ls) (sym seen.2)
      ∙ form_is in
      let nothing : flat_map (made_at half kind nodes left) links ≡ [] = ap (flat_map (made_at half kind nodes left)) seen.2
      ∙ none_made half kind nodes left seen.0 in
      picks_append half stored forms (inner_above half kind all left path ∷ []) [] []
      (subst (λ ms. Picks half stored ms forms) nothing below)
      (picks_stored half stored (inner_above half kind all left path)
      (held_form h is.0 (inner_above half kind all left path) is.1 same))

  -- what the law says a level lower
  abbrev Picked : ℕ → Type 0
  Picked left = (path : List ℕ) (link : Link) (items : List Entry) → StandsAt half stored kind nodes left path link items
      → part all path ≡ items → Picks half stored (made_at half kind nodes left link) (forms_of_part half kind all left path items)

  fork_picks : (left : ℕ) → Picked left → (path : List ℕ) (link : Link) (items : List Entry) (links : List Link)
      → found_at half stored kind nodes path link ≡ fork links → Forks (Below half stored kind nodes (suc left) path) path links items
      → part all path ≡ items
      → Picks half stored (made_at half kind nodes (suc left) link) (forms_of_part half kind all (suc left) path items)
  fork_picks left law path link items links found forks whole =
      let kids_under : (c : ℕ) → c < 16 → AllUnder (path ++ c ∷ []) (forks.kids c) =
      λ c low. stands_under half stored kind nodes left (path ++ c ∷ []) (slice_index_or links c Empty) (forks.kids c)
      (forks.each c low) in
      let kid_is : (b : ℕ) → b < 16 → part all (path ++ b ∷ []) ≡ forks.kids b =
      λ b low. part_kid all path forks.kids b low (whole ∙ forks.joined) kids_under in
      let kid_hash : (b : ℕ) → b < 16
      → hash_at half kind nodes left (slice_index_or links b Empty) ≡ hash_or_zero half
      (form_of_part half kind all left (path ++ b ∷ []) (part all (path ++ b ∷ []))) =
      λ b low. hash_law half size stored proper kind nodes all left (path ++ b ∷ []) (slice_index_or links b Empty) (forks.kids b)
      (forks.each b low) (kid_is b low)
      ∙ ap (λ es. hash_or_zero half (form_of_part half kind all left (path ++ b ∷ []) es)) (sym (kid_is b low)) in
      let form_is : inner_prefix ++ flat_map (hash_at half kind nodes left) links ≡ inner_above half kind all left path =
      ap (λ (xs : Bytes). inner_prefix ++ xs) (by_index (hash_at half kind nodes left) Empty links forks.width
      ∙ flat_each (λ b. hash_at half kind nodes left (slice_index_or links b Empty))
      (λ b. hash_or_zero half (form_of_part half kind all left (path ++ b ∷ []) (part all (path ++ b ∷ [])))) kid_hash) in
      let kid_picks : (b : ℕ) → b < 16
      → Picks half stored (made_at half kind nodes left (slice_index_or links b Empty))
      (forms_of_part half kind all left (path ++ b ∷ []) (part all (path ++ b ∷ []))) =
      λ b low. law (path ++ b ∷ []) (slice_index_or links b Empty) (part all (path ++ b ∷ []))
      (subst (StandsAt half stored kind nodes left (path ++ b ∷ []) (slice_index_or links b Empty)) (sym (kid_is b low))
      (forks.each b low)) refl in
      let flat = picks_flat half stored (λ b. forms_of_part half kind all left (path ++ b ∷ []) (part all (path ++ b ∷ [])))
      (λ b. made_at half kind nodes left (slice_index_or links b Empty)) branches
      (all_range (λ b. Picks half stored (made_at half kind nodes left (slice_index_or links b Empty))
      (forms_of_part half kind all left (path ++ b ∷ []) (part all (path ++ b ∷ [])))) 16 0 (λ b at low. kid_picks b low)) in
      let below = subst (λ ms. Picks half stored ms
      (flat_map (λ b. forms_of_part half kind all left (path ++ b ∷ []) (part all (path ++ b ∷ []))) branches))
      (sym (by_index (made_at half kind nodes left) Empty links forks.width)) flat in
      subst (Picks half stored (made_at half kind nodes (suc left) link)) (sym (forms_fork half kind all left path items forks.enough))
      (fork_own left path link links found form_is
      (flat_map (λ b. forms_of_part half kind all left (path ++ b ∷ []) (part all (path ++ b ∷ []))) branches) below)

  picks_zero : (path : List ℕ) (link : Link) (items : List Entry) (f : Found) → found_at half stored kind nodes path link ≡ f
      → Holds (Below half stored kind nodes 0 path) path f items
      → Picks half stored (made_at half kind nodes 0 link) (forms_of_part half kind all 0 path items)
  picks_zero path link items none found h = none_picks 0 path link items found h
  picks_zero path link items (one key bytes) found h = one_picks 0 path link items key bytes found h.alone
  picks_zero path link items (fork links) found h = absurd (h.each 0 (omega arith))
  picks_zero path link items (lacks g) found h = absurd h
  picks_zero path link items (breaks fault) found h = absurd h

  picks_suc : (left : ℕ) → Picked left → (path : List ℕ) (link : Link) (items : List Entry) → part all path ≡ items → (f : Found)
      → found_at half stored kind nodes path link ≡ f → Holds (Below half stored kind nodes (suc left) path) path f items
      → Picks half stored (made_at half kind nodes (suc left) link) (forms_of_part half kind all (suc left) path items)
  picks_suc left law path link items whole none found h = none_picks (suc left) path link items found h
  picks_suc left law path link items whole (one key bytes) found h = one_picks (suc left) path link items key bytes found h.alone
  picks_suc left law path link items whole (fork links) found h = fork_picks left law path link items links found h whole
  picks_suc left law path link items whole (lacks g) found h = absurd h
  picks_suc left law path link items whole (breaks fault) found h = absurd h

  pub picks_law : (left : ℕ) → Picked left
  picks_law zero path link items stands whole =
      picks_zero path link items (found_at half stored kind nodes path link) refl
      (stands_into half stored kind nodes 0 path link items (found_at half stored kind nodes path link) refl stands)
  picks_law (suc left) path link items stands whole =
      picks_suc left (picks_law left) path link items whole (found_at half stored kind nodes path link) refl
      (stands_into half stored kind nodes (suc left) path link items (found_at half stored kind nodes path link) refl stands)

-- the forms of a map, of which those that were made here are the ones that the source may lack
pub made_law : (half : Half) → ((x : Bytes) → length (half x) ≡ 32) → (stored : Lookup) → AreOwn half stored
    → (m : CowTree) (items : Items) → StandsFor half stored m items → Picks half stored (made_of_map half m) (forms_of half m.kind items)
made_law half size stored proper m items stands =
    subst (λ es. Picks half stored (made_of_map half m) (forms_of_part half m.kind items 64 [] es)) (sym (part_root items))
    (picks_law half size stored proper m.kind m.nodes items 64 [] m.top items stands (part_root items))
