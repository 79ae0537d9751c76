-- What sealing adds, piece by piece.
use Rattle.std.proofs.Common.{◌≡◌, ℕ, zero, suc, ◌+◌, ◌<◌, ◌≤◌, ◌==◌, Bool, true, false, cond, if◌then◌else◌, List, [], ◌∷◌, ◌++◌, length}
use Rattle.std.proofs.Common.{take, drop, map, None, Some, Result, Ok, Err, refl, sym, ap, ◌∙◌, subst, arith, slice_index_or}
use Rattle.std.proofs.Common.{append_assoc}
use Rattle.std.specs.List.{slice_get, flat_map}
use Rattle.std.proofs.lemmas.Grind.{flat_map-append}
use Rattle.std.proofs.lemmas.List.{map-append, take_more, take-append-drop}
use Rattle.ledger_spec.specs.declared.Kind.{Kind}
use Rattle.ledger_spec.specs.declared.ShapeFault.TheVariants.{InnerAtBottom}
use Rattle.ledger_spec.specs.Bytes.{Bytes, Hash, Half, Lookup, is_zero}
use Rattle.ledger_spec.specs.Forms.{leaf_form, inner_prefix, hash_or_zero}
use Rattle.std.specs.Option.{option_map}
use Rattle.ledger_spec.specs.Tree.{Entry}
use Rattle.cow_map.specs.declared.fault.MapFault.{MapFault}
use Rattle.cow_map.specs.declared.fault.MapFault.TheVariants as causes
use Rattle.cow_map.specs.declared.link.Link.{Link}
use Rattle.cow_map.specs.declared.link.Link.TheVariants.{Empty, Own}
use Rattle.cow_map.specs.declared.seal.FormOf.{FormOf}
use Rattle.cow_map.specs.Bodies.{Body, leaf, inner}
use Rattle.cow_map.specs.Trees.{fork, breaks, found_body, Holds, StandsAt}
use Rattle.cow_map.specs.Seals.{hash_at, form_below, made_of, made_below}
use Rattle.cow_map.specs.Sealing.{named, first_zero, AddsAll, IsAnswer, Adds, made_at, Stand, SealsFront}
use Rattle.cow_map.proofs.shared.Standing.{Below, stands_into}

append_none : {X : Type 0} (xs : List X) → xs ++ [] ≡ xs
append_none [] = refl
append_none (x ∷ xs) = ap (λ ys. x ∷ ys) (append_none xs)

module _ (half : Half) where
  zero_step : (t : Bool) (x : Bytes) (xs : List Bytes) → is_zero (half x) ≡ t
      → first_zero half (x ∷ xs) ≡ cond t (Some x) (first_zero half xs)
  zero_step t x xs is = ap (λ s. cond s (Some x) (first_zero half xs)) is

  pub zero_none : (xs ys : List Bytes) → first_zero half xs ≡ None → first_zero half (xs ++ ys) ≡ first_zero half ys
  zero_none [] ys e = refl
  zero_none (x ∷ xs) ys e = by (is_zero (half x)) refl (zero_none xs ys)
    where
      by : (t : Bool) → is_zero (half x) ≡ t → (first_zero half xs ≡ None → first_zero half (xs ++ ys) ≡ first_zero half ys)
          → first_zero half (x ∷ xs ++ ys) ≡ first_zero half ys
      by true is rest = let wrong : Some x ≡ None = sym (zero_step true x xs is) ∙ e in cc
      by false is rest = zero_step false x (xs ++ ys) is ∙ rest (sym (zero_step false x xs is) ∙ e)

  pub zero_some : (xs ys : List Bytes) (f : Bytes) → first_zero half xs ≡ Some f → first_zero half (xs ++ ys) ≡ Some f
  zero_some [] ys f e = cc
  zero_some (x ∷ xs) ys f e = by (is_zero (half x)) refl (zero_some xs ys f)
    where
      by : (t : Bool) → is_zero (half x) ≡ t → (first_zero half xs ≡ Some f → first_zero half (xs ++ ys) ≡ Some f)
          → first_zero half (x ∷ xs ++ ys) ≡ Some f
      by true is rest = zero_step true x (xs ++ ys) is ∙ sym (zero_step true x xs is) ∙ e
      by false is rest = zero_step false x (xs ++ ys) is ∙ rest (sym (zero_step false x xs is) ∙ e)

  -- what was added first, and then
  pub adds_after : (X : Type 0) (first second : List Bytes) (before mid after : List FormOf) (r : Result X MapFault)
      → mid ≡ before ++ map (named half) first → first_zero half first ≡ None → AddsAll half second mid after r
      → AddsAll half (first ++ second) before after r
  adds_after X first second before mid after (Ok x) grown clean adds = (
    adds.0 ∙ ap (λ fs. fs ++ map (named half) second) grown ∙ append_assoc before (map (named half) first) (map (named half) second)
        ∙ ap (λ fs. before ++ fs) (sym (map-append (named half) first second)),
    zero_none first second clean ∙ adds.1,
  )
  adds_after X first second before mid after (Err (causes.ZeroHash form)) grown clean adds = zero_none first second clean ∙ adds
  adds_after X first second before mid after (Err causes.Memory) grown clean adds = tt
  adds_after X first second before mid after (Err (causes.Absent h)) grown clean adds = adds
  adds_after X first second before mid after (Err causes.Fault) grown clean adds = adds
  adds_after X first second before mid after (Err (causes.Shape place rule)) grown clean adds = adds

  -- a fault in the first part is one of the whole
  pub faults_early : (X Y : Type 0) (first second : List Bytes) (before mid after : List FormOf) (e : MapFault)
      → AddsAll {X = X} half first before mid (Err e) → AddsAll {X = Y} half (first ++ second) before after (Err e)
  faults_early X Y first second before mid after (causes.ZeroHash form) adds = zero_some first second form adds
  faults_early X Y first second before mid after causes.Memory adds = tt
  faults_early X Y first second before mid after (causes.Absent h) adds = adds
  faults_early X Y first second before mid after causes.Fault adds = adds
  faults_early X Y first second before mid after (causes.Shape place rule) adds = adds

flat_last : {X Y : Type 0} (f : X → List Y) (xs : List X) (x : X) → flat_map f (xs ++ x ∷ []) ≡ flat_map f xs ++ f x
flat_last f xs x = flat_map-append f xs (x ∷ []) ∙ ap (λ ys. flat_map f xs ++ ys) (append_none (f x))

module _ (half : Half) (kind : Kind) (nodes : List Body) (links : List Link) (before : List FormOf) (stored : Lookup) (left : ℕ) where
  pub front_none : (bytes : Bytes) → bytes ≡ inner_prefix → SealsFront half kind nodes links before before bytes 0 stored left
  front_none bytes e = record { added = sym (append_none before); nonzero = refl; form = e ∙ sym (append_none inner_prefix) }

  front_is : {Y : Type 0} (f : Link → List Y) (b : ℕ) → b < length links
      → flat_map f (take (b + 1) links) ≡ flat_map f (take b links) ++ f (slice_index_or links b Empty)
  front_is f b low = ap (flat_map f) (take_more links b Empty low) ∙ flat_last f (take b links) (slice_index_or links b Empty)

  pub front_more : (mid after : List FormOf) (bytes more : Bytes) (hash : Hash) (b : ℕ) → b < length links
      → SealsFront half kind nodes links before mid bytes b stored left
      → AddsAll {X = Hash} half (made_at half kind nodes left (slice_index_or links b Empty)) mid after (Ok hash)
      × (hash ≡ hash_at half kind nodes left (slice_index_or links b Empty)) → more ≡ bytes ++ hash
      → SealsFront half kind nodes links before after more (b + 1) stored left
  front_more mid after bytes more hash b low front step grown =
      let l = slice_index_or links b Empty in
      let both : AddsAll {X = Hash} half (flat_map (made_at half kind nodes left) (take b links) ++ made_at half kind nodes left l) before
      after (Ok hash) =
      adds_after half Hash (flat_map (made_at half kind nodes left) (take b links)) (made_at half kind nodes left l) before mid after
      (Ok hash) front.added front.nonzero step.0 in
      record {
        added = both.0 ∙ ap (λ fs. before ++ map (named half) fs) (sym (front_is (made_at half kind nodes left) b low));
        nonzero = ap (first_zero half) (front_is (made_at half kind nodes left) b low) ∙ both.1;
        form = grown ∙ (λ i. front.form i ++ step.1 i)
            ∙ append_assoc inner_prefix (flat_map (hash_at half kind nodes left) (take b links)) (hash_at half kind nodes left l)
            ∙ ap (λ xs. inner_prefix ++ xs) (sym (front_is (hash_at half kind nodes left) b low));
      }

  pub front_faults : (X Y : Type 0) (mid after : List FormOf) (bytes : Bytes) (e : MapFault) (b : ℕ) → b < length links
      → SealsFront half kind nodes links before mid bytes b stored left
      → AddsAll {X = X} half (made_at half kind nodes left (slice_index_or links b Empty)) mid after (Err e)
      → AddsAll {X = Y} half (flat_map (made_at half kind nodes left) links) before after (Err e)
  front_faults X Y mid after bytes e b low front step =
      let made = made_at half kind nodes left in
      let both : AddsAll {X = X} half (flat_map made (take b links) ++ made (slice_index_or links b Empty)) before after (Err e) =
      adds_after half X (flat_map made (take b links)) (made (slice_index_or links b Empty)) before mid after (Err e) front.added
      front.nonzero step in
      let whole : flat_map made links ≡ (flat_map made (take b links) ++ made (slice_index_or links b Empty)) ++ flat_map made
      (drop (b + 1) links) =
      ap (flat_map made) (sym (take-append-drop (b + 1) links)) ∙ flat_map-append made (take (b + 1) links) (drop (b + 1) links)
      ∙ ap (λ xs. xs ++ flat_map made (drop (b + 1) links)) (front_is made b low) in
      subst (λ fs. AddsAll {X = Y} half fs before after (Err e)) (sym whole)
      (faults_early half X Y (flat_map made (take b links) ++ made (slice_index_or links b Empty)) (flat_map made (drop (b + 1) links))
      before after after e both)

  take_all : {X : Type 0} (n : ℕ) (xs : List X) → length xs ≤ n → take n xs ≡ xs
  take_all zero [] h = refl
  take_all zero (x ∷ xs) h = absurd (omega arith)
  take_all (suc n) [] h = refl
  take_all (suc n) (x ∷ xs) h = ap (λ ys. x ∷ ys) (take_all n xs (omega arith))

  pub front_all : (after : List FormOf) (bytes : Bytes) (b : ℕ) → length links ≤ b
      → SealsFront half kind nodes links before after bytes b stored left
      → AddsAll {X = Bytes} half (flat_map (made_at half kind nodes left) links) before after (Ok bytes)
      × (bytes ≡ inner_prefix ++ flat_map (hash_at half kind nodes left) links)
  front_all after bytes b all front =
      let whole : take b links ≡ links = take_all b links all in (
        (
          front.added ∙ ap (λ ls. before ++ map (named half) (flat_map (made_at half kind nodes left) ls)) whole,
          sym
              (ap (λ ls. first_zero half (flat_map (made_at half kind nodes left) ls)) whole) ∙ front.nonzero,
        ),
        front.form ∙ ap (λ ls. inner_prefix ++ flat_map (hash_at half kind nodes left) ls) whole,
      )

module _ (half : Half) (kind : Kind) (nodes : List Body) where
  pub form_leaf : (left : ℕ) (key : Hash) (bytes : Bytes) → form_below half kind nodes left (leaf key bytes) ≡ leaf_form kind key bytes
  unfolding form_below
  form_leaf zero key bytes = refl
  form_leaf (suc left) key bytes = refl

  pub form_inner : (left : ℕ) (links : List Link)
      → form_below half kind nodes (suc left) (inner links) ≡ inner_prefix ++ flat_map (hash_at half kind nodes left) links
  unfolding form_below
  form_inner left links = refl

  pub made_leaf : (left : ℕ) (key : Hash) (bytes : Bytes)
      → made_below half kind nodes left (leaf key bytes) ≡ form_below half kind nodes left (leaf key bytes) ∷ []
  unfolding made_below
  made_leaf zero key bytes = refl
  made_leaf (suc left) key bytes = refl

  pub made_inner : (left : ℕ) (links : List Link)
      → made_below half kind nodes (suc left) (inner links) ≡ flat_map (made_at half kind nodes left) links ++ form_below half kind nodes
      (suc left) (inner links) ∷ []
  unfolding made_below
  made_inner left links = refl

  hash_own : (left i : ℕ) (body : Body) → slice_get nodes i ≡ Some body
      → hash_at half kind nodes left (Own i) ≡ half (form_below half kind nodes left body)
  hash_own left i body at = ap (λ o. hash_or_zero half (option_map (form_below half kind nodes left) o)) at

  pub made_own : (left i : ℕ) (body : Body) → slice_get nodes i ≡ Some body
      → made_at half kind nodes left (Own i) ≡ made_below half kind nodes left body
  made_own left i body at = ap (made_of (made_below half kind nodes left)) at

  -- a leaf is added
  pub leaf_seals : (i : ℕ) (key : Hash) (bytes form : Bytes) (before after : List FormOf) (r : Result Hash MapFault)
      → slice_get nodes i ≡ Some (leaf key bytes) → form ≡ leaf_form kind key bytes → Adds half form before after r
      → (left : ℕ) → AddsAll half (made_at half kind nodes left (Own i)) before after r × IsAnswer r (hash_at half kind nodes left (Own i))
  leaf_seals i key bytes form before after r at is adds left =
      let same : form ≡ form_below half kind nodes left (leaf key bytes) = is ∙ sym (form_leaf left key bytes) in (
        subst (λ fs. AddsAll half fs before after r) (sym (made_own left i (leaf key bytes) at ∙ made_leaf left key bytes))
            (subst (λ f. AddsAll half (f ∷ []) before after r) same adds.0),
        subst (IsAnswer r) (sym (hash_own left i (leaf key bytes) at)) (subst (λ f. IsAnswer r (half f)) same adds.1),
      )

  -- what an inner node's link stands for is what its branches stand for
  pub own_forks : (stored : Lookup) (left : ℕ) (path : List ℕ) (i : ℕ) (items : List Entry) (links : List Link)
      → slice_get nodes i ≡ Some (inner links) → StandsAt half stored kind nodes left path (Own i) items
      → (lower : ℕ) × (left ≡ suc lower) × ((kids : ℕ → List Entry) × Stand half stored kind nodes lower path links kids)
  own_forks stored left path i items links at stands =
      by left (length path == 64)
      (stands_into half stored kind nodes left path (Own i) items (if length path == 64 then breaks InnerAtBottom else fork links)
      (ap (found_body path) at) stands)
    where
      by : (n : ℕ) (t : Bool) → Holds (Below half stored kind nodes n path) path (if t then breaks InnerAtBottom else fork links) items
          → (lower : ℕ) × (n ≡ suc lower) × ((kids : ℕ → List Entry) × Stand half stored kind nodes lower path links kids)
      by n true h = absurd h
      by zero false h = absurd (h.each 0 (omega arith))
      by (suc n) false h = (n, refl, (h.kids, h.each))

  -- an inner node is added behind what its branches reach
  pub inner_seals : (stored : Lookup) (path : List ℕ) (items : List Entry) (i : ℕ) (links : List Link) (form : Bytes)
      (before mid after : List FormOf) (r : Result Hash MapFault) → slice_get nodes i ≡ Some (inner links)
      → ((lower : ℕ) (kids : ℕ → List Entry) → Stand half stored kind nodes lower path links kids
      → AddsAll {X = Bytes} half (flat_map (made_at half kind nodes lower) links) before mid (Ok form)
      × (form ≡ inner_prefix ++ flat_map (hash_at half kind nodes lower) links))
      → Adds half form mid after r → (left : ℕ) → StandsAt half stored kind nodes left path (Own i) items
      → AddsAll half (made_at half kind nodes left (Own i)) before after r × IsAnswer r (hash_at half kind nodes left (Own i))
  inner_seals stored path items i links form before mid after r at below adds left stands =
      let forks = own_forks stored left path i items links at stands in
      let lower = forks.0 in
      let below_is = below lower forks.2.0 forks.2.1 in
      let same : form ≡ form_below half kind nodes (suc lower) (inner links) = below_is.1 ∙ sym (form_inner lower links) in
      let added : AddsAll half (flat_map (made_at half kind nodes lower) links ++ form ∷ []) before after r =
      adds_after half Hash (flat_map (made_at half kind nodes lower) links) (form ∷ []) before mid after r below_is.0.0 below_is.0.1
      adds.0 in
      subst (λ n. AddsAll half (made_at half kind nodes n (Own i)) before after r × IsAnswer r (hash_at half kind nodes n (Own i)))
      (sym forks.1) (
        subst (λ fs. AddsAll half fs before after r) (sym (made_own (suc lower) i (inner links) at ∙ made_inner lower links))
            (subst (λ f. AddsAll half (flat_map (made_at half kind nodes lower) links ++ f ∷ []) before after r) same added),
        subst (IsAnswer r) (sym (hash_own (suc lower) i (inner links) at)) (subst (λ f. IsAnswer r (half f)) same adds.1),
      )

  pub inner_faults : (stored : Lookup) (path : List ℕ) (items : List Entry) (i : ℕ) (links : List Link) (before mid : List FormOf)
      (e : MapFault) → slice_get nodes i ≡ Some (inner links)
      → ((lower : ℕ) (kids : ℕ → List Entry) → Stand half stored kind nodes lower path links kids
      → AddsAll {X = Bytes} half (flat_map (made_at half kind nodes lower) links) before mid (Err e))
      → (left : ℕ) → StandsAt half stored kind nodes left path (Own i) items
      → AddsAll {X = Hash} half (made_at half kind nodes left (Own i)) before mid (Err e)
  inner_faults stored path items i links before mid e at below left stands =
      let forks = own_forks stored left path i items links at stands in
      let lower = forks.0 in
      subst (λ n. AddsAll {X = Hash} half (made_at half kind nodes n (Own i)) before mid (Err e)) (sym forks.1)
      (subst (λ fs. AddsAll {X = Hash} half fs before mid (Err e)) (sym (made_own (suc lower) i (inner links) at ∙ made_inner lower links))
      (faults_early half Bytes Hash (flat_map (made_at half kind nodes lower) links)
      (form_below half kind nodes (suc lower) (inner links) ∷ []) before mid mid e (below lower forks.2.0 forks.2.1)))
