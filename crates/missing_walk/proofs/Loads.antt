-- The places that a search has left grow fewer.
use Rattle.std.proofs.Common.{◌≡◌, ℕ, ◌+◌, ◌≤◌, false, List, [], ◌∷◌, ◌++◌, length}
use Rattle.std.proofs.Common.{Option, None, Some, refl, sym, ap, ◌∙◌, subst, arith}
use Rattle.std.specs.Prelude.{reverse}
use Rattle.std.specs.List.{AllByRecursion}
use Rattle.std.proofs.lemmas.List.{map-append}
use Rattle.ledger_spec.specs.Bytes.{Hash, Half, Lookup, is_zero}
use Rattle.shamap_node.specs.declared.Node.{Node}
use Rattle.missing_walk.specs.declared.todo.Todo.{Todo}
use Rattle.missing_walk.specs.declared.todo.Open.{Open}
use Rattle.missing_walk.specs.declared.search.Search.{Search}
use Rattle.missing_walk.specs.Pending.{Pending, pending_of, stacked, noted_places, kids_of, IsMet, root_of}
use Rattle.missing_walk.specs.Stacks.{Opens}
use Rattle.missing_walk.specs.Rests.{load, left_in, Lighter}
use Rattle.missing_walk.proofs.Stacking.{stacked_top, stacked_more}
use Rattle.missing_walk.proofs.Sliced.{reversed}
use Rattle.missing_walk.proofs.Meetings.{meets_nonzero}
use Rattle.missing_walk.proofs.Weights.{load_join}

module _ (f g : Pending → ℕ) where
  top_load : (ts rest : List Todo) (top : Todo) → ts ≡ rest ++ top ∷ []
      → load f (stacked ts) ≡ f (pending_of top) + load f (stacked rest)
  top_load ts rest top is = ap (load f) (ap stacked is ∙ stacked_top rest top)

  -- the place on top is gone
  pub lighter_skip : (s s' : Search) (rest : List Todo) (top : Todo) → s.stack.items ≡ rest ++ top ∷ [] → s'.stack.items ≡ rest
      → s'.missing.items ≡ s.missing.items → 1 ≤ f (pending_of top) → Lighter f g 1 s s'
  lighter_skip s s' rest top stack left missing one = record {
    fewer = λ none.
        let before = top_load s.stack.items rest top stack in
        let after : load f (stacked s'.stack.items) ≡ load f (stacked rest) = ap (λ l. load f (stacked l)) left in
        let same : load g (noted_places s'.missing.items) ≡ load g (noted_places s.missing.items) =
        ap (λ l. load g (noted_places l)) missing in
        omega (arith, before, after, same, one);
  }

  -- the places below it stand in its place
  pub lighter_below : (s s' : Search) (rest : List Todo) (top : Todo) (node : Node) (before after : List Open)
      → s.stack.items ≡ rest ++ top ∷ [] → Opens rest top node s'.stack.items before after → s'.missing.items ≡ s.missing.items
      → load f (kids_of top.at.kind top.at.id node) + 1 ≤ f (pending_of top) → Lighter f g 1 s s'
  lighter_below s s' rest top node before after stack o missing fewer = record {
    fewer = λ none.
        let first = top_load s.stack.items rest top stack in
        let second : load f (stacked s'.stack.items) ≡ load f (kids_of top.at.kind top.at.id node) + load f (stacked rest) =
        ap (load f) o.places ∙ load_join f (kids_of top.at.kind top.at.id node) (stacked rest) in
        let same : load g (noted_places s'.missing.items) ≡ load g (noted_places s.missing.items) =
        ap (λ l. load g (noted_places l)) missing in
        omega (arith, first, second, same, fewer);
  }

  -- it is noted
  pub lighter_note : (s s' : Search) (rest : List Todo) (top : Todo) → s.stack.items ≡ rest ++ top ∷ [] → s'.stack.items ≡ rest
      → s'.missing.items ≡ s.missing.items ++ top ∷ [] → g (pending_of top) + 1 ≤ f (pending_of top) → Lighter f g 1 s s'
  lighter_note s s' rest top stack left missing fewer = record {
    fewer = λ none.
        let before = top_load s.stack.items rest top stack in
        let after : load f (stacked s'.stack.items) ≡ load f (stacked rest) = ap (λ l. load f (stacked l)) left in
        let more : load g (noted_places s'.missing.items) ≡ load g (noted_places s.missing.items) + load g (pending_of top ∷ []) =
        ap (λ l. load g (noted_places l)) missing ∙ ap (load g) (map-append pending_of s.missing.items (top ∷ []))
        ∙ load_join g (noted_places s.missing.items) (pending_of top ∷ []) in
        omega (arith, before, after, more, fewer);
  }

  again_all : (ps : List Pending) → ((p : Pending) → f p ≤ g p + 1) → load f ps ≤ load g ps + length ps
  again_all [] again = omega arith
  again_all (p ∷ ps) again = omega (arith, again p, again_all ps again)

  length_noted : (ts : List Todo) → length (noted_places ts) ≡ length ts
  length_noted [] = refl
  length_noted (t ∷ ts) = omega (arith, length_noted ts)

  -- the noted places are on the stack again
  pub load_taken : (s : Search) (stack missing : List Todo) → ((p : Pending) → f p ≤ g p + 1)
      → stack ≡ s.stack.items ++ reverse s.missing.items → missing ≡ []
      → load f (stacked stack) + load g (noted_places missing) ≤ left_in f g s + length s.missing.items
  load_taken s stack missing again put none_left =
      let all : load f (stacked stack) ≡ load f (noted_places s.missing.items) + load f (stacked s.stack.items) =
      ap (load f) (ap stacked put ∙ stacked_more s.stack.items (reverse s.missing.items)
      ∙ ap (λ l. l ++ stacked s.stack.items) (reversed s.missing.items))
      ∙ load_join f (noted_places s.missing.items) (stacked s.stack.items) in
      let none : load g (noted_places missing) ≡ 0 = ap (λ l. load g (noted_places l)) none_left in
      omega (arith, all, none, again_all (noted_places s.missing.items) again, length_noted s.missing.items)

  -- the noted places were looked at again, and n others
  pub fewer_left : (s begun s' : Search) (again n : ℕ) → left_in f g begun ≤ left_in f g s + length s.missing.items
      → again ≡ length s.missing.items → Lighter f g (again + n) begun s' → s'.broken ≡ None → left_in f g s' + n ≤ left_in f g s
  fewer_left s begun s' again n taken all less whole = omega (arith, taken, all, less.fewer whole)

-- no value is there and isn't
pub never_none : {A : Type 0} {B : Type 0} (o : Option A) (a : A) → o ≡ Some a → o ≡ None → B
never_none o a is none = let never : Some a ≡ None = sym is ∙ none in cc

module _ (half : Half) (nodes : Lookup) (target : Hash) where
  pub first_met : (ms : List Pending) (p : Pending) (ps : List Pending) → AllByRecursion (IsMet half nodes target) (ms ++ p ∷ ps)
      → IsMet half nodes target p
  first_met [] p ps all = all.0
  first_met (m ∷ ms) p ps all = first_met ms p ps all.1

  -- a pending place has a hash
  pub top_nonzero : (s : Search) (rest : List Todo) (top : Todo) → s.stack.items ≡ rest ++ top ∷ []
      → AllByRecursion (IsMet half nodes target) (noted_places s.missing.items ++ stacked s.stack.items) → is_zero top.at.hash ≡ false
  top_nonzero s rest top stack all =
      let places : List Pending = noted_places s.missing.items ++ pending_of top ∷ stacked rest in
      let m : IsMet half nodes target (pending_of top) = first_met (noted_places s.missing.items) (pending_of top) (stacked rest)
      (subst (λ l. AllByRecursion (IsMet half nodes target) (noted_places s.missing.items ++ l)) (ap stacked stack ∙ stacked_top rest top)
      all) in
      meets_nonzero half nodes top.at.kind (root_of top.at.kind m.bytes) m.meets
