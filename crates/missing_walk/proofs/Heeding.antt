-- A search goes on by what was seen at the place on top of its stack.
use Rattle.std.proofs.Common.{◌≡◌, ℕ, ◌-◌, ◌<◌, ◌≤◌, ◌==◌, ◌||◌, Bool, true, false, is_some, nat_le, List, [], ◌∷◌}
use Rattle.std.proofs.Common.{◌++◌, length}
use Rattle.std.proofs.Common.{Option, None, Some, IfSome, refl, sym, ap, ◌∙◌, subst, arith, drop, All}
use Rattle.std.specs.Prelude.{reverse, map}
use Rattle.std.proofs.lemmas.List.{append_assoc, map-append}
use Rattle.std.proofs.lemmas.List.Elements.{All-nil, All-cons}
use Rattle.std.proofs.lemmas.List.Sorted.{All-permutation, IsPermutation-sym, IsPermutation-reverse}
use Rattle.std.proofs.lemmas.Bool.Decides.{nat_tests}
use Rattle.ledger_spec.specs.declared.Place.{Place}
use Rattle.ledger_spec.specs.declared.ShapeFault.{ShapeFault}
use Rattle.ledger_spec.specs.Bytes.{Hash, Half, Lookup}
use Rattle.ledger_spec.specs.Forms.{inner}
use Rattle.ledger_spec.specs.Findings.{lacks, breaks}
use Rattle.shamap_node.specs.declared.Node.{Node}
use Rattle.shamap_node.specs.Nodes.{held}
use Rattle.full_below.specs.declared.key.MarkKey.{MarkKey}
use Rattle.full_below.specs.declared.marks.Marks.{Marks}
use Rattle.full_below.specs.Marking.{AreMarked}
use Rattle.tree_cache.specs.declared.cache.TreeCache.{TreeCache}
use Rattle.tree_cache.specs.Caching.{AreCached}
use Rattle.tree_laws.proofs.shared.Below.{found_any}
use Rattle.missing_walk.specs.declared.todo.Todo.{Todo}
use Rattle.missing_walk.specs.declared.todo.Open.{Open}
use Rattle.missing_walk.specs.declared.search.Search.{Search}
use Rattle.missing_walk.specs.Sees.{most_missing, IsHeaderOf}
use Rattle.missing_walk.specs.Pending.{Pending, placed, pending_of, stacked, noted_places, found_at, found_all, FoundAs, Covers}
use Rattle.missing_walk.specs.Pending.{AreBelow, kids_of}
use Rattle.missing_walk.specs.Pending.{IsHeldAt, IsInnerAt, IsFull, IsCachedTrue, IsOpen, Within, Around}
use Rattle.missing_walk.specs.Stacks.{Opens}
use Rattle.missing_walk.specs.Views.{GoesBelow}
use Rattle.missing_walk.specs.Searching.{BreaksOnTop, Going, SameSearch, place_of}
use Rattle.missing_walk.specs.Moves.{Inside, Heeds}
use Rattle.missing_walk.proofs.shared.Places.{all_append, all_one, covers_step, held_grows}
use Rattle.missing_walk.proofs.Meetings.{none_below, kids_below}
use Rattle.missing_walk.proofs.Frames.{within_step, within_open}
use Rattle.missing_walk.proofs.Seeing.{inner_held}
use Rattle.missing_walk.proofs.Stacking.{stacked_top, length_stacked, last_first}

module _ (half : Half) (nodes : Lookup) where
  -- nothing that is found at an inner node depends on what is above it
  pub parent_free : (key : MarkKey) (parent other : Option (List Hash)) → IsInnerAt half nodes key.hash
      → FoundAs half nodes (placed key parent) (placed key other ∷ [])
  parent_free key parent other at = record {
    same = λ more up.
        let there : IsHeldAt half more key.hash (inner at.hashes) = held_grows half nodes more key.hash (inner at.hashes) up at.there in
        found_any half more key.kind (64 - length key.id) parent other key.id key.hash there.form at.hashes there.stored there.holds
        ∙ sym (all_one half more (placed key other));
  }

  pub found_like : (q p : Pending) (ks : List Pending) → FoundAs half nodes q (p ∷ []) → FoundAs half nodes p ks → FoundAs half nodes q ks
  found_like q p ks first second = record { same = λ more up. first.same more up ∙ all_one half more p ∙ second.same more up }

  pub within_around : (os : List Open) (ps : List Pending) → Within half nodes os ps → Around half nodes os ps
  within_around [] ps w = tt
  within_around (o ∷ os) ps w = (omega (arith, w.0), w.1, w.2, w.3)

  -- each of the inner nodes that were gone below is held
  all_open : (os : List Open) (ps : List Pending) → Within half nodes os ps → All (IsOpen half nodes) os
  all_open [] ps w = All-nil (IsOpen half nodes)
  all_open (o ∷ os) ps w =
      All-cons (IsOpen half nodes) o os w.1 (all_open os (placed o.at None ∷ drop (length ps - o.height) ps) w.3)

  pub within_held : (items : List Open) (ps : List Pending) → Within half nodes (reverse items) ps → All (IsOpen half nodes) items
  within_held items ps w =
      All-permutation (IsOpen half nodes) (reverse items) items
      (IsPermutation-sym items (reverse items) (IsPermutation-reverse items)) (all_open (reverse items) ps w)

  none_broken : (s : Search) (b : Option (Place × ShapeFault)) → b ≡ None
      → IfSome b (λ x. BreaksOnTop half nodes s.stack.items s.missing.items x.0 x.1)
  none_broken s b e = subst (λ o. IfSome o (λ x. BreaksOnTop half nodes s.stack.items s.missing.items x.0 x.1)) (sym e) tt

  -- the place on top gives way to those that it stands for
  pub inside_moves : (s s' : Search) (rest : List Todo) (top : Todo) (ks : List Pending) → s'.target ≡ s.target
      → s'.missing.items ≡ s.missing.items → s'.broken ≡ s.broken → s.stack.items ≡ rest ++ top ∷ []
      → stacked s'.stack.items ≡ ks ++ stacked rest → FoundAs half nodes (pending_of top) ks
      → AreBelow half nodes s.target (pending_of top) ks
      → s.broken ≡ None → Inside half nodes s → Inside half nodes s'
  inside_moves s s' rest top ks target missing broken stack places f below none i =
      let before : Covers half nodes s.target (noted_places s.missing.items ++ pending_of top ∷ stacked rest) =
      subst (λ l. Covers half nodes s.target (noted_places s.missing.items ++ l)) (ap stacked stack ∙ stacked_top rest top) i.covers in
      let after : Covers half nodes s.target (noted_places s.missing.items ++ (ks ++ stacked rest)) =
      covers_step half nodes s.target (noted_places s.missing.items) (pending_of top) ks (stacked rest) before f below in
      record {
        covers = subst (λ t. Covers half nodes t (noted_places s'.missing.items ++ stacked s'.stack.items)) (sym target)
            (subst (λ l. Covers half nodes s.target (noted_places s'.missing.items ++ l)) (sym places)
            (subst (λ ms. Covers half nodes s.target (noted_places ms ++ (ks ++ stacked rest))) (sym missing) after));
        tested = subst (λ ms. found_all half nodes (noted_places ms) ≡ map lacks (map place_of ms)) (sym missing) i.tested;
        broke = none_broken s' s'.broken (broken ∙ none);
      }

  -- a place at which there is nothing to look
  pub heeds_nothing : (s s' : Search) (rest : List Todo) (top : Todo) → s'.target ≡ s.target → s'.missing.items ≡ s.missing.items
      → s'.broken ≡ s.broken → s'.opened.items ≡ s.opened.items → s.stack.items ≡ rest ++ top ∷ [] → s'.stack.items ≡ rest
      → FoundAs half nodes (pending_of top) [] → Heeds half nodes s s'
  heeds_nothing s s' rest top target missing broken opened stack left f = record {
    inside = λ none room i. inside_moves s s' rest top [] target missing broken stack (ap stacked left) f
        (none_below half nodes s.target (pending_of top)) none i;
    around = λ w.
        subst (λ l. Around half nodes (reverse l) (stacked s'.stack.items)) (sym opened)
        (subst (λ l. Around half nodes (reverse s.opened.items) (stacked l)) (sym left)
        (within_step half nodes (reverse s.opened.items) (pending_of top) [] (stacked rest) f
        (subst (Within half nodes (reverse s.opened.items)) (ap stacked stack ∙ stacked_top rest top) w)));
  }

  -- an inner node to go below
  pub heeds_below : (s s' : Search) (rest : List Todo) (top : Todo) (node : Node) → s'.target ≡ s.target
      → s'.missing.items ≡ s.missing.items → s'.broken ≡ s.broken → s.stack.items ≡ rest ++ top ∷ []
      → Opens rest top node s'.stack.items s.opened.items s'.opened.items → GoesBelow half nodes (pending_of top) node
      → Heeds half nodes s s'
  heeds_below s s' rest top node target missing broken stack o g =
      let ks : List Pending = kids_of top.at.kind top.at.id node in
      let at : IsOpen half nodes o.one = record {
        inner_there = subst (λ (k : MarkKey). IsInnerAt half nodes k.hash) (sym o.at_is) g.inner_there;
        held_there = subst (λ (n : Node). IsHeldAt half nodes o.one.at.hash (held n)) (sym o.node_is)
            (subst (λ (k : MarkKey). IsHeldAt half nodes k.hash (held node)) (sym o.at_is)
            (inner_held half nodes (pending_of top) node g.seen));
      } in
      let key_top : FoundAs half nodes (placed top.at None) ks =
      found_like (placed top.at None) (pending_of top) ks (parent_free top.at None (pending_of top).parent g.inner_there) g.found in
      record {
        inside = λ none room i. inside_moves s s' rest top ks target missing broken stack o.places g.found
            (kids_below half nodes s.target (pending_of top) node g.seen) none i;
        around = λ w.
            subst (λ os. Around half nodes os (stacked s'.stack.items)) (sym (last_first s'.opened.items s.opened.items o.one o.open_is))
            (subst (Around half nodes (o.one ∷ reverse s.opened.items)) (sym o.places)
            (within_open half nodes (reverse s.opened.items) o.one (pending_of top) ks (stacked rest)
            (subst (λ (k : MarkKey). FoundAs half nodes (pending_of top) (placed k None ∷ [])) (sym o.at_is)
            (parent_free top.at (pending_of top).parent None g.inner_there))
            (subst (λ (k : MarkKey). FoundAs half nodes (placed k None) ks) (sym o.at_is) key_top)
            at (o.height_is ∙ sym (length_stacked rest))
            (subst (Within half nodes (reverse s.opened.items)) (ap stacked stack ∙ stacked_top rest top) w)));
      }

  -- a place that is noted as missing
  pub heeds_missing : (s s' : Search) (rest : List Todo) (top : Todo) → s'.target ≡ s.target → s'.broken ≡ s.broken
      → s'.opened.items ≡ [] → s.stack.items ≡ rest ++ top ∷ [] → s'.stack.items ≡ rest → s'.missing.items ≡ s.missing.items ++ top ∷ []
      → found_at half nodes (pending_of top) ≡ lacks (place_of top) ∷ [] → Heeds half nodes s s'
  heeds_missing s s' rest top target broken opened stack left missing found = record {
    inside = λ none room i. record {
      covers = subst (λ t. Covers half nodes t (noted_places s'.missing.items ++ stacked s'.stack.items)) (sym target)
          (subst (Covers half nodes s.target)
          (ap (λ l. noted_places s.missing.items ++ l) (ap stacked stack ∙ stacked_top rest top)
          ∙ sym (append_assoc (noted_places s.missing.items) (pending_of top ∷ []) (stacked rest))
          ∙ ap (λ l. l ++ stacked rest) (sym (map-append pending_of s.missing.items (top ∷ [])))
          ∙ ap (λ ms. noted_places ms ++ stacked rest) (sym missing)
          ∙ ap (λ l. noted_places s'.missing.items ++ stacked l) (sym left))
          i.covers);
      tested = ap (λ ms. found_all half nodes (noted_places ms)) missing
          ∙ ap (found_all half nodes) (map-append pending_of s.missing.items (top ∷ []))
          ∙ all_append half nodes (noted_places s.missing.items) (pending_of top ∷ [])
          ∙ ap (λ l. l ++ found_all half nodes (pending_of top ∷ [])) i.tested
          ∙ ap (λ l. map lacks (map place_of s.missing.items) ++ l) (all_one half nodes (pending_of top) ∙ found)
          ∙ sym (map-append lacks (map place_of s.missing.items) (place_of top ∷ []))
          ∙ ap (map lacks) (sym (map-append place_of s.missing.items (top ∷ [])))
          ∙ ap (λ ms. map lacks (map place_of ms)) (sym missing);
      broke = none_broken s' s'.broken (broken ∙ none);
    };
    around = λ w. subst (λ l. Around half nodes (reverse l) (stacked s'.stack.items)) (sym opened) tt;
  }

  -- the same places, and none is broken
  pub inside_same : (s s' : Search) → s'.target ≡ s.target → s'.broken ≡ s.broken → s'.stack.items ≡ s.stack.items
      → s'.missing.items ≡ s.missing.items → s.broken ≡ None → Inside half nodes s → Inside half nodes s'
  inside_same s s' target broken stack missing none i = record {
    covers = subst (λ t. Covers half nodes t (noted_places s'.missing.items ++ stacked s'.stack.items)) (sym target)
        (subst (Covers half nodes s.target) (sym (λ k. noted_places (missing k) ++ stacked (stack k))) i.covers);
    tested = subst (λ ms. found_all half nodes (noted_places ms) ≡ map lacks (map place_of ms)) (sym missing) i.tested;
    broke = none_broken s' s'.broken (broken ∙ none);
  }

  -- no place is left above any inner node, and all else is as before
  pub heeds_cleared : (s s' : Search) → s'.target ≡ s.target → s'.broken ≡ s.broken → s'.opened.items ≡ []
      → s'.stack.items ≡ s.stack.items → s'.missing.items ≡ s.missing.items → Heeds half nodes s s'
  heeds_cleared s s' target broken opened stack missing = record {
    inside = λ none room i. inside_same s s' target broken stack missing none i;
    around = λ w. subst (λ l. Around half nodes (reverse l) (stacked s'.stack.items)) (sym opened) tt;
  }

  -- the same search
  pub heeds_same : (s : Search) → Heeds half nodes s s
  heeds_same s = record { inside = λ none room i. i; around = within_around (reverse s.opened.items) (stacked s.stack.items) }

  -- a place that is broken
  pub heeds_broken : (s s' : Search) (rest : List Todo) (top : Todo) (place : Place) (fault : ShapeFault) → s'.target ≡ s.target
      → s'.broken ≡ Some (place, fault)
      → s'.opened.items ≡ s.opened.items → s'.stack.items ≡ s.stack.items → s'.missing.items ≡ s.missing.items
      → s.stack.items ≡ rest ++ top ∷ []
      → found_at half nodes (pending_of top) ≡ breaks place fault ∷ [] → Heeds half nodes s s'
  heeds_broken s s' rest top place fault target broken opened stack missing here found = record {
    inside = λ none room i. record {
      covers = subst (λ t. Covers half nodes t (noted_places s'.missing.items ++ stacked s'.stack.items)) (sym target)
          (subst (Covers half nodes s.target) (sym (λ k. noted_places (missing k) ++ stacked (stack k))) i.covers);
      tested = subst (λ ms. found_all half nodes (noted_places ms) ≡ map lacks (map place_of ms)) (sym missing) i.tested;
      broke = subst (λ o. IfSome o (λ x. BreaksOnTop half nodes s'.stack.items s'.missing.items x.0 x.1)) (sym broken) (record {
        top = pending_of top;
        rest = stacked rest;
        places = ap stacked (stack ∙ here) ∙ stacked_top rest top;
        found = found;
        room = subst (λ ms. length ms < 256) (sym missing) room;
      });
    };
    around = λ w.
        subst (λ l. Around half nodes (reverse l) (stacked s'.stack.items)) (sym opened)
        (subst (λ l. Around half nodes (reverse s.opened.items) (stacked l)) (sym stack)
        (within_around (reverse s.opened.items) (stacked s.stack.items) w));
  }

  pub inside_of_going : (s : Search) (c : TreeCache) (m : Marks) → Going half nodes s c m → Inside half nodes s
  inside_of_going s c m g = record { covers = g.kept.covers; tested = g.tested; broke = g.broke }

  -- a slice goes on with other marks, another cache, and a search of the same ledger
  pub going_on : (s s' : Search) (c c' : TreeCache) (m m' : Marks) → SameSearch s s' → Going half nodes s c m → Inside half nodes s'
      → Around half nodes (reverse s'.opened.items) (stacked s'.stack.items) → length s'.missing.items ≤ 256
      → AreMarked (IsFull half nodes) m' → AreCached (IsCachedTrue half nodes) c' → Going half nodes s' c' m'
  going_on s s' c c' m m' same g i around few marks cache = record {
    kept = record {
      head = subst (λ h. IsHeaderOf nodes s'.target h) (sym same.header)
          (subst (λ t. IsHeaderOf nodes t s.header) (sym same.target) g.kept.head);
      covers = i.covers;
      around = around;
      few = few;
    };
    marks = marks;
    cache = cache;
    tested = i.tested;
    broke = i.broke;
  }

pub either : (a b c : Bool) → ((a || b) || c) ≡ false → (a ≡ false) × (b ≡ false) × (c ≡ false)
either true b c e = cc
either false true c e = cc
either false false true e = cc
either false false false e = (refl, refl, refl)

pub not_some : {A : Type 0} (o : Option A) → is_some o ≡ false → o ≡ None
not_some None e = refl
not_some (Some x) e = cc

pub room_left : (n : ℕ) → nat_le most_missing n ≡ false → n < 256
room_left n e = grind (arith, nat_tests)

shallow_by : (n : ℕ) → (n == 64) ≡ false → n ≤ 64 → n < 64
shallow_by n e le = grind (arith, nat_tests)

pub shallow : (top : Todo) → (length top.at.id == 64) ≡ false → length top.at.id ≤ 64 → length top.at.id < 64
shallow top e le = shallow_by (length top.at.id) e le
