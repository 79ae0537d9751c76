-- How a slice begins, and what it leaves.
use Rattle.std.proofs.Common.{◌≡◌, ℕ, true, is_some, List, [], ◌∷◌, ◌++◌, length, Option, None, Some, IfSome}
use Rattle.std.proofs.Common.{◌≤◌, refl, sym, ap, ◌∙◌, subst, arith}
use Rattle.std.specs.Prelude.{reverse, map}
use Rattle.std.proofs.lemmas.List.{reverse-append}
use Rattle.ledger_spec.specs.Bytes.{Half, Lookup}
use Rattle.ledger_spec.specs.Findings.{lacks}
use Rattle.full_below.specs.declared.marks.Marks.{Marks}
use Rattle.full_below.specs.Marking.{AreMarked}
use Rattle.tree_cache.specs.declared.cache.TreeCache.{TreeCache}
use Rattle.tree_cache.specs.Caching.{AreCached}
use Rattle.missing_walk.specs.declared.todo.Todo.{Todo}
use Rattle.missing_walk.specs.declared.search.Search.{Search}
use Rattle.missing_walk.specs.Sees.{IsHeaderOf}
use Rattle.missing_walk.specs.Pending.{pending_of, stacked, noted_places, found_all, Covers, IsFull, IsCachedTrue, Around}
use Rattle.missing_walk.specs.Searching.{Kept, Rule, Holding, Going, BreaksOnTop, Renews, place_of}
use Rattle.missing_walk.proofs.Stacking.{stacked_more, stacked_top}

-- noted places that are put back stand in their order
pub reversed : (ms : List Todo) → stacked (reverse ms) ≡ noted_places ms
reversed [] = refl
reversed (m ∷ ms) = ap stacked (reverse-append (m ∷ []) ms) ∙ stacked_top (reverse ms) m ∙ ap (λ l. pending_of m ∷ l) (reversed ms)

module _ (half : Half) (nodes : Lookup) where
  -- the noted places are on the stack again
  pub taken_up : (s s' : Search) → s'.target ≡ s.target → s'.header ≡ s.header → s'.opened.items ≡ []
      → s'.stack.items ≡ s.stack.items ++ reverse s.missing.items → s'.missing.items ≡ [] → Kept half nodes s → Kept half nodes s'
  taken_up s s' target head opened stack missing k =
      let places : noted_places s.missing.items ++ stacked s.stack.items ≡ noted_places s'.missing.items ++ stacked s'.stack.items =
      ap (λ l. l ++ stacked s.stack.items) (sym (reversed s.missing.items))
      ∙ sym (stacked_more s.stack.items (reverse s.missing.items))
      ∙ ap stacked (sym stack)
      ∙ ap (λ ms. noted_places ms ++ stacked s'.stack.items) (sym missing) in
      record {
        head = subst (λ h. IsHeaderOf nodes s'.target h) (sym head) (subst (λ t. IsHeaderOf nodes t s.header) (sym target) k.head);
        covers = subst (λ t. Covers half nodes t (noted_places s'.missing.items ++ stacked s'.stack.items)) (sym target)
            (subst (Covers half nodes s.target) places k.covers);
        around = subst (λ l. Around half nodes (reverse l) (stacked s'.stack.items)) (sym opened) tt;
        few = subst (λ ms. length ms ≤ 256) (sym missing) (omega arith);
      }

  -- no inner node is kept as whole so far
  pub kept_cleared : (s s' : Search) → s'.target ≡ s.target → s'.header ≡ s.header → s'.opened.items ≡ []
      → s'.stack.items ≡ s.stack.items → s'.missing.items ≡ s.missing.items → Kept half nodes s → Kept half nodes s'
  kept_cleared s s' target head opened stack missing k = record {
    head = subst (λ h. IsHeaderOf nodes s'.target h) (sym head) (subst (λ t. IsHeaderOf nodes t s.header) (sym target) k.head);
    covers = subst (λ t. Covers half nodes t (noted_places s'.missing.items ++ stacked s'.stack.items)) (sym target)
        (subst (Covers half nodes s.target) (λ i. noted_places (sym missing i) ++ stacked (sym stack i)) k.covers);
    around = subst (λ l. Around half nodes (reverse l) (stacked s'.stack.items)) (sym opened) tt;
    few = subst (λ ms. length ms ≤ 256) (sym missing) k.few;
  }

  -- a slice begins where no place is noted
  pub going_from : (s : Search) (c : TreeCache) (m : Marks) → Kept half nodes s → s.missing.items ≡ [] → s.broken ≡ None
      → AreMarked (IsFull half nodes) m → AreCached (IsCachedTrue half nodes) c → Going half nodes s c m
  going_from s c m k missing broken marks cache = record {
    kept = k;
    marks = marks;
    cache = cache;
    tested = subst (λ ms. found_all half nodes (noted_places ms) ≡ map lacks (map place_of ms)) (sym missing) refl;
    broke = subst (λ o. IfSome o (λ x. BreaksOnTop half nodes s.stack.items s.missing.items x.0 x.1)) (sym broken) tt;
  }

  pub holding_of : (s : Search) (c : TreeCache) (m : Marks) → Going half nodes s c m → Holding half nodes s c m
  holding_of s c m g = record { marks = g.marks; cache = g.cache; search = λ there. g.kept }

  -- within its generation the rule is what a slice needs
  pub rule_holds : (s s' : Search) (c : TreeCache) (m : Marks) (now : ℕ) → now ≡ m.generation → Renews now s s' → Rule half nodes s c m
      → Holding half nodes s' c m
  rule_holds s s' c m now is r rule = record {
    marks = rule.marks;
    cache = rule.cache;
    search = λ there.
        let same = r.same there in
        let head : is_some s.header ≡ true = sym (ap (λ (x : Search). is_some x.header) same.0) ∙ there in
        subst (Kept half nodes) (sym same.0) (rule.search (same.1 ∙ ap Some is) head);
  }

  past_now : (o : Option ℕ) (now : ℕ) → o ≡ Some now → IfSome o (λ g. g ≤ now)
  past_now o now e = subst (λ x. IfSome x (λ g. g ≤ now)) (sym e) (omega arith)

  pub holds_rule : (s : Search) (c : TreeCache) (m : Marks) → s.generation ≡ Some m.generation → s.broken ≡ None
      → Holding half nodes s c m → Rule half nodes s c m
  holds_rule s c m now whole h = record {
    marks = h.marks;
    cache = h.cache;
    past = past_now s.generation m.generation now;
    unbroken = whole;
    search = λ generation there. h.search there;
  }

  -- a search that has no generation begins anew
  pub rule_anew : (s s' : Search) (c : TreeCache) (m : Marks) → s'.generation ≡ None → s'.broken ≡ None → Rule half nodes s c m
      → Rule half nodes s' c m
  rule_anew s s' c m none whole rule = record {
    marks = rule.marks;
    cache = rule.cache;
    past = subst (λ x. IfSome x (λ g. g ≤ m.generation)) (sym none) tt;
    unbroken = whole;
    search = λ generation there. absurd (never m.generation (sym none ∙ generation));
  }
    where
      never : (n : ℕ) → None ≡ Some n → ⊥
      never n e = cc
