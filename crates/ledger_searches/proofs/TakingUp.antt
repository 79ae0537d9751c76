-- A section of a check: the search that it takes up, and what it leaves.
use Rattle.std.proofs.Common.{◌≡◌, inl, inr, ℕ, ◌+◌, ◌<◌, length, List, Option, None, Some, IfSome, IsSome}
use Rattle.std.proofs.Common.{refl, sym, ap, ◌∙◌, subst, arith}
use Rattle.std.specs.Prelude.{slice_set}
use Rattle.std.proofs.lemmas.List.{get_or-set_same, length-set, set-set}
use Rattle.ledger_spec.specs.Bytes.{Hash, Half, Lookup}
use Rattle.full_below.specs.declared.marks.Marks.{Marks}
use Rattle.tree_cache.specs.declared.cache.TreeCache.{TreeCache}
use Rattle.missing_walk.specs.Rests.{rest}
use Rattle.missing_walk.specs.Rests as rests
use Rattle.missing_walk.specs.Searching.{Rule, stale_in}
use Rattle.ledger_searches.specs.declared.hunt.Hunt.{Hunt}
use Rattle.ledger_searches.specs.declared.searches.Searches.{Searches}
use Rattle.ledger_searches.specs.Hunting.{GoesOn, IsTakenUp, hunt_of, most_stales, places_of_a_slice}
use Rattle.ledger_searches.specs.Sharing.{AreTrueOf, Forgets, LeavesOthers}
use Rattle.ledger_searches.proofs.Running.{new_rule}

-- the search that is taken up is true
rule_taken : (half : Half) (nodes : Lookup) (t : Hash) (o : Option Hunt) (h : Hunt) (x : Searches) → IsTakenUp o t h
    → IfSome o (λ k. Rule half nodes k.search x.cache x.marks) → AreTrueOf half nodes x → Rule half nodes h.search x.cache x.marks
rule_taken half nodes t o h x (inl kept) all true_of =
    let P : Option Hunt → Type 0 = λ k. IfSome k (λ i. Rule half nodes i.search x.cache x.marks) in subst P kept.0 all
rule_taken half nodes t o h x (inr started) all true_of = new_rule half nodes x h.search started.1.new true_of

pub rule_up : (half : Half) (nodes : Lookup) (a : ℕ) (t : Hash) (h : Hunt) (x x' : Searches) → IsTakenUp (hunt_of x.hunts.items a) t h
    → Forgets a x x' → AreTrueOf half nodes x → Rule half nodes h.search x'.cache x'.marks
rule_up half nodes a t h x x' taken forgets true_of =
    subst (λ (c : TreeCache). Rule half nodes h.search c x'.marks) (sym forgets.cache)
    (subst (λ (m : Marks). Rule half nodes h.search x.cache m) (sym forgets.marks)
    (rule_taken half nodes t (hunt_of x.hunts.items a) h x taken (true_of.hunts a) true_of))

pub taken_target : (o : Option Hunt) (t : Hash) (h : Hunt) → IsTakenUp o t h → h.target ≡ t
taken_target o t h (inl kept) = kept.1
taken_target o t h (inr started) = started.1.target

-- it is kept
pub kept_there : (a : ℕ) (x x' x'' : Searches) (h : Hunt) → a < length x.hunts.items → Forgets a x x'
    → x''.hunts.items ≡ slice_set x'.hunts.items a (Some h) → hunt_of x''.hunts.items a ≡ Some h
kept_there a x x' x'' h known forgets is =
    ap (λ (hs : List (Option Hunt)). hunt_of hs a) is
    ∙ get_or-set_same x'.hunts.items a (Some h) None (omega (arith, known, ap length forgets.hunts, length-set x.hunts.items a None))

pub others_kept : (a : ℕ) (x x' x'' : Searches) (h : Hunt) → a < length x.hunts.items → Forgets a x x'
    → x''.hunts.items ≡ slice_set x'.hunts.items a (Some h) → LeavesOthers a x x''
others_kept a x x' x'' h known forgets is =
    is ∙ ap (λ (hs : List (Option Hunt)). slice_set hs a (Some h)) forgets.hunts
    ∙ set-set x.hunts.items a None (Some h)
    ∙ ap (λ (o : Option Hunt). slice_set x.hunts.items a o) (sym (kept_there a x x' x'' h known forgets is))

-- ---- how it goes on
fresh_not_stale : (o : Option ℕ) → o ≡ None → IsSome o → ⊥
fresh_not_stale None is some = cc (some)
fresh_not_stale (Some seen) is some = cc

stale_some : (o : Option ℕ) (seen : ℕ) → o ≡ Some seen → IsSome o
stale_some None seen is = cc
stale_some (Some n) seen is = refl

module _ (half : Half) (nodes : Lookup) (now : ℕ) (t : Hash) (o o' : Option Hunt) (h h' : Hunt) (taken : IsTakenUp o t h) (kept : o' ≡ Some h')
    (target : h'.target ≡ h.target) (few : h.stales < most_stales) where
  pub goes_on : stale_in h.search.generation now ≡ None → h'.stales ≡ h.stales
      → rests.GoesOn half nodes places_of_a_slice h.search h'.search → GoesOn half nodes now t o o'
  goes_on fresh same less = record {
    from = h;
    taken = taken;
    to = h';
    kept = kept;
    left = record {
      target = target;
      few = few;
      stale = λ stale. absurd (fresh_not_stale (stale_in h.search.generation now) fresh stale);
      fresh = λ not. (same, less.fewer);
    };
  }

  pub goes_anew : (seen : ℕ) → stale_in h.search.generation now ≡ Some seen → h'.stales ≡ h.stales + 1 → GoesOn half nodes now t o o'
  goes_anew seen stale more = record {
    from = h;
    taken = taken;
    to = h';
    kept = kept;
    left = record {
      target = target;
      few = few;
      stale = λ is. more;
      fresh = λ not. absurd (not (stale_some (stale_in h.search.generation now) seen stale));
    };
  }
