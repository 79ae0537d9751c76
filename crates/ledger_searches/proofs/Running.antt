-- A search that is run to its end, and what it leaves.
use Rattle.std.specs.Prelude.{slice_index_or, slice_set}
use Rattle.std.proofs.Common.{[], ◌∷◌, zero, suc, ◌≡◌, ℕ, ◌≤◌, ◌==◌, true, false, is_some, if◌then◌else◌, length, List}
use Rattle.std.proofs.Common.{Option, None, Some, IfSome, sym, ap, ◌∙◌, subst, arith}
use Rattle.std.proofs.lemmas.Bool.Decides.{nat_tests}
use Rattle.std.proofs.lemmas.Option.{none-some}
use Rattle.ledger_spec.specs.Bytes.{Hash, Half, Lookup, is_zero}
use Rattle.ledger_spec.specs.Header.{header_bytes, state_root_of, tx_root_of}
use Rattle.ledger_spec.specs.declared.Kind.TheVariants.{State, Tx}
use Rattle.ledger_header.specs.declared.Header.{Header}
use Rattle.ledger_header.specs.Fields.{fields}
use Rattle.full_below.specs.declared.marks.Marks.{Marks}
use Rattle.full_below.specs.Marking.{AreMarked, is_marked}
use Rattle.tree_cache.specs.declared.cache.TreeCache.{TreeCache}
use Rattle.tree_cache.specs.Caching.{AreCached}
use Rattle.missing_walk.specs.Pending.{IsFull, IsCachedTrue}
use Rattle.missing_walk.specs.declared.search.Search.{Search}
use Rattle.missing_walk.specs.Ends.{AreRootsMarked, root_key}
use Rattle.missing_walk.specs.Moves.{has_ended}
use Rattle.missing_walk.specs.Passes.{HasMarkedRoots}
use Rattle.missing_walk.specs.Searching.{IsNew, Rule, stale_in, generation_after}
use Rattle.missing_walk.specs.Sees.{IsHeaderOf}
use Rattle.missing_walk.proofs.shared.Heeding.{goes_on}
use Rattle.ledger_searches.specs.declared.hunt.Hunt.{Hunt}
use Rattle.ledger_searches.specs.declared.searches.Searches.{Searches}
use Rattle.ledger_searches.specs.Hunting.{hunt_of}
use Rattle.ledger_searches.specs.Sharing.{AreTrueOf}

-- what holds of a value holds of it by what follows
pub if_some : {X : Type 0} (o : Option X) (P Q : X → Type 0) → ((x : X) → P x → Q x) → IfSome o P → IfSome o Q
if_some None P Q on is = tt
if_some (Some x) P Q on is = on x is

-- what holds of each entry of a list, and of one that is put there, holds of each behind that
pub kept_at : {X : Type 0} (P : X → Type 0) (hs : List (Option X)) (a b : ℕ) (o : Option X) → IfSome o P
    → IfSome (slice_index_or hs b None) P → IfSome (slice_index_or (slice_set hs a o) b None) P
kept_at P [] a b o there is = is
kept_at P (h ∷ hs) zero zero o there is = there
kept_at P (h ∷ hs) zero (suc b) o there is = is
kept_at P (h ∷ hs) (suc a) zero o there is = is
kept_at P (h ∷ hs) (suc a) (suc b) o there is = kept_at P hs a b o there is

-- other marks and cached nodes of the same generation
pub rule_beside : (half : Half) (nodes : Lookup) (s : Search) (c c' : TreeCache) (m m' : Marks) → AreMarked (IsFull half nodes) m'
    → AreCached (IsCachedTrue half nodes) c' → m'.generation ≡ m.generation → Rule half nodes s c m → Rule half nodes s c' m'
rule_beside half nodes s c c' m m' marks cache same rule = record {
  marks = marks;
  cache = cache;
  past = subst (λ (n : ℕ). IfSome s.generation (λ g. g ≤ n)) (sym same) rule.past;
  unbroken = rule.unbroken;
  search = λ generation there. rule.search (generation ∙ ap (λ (n : ℕ). Some n) same) there;
}

-- begun searches beside what one of them leaves
pub true_beside : (half : Half) (nodes : Lookup) (x x' : Searches) (s : Search) → AreTrueOf half nodes x
    → Rule half nodes s x'.cache x'.marks → x'.marks.generation ≡ x.marks.generation → x'.hunts.items ≡ x.hunts.items
    → AreTrueOf half nodes x'
true_beside half nodes x x' s t rule same hunts = record {
  marks = rule.marks;
  cache = rule.cache;
  hunts = λ a. subst (λ (hs : List (Option Hunt)). IfSome (hunt_of hs a) (λ h. Rule half nodes h.search x'.cache x'.marks)) (sym hunts)
      (if_some (hunt_of x.hunts.items a) (λ h. Rule half nodes h.search x.cache x.marks) (λ h. Rule half nodes h.search x'.cache x'.marks)
      (λ h. rule_beside half nodes h.search x.cache x'.cache x.marks x'.marks rule.marks rule.cache same) (t.hunts a));
}

-- where one actor's search is another one, or none
pub true_set : (half : Half) (nodes : Lookup) (a : ℕ) (o : Option Hunt) (x x' : Searches)
    → x'.hunts.items ≡ slice_set x.hunts.items a o → x'.marks ≡ x.marks → x'.cache ≡ x.cache
    → IfSome o (λ h. Rule half nodes h.search x.cache x.marks) → AreTrueOf half nodes x → AreTrueOf half nodes x'
true_set half nodes a o x x' hunts marks cache put t = record {
  marks = subst (AreMarked (IsFull half nodes)) (sym marks) t.marks;
  cache = subst (AreCached (IsCachedTrue half nodes)) (sym cache) t.cache;
  hunts = λ b. subst (λ (hs : List (Option Hunt)). IfSome (hunt_of hs b) (λ h. Rule half nodes h.search x'.cache x'.marks)) (sym hunts)
      (subst (λ (c : TreeCache). IfSome (hunt_of (slice_set x.hunts.items a o) b) (λ h. Rule half nodes h.search c x'.marks)) (sym cache)
      (subst (λ (m : Marks). IfSome (hunt_of (slice_set x.hunts.items a o) b) (λ h. Rule half nodes h.search x.cache m)) (sym marks)
      (kept_at (λ h. Rule half nodes h.search x.cache x.marks) x.hunts.items a b o put (t.hunts b))));
}

-- a search that nobody has begun is true
pub new_rule : (half : Half) (nodes : Lookup) (x : Searches) (s : Search) → IsNew s → AreTrueOf half nodes x → Rule half nodes s x.cache x.marks
new_rule half nodes x s new t = record {
  marks = t.marks;
  cache = t.cache;
  past = subst (λ o. IfSome o (λ g. g ≤ x.marks.generation)) (sym new.generation) tt;
  unbroken = new.broken;
  search = λ generation there. absurd (none-some x.marks.generation (sym new.generation ∙ generation));
}

-- ---- in the generation of the first slice
test_own : (n : ℕ) → (n == n) ≡ true
test_own n = grind (arith, nat_tests)

-- the search wasn't begun, or in this generation
abbrev pub IsPresent : Option ℕ → ℕ → Type 0
IsPresent first now = stale_in first now ≡ None

pub present_new : (first : Option ℕ) (now : ℕ) → first ≡ None → IsPresent first now
present_new first now none = ap (λ o. stale_in o now) none

pub present_on : (first mid : Option ℕ) (now after : ℕ) → IsPresent first now → mid ≡ generation_after first now → after ≡ now
    → IsPresent mid after
present_on first mid now after fresh is same =
    let at : mid ≡ Some now = is ∙ ap (λ o. if is_some o then None else Some now) fresh in
    (λ i. stale_in (at i) (same i)) ∙ ap (λ b. if b then None else Some now) (test_own now)

pub not_stale : (first : Option ℕ) (now seen : ℕ) → IsPresent first now → stale_in first now ≡ Some seen → ⊥
not_stale first now seen fresh stale = none-some seen (sym fresh ∙ stale)

pub few_left : (s : Search) → has_ended s ≡ false → length s.missing.items ≤ 256
few_left s more = omega (arith, (goes_on s more).1)

-- ---- the roots
some_is : {X : Type 0} (a b : X) → Some a ≡ Some b → a ≡ b
some_is a b e = cc

module _ (nodes : Lookup) (target : Hash) (m : Marks) where
  root_by : (o : Option Header) → IsHeaderOf nodes target o → AreRootsMarked o m → HasMarkedRoots nodes target m
  root_by None head marked = record {
    state = λ bytes there. cc (head.bytes, there);
    tx = λ bytes there. cc (head.bytes, there);
  }
  root_by (Some h) head marked = record {
    state = λ bytes there.
        let same : state_root_of bytes ≡ h.state_root = ap state_root_of (some_is bytes (header_bytes (fields h)) (there ∙ sym head.bytes))
        ∙ head.reads.state_root in
        subst (λ r. is_zero r ≡ false → is_marked m (root_key State r) ≡ true) (sym same) marked.0;
    tx = λ bytes there.
        let same : tx_root_of bytes ≡ h.tx_root = ap tx_root_of (some_is bytes (header_bytes (fields h)) (there ∙ sym head.bytes))
        ∙ head.reads.tx_root in
        subst (λ r. is_zero r ≡ false → is_marked m (root_key Tx r) ≡ true) (sym same) marked.1;
  }

  pub roots_marked : (o : Option Header) → IsHeaderOf nodes target o → AreRootsMarked o m → HasMarkedRoots nodes target m
  roots_marked o head marked = root_by o head marked
