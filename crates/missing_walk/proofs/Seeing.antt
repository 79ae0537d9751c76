-- What a search sees, and what looking leaves of the marks and the cache.
use Rattle.std.proofs.Common.{◌≡◌, ℕ, ◌<◌, ◌≤◌, ◌==◌, Bool, true, false, if◌then◌else◌, List, [], length, Contains}
use Rattle.std.proofs.Common.{Option, Some, Result, Ok, Err, OnOk, OnErr, sym, ap, ◌∙◌, subst, arith, inl, inr}
use Rattle.std.specs.FinMap as map
use Rattle.std.proofs.lemmas.Bool.Decides.{nat_tests}
use Rattle.std.specs.declared.sync.Arc.{Arc}
use Rattle.std.specs.declared.alloc.Global.{Global}
use Rattle.half_hash.specs.declared.Memory.{Memory}
use Rattle.ledger_spec.specs.declared.Kind.{Kind}
use Rattle.ledger_spec.specs.declared.ShapeFault.TheVariants.{InnerAtBottom}
use Rattle.ledger_spec.specs.Bytes.{Hash, Half, Lookup, is_zero}
use Rattle.ledger_spec.specs.Forms.{Held, inner}
use Rattle.ledger_spec.specs.Rules.{fault_of}
use Rattle.ledger_spec.specs.Own.{own_forms}
use Rattle.ledger_spec.specs.Findings.{sound, sight_of, seen_as, judged}
use Rattle.shamap_node.specs.declared.Node.{Node}
use Rattle.shamap_node.specs.declared.Node.TheVariants as variant
use Rattle.shamap_node.specs.Nodes.{held}
use Rattle.rotating_store.specs.Stores.{Store, nodes_of}
use Rattle.rotating_store.specs.Reading.{IsReadable}
use Rattle.full_below.specs.declared.key.MarkKey.{MarkKey}
use Rattle.full_below.specs.declared.marks.Marks.{Marks}
use Rattle.full_below.specs.Keys.{same_mark}
use Rattle.full_below.specs.Marking.{is_marked, after_use, AreMarked}
use Rattle.full_below.proofs.shared.Using.{marked_is}
use Rattle.lru.proofs.CallerLemmas.{Contains-promoted}
use Rattle.tree_cache.specs.declared.cache.TreeCache.{TreeCache}
use Rattle.tree_cache.specs.Caching.{shown, cached, after_get, after_put, AreCached}
use Rattle.tree_cache.proofs.shared.Using.{cached_is, still_cached, cached_more}
use Rattle.tree_laws.specs.Walks.{at_place}
use Rattle.tree_laws.proofs.shared.Sights.{Sees, sees_sound}
use Rattle.tree_laws.proofs.shared.Below.{below_zero}
use Rattle.missing_walk.specs.declared.sight.View.{View}
use Rattle.missing_walk.specs.declared.sight.View.TheVariants as view
use Rattle.missing_walk.specs.Pending.{Pending, branches_in, placed, FoundAs, kids_of, kids_from, IsHeldAt, IsFull}
use Rattle.missing_walk.specs.Pending.{IsCachedTrue}
use Rattle.missing_walk.specs.Views.{Tells, IsSoundInner, ShowsAs, Views, KeepsMarks, KeepsCache, MayPut}
use Rattle.missing_walk.proofs.Walking.{above_bottom, no_fault}
use Rattle.missing_walk.proofs.shared.Places.{full_found, leaf_found, inner_found, missing_found, broken_found}

test_own : (n : ℕ) → (n == n) ≡ true
test_own n = grind (arith, nat_tests)

pub may_put : (r : Result Bool Memory) (c c' : TreeCache) (h : Hash) (n : Node) (g : ℕ) (node : Arc Node Global)
    → node.value ≡ n
    → g ≡ c.generation → OnOk r (c' ≡ (if g == c.generation then after_put c h node else c)) → OnErr r (c' ≡ c) → MayPut c h n c'
may_put (Ok b) c c' h n g node is same ok err =
    inr (node, is, ok ∙ ap (λ t. if t then after_put c h node else c) (ap (λ k. k == c.generation) same ∙ test_own c.generation))
may_put (Err e) c c' h n g node is same ok err = inl err

module _ (half : Half) (nodes : Lookup) where
  pub put_keeps : (c c' : TreeCache) (h : Hash) (n : Node) → MayPut c h n c' → IsHeldAt half nodes h (held n)
      → KeepsCache (IsCachedTrue half nodes) c c'
  put_keeps c c' h n (inl same) at = record { entries = λ all. subst (AreCached (IsCachedTrue half nodes)) (sym same) all }
  put_keeps c c' h n (inr put) at = record {
    entries = λ all. subst (AreCached (IsCachedTrue half nodes)) (sym put.2)
        (cached_more (IsCachedTrue half nodes) c h all put.0 (subst (λ x. IsHeldAt half nodes h (held x)) (sym put.1) at));
  }

  pub same_keeps : (c c' : TreeCache) → c' ≡ c → KeepsCache (IsCachedTrue half nodes) c c'
  same_keeps c c' is = record { entries = λ all. subst (AreCached (IsCachedTrue half nodes)) (sym is) all }

  pub get_keeps : (c c' : TreeCache) (h : Hash) (g : ℕ) → c' ≡ after_get c h g → KeepsCache (IsCachedTrue half nodes) c c'
  get_keeps c c' h g is = record {
    entries = λ all. subst (AreCached (IsCachedTrue half nodes)) (sym is) (still_cached (IsCachedTrue half nodes) c h all g);
  }

  pub keeps_then : (c c' c'' : TreeCache) → KeepsCache (IsCachedTrue half nodes) c c' → KeepsCache (IsCachedTrue half nodes) c' c''
      → KeepsCache (IsCachedTrue half nodes) c c''
  keeps_then c c' c'' first second = record { entries = λ all. second.entries (first.entries all) }

  pub sound_held : (kind : Kind) (parent : Option (List Hash)) (path : List ℕ) (h : Hash) (n : Held)
      → at_place half nodes kind parent path h ≡ sound n → IsHeldAt half nodes h n
  sound_held kind parent path h n is =
      let s : Sees half (λ n. fault_of n parent kind path) (nodes h) n = sees_sound half (λ n. fault_of n parent kind path)
      (nodes h) n is in
      record { form = s.form; stored = s.stored; holds = s.holds }

  -- what is held is seen
  pub held_seen : (kind : Kind) (parent : Option (List Hash)) (path : List ℕ) (h : Hash) (n : Held) → IsHeldAt half nodes h n
      → seen_as n (fault_of n parent kind path) ≡ at_place half nodes kind parent path h
  held_seen kind parent path h n at =
      sym (ap (sight_of half (λ n. fault_of n parent kind path)) at.stored ∙ ap (judged (λ n. fault_of n parent kind path)) at.holds)

  pub zero_found : (p : Pending) → is_zero p.hash ≡ true → FoundAs half nodes p []
  zero_found p z = record { same = λ more up. below_zero half more p.kind _ p.parent p.path p.hash z }

  pub kids_are : (p : Pending) (node : Node) (hashes : List Hash) → branches_in node ≡ Some hashes
      → kids_from p.kind p.path hashes 0 16 ≡ kids_of p.kind p.path node
  kids_are p (variant.Inner i) hashes is = let e : hashes ≡ i.hashes = cc in ap (λ hs. kids_from p.kind p.path hs 0 16) e
  kids_are p (variant.Leaf l) hashes is = cc

  pub inner_short : (p : Pending) (hashes : List Hash) → length p.path ≤ 64
      → at_place half nodes p.kind p.parent p.path p.hash ≡ sound (inner hashes)
      → length p.path < 64
  inner_short p hashes le is =
      let s : Sees half (λ n. fault_of n p.parent p.kind p.path) (nodes p.hash) (inner hashes) =
      sees_sound half (λ n. fault_of n p.parent p.kind p.path) (nodes p.hash) (inner hashes) is in
      above_bottom (length p.path) le (no_fault (length p.path == 64) InnerAtBottom s.fits)

  pub views_from : (p : Pending) (v : View) → is_zero p.hash ≡ false → length p.path ≤ 64
      → ShowsAs v (at_place half nodes p.kind p.parent p.path p.hash) → Views half nodes p v
  views_from p view.Missing nonzero short shows = missing_found half nodes p nonzero shows
  views_from p (view.Broken fault) nonzero short shows = broken_found half nodes p fault nonzero shows
  views_from p (view.Below node) nonzero short shows = record {
    inner_there = record { hashes = shows.hashes; there = sound_held p.kind p.parent p.path p.hash (inner shows.hashes) shows.seen };
    found = subst (FoundAs half nodes p) (kids_are p node.value shows.hashes shows.inner_node)
        (inner_found half nodes p shows.hashes nonzero (inner_short p shows.hashes short shows.seen) shows.seen);
    seen = shows;
  }
  views_from p view.Nothing nonzero short shows = leaf_found half nodes p nonzero shows

  -- a marked place
  pub views_marked : (m : Marks) (key : MarkKey) (parent : Option (List Hash)) → AreMarked (IsFull half nodes) m → is_marked m key ≡ true
      → FoundAs half nodes (placed key parent) []
  views_marked m key parent all is = full_found half nodes key parent (marked_is (IsFull half nodes) m key all is)

  -- a cached place
  pub views_cached : (c : TreeCache) (p : Pending) (o : Option (Arc Node Global)) (node : Arc Node Global) (v : View)
      → AreCached (IsCachedTrue half nodes) c → shown o ≡ cached c p.hash c.generation → o ≡ Some node
      → is_zero p.hash ≡ false → length p.path ≤ 64
      → ShowsAs v (seen_as (held node.value) (fault_of (held node.value) p.parent p.kind p.path)) → Views half nodes p v
  views_cached c p o node v all value is nonzero short shows =
      let at : IsHeldAt half nodes p.hash (held node.value) =
      cached_is (IsCachedTrue half nodes) c p.hash all c.generation node.value (sym value ∙ ap shown is) in
      views_from p v nonzero short (subst (ShowsAs v) (held_seen p.kind p.parent p.path p.hash (held node.value) at) shows)

  -- what the store was asked for, told by these nodes
  pub looked : (tells : Bool) (s : Store) (kind : Kind) (parent : Option (List Hash)) (path : List ℕ) (h : Hash) (v : View)
      → Tells tells half s nodes
      → (IsReadable tells half s → ShowsAs v (sight_of half (λ n. fault_of n parent kind path) (own_forms half (map.get (nodes_of s)) h)))
      → ShowsAs v (at_place half nodes kind parent path h)
  looked tells s kind parent path h v t f =
      subst (λ (n : Lookup). ShowsAs v (sight_of half (λ x. fault_of x parent kind path) (n h))) t.same (f t.readable)

  node_held : (node : Node) (hashes : List Hash) → branches_in node ≡ Some hashes → held node ≡ inner hashes
  node_held (variant.Inner i) hashes is = let e : i.hashes ≡ hashes = cc in ap inner e
  node_held (variant.Leaf l) hashes is = cc

  -- an inner node that belongs there is held
  pub inner_held : (p : Pending) (node : Node) → IsSoundInner node (at_place half nodes p.kind p.parent p.path p.hash)
      → IsHeldAt half nodes p.hash (held node)
  inner_held p node seen =
      subst (IsHeldAt half nodes p.hash) (sym (node_held node seen.hashes seen.inner_node))
      (sound_held p.kind p.parent p.path p.hash (inner seen.hashes) seen.seen)

-- a mark that is used
pub use_keeps : (m m' : Marks) (key : MarkKey) → m' ≡ after_use m key → KeepsMarks m m'
use_keeps m m' key is = record {
  fewer = λ e there. Contains-promoted (same_mark key) m.entries.entries e (subst (λ x. Contains x.entries.entries e) is there);
  generation = ap (λ (x : Marks). x.generation) is;
  room = ap (λ (x : Marks). x.entries.cap) is;
}

pub fewer_marked : (P : MarkKey → Type 0) (m m' : Marks) → KeepsMarks m m' → AreMarked P m → AreMarked P m'
fewer_marked P m m' k all e there = all e (k.fewer e there)
