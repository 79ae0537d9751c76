-- What uses of a cache leave. For proofs of other crates.
use Rattle.std.proofs.Common.{◌≡◌, ℕ, Bool, true, false, ◌==◌, if◌then◌else◌, List, [], ◌∷◌, Option, None, Some, inl, inr, refl, sym, ap}
use Rattle.std.proofs.Common.{subst}
use Rattle.std.specs.Map.{lookup, lookup_entry, remove_entry}
use Rattle.std.specs.Option.{option_map_or}
use Rattle.std.specs.Cmp.Lexicographic.{bytes_decides}
use Rattle.std.specs.declared.sync.Arc.{Arc}
use Rattle.std.specs.declared.alloc.Global.{Global}
use Rattle.lru.specs.LruCache.{lru_cache, promoted}
use Rattle.lru.proofs.CallerLemmas.{Contains-lookup, Contains-promoted, Contains-put_entries}
use Rattle.ledger_spec.specs.Bytes.{Hash, same_bytes}
use Rattle.shamap_node.specs.declared.Node.{Node}
use Rattle.tree_cache.specs.declared.cache.TreeCache.{TreeCache}
use Rattle.tree_cache.specs.Caching.{shown, cached, after_get, after_put, AreCached}

-- what has no entry stays as it is when it is looked for
none_entry : (test : Hash → Bool) (es : List (Hash × Arc Node Global)) → lookup test es ≡ None → lookup_entry test es ≡ None
none_entry test [] e = refl
none_entry test (f ∷ es) e = (elim (test f.0) as (λ y. test f.0 ≡ y → lookup_entry test (f ∷ es) ≡ None) [
  | true ↦ λ t. let never = rw t at e in cc
  | false ↦ λ t. rw t (none_entry test es (rw t at e))
]) refl

unused_by : (c : TreeCache) (h : Hash) (b : Bool) → lookup (same_bytes h) c.entries.entries ≡ None
    → (if b then record c { entries = lru_cache (promoted (same_bytes h) c.entries.entries) c.entries.cap } else c) ≡ c
unused_by c h true e =
    ap (λ o. record c {
      entries = lru_cache (option_map_or (λ e. e ∷ remove_entry (same_bytes h) c.entries.entries) o c.entries.entries)
          c.entries.cap;
    }) (none_entry (same_bytes h) c.entries.entries e)
unused_by c h false e = refl

pub unused : (c : TreeCache) (h : Hash) (generation : ℕ) → lookup (same_bytes h) c.entries.entries ≡ None → after_get c h generation ≡ c
unused c h generation e = unused_by c h (generation == c.generation) e

module _ (P : Hash → Node → Type 0) (c : TreeCache) (h : Hash) (all : AreCached P c) where
  by_value : (o : Option (Arc Node Global)) (n : Node) → lookup (same_bytes h) c.entries.entries ≡ o → shown o ≡ Some n → P h n
  by_value None n e is = cc
  by_value (Some v) n e is =
      let at = Contains-lookup (same_bytes h) c.entries.entries v e in
      let there : P at.0 v.value = all (at.0, v) at.1 in
      let same : v.value ≡ n = cc in
      subst (P h) same (subst (λ k. P k v.value) (sym ((bytes_decides h at.0).0 at.2)) there)

  by_generation : (b : Bool) (n : Node) → (if b then shown (lookup (same_bytes h) c.entries.entries) else None) ≡ Some n → P h n
  by_generation true n is = by_value (lookup (same_bytes h) c.entries.entries) n refl is
  by_generation false n is = cc

  -- what is cached under the hash is so
  pub cached_is : (generation : ℕ) (n : Node) → cached c h generation ≡ Some n → P h n
  cached_is generation n is = by_generation (generation == c.generation) n is

  used : (b : Bool) → AreCached P (if b then record c {
    entries = lru_cache (promoted
        (same_bytes h) c.entries.entries) c.entries.cap;
  } else c)
  used true e there = all e (Contains-promoted (same_bytes h) c.entries.entries e there)
  used false e there = all e there

  -- a look-up adds no entry
  pub still_cached : (generation : ℕ) → AreCached P (after_get c h generation)
  still_cached generation = used (generation == c.generation)

  -- a node that is put is the one new entry
  pub cached_more : (node : Arc Node Global) → P h node.value → AreCached P (after_put c h node)
  cached_more node is e there = elim (Contains-put_entries same_bytes c.entries h node e there) [
    | inl before ↦ all e before
    | inr put ↦ elim put.1 [
      | inl same ↦ subst (λ (n : Arc Node Global). P e.0 n.value) (sym put.0) (subst (λ k. P k node.value) (sym same) is)
      | inr other ↦ subst (λ (n : Arc Node Global). P e.0 n.value) (sym put.0)
          (subst (λ k. P k node.value) ((bytes_decides h e.0).0 other.2) is)
    ]
  ]
