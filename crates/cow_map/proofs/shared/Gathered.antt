-- A map that needs nothing of its source, and one that is made of items whose keys rise. For proofs of other crates.
use Rattle.std.proofs.Common.{◌≡◌, ℕ, zero, suc, List, [], ◌∷◌, ◌++◌, refl, ap, slice_index_or}
use Rattle.std.specs.List.{AllByRecursion}
use Rattle.std.specs.List.Sorted.{IsStrictlySortedBy}
use Rattle.std.specs.Map.{keys_of}
use Rattle.std.specs.declared.cmp.Ordering.TheVariants.{Less}
use Rattle.ledger_spec.specs.declared.Kind.{Kind}
use Rattle.ledger_spec.specs.Bytes.{Half, Lookup}
use Rattle.ledger_spec.specs.Maps.{hash_cmp, IsMap}
use Rattle.ledger_spec.specs.Tree.{Entry}
use Rattle.shamap_node.specs.declared.parts.Item.{Item}
use Rattle.cow_map.specs.declared.link.Link.{Link}
use Rattle.cow_map.specs.declared.link.Link.TheVariants.{Empty, Unloaded, Own}
use Rattle.cow_map.specs.Bodies.{Body, CowTree}
use Rattle.cow_map.specs.Trees.{lacks, found_at, StandsAt, StandsFor}
use Rattle.cow_map.specs.Edits.{IsSub}
use Rattle.cow_map.specs.Gathered.{entries_of, nothing_held}
use Rattle.cow_map.proofs.shared.Standing.{Below, stands_into, holds_map}
use Rattle.cow_map.proofs.Standing.{stands_from}
use Rattle.cow_map.proofs.shared.Entries.{AllCompare}

module _ (half other : Half) (stored : Lookup) (kind : Kind) (nodes : List Body) where
  found_any : (left : ℕ) (path : List ℕ) (link : Link) (items : List Entry) → StandsAt half nothing_held kind nodes left path link items
      → found_at other stored kind nodes path link ≡ found_at half nothing_held kind nodes path link
  found_any left path Empty items stands = refl
  found_any left path (Own i) items stands = refl
  found_any left path (Unloaded h) items stands =
      absurd (stands_into half nothing_held kind nodes left path (Unloaded h) items (lacks h) refl stands)

  any_law : (left : ℕ) (path : List ℕ) (link : Link) (items : List Entry) → StandsAt half nothing_held kind nodes left path link items
      → StandsAt other stored kind nodes left path link items
  any_law zero path link items stands =
      stands_from other stored kind nodes 0 path link items (found_at half nothing_held kind nodes path link)
      (found_any 0 path link items stands)
      (holds_map (Below half nothing_held kind nodes 0 path) (Below other stored kind nodes 0 path) path
      (found_at half nothing_held kind nodes path link) items (λ links b es is low below. below)
      (stands_into half nothing_held kind nodes 0 path link items (found_at half nothing_held kind nodes path link) refl stands))
  any_law (suc left) path link items stands =
      stands_from other stored kind nodes (suc left) path link items (found_at half nothing_held kind nodes path link)
      (found_any (suc left) path link items stands)
      (holds_map (Below half nothing_held kind nodes (suc left) path) (Below other stored kind nodes (suc left) path) path
      (found_at half nothing_held kind nodes path link) items
      (λ links b es is low below. any_law left (path ++ b ∷ []) (slice_index_or links b Empty) es below)
      (stands_into half nothing_held kind nodes (suc left) path link items (found_at half nothing_held kind nodes path link) refl stands))

-- a map that stands over no source stands over each, whatever the half
pub stands_anywhere : (half other : Half) (stored : Lookup) (m : CowTree) (items : List Entry) → StandsFor half nothing_held m items
    → StandsFor other stored m items
stands_anywhere half other stored m items stands = any_law half other stored m.kind m.nodes 64 [] m.top items stands

pub nothing_sub : (stored : Lookup) → IsSub nothing_held stored
nothing_sub stored h form e = cc

pub entries_append : (xs ys : List Item) → entries_of (xs ++ ys) ≡ entries_of xs ++ entries_of ys
entries_append [] ys = refl
entries_append (x ∷ xs) ys = ap (λ es. (x.key, x.value) ∷ es) (entries_append xs ys)

pub sorted_behind : (xs ys : List Entry) → IsMap hash_cmp (xs ++ ys) → IsMap hash_cmp ys
unfolding IsStrictlySortedBy
sorted_behind [] ys h = h
sorted_behind (x ∷ xs) ys h = sorted_behind xs ys h.1

pub first_less : (e : Entry) (es : List Entry) → IsMap hash_cmp (e ∷ es) → AllCompare Less e.0 es
unfolding IsStrictlySortedBy
first_less e es h = less es h.0
  where
    less : (fs : List Entry) → AllByRecursion (λ k. hash_cmp e.0 k ≡ Less) (keys_of fs) → AllCompare Less e.0 fs
    less [] h = tt
    less (f ∷ fs) h = (h.0, less fs h.1)

-- one item alone is a map
pub one_rises : (item : Item) → IsMap hash_cmp (entries_of (item ∷ []))
unfolding IsStrictlySortedBy
one_rises item = (tt, tt)
