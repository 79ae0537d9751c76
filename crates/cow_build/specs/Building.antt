-- Maps of items that are made of parts.
use Rattle.std.specs.Prelude.{ℕ, ◌≤◌, ◌≡◌, List, [], ◌∷◌, Vec, Option, None, Some}
use Rattle.std.specs.List.{count_by, flat_map, slice_get, AllByRecursion}
use Rattle.std.specs.List.Sorted.{IsPermutation}
use Rattle.std.specs.Ordering.{match_ordering}
use Rattle.std.specs.declared.alloc.Global.{Global}
use Rattle.std.specs.declared.cmp.Ordering.TheVariants.{Less}
use Rattle.nib_path.specs.Paths.{nibble_of}
use Rattle.ledger_spec.specs.Bytes.{Hash, Half, Items, Lookup, same_bytes}
use Rattle.ledger_spec.specs.Maps.{hash_cmp, IsMap}
use Rattle.shamap_node.specs.declared.parts.Item.{Item}
use Rattle.cow_map.specs.Bodies.{CowTree}
use Rattle.cow_map.specs.Gathered.{entries_of}
use Rattle.cow_map.specs.Trees.{StandsFor}

-- how often a key stands among the items
abbrev pub times : Hash → List Item → ℕ
times key items = count_by (λ item. same_bytes item.key key) items

-- a key that stands twice, and no lesser one does
pub record IsLeastRepeated (items : List Item) (key : Hash) : Type 0 where
  pub twice : 2 ≤ times key items
  pub least : (other : Hash) → hash_cmp other key ≡ Less → times other items ≤ 1

-- each map stands for the entries at its place, and leaves nothing to a source
abbrev pub EachStands : List CowTree → List Items → Type 0
EachStands [] [] = Unit {0}
EachStands (m ∷ maps) (items ∷ parts) = ((half : Half) (stored : Lookup) → StandsFor half stored m items) × EachStands maps parts
EachStands [] (items ∷ parts) = ⊥
EachStands (m ∷ maps) [] = ⊥

-- the parts' items are all items, in their order; each part's keys rise, and those of part b have the first nibble b
pub record IsCut (items : List Item) (parts : List (Vec Item Global)) : Type 0 where
  pub whole : flat_map (λ part. part.items) parts ≡ items
  pub rising : AllByRecursion (λ part. IsMap hash_cmp (entries_of part.items)) parts
  pub first : (b : ℕ) (part : Vec Item Global) → slice_get parts b ≡ Some part
      → AllByRecursion (λ item. nibble_of item.key 0 ≡ b) part.items

-- the map stands for the items, and leaves nothing to a source
pub record IsMapOf (items : List Item) (m : CowTree) : Type 0 where
  pub sorted : List Item
  pub permutation : IsPermutation items sorted
  pub rising : IsMap hash_cmp (entries_of sorted)
  pub stands : (half : Half) (stored : Lookup) → StandsFor half stored m (entries_of sorted)

-- the lesser of a key and another one, where there is one
abbrev pub lesser : Option Hash → Hash → Hash
lesser None key = key
lesser (Some other) key = match_ordering (hash_cmp other key) other key key
