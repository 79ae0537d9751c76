-- Items that are taken from the end of a list whose keys rise, and the link that stands for them.
use Rattle.std.specs.Prelude.{◌≡◌, ℕ, ◌-◌, ◌≤◌, Bool, false, IfOk, List, ◌++◌, length, IsTrue, Result}
use Rattle.std.specs.Option.{option_map_or}
use Rattle.std.specs.List.{slice_get, AllByRecursion}
use Rattle.nib_path.specs.Paths.{lies_under}
use Rattle.ledger_spec.specs.declared.Kind.{Kind}
use Rattle.ledger_spec.specs.Bytes.{Half, Lookup}
use Rattle.shamap_node.specs.declared.parts.Item.{Item}
use Rattle.cow_map.specs.declared.link.Link.{Link}
use Rattle.cow_map.specs.Bodies.{Body, IsBelow}
use Rattle.cow_map.specs.Trees.{StandsAt}
use Rattle.cow_map.specs.Gathered.{entries_of}

-- whether the key of the last item lies under the path
abbrev pub ends_under : List ℕ → List Item → Bool
ends_under path items = option_map_or (λ (item : Item). lies_under path item.key) (slice_get items (length items - 1)) false

-- the keys of at least n items at the end lie under the path
abbrev pub EndUnder : ℕ → List ℕ → List Item → Type 0
EndUnder n path items = (front tail : List Item) × (items ≡ front ++ tail) × (n ≤ length tail)
    × AllByRecursion (λ (item : Item). IsTrue (lies_under path item.key)) tail

-- more nodes stand behind those that were there
abbrev pub Grows : List Body → List Body → Type 0
Grows before after = (more : List Body) × (after ≡ before ++ more)

-- all items at the end whose keys lie under the path are taken, and the link stands for them there, over any source
pub record Gathers (path : List ℕ) (before after : List Item) (nodes : List Body) (link : Link) : Type 0 where
  pub taken : List Item
  pub split : before ≡ after ++ taken
  pub all : ends_under path after ≡ false
  pub stands : (half : Half) (stored : Lookup) (kind : Kind)
      → StandsAt half stored kind nodes (64 - length path) path link (entries_of taken)

-- the nodes of the items that are taken from the end stand behind those that were there, and the link to them, which leads to a node of the
-- list or to none, stands for those items
pub record TakesEnd {E : Type 0} (path : List ℕ) (before after : List Item) (old new : List Body) (result : Result Link E) : Type 0 where
  pub grows : IfOk result (λ _. Grows old new)
  pub below : IfOk result (IsBelow (length new))
  pub gathers : IfOk result (Gathers path before after new)
