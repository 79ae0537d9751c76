-- What a page holds.
use Rattle.std.specs.Prelude.{Bool, false, List, [], ◌∷◌, ◌++◌, map, Option, ◌≡◌}
use Rattle.std.specs.List.{filter}
use Rattle.std.specs.declared.sync.Arc.{Arc}
use Rattle.std.specs.declared.alloc.Global.{Global}
use Rattle.shamap_node.specs.declared.Node.{Node}
use Rattle.shamap_node.specs.Nodes.{held}
use Rattle.ledger_spec.specs.Bytes.{Hash, Items}
use Rattle.ledger_spec.specs.Forms.{Held, leaf}
use Rattle.ledger_spec.specs.Tree.{Entry}
use Rattle.ledger_spec.specs.Reads.{inner_hashes}
use Rattle.ledger_spec.specs.Pages.{is_behind, leaf_entries}
use Rattle.path_proof.specs.Paths.{held_nodes}
use Rattle.map_cursor.specs.declared.paging.Page.{Page}

-- the key and the data of a leaf
abbrev pub entry_of : Held → Entry
entry_of (leaf kind key bytes) = (key, bytes)
entry_of _ = ([], [])

-- the items of leaves
abbrev pub items_in : List (Arc Node Global) → Items
items_in leaves = map (λ a. entry_of (held a.value)) leaves

-- items, and the nodes that say so
pub record Shown : Type 0 where
  pub items : Items
  pub used : List Held

-- what a page of the code shows
abbrev pub shown : Page → Shown
shown page = record { items = items_in page.leaves.items; used = held_nodes page.used.items }

-- a leaf behind the key
abbrev pub is_further : Hash → Held → Bool
is_further after (leaf own key bytes) = is_behind after (key, bytes)
is_further after _ = false

-- the page's leaves are those of its nodes that are leaves behind the key
pub record HasFurther (after : Hash) (page : Page) : Type 0 where
  pub leaves_are : held_nodes page.leaves.items ≡ filter (is_further after) (held_nodes page.used.items)

-- the entry that a node adds to a page
abbrev pub added_by : Hash → Held → Items
added_by after (leaf own key bytes) = leaf_entries after key bytes
added_by after _ = []

-- the page with one node more
pub record Takes (after : Hash) (n : Held) (s t : Shown) (below : Option (List Hash)) : Type 0 where
  pub used : t.used ≡ s.used ++ n ∷ []
  pub items : t.items ≡ s.items ++ added_by after n
  pub below_is : below ≡ inner_hashes n
