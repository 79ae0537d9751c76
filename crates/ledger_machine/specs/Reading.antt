-- The rows of `get` and `page`: what a path of nodes says, and what the next items are.
use Rattle.std.specs.Prelude.{◌≡◌, ◌≢◌, ◌-◌, ℕ, List, [], length, map, Option, None, Some}
use Rattle.std.specs.List.{Contains, slice_get}
use Rattle.std.specs.Option.{option_map, option_and_then}
use Rattle.ledger_spec.specs.Maps.{numbered_cmp, get_in}
use Rattle.ledger_spec.specs.declared.Kind.{Kind}
use Rattle.ledger_spec.specs.Bytes.{Hash, Half}
use Rattle.ledger_spec.specs.Forms.{Held, leaf, form_of, hash_of}
use Rattle.ledger_spec.specs.Tree.{Entry}
use Rattle.ledger_spec.specs.Findings.{items_of}
use Rattle.ledger_spec.specs.Pages.{after_key, IsPageOf, IsPageOrShows}
use Rattle.ledger_spec.specs.Spots.{header_in, header_root}
use Rattle.ledger_spec.specs.Reads.{Outcome, nothing, value, follow}
use Rattle.shamap_node.specs.Nodes.{held}
use Rattle.ledger_machine.specs.declared.commands.GetReply.TheVariants as gets
use Rattle.ledger_machine.specs.declared.commands.PageReply.TheVariants as pages
use Rattle.ledger_machine.specs.declared.commands.Reply.{Reply}
use Rattle.ledger_machine.specs.declared.commands.Reply.TheVariants as says
use Rattle.ledger_machine.specs.State.{State, form_in}

-- the root of an open view's map
abbrev pub view_root : State → Kind → ℕ × ℕ → Option Hash
view_root s kind v = option_and_then (λ t. option_map (header_root kind) (header_in (form_in s) t)) (get_in numbered_cmp s.views v)

-- a leaf's data
abbrev pub value_in : Held → Option Outcome
value_in (leaf kind key bytes) = Some (value bytes)
value_in _ = None

-- what a reply to `get` says of the key
abbrev pub outcome_of : Reply → Option Outcome
outcome_of (says.Get gets.Nothing) = Some nothing
outcome_of (says.Get (gets.Value n)) = value_in (held n.value)
outcome_of _ = None

-- a value is the last of the nodes used
abbrev pub IsLast : List Held → Reply → Type 0
IsLast used (says.Get (gets.Value n)) = slice_get used (length used - 1) ≡ Some (held n.value)
IsLast used _ = Unit {0}

-- the reply to `get` is what the nodes used say of the key, and its value is their last, the key's leaf
pub record IsRead (half : Half) (kind : Kind) (key root : Hash) (reply : Reply) (used : List Held) : Type 0 where
  pub says : follow half kind root key used ≡ outcome_of reply
  pub some : outcome_of reply ≢ None
  pub last : IsLast used reply

-- a leaf's key and data
abbrev pub leaf_entry : Held → Entry
leaf_entry (leaf kind key bytes) = (key, bytes)
leaf_entry _ = ([], [])

-- what a reply to `page` lists
abbrev pub page_of : Reply → Option (List Entry)
page_of (says.Page (pages.Items leaves)) = Some (map (λ l. leaf_entry (held l.value)) leaves.items)
page_of _ = None

-- the page is the map's next items, and what the nodes used say, each of which was read, before those below it; they are stored, and the
-- page is that of every map with this root or they show two
pub record IsPage (half : Half) (s : State) (kind : Kind) (key : Hash) (n : ℕ) (root : Hash) (reply : Reply)
    (used : List Held) : Type 0 where
  pub page : List Entry
  pub says : page_of reply ≡ Some page
  pub own : page ≡ after_key key n (items_of half (form_in s) kind root)
  pub read : IsPageOf half kind root key n used page
  pub stored : (u : Held) → Contains used u → form_in s (hash_of half u) ≡ Some (form_of u)
  pub every : IsPageOrShows half kind root key n used page
