-- What open sessions edit, by what the store holds.
use Rattle.std.specs.Prelude.{◌≡◌, ℕ, zero, suc, List, [], ◌∷◌, ◌++◌, map, Some}
use Rattle.std.specs.List.{flat_map, slice_index_or}
use Rattle.ledger_spec.specs.declared.Kind.{Kind}
use Rattle.ledger_spec.specs.Maps.{ForActor}
use Rattle.ledger_spec.specs.Bytes.{Half, Lookup, Items, branches}
use Rattle.ledger_spec.specs.Header.{header_bytes}
use Rattle.ledger_spec.specs.Spots.{header_in}
use Rattle.ledger_header.specs.Fields.{fields, Reads}
use Rattle.cow_map.specs.declared.link.Link.{Link}
use Rattle.cow_map.specs.declared.link.Link.TheVariants.{Empty}
use Rattle.cow_map.specs.Bodies.{Body, CowTree}
use Rattle.cow_map.specs.Trees.{Found, none, one, fork, lacks, breaks, found_at}
use Rattle.edit_session.specs.Drafts.{Draft, Edits, LeavesToParent}
use Rattle.ledger_machine.specs.State.{State, Session, form_in, with_sessions}

-- the items below what a link leads to
abbrev pub items_found : (ℕ → Link → Items) → Found → Items
items_found below none = []
items_found below (one key bytes) = (key, bytes) ∷ []
items_found below (fork links) = flat_map (λ b. below b (slice_index_or links b Empty)) branches
items_found below (lacks h) = []
items_found below (breaks fault) = []

-- the items that a link at a path leads to, with `left` levels below it
unfoldable pub items_at : Half → Lookup → Kind → List Body → ℕ → List ℕ → Link → Items
items_at half stored kind nodes zero path link = items_found (λ b l. []) (found_at half stored kind nodes path link)
items_at half stored kind nodes (suc left) path link =
    items_found (λ b l. items_at half stored kind nodes left (path ++ b ∷ []) l) (found_at half stored kind nodes path link)

-- the items of a tree: those that it stands for, where it stands for some
abbrev pub items_in : Half → Lookup → CowTree → Items
items_in half stored m = items_at half stored m.kind m.nodes 64 [] m.top

-- the machine's session of a draft
abbrev pub session_in : Half → Lookup → Draft → Session
session_in half stored d =
    record { base = d.base; accounts = items_in half stored d.state; txs = items_in half stored d.txs }

-- those of the open drafts
abbrev pub sessions_in : Half → Lookup → ForActor Draft → ForActor Session
sessions_in half stored drafts = map (λ e. (e.0, session_in half stored e.1)) drafts

-- a draft is of a ledger whose header is stored, it stands for its items, and what it leaves to the store belongs to that ledger
pub record IsKept (half : Half) (stored : Lookup) (d : Draft) : Type 0 where
  pub header : header_in stored d.base ≡ Some (header_bytes (fields d.parent))
  pub reads : Reads (header_bytes (fields d.parent)) d.parent
  pub edits : Edits half stored d (items_in half stored d.state) (items_in half stored d.txs)
  pub left : LeavesToParent half stored d

-- a state with the sessions of open drafts
abbrev pub with_drafts : Half → State → ForActor Draft → State
with_drafts half s drafts = with_sessions s (sessions_in half (form_in s) drafts)
