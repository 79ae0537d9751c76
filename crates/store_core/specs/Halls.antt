-- The open views with the headers of their ledgers, beside what the commands act on.
use Rattle.std.specs.Prelude.{◌≡◌, ℕ, map, Option}
use Rattle.std.specs.List.{All}
use Rattle.std.specs.Option.{option_map}
use Rattle.std.specs.Map.{values_of}
use Rattle.ledger_spec.specs.Bytes.{Hash, zero_hash}
use Rattle.ledger_spec.specs.Maps.{ForActor, numbered_cmp, get_in}
use Rattle.ledger_spec.specs.declared.Kind.{Kind}
use Rattle.ledger_spec.specs.declared.Kind.TheVariants.{State as Accounts, Tx, Set}
use Rattle.ledger_header.specs.declared.Header.{Header}
use Rattle.ledger_machine.specs.State.{State}
use Rattle.core_machine.specs.Machines.{IsHeaderOf}
use Rattle.core_machine.specs.Desks.{Desk}
use Rattle.store_core.specs.declared.jobs.View.{View}

-- what contracts see of a hall: what the commands act on, and the open views
pub record HallView : Type 0 where
  pub desk : Desk
  pub views : ForActor View

-- the ledgers that views pin
abbrev pub pinned_in : ForActor View → ForActor Hash
pinned_in views = map (λ e. (e.0, e.1.target)) views

-- these are the state's views, each with the header that is stored under its ledger's hash
pub record AreViews (s : State) (views : ForActor View) : Type 0 where
  pub pins : pinned_in views ≡ s.views
  pub headers : All (λ v. IsHeaderOf s v.target v.header) (values_of views)

-- the root of a header's map of the kind
abbrev pub root_of : Kind → Header → Hash
root_of Accounts h = h.state_root
root_of Tx h = h.tx_root
root_of Set h = zero_hash

-- the root of an open view's map, by the header that it keeps
abbrev pub root_by : ForActor View → Kind → ℕ × ℕ → Option Hash
root_by views kind v = option_map (λ x. root_of kind x.header) (get_in numbered_cmp views v)
