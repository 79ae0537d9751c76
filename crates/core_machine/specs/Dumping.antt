-- What is stored, as records, and the next of them.
use Rattle.std.specs.Prelude.{◌≡◌, ℕ, Result, ◌+◌, ◌-◌, ◌*◌, Bool, true, IsTrue, List, [], ◌∷◌, length, map, Option, None}
use Rattle.std.specs.Prelude.{Some, IfOk, IfErr, IfSome}
use Rattle.std.specs.List.{filter, Contains}
use Rattle.std.specs.Ordering.{is_lt}
use Rattle.std.specs.FinMap as finite
use Rattle.node_backend.specs.Order.{IsAfter}
use Rattle.ledger_spec.specs.Bytes.{Bytes, Hash, Nodes, are_bytes, zero_hash}
use Rattle.ledger_spec.specs.Maps.{hash_cmp}
use Rattle.ledger_machine.specs.declared.commands.Record.{Record}
use Rattle.node_backend.specs.declared.back.BackFault.{BackFault}
use Rattle.node_backend.specs.declared.back.BackFault.TheVariants as back
use Rattle.run_io.specs.Bytes.{Rose}
use Rattle.core_machine.specs.Desks.{Desk, OnlyReads}

-- a hash comes after another one, where there is one
abbrev pub comes_after : Option Hash → Hash → Bool
comes_after None h = true
comes_after (Some last) h = is_lt (hash_cmp last h)

-- all that is stored, hashes rising
abbrev pub records_of : Nodes → List Record
records_of nodes = map (λ e. record { hash = e.0; form = e.1 }) (finite.entries nodes)

-- what of it comes after a hash, hashes rising
abbrev pub records_after : Nodes → Option Hash → List Record
records_after nodes after = filter (λ r. comes_after after r.hash) (records_of nodes)

-- nothing is stored but these records, each form under its hash
abbrev pub HoldsOf : List Record → Nodes → Type 0
HoldsOf records nodes = (h : Hash) (form : Bytes) → finite.get nodes h ≡ Some form → Contains records (record { hash = h; form = form })

-- the next stored record after a hash, or none where no greater hash is stored
abbrev pub IsNextRecord : Nodes → Option Hash → Option Record → Type 0
IsNextRecord nodes after None = records_after nodes after ≡ []
IsNextRecord nodes after (Some r) = records_after nodes after ≡ r ∷ records_after nodes (Some r.hash)

-- a hash of 32 bytes that comes after another one, where there is one
pub record Follows (after : Option Hash) (h : Hash) : Type 0 where
  pub later : IsAfter after h
  pub size : length h ≡ 32
  pub bytes : IsTrue (are_bytes h)

-- the next stored record after a hash, as a store gives it that is only read
pub record GivesNext (tells : Bool) (d : Desk) (after : Option Hash) (result : Result (Option Record) BackFault) (d' : Desk) : Type 0 where
  pub next : IsTrue tells → IfOk result (IsNextRecord d.state.nodes after)
  pub follows : IfOk result (λ o. IfSome o (λ r. Follows after r.hash))
  pub reads : OnlyReads tells d d'
  pub fault : IfErr result (λ e. e ≡ back.Fault → Rose d.faults d'.faults)

-- the number whose digits are n and then the bytes
unfoldable pub number_from : ℕ → Bytes → ℕ
number_from n [] = n
number_from n (b ∷ bytes) = number_from (n * 256 + b) bytes

-- how many hashes come after
abbrev pub left_after : Option Hash → ℕ
left_after None = number_from 1 zero_hash + 1
left_after (Some h) = number_from 1 zero_hash - number_from 0 h

-- 32 bytes, where there is a hash
abbrev pub IsHashOrNone : Option Hash → Type 0
IsHashOrNone None = Unit {0}
IsHashOrNone (Some h) = (length h ≡ 32) × IsTrue (are_bytes h)

-- a hash is given where it comes after, and only there
abbrev pub GivenAfter : Option Hash → Hash → Option Hash → Type 0
GivenAfter after h None = IsAfter after h → ⊥
GivenAfter after h (Some given) = (given ≡ h) × Follows after given
