-- The script of a swarm: what a plan's ledgers are, as ledgers of Script.
use Rattle.std.specs.Prelude.{ℕ, ◌-◌, ◌==◌, not, if◌then◌else◌, List, [], map, min}
use Rattle.std.specs.List.{filter, range_with_len}
use Rattle.ledger_spec.specs.declared.Kind.{Kind}
use Rattle.ledger_spec.specs.declared.Kind.TheVariants.{State, Tx}
use Rattle.ledger_spec.specs.Bytes.{Hash, Half, is_nonzero, same_bytes}
use Rattle.ledger_spec.specs.Wire.{wire_of}
use Rattle.ledger_machine.specs.declared.commands.Line.{Line}
use Rattle.swarm_gen.specs.declared.plan.Plan.{Plan}
use Rattle.swarm_gen.specs.declared.lines.Sent.{Sent}
use Rattle.map_changes.specs.Placed.{Placed, changed, root_blob}
use Rattle.swarm_gen.specs.Ledgers.{key, state_nodes, tx_nodes, hash_of_ledger, header_of_ledger, ledgers_of}
use Rattle.swarm_gen.specs.Script.{Ledger, lines_of, numbered}

-- the nodes below the root
abbrev pub below_root : List Placed → List Placed
below_root nodes = filter (λ n. not (same_bytes n.path [])) nodes

-- nodes as they are sent: in the wire form that is written
abbrev pub sent_of : Kind → List Placed → List Sent
sent_of kind nodes = map (λ p. record { kind = kind; id = p.path; blob = wire_of p.node }) nodes

-- the nodes of the account state of the ledger before ledger j; ledger 1 has none before it
abbrev pub nodes_before : Half → Plan → ℕ → List Placed
nodes_before half plan j = if j == 1 then [] else state_nodes half plan (j - 1)

-- ledger j, as it is sent: of its account state the nodes whose place holds another node or none in the ledger before
abbrev pub ledger_of : Half → Plan → ℕ → Ledger
ledger_of half plan j = record {
  seq = j;
  hash = hash_of_ledger half plan j;
  header = header_of_ledger half plan j;
  state_root = root_blob (state_nodes half plan j);
  tx_root = root_blob (tx_nodes half plan j);
  state_nodes = sent_of State (below_root (changed (nodes_before half plan j) (state_nodes half plan j)));
  tx_nodes = sent_of Tx (below_root (tx_nodes half plan j));
}

-- the keys that the reader asks for: those of the first twenty items, but for a zero key
abbrev pub read_keys : Half → Plan → List Hash
read_keys half plan = filter is_nonzero (map (key half plan) (range_with_len 1 (min plan.items 20)))

-- the script: the lines of the ledgers, numbered from 1
abbrev pub swarm : Half → Plan → List Line
swarm half plan = numbered 1 (lines_of plan (read_keys half plan) (map (ledger_of half plan) (ledgers_of half plan)) 0 0)
