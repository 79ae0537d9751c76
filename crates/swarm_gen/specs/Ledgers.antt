-- The ledgers of a swarm.
use Rattle.std.specs.Prelude.{ℕ, zero, suc, ◌+◌, ◌-◌, ◌*◌, ◌%◌, ◌==◌, ◌&&◌, Bool, true, false, if◌then◌else◌}
use Rattle.std.specs.Prelude.{List, [], ◌∷◌, ◌++◌, map}
use Rattle.std.specs.List.{range_with_len, list_all}
use Rattle.std.specs.Int.{w64, to_be_bytes}
use Rattle.ledger_spec.specs.declared.Kind.TheVariants.{State, Tx}
use Rattle.ledger_spec.specs.Bytes.{Bytes, Hash, Half, Items, zero_hash, is_zero, is_nonzero}
use Rattle.ledger_spec.specs.Maps.{hash_cmp, insert_in}
use Rattle.ledger_spec.specs.Forms.{header_prefix, hash_of}
use Rattle.ledger_spec.specs.Header.{header_bytes}
use Rattle.ledger_spec.specs.Tree.{Entry, root_of}
use Rattle.swarm_gen.specs.declared.plan.Plan.{Plan}
use Rattle.map_changes.specs.Placed.{Placed, nodes_of}

-- a number as eight bytes, high byte first
unfoldable pub eight : ℕ → Bytes
eight n = to_be_bytes w64 n

-- key n of the plan
unfoldable pub key : Half → Plan → ℕ → Hash
key half plan n = half (eight plan.number ++ eight n)

-- the map of these entries, behind those of another: a later one replaces an earlier one of its key, and a zero key is
-- left out
abbrev pub map_from : {X : Type 0} → List (Hash × X) → List (Hash × X) → List (Hash × X)
map_from items [] = items
map_from items (e ∷ rest) = map_from (if is_zero e.0 then items else insert_in hash_cmp items e.0 e.1) rest

-- a map of these entries alone
abbrev pub map_of : List Entry → Items
map_of entries = map_from [] entries

-- the items that no later item has the key of, by their keys
abbrev pub owners_of : Half → Plan → List (Hash × ℕ)
owners_of half plan = map_from [] (map (λ i. (key half plan i, i)) (range_with_len 1 plan.items))

-- The ledger that set the data of item i in ledger j. Ledger 1 sets every item; a later ledger sets item i exactly where
-- i + j is a multiple of 97, and other items keep their data.
abbrev pub set_by : ℕ → ℕ → ℕ
set_by i zero = 1
set_by i (suc zero) = 1
set_by i (suc (suc j)) = if (i + suc (suc j)) % 97 == 0 then suc (suc j) else set_by i (suc j)

-- the account state of ledger j: items 1 to I
abbrev pub state_of : Half → Plan → ℕ → Items
state_of half plan j = map_of (map (λ i. (key half plan i, eight (set_by i j))) (range_with_len 1 plan.items))

-- the transactions of ledger j: items 0 to 3
abbrev pub txs_of : Half → Plan → ℕ → Items
txs_of half plan j = map_of (map (λ m. (key half plan (4294967296 + 16 * j + m), eight m)) (range_with_len 0 4))

-- the 118 bytes of ledger j's header, over its parent's hash
unfoldable pub header_over : Half → Plan → ℕ → Hash → Bytes
header_over half plan j parent = header_bytes (record {
  seq = j;
  drops = 100000000000000000;
  parent = parent;
  tx_root = root_of half Tx (txs_of half plan j);
  state_root = root_of half State (state_of half plan j);
  parent_close = 10 * (j - 1);
  close = 10 * j;
  resolution = 10;
  flags = 0;
})

-- ledger j's hash; before ledger 1 there is none, and the zero hash stands for it
abbrev pub hash_of_ledger : Half → Plan → ℕ → Hash
hash_of_ledger half plan zero = zero_hash
hash_of_ledger half plan (suc j) = half (header_prefix ++ header_over half plan (suc j) (hash_of_ledger half plan j))

-- ledger j's header
abbrev pub header_of_ledger : Half → Plan → ℕ → Bytes
header_of_ledger half plan j = header_over half plan j (hash_of_ledger half plan (j - 1))

-- the nodes of the account state of ledger j
abbrev pub state_nodes : Half → Plan → ℕ → List Placed
state_nodes half plan j = nodes_of half State (state_of half plan j)

-- the nodes of the transaction map of ledger j
abbrev pub tx_nodes : Half → Plan → ℕ → List Placed
tx_nodes half plan j = nodes_of half Tx (txs_of half plan j)

-- no form of these nodes has the zero hash
abbrev pub are_nonzero : Half → List Placed → Bool
are_nonzero half nodes = list_all (λ p. is_nonzero (hash_of half p.node)) nodes

-- the map isn't empty
abbrev pub has_entries : Items → Bool
has_entries [] = false
has_entries (e ∷ rest) = true

-- neither map of ledger j is empty, and none of its forms, its header's among them, has the zero hash
abbrev pub is_made : Half → Plan → ℕ → Bool
is_made half plan j =
    has_entries (state_of half plan j) && has_entries (txs_of half plan j)
    && are_nonzero half (state_nodes half plan j) && are_nonzero half (tx_nodes half plan j) && is_nonzero (hash_of_ledger half plan j)

-- the first of these, up to one that isn't so
abbrev pub front : (ℕ → Bool) → List ℕ → List ℕ
front test [] = []
front test (j ∷ js) = if test j then j ∷ front test js else []

-- the ledgers whose lines stand in the script: those before the first that isn't made
abbrev pub ledgers_of : Half → Plan → List ℕ
ledgers_of half plan = front (is_made half plan) (range_with_len 1 plan.ledgers)
