-- What a shard keeps: nodes under their own hashes, the most recently used first.
use Rattle.std.specs.Prelude.{◌≡◌, ℕ, List, map}
use Rattle.std.specs.List.{All}
use Rattle.std.specs.declared.sync.Arc.{Arc}
use Rattle.std.specs.declared.alloc.Global.{Global}
use Rattle.ledger_spec.specs.Bytes.{Hash, Half, same_bytes}
use Rattle.ledger_spec.specs.Forms.{hash_of}
use Rattle.shamap_node.specs.declared.Node.{Node}
use Rattle.shamap_node.specs.Nodes.{held}
use Rattle.lru.specs.LruCache.{lru_cache, put_entries}

-- nodes under hashes, the most recently used first
abbrev pub Kept : Type 0
Kept = List (Hash × Node)

-- how many a shard keeps at most
abbrev pub capacity : ℕ
capacity = 1024

-- the nodes that shared entries have
abbrev pub kept_in : List (Hash × Arc Node Global) → Kept
kept_in = map (λ e. (e.0, e.1.value))

-- each stands under its node's own hash
abbrev pub AreOwn : Half → Kept → Type 0
AreOwn half = All (λ e. hash_of half (held e.1) ≡ e.0)

-- the node is put under its own hash: it goes first, and the last one goes where there would be too many
abbrev pub with_node : Half → Node → Kept → Kept
with_node half node kept = put_entries same_bytes (lru_cache kept capacity) (hash_of half (held node)) node
