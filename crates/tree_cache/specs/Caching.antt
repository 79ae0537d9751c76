-- What a cache holds.
use Rattle.std.specs.Prelude.{ℕ, ◌==◌, if◌then◌else◌, Contains, Option, None, option_map}
use Rattle.std.specs.Map.{lookup}
use Rattle.std.specs.declared.sync.Arc.{Arc}
use Rattle.std.specs.declared.alloc.Global.{Global}
use Rattle.lru.specs.LruCache.{lru_cache, promoted, put_entries}
use Rattle.ledger_spec.specs.Bytes.{Hash, same_bytes}
use Rattle.shamap_node.specs.declared.Node.{Node}
use Rattle.tree_cache.specs.declared.cache.TreeCache.{TreeCache}

-- a node without where it lies in memory
abbrev pub shown : Option (Arc Node Global) → Option Node
shown o = option_map (λ node. node.value) o

-- the node under the hash, in this generation
abbrev pub cached : TreeCache → Hash → ℕ → Option Node
cached c h generation = if generation == c.generation then shown (lookup (same_bytes h) c.entries.entries) else None

-- an entry of the present generation is used: it goes first
abbrev pub after_get : TreeCache → Hash → ℕ → TreeCache
after_get c h generation =
    if generation == c.generation
    then record c { entries = lru_cache (promoted (same_bytes h) c.entries.entries) c.entries.cap }
    else c

-- the node is put: it goes first, and the last one goes where there would be too many
abbrev pub after_put : TreeCache → Hash → Arc Node Global → TreeCache
after_put c h node = record c { entries = lru_cache (put_entries same_bytes c.entries h node) c.entries.cap }

-- all entries are so
abbrev pub AreCached : (Hash → Node → Type 0) → TreeCache → Type 0
AreCached P c = (e : Hash × Arc Node Global) → Contains c.entries.entries e → P e.0 (e.1).value
