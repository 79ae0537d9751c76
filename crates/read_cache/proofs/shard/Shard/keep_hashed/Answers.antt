use Rattle.std.proofs.Common.{sym, ap, ◌∙◌}
use Rattle.ledger_spec.specs.Bytes.{Hash}
use Rattle.shamap_node.specs.declared.Node.{Node}
use Rattle.std.specs.declared.sync.Arc.{Arc}
use Rattle.std.specs.declared.alloc.Global.{Global}
use Rattle.lru.specs.LruCache.{LruCache}
use Rattle.read_cache.specs.Shards.{kept_in}
use Rattle.read_cache.proofs.Keeping.{after_put, put_own}
use Rattle.read_cache.proofs.shard.Shard.keep_hashed.Goals as goal

-- the node stands first, under its own hash
pub returns-clause-ok : goal.returns-clause-ok
returns-clause-ok g c =
    rw (← c.self.view_is)
    (after_put g.H.NodeHash.half c.self.inside.entries c.put.new.self c.args.h.now c.args.node c.self.invariant.0
    (sym c.requires) c.in_ok-put.ensures.entries)

-- and so does each that was there
pub invariant_of-self-2 : goal.invariant_of-self-2
invariant_of-self-2 g c = (
  ap (λ (x : LruCache Hash (Arc Node Global)). x.cap) c.in_ok-put.ensures.entries ∙ c.self.invariant.0,
  rw (after_put g.H.NodeHash.half c.self.inside.entries c.put.new.self c.args.h.now c.args.node c.self.invariant.0
      (sym c.requires) c.in_ok-put.ensures.entries)
      (put_own g.H.NodeHash.half (kept_in c.self.inside.entries.entries) c.args.node.value c.self.invariant.1),
)
