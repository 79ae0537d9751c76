use Rattle.std.proofs.Common.{Some, sym, ap, ◌∙◌}
use Rattle.std.specs.Option.{option_map}
use Rattle.ledger_spec.specs.Bytes.{same_bytes}
use Rattle.shamap_node.specs.declared.Node.{Node}
use Rattle.std.specs.declared.sync.Arc.{Arc}
use Rattle.std.specs.declared.alloc.Global.{Global}
use Rattle.lru.specs.LruCache.{LruCache}
use Rattle.read_cache.specs.Shards.{kept_in}
use Rattle.ledger_spec.specs.Bytes.{Hash}
use Rattle.read_cache.proofs.Keeping.{over_lookup, over_promoted, found_own, promoted_own, none_promoted}
use Rattle.read_cache.proofs.shard.Shard.find.Goals as goal

-- no entry was found, so none is there
pub returns-in_default-clause-found : goal.returns-in_default-clause-found
returns-in_default-clause-found g c =
    rw (← c.self.view_is)
    (sym (over_lookup (λ a. a.value) (same_bytes c.args.h.now) c.self.inside.entries.entries
    ∙ ap (option_map (λ a. a.value)) (sym c.in_default.ensures)))

-- and none goes to the front
pub returns-in_default-clause-front : goal.returns-in_default-clause-front
returns-in_default-clause-front g c =
    sym (none_promoted (same_bytes c.args.h.now) c.args.self.now (sym (returns-in_default-clause-found g c)))

-- the entry that was found has this node
pub returns-clause-found : goal.returns-clause-found
returns-clause-found g c =
    rw (← c.self.view_is)
    (ap Some c.in_ok-node.ensures
    ∙ sym (over_lookup (λ a. a.value) (same_bytes c.args.h.now) c.self.inside.entries.entries
    ∙ ap (option_map (λ a. a.value)) (sym c.in-Some.ensures)))

-- it stands under its own hash
pub returns-clause-own : goal.returns-clause-own
returns-clause-own g c =
    found_own g.H.NodeHash.half c.args.self.now c.args.h.now c.in_ok-node.node.value
    (rw (← c.self.view_is) c.self.invariant.1) (sym (returns-clause-found g c))

pub returns-clause-front : goal.returns-clause-front
returns-clause-front g c =
    rw (← c.self.view_is)
    (ap (λ (x : LruCache Hash (Arc Node Global)). kept_in x.entries) c.promote.ensures.entries
    ∙ sym (over_promoted (λ a. a.value) (same_bytes c.args.h.now) c.self.inside.entries.entries))

pub invariant_of-self : goal.invariant_of-self
invariant_of-self g c = (
  ap (λ (x : LruCache Hash (Arc Node Global)). x.cap) c.promote.ensures.entries ∙ c.self.invariant.0,
  rw (ap (λ (x : LruCache Hash (Arc Node Global)). kept_in x.entries) c.promote.ensures.entries
      ∙ sym (over_promoted (λ a. a.value) (same_bytes c.args.h.now) c.self.inside.entries.entries))
      (promoted_own g.H.NodeHash.half (kept_in c.self.inside.entries.entries) c.args.h.now c.self.invariant.1),
)
