-- A readers' cache may be read from another thread, and its shards may go there. For proofs of other crates.
use denote.RattleType.{RattleType}
use denote.Param.Send.{IsSend, IsSync, sendable}
use Rattle.std.proofs.Crossing.{crosses, send, frees}
use Rattle.std.proofs.MapsCrossing.{HashMap-send}
use Rattle.lru.proofs.Crosses.{KeyRef-send, List-send, Deed-send}
use Rattle.half_hash.specs.declared.NodeHash as hashes
use Rattle.half_hash.proofs.shared.Crossing.{Hash32-send, Hash32-sync}
use Rattle.shamap_node.proofs.shared.Crossing.{Node-send, Node-sync}
use Rattle.read_cache.specs.contracts.shard.Shard as Shard
use Rattle.read_cache.specs.contracts.cache.ReadCache as ReadCache

module _ (H : RattleType) (g : hashes.Ghosts H.Denot) where
  pub Shard-send : IsSend H → IsSend (Shard.the_row H g)
  Shard-send s =
      search (
        Hash32-send,
        Hash32-sync,
        Node-send,
        Node-sync,
        KeyRef-send,
        List-send,
        Deed-send,
        HashMap-send,
        frees,
        send,
        crosses,
        sendable,
      ) depth 40

  pub ReadCache-sync : IsSend H → IsSync H → IsSync (ReadCache.the_row H g)
  ReadCache-sync s y = let shard = Shard-send s in search (crosses, sendable) depth 20
