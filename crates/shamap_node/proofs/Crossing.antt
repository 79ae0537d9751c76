-- Nodes may go to another thread, and may be read there. Without the lemmas on hashes and bytes the search gives up.
use denote.Param.Send.{IsSend, IsSync, sendable}
use Rattle.half_hash.proofs.shared.Crossing.{Hash32-send, Hash32-sync, Blob-send, Blob-sync}
use Rattle.shamap_node.specs.contracts.parts.Item as Item
use Rattle.shamap_node.specs.contracts.parts.Inner as Inner
use Rattle.shamap_node.specs.contracts.Leaf as Leaf

pub Item-send : IsSend Item.the_row
Item-send = search (Hash32-send, Blob-send, sendable) depth 30

pub Item-sync : IsSync Item.the_row
Item-sync = search (Hash32-sync, Blob-sync, sendable) depth 30

pub Inner-send : IsSend Inner.the_row
Inner-send = search (Hash32-send, sendable) depth 30

pub Inner-sync : IsSync Inner.the_row
Inner-sync = search (Hash32-sync, sendable) depth 30

pub Leaf-send : IsSend Leaf.the_row
Leaf-send = search (Hash32-send, Blob-send, sendable) depth 30

pub Leaf-sync : IsSync Leaf.the_row
Leaf-sync = search (Hash32-sync, Blob-sync, sendable) depth 30
