-- Nodes may go to another thread, and may be read there. For proofs of other crates.
use denote.Param.Send.{IsSend, IsSync, sendable}
use Rattle.half_hash.proofs.shared.Crossing.{Hash32-send, Hash32-sync, Blob-send, Blob-sync}
use Rattle.shamap_node.specs.contracts.Node as Node

pub Node-send : IsSend Node.the_row
Node-send = search (Hash32-send, Blob-send, sendable) depth 30

pub Node-sync : IsSync Node.the_row
Node-sync = search (Hash32-sync, Blob-sync, sendable) depth 30
