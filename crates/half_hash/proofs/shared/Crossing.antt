-- Hashes and bytes may go to another thread, and may be read there. For proofs of other crates.
use denote.Param.Send.{IsSend, IsSync, sendable}
use Rattle.std.proofs.Crossing.{Vec-send, Vec-sync}
use Rattle.half_hash.specs.contracts.hash32.Hash32 as Hash32
use Rattle.half_hash.specs.contracts.bytes.Blob as Blob

pub Hash32-send : IsSend Hash32.the_row
Hash32-send = search sendable depth 30

pub Hash32-sync : IsSync Hash32.the_row
Hash32-sync = search sendable depth 30

pub Blob-send : IsSend Blob.the_row
Blob-send = search (Vec-send, sendable) depth 30

pub Blob-sync : IsSync Blob.the_row
Blob-sync = search (Vec-sync, sendable) depth 30
