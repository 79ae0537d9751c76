-- A search that goes on has met no broken place, and few missing ones. For proofs of other crates.
use Rattle.std.proofs.Common.{◌≡◌, ◌<◌, ◌==◌, false, is_some, nat_le}
use Rattle.std.proofs.Common.{length}
use Rattle.std.proofs.Common.{None}
use Rattle.missing_walk.specs.declared.search.Search.{Search}
use Rattle.missing_walk.specs.Sees.{most_missing}
use Rattle.missing_walk.specs.Moves.{has_ended}
use Rattle.missing_walk.proofs.Heeding.{either, not_some, room_left}

pub goes_on : (s : Search) → has_ended s ≡ false → (s.broken ≡ None) × (length s.missing.items < 256)
goes_on s e =
    let parts = either (is_some s.broken) (nat_le most_missing (length s.missing.items)) (length s.stack.items == 0) e in
    (not_some s.broken parts.0, room_left (length s.missing.items) parts.1)
