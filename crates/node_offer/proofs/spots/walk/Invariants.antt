use Rattle.std.proofs.Common.{◌≡◌, ◌≤◌, ◌+◌, ◌*◌, [], None, take, drop}
use Rattle.std.specs.FinMap as map
use Rattle.std.specs.Option.{option_and_then}
use Rattle.ledger_spec.specs.Forms.{inner_of}
use Rattle.ledger_spec.specs.Spots.{spot_from}
use Rattle.ledger_spec.specs.Own.{own_forms}
use Rattle.node_backend.specs.Filling.{filled}
use Rattle.rotating_store.specs.Stores.{nodes_of}
use Rattle.rotating_store.specs.Reading.{WasRead, IsReadable}
use Rattle.node_offer.proofs.spots.walk.Given as goal

-- the store was only read, each backend at most once for a level, and what is left of the way leads where the whole way does
abbrev pub invariant-loop-depth : goal.invariant-loop-depth
invariant-loop-depth g l =
    WasRead g.Sh.B.Backend.tells g.H.NodeHash.half l.initial.store l.store
    × (IsReadable g.Sh.B.Backend.tells g.H.NodeHash.half l.initial.store
    → spot_from (own_forms g.H.NodeHash.half (map.get (nodes_of l.initial.store))) (take l.depth l.id)
    (option_and_then inner_of (filled l.below l.room.items)) l.hash (drop l.depth l.id)
    ≡ spot_from (own_forms g.H.NodeHash.half (map.get (nodes_of l.initial.store))) [] None l.fn.root l.id)
    × (l.store.gets ≤ l.initial.store.gets + 2 * l.depth)
