use denote.RattleType.{RattleType}
use denote.Param.Send.{IsSend, IsSync, sendable, param_send, copied_send, copied_sync}
use denote.Param.{param, copied}
use Rattle.std.proofs.Common.{rules}
use Rattle.std.proofs.Crossing.{send}
use Rattle.read_cache.proofs.shared.Crossing.{ReadCache-sync}
use Rattle.read_cache.specs.contracts.cache.ReadCache as ReadCache
use Rattle.actor_pool.proofs.Crossing.{Shared-sync}
use Rattle.actor_pool.proofs.pool.fn.run_round.scope.Goals as goal
use Rattle.actor_pool.proofs.pool.fn.run_round.scope.Lts as lts

-- a worker has the lock and the cache from its scope, and numbers of its own
pub spawn-requires-send-F : goal.spawn-requires-send-F
spawn-requires-send-F g c κs lives =
    let s : IsSend g.row.H = search rules in
    let y : IsSync g.row.H = search rules in
    let t : IsSend g.row.Sh = search rules in
    let q : IsSend g.row.Sh-B = search rules in
    let u : IsSend g.row.J = search rules in
    let r : IsSync g.row.R = search rules in
    let v : IsSync g.row.G = search rules in
    let cache = ReadCache-sync (copied 1 g.row.H) g.H.NodeHash (copied_send 1 g.row.H s) (copied_sync 1 g.row.H y) in
    let lock = Shared-sync (copied 1 g.row.H) (param 2 g.row.Sh) (param 5 g.row.Sh-B) g.H.NodeHash g.Sh.Shelf g.Sh.B.Backend
    (param 4 g.row.J) g.J.Pinned (copied_send 1 g.row.H s) (param_send 2 g.row.Sh t) (param_send 5 g.row.Sh-B q)
    (param_send 4 g.row.J u) in
    let row : RattleType = lts.arg-2-1 g.row.R g.row.H g.row.Sh g.row.G g.row.J g.row.Sh-B g.R.laws g.H.laws g.Sh.laws g.G.laws g.J.laws
    g.Sh.B.laws g.H.copy g.R.Threads g.R.Threads-dict g.R.Wait g.R.Wait-dict g.H.NodeHash g.H.NodeHash-dict g.H.Clone g.H.Clone-dict
    g.Sh.Shelf g.Sh.Shelf-dict g.Sh.B.Backend g.Sh.B.Backend-dict g.G.Gate g.G.Gate-dict g.J.Pinned g.J.Pinned-dict g.Sh.Destruct-dict
    g.Sh.B.Destruct-dict κs in
    let w : IsSend row = search (sendable, send) depth 30 in
    param_send 1 row w
