-- A core may go to another thread, and so may the lock that it lies under.
use denote.RattleType.{RattleType}
use denote.Param.Send.{IsSend, IsSync, sendable, AllSend, recorded_send, struct_send}
use denote.Struct.Declared.{shape, fields}
use Rattle.std.proofs.Crossing.{crosses, send, frees}
use Rattle.std.proofs.MapsCrossing.{crosses as maps, HashMap-send}
use Rattle.std.proofs.MapsCrossingOver.{BTreeSet-send, HashSet-send}
use Rattle.lru.proofs.Crosses.{KeyRef-send, List-send, Deed-send}
use Rattle.std.specs.contracts.sync.Mutex as Mutex
use Rattle.half_hash.specs.declared.NodeHash as hashes
use Rattle.half_hash.proofs.shared.Crossing.{Hash32-send, Hash32-sync}
use Rattle.shamap_node.proofs.shared.Crossing.{Node-send, Node-sync}
use Rattle.node_backend.specs.declared.back.Shelf as shelves
use Rattle.node_backend.specs.declared.back.Backend as backends
use Rattle.ledger_machine.specs.contracts.base_box.BaseBox as BaseBox
use Rattle.tree_cache.specs.contracts.cache.TreeCache as TreeCache
use Rattle.full_below.specs.contracts.marks.Marks as Marks
use Rattle.ledger_searches.specs.contracts.hunt.Hunt as Hunt
use Rattle.ledger_searches.specs.contracts.searches.Searches as Searches
use Rattle.rotating_store.specs.contracts.unchecked.Unchecked as Unchecked
use Rattle.rotating_store.specs.contracts.store.RotStore as RotStore
use Rattle.rotating_store.specs.contracts.store.RotStore.TheInside as RotStoreIn
use Rattle.acquire_core.specs.contracts.acquire.Acquire as Acquire
use Rattle.online_rotate.specs.contracts.rotator.Rotator as Rotator
use Rattle.retain_book.specs.contracts.Book as Book
use Rattle.cow_map.specs.contracts.table.Table as Table
use Rattle.open_sessions.specs.contracts.open.Open as Open
use Rattle.core_machine.specs.contracts.tables.Tables as Tables
use Rattle.core_machine.specs.contracts.tables.Tables.TheInside as TablesIn
use Rattle.core_machine.specs.contracts.machine.Machine as Machine
use Rattle.core_machine.specs.contracts.machine.Machine.TheInside as MachineIn
use Rattle.store_core.specs.contracts.hall.Hall as Hall
use Rattle.store_core.specs.contracts.hall.Hall.TheInside as HallIn
use Rattle.store_core.specs.contracts.core_calls.Core as Core
use Rattle.store_core.specs.contracts.core_calls.Core.TheInside as CoreIn
use Rattle.actor_pool.specs.declared.shared.Pinned as pins
use Rattle.actor_pool.specs.contracts.shared.Hold as Hold
use Rattle.actor_pool.specs.contracts.shared.Shared as Shared
use Rattle.actor_pool.specs.contracts.shared.Shared.TheInside as SharedIn

Hold-send : IsSend Hold.the_row
Hold-send = search sendable depth 30

BaseBox-send : IsSend BaseBox.the_row
BaseBox-send = search (Hash32-send, crosses, sendable) depth 60 fits 100000

TreeCache-send : IsSend (TreeCache.the_field).row
TreeCache-send =
    search (
      Hash32-send,
      Hash32-sync,
      Node-send,
      Node-sync,
      KeyRef-send,
      List-send,
      Deed-send,
      HashMap-send,
      frees,
      send,
      crosses,
      sendable,
    ) depth 40

Marks-send : IsSend (Marks.the_field).row
Marks-send = search (Hash32-send, Hash32-sync, KeyRef-send, List-send, Deed-send, HashMap-send, frees, send, crosses, sendable) depth 40

Hunt-send : IsSend Hunt.the_row
Hunt-send = search (Hash32-send, Node-send, Node-sync, frees, send, crosses, maps, sendable) depth 60 fits 100000

Unchecked-send : IsSend Unchecked.the_row
Unchecked-send = search (Hash32-send, HashSet-send, HashMap-send, frees, send, crosses, maps, sendable) depth 40

Acquire-send : IsSend Acquire.the_row
Acquire-send = search (Hash32-send, crosses, maps, sendable) depth 40

Rotator-send : IsSend Rotator.the_row
Rotator-send = search (Hash32-send, HashSet-send, HashMap-send, frees, send, crosses, maps, sendable) depth 40

Book-send : IsSend Book.the_row
Book-send = search (Hash32-send, crosses, maps, sendable) depth 40

-- what a map's nodes share of the source's
Table-send : IsSend Table.the_row
Table-send = search (Hash32-send, Hash32-sync, Node-send, Node-sync, crosses, sendable) depth 40

Table-sync : IsSync Table.the_row
Table-sync = search (Hash32-send, Hash32-sync, Node-send, Node-sync, crosses, sendable) depth 40

Open-send : IsSend Open.the_row
Open-send = search (Hash32-send, Hash32-sync, Table-send, Table-sync, crosses, maps, sendable) depth 60 fits 100000

Searches-send : IsSend (Searches.the_field).row
Searches-send =
    let all : AllSend (fields Searches.the_type) =
    (TreeCache-send, (Marks-send, (search (Hunt-send, crosses, send, sendable) depth 20, tt))) in
    let i : IsSend Searches.the_row = recorded_send _ _ _ Searches.the_type.to_one (struct_send (shape Searches.the_type) all) in
    search sendable depth 20

module _ (Sh B : RattleType) (s : shelves.Ghosts Sh.Denot B.Denot) (b : backends.Ghosts B.Denot) where
  RotStore-send : IsSend Sh → IsSend B → IsSend (RotStore.the_row Sh B s b)
  RotStore-send y q =
      let all : AllSend (fields (RotStoreIn.the_type Sh B s b)) = (
        y,
        (
          q,
          (
            q,
            (
              search (q, crosses, sendable) depth 10,
              (search sendable, (search sendable, (search sendable, (Unchecked-send, (search (crosses, sendable) depth 40, tt))))),
            ),
          ),
        ),
      ) in
      let i : IsSend (RotStoreIn.the_row Sh B s b) =
      recorded_send _ _ _ (RotStoreIn.the_type Sh B s b).to_one (struct_send (shape (RotStoreIn.the_type Sh B s b)) all) in
      search sendable depth 20

module _ (H Sh B : RattleType) (h : hashes.Ghosts H.Denot) (s : shelves.Ghosts Sh.Denot B.Denot) (b : backends.Ghosts B.Denot) where
  Tables-send : IsSend H → IsSend Sh → IsSend B → IsSend (Tables.the_row H Sh B h s b)
  Tables-send x y q =
      let all : AllSend (fields (TablesIn.the_type H Sh B h s b)) = (
        x,
        (
          RotStore-send Sh B s b y q,
          (
            search (Hash32-send, Acquire-send, crosses, maps, send, sendable) depth 40,
            (
              search (Hash32-send, crosses, maps, send, sendable) depth 40,
              (Book-send, (Rotator-send, tt)),
            ),
          ),
        ),
      ) in
      let i : IsSend (TablesIn.the_row H Sh B h s b) =
      recorded_send _ _ _ (TablesIn.the_type H Sh B h s b).to_one (struct_send (shape (TablesIn.the_type H Sh B h s b)) all) in
      search sendable depth 20

  Machine-send : IsSend H → IsSend Sh → IsSend B → IsSend (Machine.the_row H Sh B h s b)
  Machine-send x y q =
      let all : AllSend (fields (MachineIn.the_type H Sh B h s b)) =
      (Tables-send x y q, (Open-send, tt)) in
      let i : IsSend (MachineIn.the_row H Sh B h s b) =
      recorded_send _ _ _ (MachineIn.the_type H Sh B h s b).to_one (struct_send (shape (MachineIn.the_type H Sh B h s b)) all) in
      search sendable depth 20

  Hall-send : IsSend H → IsSend Sh → IsSend B → IsSend (Hall.the_row H Sh B h s b)
  Hall-send x y q =
      let all : AllSend (fields (HallIn.the_type H Sh B h s b)) =
      (Machine-send x y q, (search (Hash32-send, crosses, maps, send, sendable) depth 40, tt)) in
      let i : IsSend (HallIn.the_row H Sh B h s b) =
      recorded_send _ _ _ (HallIn.the_type H Sh B h s b).to_one (struct_send (shape (HallIn.the_type H Sh B h s b)) all) in
      search sendable depth 20

  pub Core-send : IsSend H → IsSend Sh → IsSend B → IsSend (Core.the_row H Sh B h s b)
  Core-send x y q =
      let all : AllSend (fields (CoreIn.the_type H Sh B h s b)) = (
        search (Hash32-send, Node-send, Node-sync, crosses, send, sendable) depth 60 fits 100000,
        (
          search sendable,
          (
            search sendable,
            (
              search sendable,
              (
                search (crosses, sendable) depth 40,
                (
                  search (crosses, sendable) depth 40,
                  (
                    search (Hash32-send, BaseBox-send, Node-send, Node-sync, crosses, send, sendable) depth 60 fits 100000,
                    (Hall-send x y q, (Searches-send, tt)),
                  ),
                ),
              ),
            ),
          ),
        ),
      ) in
      let i : IsSend (CoreIn.the_row H Sh B h s b) =
      recorded_send _ _ _ (CoreIn.the_type H Sh B h s b).to_one (struct_send (shape (CoreIn.the_type H Sh B h s b)) all) in
      search sendable depth 20

  module _ (J : RattleType) (p : pins.Ghosts J.Denot) where
    pub Shared-sync : IsSend H → IsSend Sh → IsSend B → IsSend J → IsSync (Mutex.the_row (Shared.the_row H Sh J B h s b p))
    Shared-sync x y q z =
        let core = Core-send x y q in
        let all : AllSend (fields (SharedIn.the_type H Sh J B h s b p)) = (
          core,
          (
            search sendable,
            (search sendable, (search (Hold-send, sendable) depth 30, (search sendable, (search sendable depth 20, tt)))),
          ),
        ) in
        let i : IsSend (SharedIn.the_row H Sh J B h s b p) =
        recorded_send _ _ _ (SharedIn.the_type H Sh J B h s b p).to_one (struct_send (shape (SharedIn.the_type H Sh J B h s b p)) all) in
        let shared : IsSend (Shared.the_row H Sh J B h s b p) = search sendable depth 20 in
        search crosses depth 5
