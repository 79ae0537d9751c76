-- What each command is, and what it does: a line for each command in each of the first five definitions, of which the others are said.
use Rattle.std.specs.Prelude.{◌≡◌, ℕ, ◌+◌, ◌≤◌, List, [], length, codes, IsTrue, Option, None, Some}
use Rattle.ledger_spec.specs.declared.Kind.{Kind}
use Rattle.ledger_spec.specs.Bytes.{Bytes, Hash, Half, is_nonzero}
use Rattle.ledger_spec.specs.Forms.{Held}
use Rattle.ledger_machine.specs.Limits.{most_listed}
use Rattle.ledger_machine.specs.declared.commands.Command.{Command}
use Rattle.ledger_machine.specs.declared.commands.Command.TheVariants as command
use Rattle.ledger_machine.specs.declared.commands.Nature.{Nature}
use Rattle.ledger_machine.specs.declared.commands.Nature.TheVariants as natures
use Rattle.ledger_machine.specs.declared.commands.GetReply.TheVariants as gets
use Rattle.ledger_machine.specs.declared.commands.PageReply.TheVariants as pages
use Rattle.ledger_machine.specs.declared.commands.SwapReply.TheVariants as swaps
use Rattle.ledger_machine.specs.declared.commands.Reply.{Reply}
use Rattle.ledger_machine.specs.declared.commands.Reply.TheVariants as says
use Rattle.ledger_machine.specs.Scripts.{IsLedgerMap, AreFields, AreBytes, AreOffered, IsNamedKey}
use Rattle.ledger_machine.specs.State.{State, stored_seq}
use Rattle.ledger_machine.specs.Want.{want_reply, after_want}
use Rattle.ledger_machine.specs.Peer.{peer_reply, after_peer}
use Rattle.ledger_machine.specs.Check.{check_reply, after_check}
use Rattle.ledger_machine.specs.Base.{base_reply, after_base, base_stores, node_reply, after_node, node_stores}
use Rattle.ledger_machine.specs.Ticks.{tick_reply, after_tick}
use Rattle.ledger_machine.specs.Views.{view_reply, after_view, unview_reply, after_unview}
use Rattle.ledger_machine.specs.Reading.{view_root, IsRead, IsPage}
use Rattle.ledger_machine.specs.Sessions.{edit_reply, after_edit, has_session, after_put, after_tx, del_reply, after_del, without_session}
use Rattle.ledger_machine.specs.Closing.{close_reply, after_close, close_forms}
use Rattle.ledger_machine.specs.Rotation.{begin_reply, after_begin, Begins, Swapped}

-- whether a command may be refused
pub data Refusal : Type 0 where
  may : Refusal
  never : Refusal

-- what a command does with a ledger: it opens the acquisition of one, searches one, lists the one that it closes into, or neither
pub data OfLedger : Type 0 where
  opens : Hash → OfLedger
  searches : Hash → OfLedger
  lists : OfLedger
  neither : OfLedger

-- what a command is: its word, what the core does for it, whether it may be refused, and what it does with a ledger
pub record Traits : Type 0 where
  pub word : Bytes
  pub nature : Nature
  pub refusal : Refusal
  pub ledger : OfLedger

-- what each command is; tick, unview and abandon take no memory and call no store, so they are never refused
abbrev pub traits_of : Command → Traits
traits_of (command.Want t seq) = record { word = codes "want"; nature = natures.Table; refusal = may; ledger = opens t }
traits_of (command.Peer p t) = record { word = codes "peer"; nature = natures.Table; refusal = may; ledger = neither }
traits_of (command.Base p t head state tx) = record { word = codes "base"; nature = natures.Table; refusal = may; ledger = neither }
traits_of (command.Node p t kind path blob) = record { word = codes "node"; nature = natures.Table; refusal = may; ledger = neither }
traits_of (command.Check t) = record { word = codes "check"; nature = natures.Check; refusal = may; ledger = searches t }
traits_of (command.Tick t) = record { word = codes "tick"; nature = natures.Table; refusal = never; ledger = neither }
traits_of (command.View v t) = record { word = codes "view"; nature = natures.View; refusal = may; ledger = neither }
traits_of (command.Unview v) = record { word = codes "unview"; nature = natures.Unview; refusal = never; ledger = neither }
traits_of (command.Get v kind key) = record { word = codes "get"; nature = natures.Read; refusal = may; ledger = neither }
traits_of (command.Page v kind key n) = record { word = codes "page"; nature = natures.Read; refusal = may; ledger = neither }
traits_of (command.Edit x t) = record { word = codes "edit"; nature = natures.Session; refusal = may; ledger = neither }
traits_of (command.Put x item) = record { word = codes "put"; nature = natures.Session; refusal = may; ledger = neither }
traits_of (command.Del x key) = record { word = codes "del"; nature = natures.Session; refusal = may; ledger = neither }
traits_of (command.Tx x item) = record { word = codes "tx"; nature = natures.Session; refusal = may; ledger = neither }
traits_of (command.Close x fields) = record { word = codes "close"; nature = natures.Session; refusal = may; ledger = lists }
traits_of (command.Abandon x) = record { word = codes "abandon"; nature = natures.Session; refusal = never; ledger = neither }
traits_of command.Begin = record { word = codes "begin"; nature = natures.Begin; refusal = may; ledger = neither }
traits_of command.Swap = record { word = codes "swap"; nature = natures.Swap; refusal = may; ledger = neither }

-- no target and no key is zero, but for the key that a page stands behind; a key that is read or removed is 32 bytes; maps are a ledger's,
-- and what is brought is bytes
abbrev pub IsInRange : Command → Type 0
IsInRange (command.Want t seq) = IsTrue (is_nonzero t)
IsInRange (command.Peer p t) = IsTrue (is_nonzero t)
IsInRange (command.Base p t head state tx) = AreOffered t head state tx
IsInRange (command.Node p t kind path blob) = IsTrue (is_nonzero t) × IsLedgerMap kind × AreBytes blob
IsInRange (command.Check t) = IsTrue (is_nonzero t)
IsInRange (command.Tick t) = IsTrue (is_nonzero t)
IsInRange (command.View v t) = IsTrue (is_nonzero t)
IsInRange (command.Unview v) = Unit {0}
IsInRange (command.Get v kind key) = IsTrue (is_nonzero key) × (length key ≡ 32) × AreBytes key × IsLedgerMap kind
IsInRange (command.Page v kind key n) = IsLedgerMap kind × (1 ≤ n) × (n ≤ most_listed)
IsInRange (command.Edit x t) = IsTrue (is_nonzero t)
IsInRange (command.Put x item) = AreBytes item.key × AreBytes item.value
IsInRange (command.Del x key) = IsNamedKey key
IsInRange (command.Tx x item) = AreBytes item.key × AreBytes item.value
IsInRange (command.Close x fields) = AreFields fields
IsInRange (command.Abandon x) = Unit {0}
IsInRange command.Begin = Unit {0}
IsInRange command.Swap = Unit {0}

-- the state after is this one, but for what a rotation keeps
abbrev pub IsAfter : State → State → Type 0
IsAfter t s' = s' ≡ record t { shaded = s'.shaded }

-- this reply, and this state after it
pub record Gives (r : Reply) (t : State) (reply : Reply) (s' : State) : Type 0 where
  pub says : reply ≡ r
  pub after : IsAfter t s'

abbrev pub Gets : Half → State → Kind → Hash → Option Hash → Reply → List Held → State → Type 0
Gets half s kind key None reply used s' = Gives (says.Get gets.NoView) s reply s'
Gets half s kind key (Some root) reply used s' = IsRead half kind key root reply used × IsAfter s s'

abbrev pub Pages : Half → State → Kind → Hash → ℕ → Option Hash → Reply → List Held → State → Type 0
Pages half s kind key n None reply used s' = Gives (says.Page pages.NoView) s reply s'
Pages half s kind key n (Some root) reply used s' = IsPage half s kind key n root reply used × IsAfter s s'

abbrev pub Swaps : State → Option ℕ → Reply → State → Type 0
Swaps s None reply s' = Gives (says.Swap swaps.Idle) s reply s'
Swaps s (Some v) reply s' = (reply ≡ says.Swap (swaps.Swapped (s.epoch + 1))) × Swapped s s'

-- the rows: the answer of each command, a clash or a zero hash among them
abbrev pub Answered : Half → State → ℕ → Command → Reply → List Held → State → Type 0
Answered half s a (command.Want t seq) reply used s' =
    Gives (says.Want (want_reply s t seq)) (after_want s t seq (want_reply s t seq)) reply s'
Answered half s a (command.Peer p t) reply used s' = Gives (says.Peer (peer_reply s p t)) (after_peer s p t) reply s'
Answered half s a (command.Base p t head state tx) reply used s' =
    Gives (base_reply half s p t head state tx) (after_base half s p t head state tx reply) reply s'
Answered half s a (command.Node p t kind path blob) reply used s' =
    Gives (node_reply half s p t kind path blob) (after_node half s p t kind path blob reply) reply s'
Answered half s a (command.Check t) reply used s' =
    Gives (says.Check (check_reply half s t)) (after_check s t (stored_seq s t) (check_reply half s t)) reply s'
Answered half s a (command.Tick t) reply used s' = Gives (says.Tick (tick_reply s t)) (after_tick s t (tick_reply s t)) reply s'
Answered half s a (command.View v t) reply used s' =
    Gives (says.View (view_reply s (a, v) t)) (after_view s (a, v) t (view_reply s (a, v) t)) reply s'
Answered half s a (command.Unview v) reply used s' = Gives (says.Unview (unview_reply s (a, v))) (after_unview s (a, v)) reply s'
Answered half s a (command.Get v kind key) reply used s' = Gets half s kind key (view_root s kind (a, v)) reply used s'
Answered half s a (command.Page v kind key n) reply used s' = Pages half s kind key n (view_root s kind (a, v)) reply used s'
Answered half s a (command.Edit x t) reply used s' =
    Gives (says.Edit (edit_reply s (a, x) t)) (after_edit half s (a, x) t (edit_reply s (a, x) t)) reply s'
Answered half s a (command.Put x item) reply used s' =
    Gives (says.Put (has_session s (a, x))) (after_put s (a, x) item.key item.value) reply s'
Answered half s a (command.Tx x item) reply used s' =
    Gives (says.Tx (has_session s (a, x))) (after_tx s (a, x) item.key item.value) reply s'
Answered half s a (command.Del x key) reply used s' = Gives (says.Del (del_reply s (a, x) key)) (after_del s (a, x) key) reply s'
Answered half s a (command.Close x fields) reply used s' =
    Gives (close_reply half s (a, x) fields) (after_close half s (a, x) fields reply) reply s'
Answered half s a (command.Abandon x) reply used s' = Gives (says.Abandon (has_session s (a, x))) (without_session s (a, x)) reply s'
Answered half s a command.Begin reply used s' =
    Gives (says.Begin (begin_reply s)) (after_begin s (begin_reply s)) reply s' × Begins (begin_reply s) s'
Answered half s a command.Swap reply used s' = Swaps s s.turning reply s'

-- a command's own forms: those that it would store
abbrev pub own_forms : Half → State → ℕ → Command → List Bytes
own_forms half s a (command.Want t seq) = []
own_forms half s a (command.Peer p t) = []
own_forms half s a (command.Base p t head state tx) = base_stores half s p t head state tx
own_forms half s a (command.Node p t kind path blob) = node_stores half s p t kind path blob
own_forms half s a (command.Check t) = []
own_forms half s a (command.Tick t) = []
own_forms half s a (command.View v t) = []
own_forms half s a (command.Unview v) = []
own_forms half s a (command.Get v kind key) = []
own_forms half s a (command.Page v kind key n) = []
own_forms half s a (command.Edit x t) = []
own_forms half s a (command.Put x item) = []
own_forms half s a (command.Del x key) = []
own_forms half s a (command.Tx x item) = []
own_forms half s a (command.Close x fields) = close_forms half s (a, x) fields
own_forms half s a (command.Abandon x) = []
own_forms half s a command.Begin = []
own_forms half s a command.Swap = []

-- the row of a command that may answer a clash or a zero hash has this reply
abbrev pub IsRow : Half → State → ℕ → Command → Reply → Type 0
IsRow half s a (command.Want t seq) reply = ⊥
IsRow half s a (command.Peer p t) reply = ⊥
IsRow half s a (command.Base p t head state tx) reply = reply ≡ base_reply half s p t head state tx
IsRow half s a (command.Node p t kind path blob) reply = reply ≡ node_reply half s p t kind path blob
IsRow half s a (command.Check t) reply = ⊥
IsRow half s a (command.Tick t) reply = ⊥
IsRow half s a (command.View v t) reply = ⊥
IsRow half s a (command.Unview v) reply = ⊥
IsRow half s a (command.Get v kind key) reply = ⊥
IsRow half s a (command.Page v kind key n) reply = ⊥
IsRow half s a (command.Edit x t) reply = ⊥
IsRow half s a (command.Put x item) reply = ⊥
IsRow half s a (command.Del x key) reply = ⊥
IsRow half s a (command.Tx x item) reply = ⊥
IsRow half s a (command.Close x fields) reply = reply ≡ close_reply half s (a, x) fields
IsRow half s a (command.Abandon x) reply = ⊥
IsRow half s a command.Begin reply = ⊥
IsRow half s a command.Swap reply = ⊥

-- a command's word
abbrev pub word_of : Command → Bytes
word_of c = (traits_of c).word

-- what the core does for a command
abbrev pub nature_of : Command → Nature
nature_of c = (traits_of c).nature

-- what may be refused
abbrev pub IsRefusable : Refusal → Type 0
IsRefusable may = Unit {0}
IsRefusable never = ⊥

abbrev pub MayBeRefused : Command → Type 0
MayBeRefused c = IsRefusable (traits_of c).refusal

-- what neither opens, changes and ends a session, nor sees which are open
abbrev pub SeesNoSession : Nature → Type 0
SeesNoSession natures.Table = Unit {0}
SeesNoSession natures.Check = Unit {0}
SeesNoSession natures.Read = Unit {0}
SeesNoSession natures.Unview = Unit {0}
SeesNoSession natures.View = ⊥
SeesNoSession natures.Session = ⊥
SeesNoSession natures.Begin = ⊥
SeesNoSession natures.Swap = ⊥

abbrev pub IsBeside : Command → Type 0
IsBeside c = SeesNoSession (nature_of c)

-- what neither begins nor ends a rotation
abbrev pub LeavesRotation : Nature → Type 0
LeavesRotation natures.Table = Unit {0}
LeavesRotation natures.Check = Unit {0}
LeavesRotation natures.Read = Unit {0}
LeavesRotation natures.Unview = Unit {0}
LeavesRotation natures.View = Unit {0}
LeavesRotation natures.Session = Unit {0}
LeavesRotation natures.Begin = ⊥
LeavesRotation natures.Swap = ⊥

abbrev pub IsSteady : Command → Type 0
IsSteady c = LeavesRotation (nature_of c)

-- the ledger that a command searches
abbrev pub searched_in : OfLedger → Option Hash
searched_in (searches t) = Some t
searched_in (opens t) = None
searched_in lists = None
searched_in neither = None

abbrev pub searched_by : Command → Option Hash
searched_by c = searched_in (traits_of c).ledger
