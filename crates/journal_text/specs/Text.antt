-- The printed text of a journal. Numbers are decimal, and bytes are upper-case hexadecimal digits.
use Rattle.std.specs.Prelude.{ℕ, List, [], ◌∷◌, ◌++◌, length, codes, flat_map, Bool, true, false, Option, Some, None}
use Rattle.std.specs.Fmt.{decimal}
use Rattle.hex.specs.Hex.{encode_upper}
use Rattle.nib_path.specs.Paths.{id_wire}
use Rattle.ledger_spec.specs.Bytes.{Bytes, Hash}
use Rattle.ledger_spec.specs.Forms.{Held}
use Rattle.ledger_spec.specs.declared.Kind.{Kind}
use Rattle.ledger_spec.specs.declared.Kind.TheVariants.{State, Tx, Set}
use Rattle.ledger_spec.specs.declared.Place.{Place}
use Rattle.ledger_spec.specs.declared.Place.TheVariants.{Header, Node}
use Rattle.shamap_node.specs.Nodes.{held}
use Rattle.ledger_machine.specs.Reading.{leaf_entry}
use Rattle.ledger_machine.specs.Commands.{word_of}
use Rattle.ledger_machine.specs.declared.commands.Command.{Command}
use Rattle.ledger_machine.specs.declared.commands.Record.{Record}
use Rattle.ledger_machine.specs.declared.journal.Entry.{Entry}
use Rattle.ledger_machine.specs.declared.journal.Totals.{Totals}
use Rattle.ledger_spec.specs.declared.outcomes.HeadOffered.{HeadOffered}
use Rattle.ledger_spec.specs.declared.outcomes.HeadOffered.TheVariants as head
use Rattle.ledger_spec.specs.declared.outcomes.Offered.{Offered}
use Rattle.ledger_spec.specs.declared.outcomes.Offered.TheVariants as offered
use Rattle.ledger_machine.specs.declared.commands.WantReply.{WantReply}
use Rattle.ledger_machine.specs.declared.commands.WantReply.TheVariants as want
use Rattle.ledger_spec.specs.declared.replies.PeerReply.{PeerReply}
use Rattle.ledger_spec.specs.declared.replies.PeerReply.TheVariants as peer
use Rattle.ledger_spec.specs.declared.replies.BaseReply.{BaseReply}
use Rattle.ledger_spec.specs.declared.replies.BaseReply.TheVariants as base
use Rattle.ledger_spec.specs.declared.replies.NodeReply.{NodeReply}
use Rattle.ledger_spec.specs.declared.replies.NodeReply.TheVariants as node
use Rattle.ledger_spec.specs.declared.replies.CheckReply.{CheckReply}
use Rattle.ledger_spec.specs.declared.replies.CheckReply.TheVariants as check
use Rattle.ledger_spec.specs.declared.replies.TickReply.{TickReply}
use Rattle.ledger_spec.specs.declared.replies.TickReply.TheVariants as tick
use Rattle.ledger_machine.specs.declared.commands.ViewReply.{ViewReply}
use Rattle.ledger_machine.specs.declared.commands.ViewReply.TheVariants as view
use Rattle.ledger_machine.specs.declared.commands.GetReply.{GetReply}
use Rattle.ledger_machine.specs.declared.commands.GetReply.TheVariants as get
use Rattle.ledger_machine.specs.declared.commands.PageReply.{PageReply}
use Rattle.ledger_machine.specs.declared.commands.PageReply.TheVariants as page
use Rattle.ledger_machine.specs.declared.commands.EditReply.{EditReply}
use Rattle.ledger_machine.specs.declared.commands.EditReply.TheVariants as edit
use Rattle.ledger_machine.specs.declared.commands.DelReply.{DelReply}
use Rattle.ledger_machine.specs.declared.commands.DelReply.TheVariants as del
use Rattle.ledger_machine.specs.declared.commands.CloseReply.{CloseReply}
use Rattle.ledger_machine.specs.declared.commands.CloseReply.TheVariants as close
use Rattle.ledger_machine.specs.declared.commands.BeginReply.{BeginReply}
use Rattle.ledger_machine.specs.declared.commands.BeginReply.TheVariants as begin
use Rattle.ledger_machine.specs.declared.commands.SwapReply.{SwapReply}
use Rattle.ledger_machine.specs.declared.commands.SwapReply.TheVariants as swap
use Rattle.ledger_machine.specs.declared.commands.Reply.{Reply}
use Rattle.ledger_machine.specs.declared.commands.Reply.TheVariants as reply

-- a hash's 64 digits
abbrev pub hash_text : Hash → Bytes
hash_text hash = encode_upper hash

-- bytes as digits, and `-` where there are none
abbrev pub bytes_text : Bytes → Bytes
bytes_text [] = codes "-"
bytes_text (b ∷ bytes) = encode_upper (b ∷ bytes)

-- the 66 digits of the ID of a path
abbrev pub id_text : List ℕ → Bytes
id_text path = encode_upper (id_wire path)

-- a map's name
abbrev pub kind_text : Kind → Bytes
kind_text State = codes "state"
kind_text Tx = codes "tx"
kind_text Set = codes "set"

-- a place in a ledger: its header, or a node of the named map
abbrev pub place_text : Place → Bytes
place_text Header = codes "header"
place_text (Node kind path) = kind_text kind ++ codes ":" ++ id_text path

-- places, a space before each
abbrev pub places_text : List Place → Bytes
places_text places = flat_map (λ p. codes " " ++ place_text p) places

-- the outcome of a header that a peer sent
abbrev pub head_text : HeadOffered → Bytes
head_text head.Good = codes "good"
head_text head.Duplicate = codes "duplicate"
head_text (head.BadLength n) = codes "bad length " ++ decimal n
head_text (head.BadHash found) = codes "bad hash " ++ hash_text found

-- the outcome of a node that a peer sent
abbrev pub offered_text : Offered → Bytes
offered_text offered.Good = codes "good"
offered_text offered.Duplicate = codes "duplicate"
offered_text (offered.BadWire cause) = codes "bad wire " ++ decimal cause
offered_text (offered.BadHash wanted found) = codes "bad hash " ++ hash_text found
offered_text offered.NoBase = codes "nobase"
offered_text (offered.NoParent path) = codes "noparent " ++ id_text path
offered_text (offered.EmptyBranch path) = codes "emptybranch " ++ id_text path
offered_text (offered.UnderLeaf path) = codes "underleaf " ++ id_text path
offered_text (offered.Malformed rule) = codes "malformed " ++ decimal rule

-- the outcome of a part behind the header, if it was given
abbrev pub part_text : Option Offered → Bytes
part_text None = []
part_text (Some outcome) = codes " / " ++ offered_text outcome

-- the answer to `want`
abbrev pub want_text : WantReply → Bytes
want_text want.Opened = codes "opened"
want_text want.Open = codes "open"
want_text want.Listed = codes "listed"
want_text (want.BelowFloor floor) = codes "below floor " ++ decimal floor
want_text want.TooMany = codes "toomany 64"

-- the answer to `peer`
abbrev pub peer_text : PeerReply → Bytes
peer_text peer.Added = codes "added"
peer_text peer.Known = codes "known"
peer_text peer.NotOpen = codes "notopen"

-- the answer to `base`: the outcomes of the header, of the state root and of the transaction root
abbrev pub base_text : BaseReply → Bytes
base_text (base.Parts header state tx) = head_text header ++ part_text state ++ part_text tx
base_text base.Unasked = codes "unasked"
base_text base.NotOpen = codes "notopen"

-- the answer to `node`
abbrev pub node_text : NodeReply → Bytes
node_text (node.One outcome) = offered_text outcome
node_text node.Unasked = codes "unasked"
node_text node.NotOpen = codes "notopen"

-- the answer to `check`
abbrev pub check_text : CheckReply → Bytes
check_text check.Complete = codes "complete"
check_text (check.Need peer places) = codes "need " ++ decimal peer ++ places_text places
check_text (check.Waiting n) = codes "waiting " ++ decimal n
check_text check.NoPeer = codes "nopeer"
check_text (check.SeqDiffers asked found) = codes "seqdiffers " ++ decimal asked ++ codes " " ++ decimal found
check_text check.ZeroState = codes "zerostate"
check_text (check.BelowFloor floor) = codes "below floor " ++ decimal floor
check_text (check.Malformed place rule) = codes "malformed " ++ place_text place ++ codes " " ++ decimal rule
check_text check.NotOpen = codes "notopen"

-- the answer to `tick`
abbrev pub tick_text : TickReply → Bytes
tick_text (tick.Timeout n) = codes "timeout " ++ decimal n
tick_text (tick.GaveUp n) = codes "gaveup " ++ decimal n
tick_text tick.NotOpen = codes "notopen"

-- the answer to `view`
abbrev pub view_text : ViewReply → Bytes
view_text view.Fine = codes "ok"
view_text view.NotRetained = codes "notretained"
view_text view.InUse = codes "inuse"
view_text view.TooMany = codes "toomany 1024"

-- a value: the data of a leaf
abbrev pub value_text : Held → Bytes
value_text n = codes "value " ++ bytes_text (leaf_entry n).1

-- an item: the key and the data of a leaf
abbrev pub item_text : Held → Bytes
item_text n = codes " " ++ hash_text (leaf_entry n).0 ++ codes "=" ++ bytes_text (leaf_entry n).1

-- the answer to `get`
abbrev pub get_text : GetReply → Bytes
get_text (get.Value n) = value_text (held n.value)
get_text get.Nothing = codes "none"
get_text get.NoView = codes "noview"

-- the answer to `page`
abbrev pub page_text : PageReply → Bytes
page_text (page.Items leaves) = codes "items " ++ decimal (length leaves.items) ++ flat_map (λ l. item_text (held l.value)) leaves.items
page_text page.NoView = codes "noview"

-- the answer to `edit`
abbrev pub edit_text : EditReply → Bytes
edit_text edit.Fine = codes "ok"
edit_text edit.NotRetained = codes "notretained"
edit_text edit.LastSeq = codes "lastseq"
edit_text edit.InUse = codes "inuse"
edit_text edit.TooMany = codes "toomany 64"

-- the answer to `del`
abbrev pub del_text : DelReply → Bytes
del_text del.Fine = codes "ok"
del_text del.Absent = codes "absent"
del_text del.NoSession = codes "nosession"

-- the answer to `close`
abbrev pub close_text : CloseReply → Bytes
close_text (close.Closed hash) = codes "closed " ++ hash_text hash
close_text close.Listed = codes "listed"
close_text (close.BelowFloor floor) = codes "below floor " ++ decimal floor
close_text close.ZeroState = codes "zerostate"
close_text close.NoSession = codes "nosession"

-- the answer to `begin`
abbrev pub begin_text : BeginReply → Bytes
begin_text (begin.Begun seq floor) = codes "begun " ++ decimal seq ++ codes " " ++ decimal floor
begin_text begin.NotDue = codes "notdue"
begin_text begin.Busy = codes "busy"

-- the answer to `swap`
abbrev pub swap_text : SwapReply → Bytes
swap_text (swap.Swapped epoch) = codes "swapped " ++ decimal epoch
swap_text swap.Idle = codes "idle"

-- the answer to a command that ends a view
abbrev pub unview_text : Bool → Bytes
unview_text true = codes "ok"
unview_text false = codes "noview"

-- the answer to a command that changes a session
abbrev pub session_text : Bool → Bytes
session_text true = codes "ok"
session_text false = codes "nosession"

-- the answer to any command
abbrev pub reply_text : Reply → Bytes
reply_text reply.Fault = codes "fault"
reply_text reply.Memory = codes "memory"
reply_text (reply.Clash hash old new) = codes "clash " ++ hash_text hash ++ codes " " ++ bytes_text old ++ codes " " ++ bytes_text new
reply_text (reply.ZeroHash form) = codes "zerohash " ++ bytes_text form
reply_text (reply.Want r) = want_text r
reply_text (reply.Peer r) = peer_text r
reply_text (reply.Base r) = base_text r
reply_text (reply.Node r) = node_text r
reply_text (reply.Check r) = check_text r
reply_text (reply.Tick r) = tick_text r
reply_text (reply.View r) = view_text r
reply_text (reply.Unview done) = unview_text done
reply_text (reply.Get r) = get_text r
reply_text (reply.Page r) = page_text r
reply_text (reply.Edit r) = edit_text r
reply_text (reply.Put done) = session_text done
reply_text (reply.Tx done) = session_text done
reply_text (reply.Abandon done) = session_text done
reply_text (reply.Del r) = del_text r
reply_text (reply.Close r) = close_text r
reply_text (reply.Begin r) = begin_text r
reply_text (reply.Swap r) = swap_text r

-- the line of an entry: its number, its actor, the command's word and the reply
abbrev pub entry_text : Command → Entry → Bytes
entry_text command e =
    decimal e.line ++ codes " " ++ decimal e.actor ++ codes " " ++ word_of command ++ codes " " ++ reply_text e.reply ++ codes "\n"

-- a number, and `-` while it is unset
abbrev pub optional_text : Option ℕ → Bytes
optional_text None = codes "-"
optional_text (Some n) = decimal n

-- the last line: how many ledgers were completed, closed and are listed, the floor, the last sequence and the epoch
abbrev pub summary_text : Totals → Bytes
summary_text t =
    codes "end complete " ++ decimal t.complete ++ codes " closed " ++ decimal t.closed ++ codes " listed " ++ decimal t.listed
    ++ codes " floor " ++ decimal t.floor ++ codes " last " ++ optional_text t.last ++ codes " epoch " ++ decimal t.epoch ++ codes "\n"

-- a record: the word, the hash and the form
abbrev pub record_text : Record → Bytes
record_text r = codes "store " ++ hash_text r.hash ++ codes " " ++ bytes_text r.form ++ codes "\n"
