-- The commands that are read: their words, and what stands behind them.
use Rattle.std.specs.Prelude.{◌≡◌, ◌≢◌, ◌⊎◌, ◌<◌, ℕ, List, [], ◌∷◌, length, codes, IsTrue, Option, None, Some, MatchOption}
use Rattle.ledger_spec.specs.Bytes.{Bytes, Hash, is_zero}
use Rattle.ledger_spec.specs.Forms.{data_limit}
use Rattle.ledger_spec.specs.declared.Kind.{Kind}
use Rattle.ledger_machine.specs.declared.commands.Command.{Command}
use Rattle.ledger_machine.specs.declared.commands.Command.TheVariants as command
use Rattle.shamap_node.specs.declared.parts.Item.{Item}
use Rattle.shamap_node.specs.Items.{Keeps}
use Rattle.half_hash.specs.Hex.{IsHexOf}
use Rattle.script_form.specs.declared.forms.Argument.{Argument}
use Rattle.script_form.specs.declared.forms.Argument.TheVariants as argument
use Rattle.script_form.specs.declared.forms.Form.{Form}
use Rattle.script_form.specs.declared.forms.Form.TheVariants as form
use Rattle.script_form.specs.declared.forms.Ways.{Ways}
use Rattle.script_form.specs.declared.forms.Ways.TheVariants as ways
use Rattle.script_form.specs.declared.cause.Cause.{Cause}
use Rattle.script_form.specs.declared.cause.Cause.TheVariants as cause
use Rattle.script_form.specs.Words.{IsNumber, IsCount, IsTarget, IsKind, IsIdText, IsId, IsBlob, IsData}

-- a form's command word
abbrev pub word_in : Form → Bytes
word_in form.Want = codes "want"
word_in form.Peer = codes "peer"
word_in form.Base = codes "base"
word_in form.BaseState = codes "base"
word_in form.BaseTx = codes "base"
word_in form.Node = codes "node"
word_in form.Check = codes "check"
word_in form.Tick = codes "tick"
word_in form.View = codes "view"
word_in form.Unview = codes "unview"
word_in form.Get = codes "get"
word_in form.Page = codes "page"
word_in form.Edit = codes "edit"
word_in form.Put = codes "put"
word_in form.Del = codes "del"
word_in form.Tx = codes "tx"
word_in form.Close = codes "close"
word_in form.Abandon = codes "abandon"
word_in form.Begin = codes "begin"
word_in form.Swap = codes "swap"

-- a form's arguments, in order: T and SEQ; P and T; P, T and HEADER, with STATE, with STATE and TX; P, T, KIND, ID and BLOB; T; T;
-- V and T; V; V, KIND and KEY; V, KIND, KEY and N; S and T; S, KEY and DATA; S and KEY; S, KEY and DATA;
-- S, DROPS, TIME, RESOLUTION and FLAGS; S; none; none
abbrev pub arguments_in : Form → List Argument
arguments_in form.Want = argument.Target ∷ argument.Number 4294967295 ∷ []
arguments_in form.Peer = argument.Number 65535 ∷ argument.Target ∷ []
arguments_in form.Base = argument.Number 65535 ∷ argument.Target ∷ argument.Blob ∷ []
arguments_in form.BaseState = argument.Number 65535 ∷ argument.Target ∷ argument.Blob ∷ argument.Blob ∷ []
arguments_in form.BaseTx = argument.Number 65535 ∷ argument.Target ∷ argument.Blob ∷ argument.Blob ∷ argument.Blob ∷ []
arguments_in form.Node = argument.Number 65535 ∷ argument.Target ∷ argument.Kind ∷ argument.Id ∷ argument.Blob ∷ []
arguments_in form.Check = argument.Target ∷ []
arguments_in form.Tick = argument.Target ∷ []
arguments_in form.View = argument.Number 65535 ∷ argument.Target ∷ []
arguments_in form.Unview = argument.Number 65535 ∷ []
arguments_in form.Get = argument.Number 65535 ∷ argument.Kind ∷ argument.Target ∷ []
arguments_in form.Page = argument.Number 65535 ∷ argument.Kind ∷ argument.Key ∷ argument.Count 256 ∷ []
arguments_in form.Edit = argument.Number 65535 ∷ argument.Target ∷ []
arguments_in form.Put = argument.Number 65535 ∷ argument.Target ∷ argument.Data ∷ []
arguments_in form.Del = argument.Number 65535 ∷ argument.Target ∷ []
arguments_in form.Tx = argument.Number 65535 ∷ argument.Target ∷ argument.Data ∷ []
arguments_in form.Close = argument.Number 65535 ∷ argument.Number 18446744073709551615 ∷ argument.Number 4294967295
    ∷ argument.Number 255 ∷ argument.Number 255 ∷ []
arguments_in form.Abandon = argument.Number 65535 ∷ []
arguments_in form.Begin = []
arguments_in form.Swap = []

-- what a word says in an argument's place: a number, a hash, a kind, a path, bytes
abbrev pub ArgumentOf : Argument → Type 0
ArgumentOf (argument.Number most) = ℕ
ArgumentOf (argument.Count most) = ℕ
ArgumentOf argument.Target = Hash
ArgumentOf argument.Key = Hash
ArgumentOf argument.Kind = Kind
ArgumentOf argument.Id = List ℕ
ArgumentOf argument.Blob = Bytes
ArgumentOf argument.Data = Bytes

-- the word says it
abbrev pub SaysArgument : (a : Argument) → Bytes → ArgumentOf a → Type 0
SaysArgument (argument.Number most) word n = IsNumber word most n
SaysArgument (argument.Count most) word n = IsCount word most n
SaysArgument argument.Target word hash = IsTarget word hash
SaysArgument argument.Key word hash = IsHexOf word hash
SaysArgument argument.Kind word kind = IsKind word kind
SaysArgument argument.Id word path = IsId word path
SaysArgument argument.Blob word bytes = IsBlob word bytes
SaysArgument argument.Data word bytes = IsData word bytes

-- what words say in the places of arguments, in order
abbrev pub ArgumentsOf : List Argument → Type 0
ArgumentsOf [] = Unit {0}
ArgumentsOf (a ∷ arguments) = ArgumentOf a × ArgumentsOf arguments

-- the words say it, one word an argument
abbrev pub SayArguments : (arguments : List Argument) → List Bytes → ArgumentsOf arguments → Type 0
SayArguments [] [] v = Unit {0}
SayArguments [] (word ∷ words) v = ⊥
SayArguments (a ∷ arguments) [] v = ⊥
SayArguments (a ∷ arguments) (word ∷ words) v = SaysArgument a word v.0 × SayArguments arguments words v.1

-- this is the command of a form with these arguments; an item has the key and the data that are given
abbrev pub Makes : (f : Form) → ArgumentsOf (arguments_in f) → Command → Type 0
Makes form.Want v c = c ≡ command.Want v.0 v.1.0
Makes form.Peer v c = c ≡ command.Peer v.0 v.1.0
Makes form.Base v c = c ≡ command.Base v.0 v.1.0 v.1.1.0 None None
Makes form.BaseState v c = c ≡ command.Base v.0 v.1.0 v.1.1.0 (Some v.1.1.1.0) None
Makes form.BaseTx v c = c ≡ command.Base v.0 v.1.0 v.1.1.0 (Some v.1.1.1.0) (Some v.1.1.1.1.0)
Makes form.Node v c = c ≡ command.Node v.0 v.1.0 v.1.1.0 v.1.1.1.0 v.1.1.1.1.0
Makes form.Check v c = c ≡ command.Check v.0
Makes form.Tick v c = c ≡ command.Tick v.0
Makes form.View v c = c ≡ command.View v.0 v.1.0
Makes form.Unview v c = c ≡ command.Unview v.0
Makes form.Get v c = c ≡ command.Get v.0 v.1.0 v.1.1.0
Makes form.Page v c = c ≡ command.Page v.0 v.1.0 v.1.1.0 v.1.1.1.0
Makes form.Edit v c = c ≡ command.Edit v.0 v.1.0
Makes form.Put v c = (item : Item) × Keeps item v.1.0 v.1.1.0 × (c ≡ command.Put v.0 item)
Makes form.Del v c = c ≡ command.Del v.0 v.1.0
Makes form.Tx v c = (item : Item) × Keeps item v.1.0 v.1.1.0 × (c ≡ command.Tx v.0 item)
Makes form.Close v c = c ≡ command.Close v.0 (v.1.0 ∷ v.1.1.0 ∷ v.1.1.1.0 ∷ v.1.1.1.1.0 ∷ [])
Makes form.Abandon v c = c ≡ command.Abandon v.0
Makes form.Begin v c = c ≡ command.Begin
Makes form.Swap v c = c ≡ command.Swap

-- the words behind a form's word say the command
abbrev pub FormSays : Form → List Bytes → Command → Type 0
FormSays f words c = (v : ArgumentsOf (arguments_in f)) × SayArguments (arguments_in f) words v × Makes f v c

-- they say it, as one fact
pub record IsSaid (f : Form) (words : List Bytes) (c : Command) : Type 0 where
  pub says : FormSays f words c

-- they say no command
pub record SaysNone (f : Form) (words : List Bytes) : Type 0 where
  pub none : (c : Command) → FormSays f words c → ⊥

-- what was read of them: the command that they say, or none where they say none
abbrev pub IsReadAs : Form → List Bytes → Option Command → Type 0
IsReadAs f words found = MatchOption found (SaysNone f words) (IsSaid f words)

-- the first three words say a peer, a target and a header
abbrev pub SaysHead : List Bytes → ℕ → Hash → Bytes → Type 0
SaysHead (peer ∷ target ∷ header ∷ words) p t head = IsNumber peer 65535 p × IsTarget target t × IsBlob header head
SaysHead _ p t head = ⊥

-- the words say a session, a key and an item's data
abbrev pub SaysItem : List Bytes → ℕ → Hash → Bytes → Type 0
SaysItem (session ∷ key ∷ value ∷ []) x k bytes = IsNumber session 65535 x × IsTarget key k × IsData value bytes
SaysItem _ x k bytes = ⊥

-- a command's word and its arguments say the command
abbrev pub CallSays : List Bytes → Command → Type 0
CallSays [] c = ⊥
CallSays (word ∷ words) c = (f : Form) × (word ≡ word_in f) × FormSays f words c

-- in which ways a word can be wrong in an argument's place: it says nothing there, or one of two ways
abbrev pub ways_in : Argument → Ways
ways_in (argument.Number most) = ways.Nothing cause.BadNumber
ways_in (argument.Count most) = ways.Nothing cause.BadNumber
ways_in argument.Target = ways.Target
ways_in argument.Key = ways.Nothing cause.BadHex
ways_in argument.Kind = ways.Nothing cause.BadKindOrId
ways_in argument.Id = ways.Id
ways_in argument.Blob = ways.Nothing cause.BadHex
ways_in argument.Data = ways.Data

-- the word says nothing in an argument's place
pub record SaysNothing (a : Argument) (word : Bytes) : Type 0 where
  pub none : (v : ArgumentOf a) → SaysArgument a word v → ⊥

-- a target's word is wrong for this cause: it is no hash, or one that is zero
abbrev pub IsWrongTarget : Cause → Bytes → Type 0
IsWrongTarget cause.BadHex word = (hash : Hash) → IsHexOf word hash → ⊥
IsWrongTarget cause.ZeroTarget word = (hash : Hash) × IsHexOf word hash × IsTrue (is_zero hash)
IsWrongTarget _ _ = ⊥

-- a node ID's: it isn't 66 digits, or they are no node ID
abbrev pub IsWrongId : Cause → Bytes → Type 0
IsWrongId cause.BadHex word = (bytes : Bytes) → IsIdText word bytes → ⊥
IsWrongId cause.BadKindOrId word = (path : List ℕ) → IsId word path → ⊥
IsWrongId _ _ = ⊥

-- that of an item's data: it is no bytes, or too many
abbrev pub IsWrongData : Cause → Bytes → Type 0
IsWrongData cause.BadHex word = (bytes : Bytes) → IsBlob word bytes → ⊥
IsWrongData cause.DataTooLong word = (bytes : Bytes) × IsBlob word bytes × (data_limit < length bytes)
IsWrongData _ _ = ⊥

-- a word in an argument's place is wrong for this cause, in one of these ways
abbrev pub IsWrongBy : Ways → Cause → Argument → Bytes → Type 0
IsWrongBy (ways.Nothing one) c a word = (c ≡ one) × SaysNothing a word
IsWrongBy ways.Target c a word = IsWrongTarget c word
IsWrongBy ways.Id c a word = IsWrongId c word
IsWrongBy ways.Data c a word = IsWrongData c word

-- a word in an argument's place is wrong for this cause
abbrev pub IsWrong : Cause → Argument → Bytes → Type 0
IsWrong c a word = IsWrongBy (ways_in a) c a word

-- one of the words is wrong in its place for this cause
abbrev pub HasWrong : Cause → List Argument → List Bytes → Type 0
HasWrong c (a ∷ arguments) (word ∷ words) = IsWrong c a word ⊎ HasWrong c arguments words
HasWrong c _ _ = ⊥

-- the cause stands at a call: a command's word and its arguments
abbrev pub CallHas : List Bytes → Cause → Type 0
CallHas [] cause.UnknownCommand = Unit {0}
CallHas (word ∷ words) cause.UnknownCommand = (f : Form) → word ≢ word_in f
CallHas (word ∷ words) cause.ArgumentCount = (f : Form) → word ≡ word_in f → length words ≢ length (arguments_in f)
CallHas (word ∷ words) c = (f : Form) × (word ≡ word_in f) × (length words ≡ length (arguments_in f)) × HasWrong c (arguments_in f) words
CallHas [] _ = ⊥
