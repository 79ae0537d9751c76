-- What is said of a ledger, piece by piece: its header, then the items of its state in the order of their keys, then perhaps those of its
-- transactions.
use Rattle.std.specs.Prelude.{◌==◌, nat_lt, Bool, true, false, is_some, if◌then◌else◌, [], ◌∷◌, ◌++◌, length}
use Rattle.std.specs.Prelude.{Option, None, Some, Result, Ok, Err}
use Rattle.std.specs.List.{list_all}
use Rattle.std.specs.declared.cmp.Ordering.{Ordering}
use Rattle.std.specs.declared.cmp.Ordering.TheVariants.{Less}
use Rattle.hex.specs.Hex.{decode_of}
use Rattle.hex.specs.declared.error.FromHexError.{FromHexError}
use Rattle.ledger_spec.specs.Bytes.{Bytes, Hash, Items, is_zero, zero_hash}
use Rattle.ledger_spec.specs.Forms.{data_limit}
use Rattle.ledger_spec.specs.Maps.{hash_cmp}
use Rattle.ledger_spec.specs.Tree.{Entry}
use Rattle.audit_core.specs.declared.cause.Cause.{Cause}
use Rattle.audit_core.specs.declared.cause.Cause.TheVariants as causes

-- what was decoded, where it was
abbrev pub got : Result Bytes FromHexError → Option Bytes
got (Ok bytes) = Some bytes
got (Err e) = None

-- the bytes of hexadecimal digits of either case, where the text is such
abbrev pub digits_of : Bytes → Option Bytes
digits_of text = got (decode_of text)

-- a zero key, and else too much data
abbrev pub checked : Hash → Bytes → Result Entry Cause
checked key bytes =
    if is_zero key then Err causes.ZeroKey else if nat_lt data_limit (length bytes) then Err causes.TooMuch else Ok (key, bytes)

abbrev pub keyed : Option Bytes → Option Bytes → Result Entry Cause
keyed None bytes = Err causes.Key
keyed (Some key) None = Err causes.Data
keyed (Some key) (Some bytes) = checked key bytes

-- what is said so far
pub record Said : Type 0 where
  pub header : Bytes
  pub items : Items
  pub txs : Option Items

-- 118 bytes
abbrev pub headed : Option Bytes → Result Said Cause
headed None = Err causes.Header
headed (Some bytes) = if length bytes == 118 then Ok (record { header = bytes; items = []; txs = None }) else Err causes.Header

abbrev pub is_before : Ordering → Bool
is_before Less = true
is_before _ = false

-- the key comes behind those of all items
abbrev pub is_behind : Items → Hash → Bool
is_behind items key = list_all (λ (e : Entry). is_before (hash_cmp e.0 key)) items

-- the last item's key, where there is an item
abbrev pub last_key : Items → Hash
last_key [] = zero_hash
last_key (e ∷ []) = e.0
last_key (e ∷ f ∷ items) = last_key (f ∷ items)

-- items that may not be given
abbrev pub items_or_none : Option Items → Items
items_or_none None = []
items_or_none (Some items) = items

-- an item of the state, which comes before all transactions
abbrev pub with_state : Said → Result Entry Cause → Result Said Cause
with_state s (Err cause) = Err cause
with_state s (Ok e) =
    if is_some s.txs then Err causes.Late
    else if is_behind s.items e.0 then Ok (record s { items = s.items ++ e ∷ [] })
    else Err (causes.NotBehind (last_key s.items) e.0)

-- an item of the transactions
abbrev pub with_tx : Said → Result Entry Cause → Result Said Cause
with_tx s (Err cause) = Err cause
with_tx s (Ok e) =
    if is_behind (items_or_none s.txs) e.0 then Ok (record s { txs = Some (items_or_none s.txs ++ e ∷ []) })
    else Err (causes.NotBehind (last_key (items_or_none s.txs)) e.0)
