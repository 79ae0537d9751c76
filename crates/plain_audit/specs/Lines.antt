-- A ledger in plain lines: its header, then the items of its state in the order of their keys, then perhaps those of its transactions.
use Rattle.std.specs.Prelude.{ℕ, ◌==◌, ◌&&◌, nat_eq, nat_lt, if◌then◌else◌, length}
use Rattle.std.specs.Prelude.{take, drop, slice_index, codes, Option, None, Some, Result, Err}
use Rattle.std.specs.List.{starts_with}
use Rattle.ledger_spec.specs.Bytes.{Bytes}
use Rattle.ledger_spec.specs.Tree.{Entry}
use Rattle.audit_core.specs.declared.cause.Cause.{Cause}
use Rattle.audit_core.specs.declared.cause.Cause.TheVariants as causes
use Rattle.audit_core.specs.Said.{Said, digits_of, keyed, headed, with_state, with_tx}

-- the most bytes of a line: a transaction's word, its key, a space, and its data, two digits a byte
abbrev pub line_most : ℕ
line_most = 2097220

-- the item of 64 digits, a space and digits, or the first thing that is wrong
unfoldable pub item_of : Bytes → Result Entry Cause
item_of line =
    if nat_lt 64 (length line) && (slice_index line 64 == 32) then keyed (digits_of (take 64 line)) (digits_of (drop 65 line))
    else Err causes.Form

-- the words that header and transactions begin with
abbrev pub header_word : Bytes
header_word = codes "header "

abbrev pub tx_word : Bytes
tx_word = codes "tx "

-- the header's line
unfoldable pub first_of : Bytes → Result Said Cause
first_of line = if starts_with nat_eq line header_word then headed (digits_of (drop 7 line)) else Err causes.NoHeader

-- what is said after one line more, or what is wrong with it
abbrev pub after_line : Option Said → Bytes → Result Said Cause
after_line None line = first_of line
after_line (Some s) line = if starts_with nat_eq line tx_word then with_tx s (item_of (drop 3 line)) else with_state s (item_of line)
