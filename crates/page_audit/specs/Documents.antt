-- What a document of an answer says, as rippled writes `ledger_data` and `ledger` with `binary`.
use Rattle.std.specs.Prelude.{ℕ, ◌==◌, ◌&&◌, ◌||◌, not, nat_le, nat_lt, Bool, List, length, slice_index, if◌then◌else◌, codes, bytes_eq}
use Rattle.std.specs.Prelude.{Option, None, Some, option_and_then, unwrap_or, Result, Err}
use Rattle.std.specs.List.{list_all}
use Rattle.std.specs.Fmt.{decimal}
use Rattle.std.specs.Str.{is_utf8}
use Rattle.json.specs.Json.{Json, Items as Elements, document as parsed}
use Rattle.json.specs.Find.{get, as_str, as_number, as_array}
use Rattle.ledger_spec.specs.Bytes.{Bytes, Hash}
use Rattle.ledger_spec.specs.Tree.{Entry}
use Rattle.audit_core.specs.declared.cause.Cause.{Cause}
use Rattle.audit_core.specs.declared.cause.Cause.TheVariants as causes
use Rattle.audit_core.specs.Said.{digits_of, keyed}

-- the document of a line
unfoldable pub document : Bytes → Option Json
document line = if is_utf8 line then parsed line else None

-- the answer's result, or the document itself where it is bare
abbrev pub inside : Json → Json
inside d = unwrap_or (get (codes "result") d) d

-- the text under a name
abbrev pub text_at : List ℕ → Json → Option Bytes
text_at name d = option_and_then as_str (get name d)

-- the hash of 64 digits
abbrev pub hash_of_text : Bytes → Option Hash
hash_of_text text = if length text == 64 then digits_of text else None

-- the ledger's hash
abbrev pub hash_in : Json → Option Hash
hash_in d = option_and_then hash_of_text (text_at (codes "ledger_hash") d)

-- the header's digits
abbrev pub header_in : Json → Option Bytes
header_in d = option_and_then (text_at (codes "ledger_data")) (get (codes "ledger") d)

-- a decimal digit
abbrev pub is_digit : ℕ → Bool
is_digit x = nat_le 48 x && nat_le x 57

-- decimal digits, with no 0 before another
unfoldable pub is_decimal : Bytes → Bool
is_decimal text = list_all is_digit text && ((length text == 1) || (nat_lt 1 (length text) && not (slice_index text 0 == 48)))

-- whether the digits are this number's; nothing where they are none
abbrev pub is_digits_of : ℕ → Bytes → Option Bool
is_digits_of n text = if is_decimal text then Some (bytes_eq text (decimal n)) else None

-- whether a number's digits, or else those of a text, are this number's; nothing where it is neither
abbrev pub is_number : ℕ → Option Bytes → Option Bytes → Option Bool
is_number n (Some digits) text = is_digits_of n digits
is_number n None (Some text) = is_digits_of n text
is_number n None None = None

-- whether the ledger's number is this one, where the document names one
abbrev pub number_in : ℕ → Json → Option Bool
number_in n d = option_and_then (λ v. is_number n (as_number v) (as_str v)) (get (codes "ledger_index") d)

-- the list of items
abbrev pub list_in : Json → Option Elements
list_in d = option_and_then as_array (get (codes "state") d)

-- the item of two texts, its key and its data
abbrev pub item_of_texts : Option Bytes → Option Bytes → Result Entry Cause
item_of_texts None text = Err causes.Item
item_of_texts (Some key) None = Err causes.Item
item_of_texts (Some key) (Some text) = keyed (hash_of_text key) (digits_of text)

-- the item that an element of the list says
abbrev pub item_in : Json → Result Entry Cause
item_in d = item_of_texts (text_at (codes "index") d) (text_at (codes "data") d)
