-- Digits, and items within their limits. For proofs of other crates.
use Rattle.std.proofs.Common.{◌≡◌, ℕ, suc, ◌*◌, ◌<◌, ◌≤◌, Bool, true, false, List, [], ◌∷◌, length, nat_lt, IsTrue, Some, Result}
use Rattle.std.proofs.Common.{Ok, Err}
use Rattle.std.proofs.Common.{refl, sym, ap, ◌∙◌, arith}
use Rattle.std.specs.Prelude.{not, if◌then◌else◌}
use Rattle.std.proofs.lemmas.Bool.{and_from, cond-false, ltb-false, lt-ltb, le-ltb, false≢true}
use Rattle.std.specs.List.{AllPass}
use Rattle.hex.specs.Hex.{decode_of, is_hex_digit, IsBytes}
use Rattle.hex.specs.declared.error.FromHexError.{FromHexError}
use Rattle.hex.proofs.HexLemmas.{decode_of-ok}
use Rattle.line_feed.specs.Lines.{IsOneLine}
use Rattle.half_hash.specs.Half.{are_bytes}
use Rattle.half_hash.specs.Zero.{is_zero, is_nonzero}
use Rattle.ledger_spec.specs.Bytes.{Bytes}
use Rattle.ledger_spec.specs.Forms.{IsItem, data_limit}
use Rattle.ledger_spec.specs.Tree.{Entry}
use Rattle.audit_core.specs.declared.cause.Cause.TheVariants as causes
use Rattle.audit_core.specs.Said.{got, digits_of, checked}

got_some : (r : Result Bytes FromHexError) (bytes : Bytes) → got r ≡ Some bytes → r ≡ Ok bytes
got_some (Ok b) bytes is = cc
got_some (Err e) bytes is = cc

-- digits say their bytes
pub digits_some : (text bytes : Bytes) → digits_of text ≡ Some bytes → decode_of text ≡ Ok bytes
digits_some text bytes is = got_some (decode_of text) bytes is

-- what decodes is bytes
bytes_from : (xs : List ℕ) → IsBytes xs → IsTrue (are_bytes xs)
bytes_from [] h = refl
bytes_from (x ∷ xs) h =
    let small : x < 256 = h 0 in
    and_from (nat_lt x 256) (are_bytes xs) (lt-ltb x 256 small) (bytes_from xs (λ i. h (suc i)))

pub decoded_bytes : (text bytes : Bytes) → decode_of text ≡ Ok bytes → IsTrue (are_bytes bytes)
decoded_bytes text bytes is = bytes_from bytes ((decode_of-ok text bytes is).3)

pub decoded_size : (text bytes : Bytes) → decode_of text ≡ Ok bytes → length text ≡ 2 * length bytes
decoded_size text bytes is = (decode_of-ok text bytes is).2

-- digits are no newlines
digits_one : (text : Bytes) → AllPass is_hex_digit text → IsOneLine text
digits_one [] all = tt
digits_one (x ∷ text) all = (
  λ newline. let digit : is_hex_digit x ≡ true = all 0 0 (omega arith) in
      let none : is_hex_digit 10 ≡ false = refl in
      false≢true (sym none ∙ ap is_hex_digit (sym newline) ∙ digit),
  digits_one text (λ k d low. all (suc k) d (omega arith)),
)

pub decoded_one : (text bytes : Bytes) → decode_of text ≡ Ok bytes → IsOneLine text
decoded_one text bytes is = digits_one text ((decode_of-ok text bytes is).1)

pub digits_is : (text bytes : Bytes) → decode_of text ≡ Ok bytes → digits_of text ≡ Some bytes
digits_is text bytes is = ap got is

pub checked_is : (key bytes : Bytes) (e : Entry) → checked key bytes ≡ Ok e → (e ≡ (key, bytes)) × IsTrue (is_nonzero key) ×
    (length bytes ≤ data_limit)
checked_is key bytes e is = by (is_zero key) (nat_lt data_limit (length bytes)) refl refl is
  where
    by : (z l : Bool) → is_zero key ≡ z → nat_lt data_limit (length bytes) ≡ l
        → (if z then Err causes.ZeroKey else if l then Err causes.TooMuch else Ok (key, bytes)) ≡ Ok e
        → (e ≡ (key, bytes)) × IsTrue (is_nonzero key) × (length bytes ≤ data_limit)
    by true l zero_is l_is is = cc
    by false true zero_is l_is is = cc
    by false false zero_is l_is is =
        let same : e ≡ (key, bytes) = cc in
        let nonzero : IsTrue (is_nonzero key) = ap not zero_is in
        (same, nonzero, ltb-false data_limit (length bytes) l_is)

-- an item within its limits is taken
pub checked_read : (e : Entry) → IsItem e.0 e.1 → checked e.0 e.1 ≡ Ok e
checked_read e item =
    cond-false (is_zero e.0) _ _ nonzero
    ∙ cond-false (nat_lt data_limit (length e.1)) _ _ (le-ltb data_limit (length e.1) item.data_size)
  where
    nonzero : is_zero e.0 ≡ false
    nonzero = by (is_zero e.0) refl
      where
        by : (z : Bool) → is_zero e.0 ≡ z → is_zero e.0 ≡ false
        by false z_is = z_is
        by true z_is = let wrong : false ≡ true = sym (ap not z_is) ∙ item.key_nonzero in absurd (false≢true wrong)
