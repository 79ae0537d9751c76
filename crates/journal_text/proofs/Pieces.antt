-- The digits of bytes in pieces.
use Rattle.std.proofs.Common.{◌≡◌, ◌++◌, ◌∷◌, ◌/◌, ◌%◌, ◌<◌, [], List, ℕ, true, nat_lt, refl, sym, ap, ◌∙◌, slice_index, arith}
use Rattle.std.specs.List.{list_all}
use Rattle.std.specs.Str.{IsAscii}
use Rattle.std.proofs.lemmas.Bool.{and_parts}
use Rattle.std.proofs.lemmas.Bool.Decides.{nat_tests}
use Rattle.std.proofs.lemmas.List.{append_assoc, append-nil}
use Rattle.std.proofs.lemmas.Str.Ascii.{IsAscii-nil, IsAscii-cons}
use Rattle.hex.specs.Hex.{encode_with, encode_upper, upper_digits}

-- bytes that are each less than 128 are ASCII
pub ascii_if : (bytes : List ℕ) → list_all (λ b. nat_lt b 128) bytes ≡ true → IsAscii bytes
ascii_if [] all = IsAscii-nil
ascii_if (b ∷ bytes) all =
    let parts = and_parts (nat_lt b 128) (list_all (λ c. nat_lt c 128) bytes) all in
    let first : nat_lt b 128 ≡ true = parts.0 in
    let low : b < 128 = grind (arith, nat_tests) in
    IsAscii-cons b bytes low (ascii_if bytes parts.1)

-- the digits are ASCII
pub upper_ascii : IsAscii upper_digits
upper_ascii = ascii_if upper_digits refl

encode_append : (t a b : List ℕ) → encode_with t (a ++ b) ≡ encode_with t a ++ encode_with t b
unfolding encode_with
encode_append t [] b = refl
encode_append t (x ∷ a) b = ap (λ l. slice_index t (x / 16) ∷ slice_index t (x % 16) ∷ l) (encode_append t a b)

-- a piece more is written
pub piece_more : (text front piece after rest all : List ℕ) → text ++ encode_upper rest ≡ all → rest ≡ piece ++ after
    → front ≡ text ++ encode_upper piece → front ++ encode_upper after ≡ all
piece_more text front piece after rest all so_far split more =
    ap (λ l. l ++ encode_upper after) more ∙ append_assoc text (encode_upper piece) (encode_upper after)
    ∙ ap (λ l. text ++ l) (sym (encode_append upper_digits piece after)) ∙ ap (λ l. text ++ encode_upper l) (sym split) ∙ so_far

-- all are written
pub pieces_done : (text all rest : List ℕ) → rest ≡ [] → text ++ encode_upper rest ≡ all → text ≡ all
unfolding encode_with
pieces_done text all rest none e = sym (append-nil text) ∙ ap (λ l. text ++ encode_upper l) (sym none) ∙ e
