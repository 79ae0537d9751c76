-- Which texts are read, and which are refused.
use Rattle.std.proofs.Common.{◌≡◌, ℕ, ◌<◌, true, false, List, length, slice_index, Result, Ok, Err}
use Rattle.std.proofs.Common.{refl, sym, ◌∙◌}
use Rattle.std.specs.Prelude.{IsOk, IsErr}
use Rattle.std.specs.List.{list_all}
use Rattle.std.proofs.lemmas.Bool.{true≢false}
use Rattle.std.proofs.lemmas.List.Sums.{AllPass-from_list_all, list_all-from_AllPass}
use Rattle.hex.specs.Hex.{decode_of, decode_sized, is_hex_digit}
use Rattle.hex.specs.declared.error.FromHexError.{FromHexError}
use Rattle.hex.proofs.HexLemmas.{IsOk-decode_sized, decode_of-ok}

-- a place of a text of digits has a digit
pub digit_at : (text : List ℕ) (k : ℕ) → list_all is_hex_digit text ≡ true → k < length text → is_hex_digit (slice_index text k) ≡ true
digit_at text k all low = AllPass-from_list_all is_hex_digit text all k 0 low

-- an answer that is no bytes is an error
err_from : (r : Result (List ℕ) FromHexError) → ((bytes : List ℕ) → r ≡ Ok bytes → ⊥) → IsErr r
err_from (Ok bytes) none = absurd (none bytes refl)
err_from (Err e) none = refl

-- a text that isn't all digits has no bytes
pub refused : (text : List ℕ) → list_all is_hex_digit text ≡ false → IsErr (decode_of text)
refused text bad = err_from (decode_of text) (λ bytes is.
    true≢false (sym (list_all-from_AllPass is_hex_digit text (decode_of-ok text bytes is).1) ∙ bad))

-- the same for so many bytes
pub refused_sized : (text : List ℕ) (n : ℕ) → list_all is_hex_digit text ≡ false → IsErr (decode_sized text n)
refused_sized text n bad = err_from (decode_sized text n) (λ bytes is.
    let ok : IsOk (decode_sized text n) = rw is refl in
    true≢false (sym (list_all-from_AllPass is_hex_digit text ((IsOk-decode_sized text n).0 ok).1) ∙ bad))
