-- The fields of a header as bytes, and read again.
use Rattle.std.proofs.Common.{◌≡◌, ℕ, ◌<◌, ◌^◌, ◌%◌, ◌/◌, ◌++◌}
use Rattle.std.proofs.Common.{◌&&◌, nat_lt, Bool, true}
use Rattle.std.proofs.Common.{if◌then◌else◌, List, [], ◌∷◌, length, map, IsTrue}
use Rattle.std.proofs.Common.{None, Some}
use Rattle.std.proofs.Common.{refl, ap, arith}
use Rattle.std.specs.Int.{w32, w64, to_be_bytes, from_be_bytes}
use Rattle.std.proofs.lemmas.Bool.{and_parts, and_from, ltb-true, lt-ltb, eq-eqb}
use Rattle.std.proofs.lemmas.Nat.{mod_below}
use Rattle.ledger_spec.specs.Bytes.{Bytes, are_bytes}
use Rattle.ledger_spec.specs.Header.{header_bytes, IsHeader}
use Rattle.ledger_spec.specs.Forms.{header_prefix, header_of}
use Rattle.ledger_spec.proofs.shared.ByteForms.{bytes_join}
use Rattle.ledger_header.specs.declared.Header.{Header as Head}
use Rattle.ledger_header.specs.Fields.{fields}

-- a number below a power is four bytes
pub four_small : (xs : Bytes) → length xs ≡ 4 → IsTrue (are_bytes xs) → from_be_bytes w32 xs < 2 ^ 32
four_small (a ∷ b ∷ c ∷ d ∷ []) size all =
    let one = and_parts (nat_lt a 256) (are_bytes (b ∷ c ∷ d ∷ [])) all in
    let two = and_parts (nat_lt b 256) (are_bytes (c ∷ d ∷ [])) one.1 in
    let three = and_parts (nat_lt c 256) (are_bytes (d ∷ [])) two.1 in
    let four = and_parts (nat_lt d 256) (are_bytes []) three.1 in
    omega (arith, ltb-true a 256 one.0, ltb-true b 256 two.0, ltb-true c 256 three.0, ltb-true d 256 four.0)
four_small [] size all = absurd (omega (arith, size))
four_small (a ∷ []) size all = absurd (omega (arith, size))
four_small (a ∷ b ∷ []) size all = absurd (omega (arith, size))
four_small (a ∷ b ∷ c ∷ []) size all = absurd (omega (arith, size))
four_small (a ∷ b ∷ c ∷ d ∷ e ∷ xs) size all = absurd (omega (arith, size))

-- a number's bytes are bytes
digits : (ns : List ℕ) → IsTrue (are_bytes (map (λ n. n % 256) ns))
digits [] = refl
digits (n ∷ ns) =
    and_from (nat_lt (n % 256) 256) (are_bytes (map (λ n. n % 256) ns)) (lt-ltb (n % 256) 256 (mod_below n 256 (omega arith))) (digits ns)

bytes_of_4 : (n : ℕ) → IsTrue (are_bytes (to_be_bytes w32 n))
bytes_of_4 n = digits (n / 16777216 ∷ n / 65536 ∷ n / 256 ∷ n ∷ [])

bytes_of_8 : (n : ℕ) → IsTrue (are_bytes (to_be_bytes w64 n))
bytes_of_8 n = digits
    (n / 72057594037927936 ∷ n / 281474976710656 ∷ n / 1099511627776 ∷ n / 4294967296 ∷ n / 16777216 ∷ n / 65536 ∷ n / 256 ∷ n ∷ [])

byte : (n : ℕ) (rest : Bytes) → n < 2 ^ 8 → IsTrue (are_bytes rest) → IsTrue (are_bytes (n ∷ rest))
byte n rest low all = and_from (nat_lt n 256) (are_bytes rest) (lt-ltb n 256 (omega (arith, low))) all

-- a header of fields within their sizes, and of hashes of bytes, is bytes
pub header_all : (h : Head) → IsHeader (fields h) → IsTrue (are_bytes h.parent) → IsTrue (are_bytes h.tx_root)
    → IsTrue (are_bytes h.state_root) → IsTrue (are_bytes (header_bytes (fields h)))
unfolding header_bytes
header_all h is p t s =
    let end : Bytes = h.resolution ∷ h.flags ∷ [] in
    let last : IsTrue (are_bytes end) = byte h.resolution (h.flags ∷ []) is.resolution (byte h.flags [] is.flags refl) in
    let b1 : Bytes = to_be_bytes w32 h.seq ++ to_be_bytes w64 h.drops in
    let b2 : Bytes = b1 ++ h.parent in
    let b3 : Bytes = b2 ++ h.tx_root in
    let b4 : Bytes = b3 ++ h.state_root in
    let b5 : Bytes = b4 ++ to_be_bytes w32 h.parent_close in
    let b6 : Bytes = b5 ++ to_be_bytes w32 h.close in
    bytes_join b6 end (bytes_join b5 (to_be_bytes w32 h.close) (bytes_join b4 (to_be_bytes w32 h.parent_close)
    (bytes_join b3 h.state_root (bytes_join b2 h.tx_root (bytes_join b1 h.parent
    (bytes_join (to_be_bytes w32 h.seq) (to_be_bytes w64 h.drops) (bytes_of_4 h.seq) (bytes_of_8 h.drops)) p) t) s)
    (bytes_of_4 h.parent_close)) (bytes_of_4 h.close)) last

-- what is read of a header's form
pub header_back : (bytes : Bytes) → length bytes ≡ 118 → header_of (header_prefix ++ bytes) ≡ Some bytes
unfolding header_of
header_back bytes size =
    let long : length (header_prefix ++ bytes) ≡ 122 = omega (arith, size) in
    ap (λ (t : Bool). if t && true then Some bytes else None) (eq-eqb (length (header_prefix ++ bytes)) 122 long)
