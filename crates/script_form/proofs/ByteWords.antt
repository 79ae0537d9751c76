-- What a word of hexadecimal digits says is bytes.
use Rattle.std.proofs.Common.{◌≡◌, ◌≤◌, ◌<◌, ◌+◌, ◌-◌, ◌*◌, ◌&&◌, ⊎_elim, ℕ, Bool, true, false, nat_le, nat_lt, if◌then◌else◌, length}
use Rattle.std.proofs.Common.{[], ◌∷◌}
use Rattle.std.proofs.Common.{Option, Some, None}
use Rattle.std.proofs.Common.{Result, Ok, Err, IsTrue, refl, sym, subst, arith}
use Rattle.std.proofs.lemmas.Bool.{leb-true, lt-ltb, and_parts, and_from}
use Rattle.std.proofs.lemmas.Option.{none-some}
use Rattle.hex.specs.declared.error.FromHexError.{FromHexError}
use Rattle.hex.specs.declared.error.FromHexError.TheVariants.{OddLength}
use Rattle.hex.specs.Hex.{hex_digit_value, digit_or_error, value_at, pair_value, decode_pairs, ◌>>=◌}
use Rattle.half_hash.specs.Hex.{IsHexOf}
use Rattle.ledger_spec.specs.Bytes.{Bytes, are_bytes}
use Rattle.script_form.specs.Words.{IsBlob}

pub err_ok : {X : Type 0} {e : FromHexError} {x : X} → Err e ≡ Ok x → ⊥
err_ok e = cc

pub ok_same : {X : Type 0} {x y : X} → ◌≡◌ {A = Result X FromHexError} (Ok x) (Ok y) → x ≡ y
ok_same e = cc

some_same : {X : Type 0} {x y : X} → Some x ≡ Some y → x ≡ y
some_same e = cc

-- one range of digits, whose last has a value below 16
digit_small : (low high less c v : ℕ) (rest : Option ℕ) → high < less + 16 → (rest ≡ Some v → v < 16)
    → (if nat_le low c && nat_le c high then Some (c - less) else rest) ≡ Some v → v < 16
digit_small low high less c v rest fits later e = by (nat_le low c && nat_le c high) refl e
  where
    by : (t : Bool) → (nat_le low c && nat_le c high) ≡ t → (if t then Some (c - less) else rest) ≡ Some v → v < 16
    by true is e =
        let within : c ≤ high = leb-true c high (and_parts (nat_le low c) (nat_le c high) is).1 in
        let value : c - less ≡ v = some_same e in
        omega arith
    by false is e = later e

pub value_small : (c v : ℕ) → hex_digit_value c ≡ Some v → v < 16
value_small c v e =
    digit_small 65 70 55 c v _ (omega arith)
    (λ e. digit_small 97 102 87 c v _ (omega arith) (λ e. digit_small 48 57 48 c v None (omega arith) (λ e. absurd (none-some _ e)) e) e) e

digit_read : (c i v : ℕ) → value_at c i ≡ Ok v → v < 16
digit_read c i v e = by (hex_digit_value c) refl e
  where
    by : (o : Option ℕ) → hex_digit_value c ≡ o → digit_or_error c i o ≡ Ok v → v < 16
    by (Some w) is e = value_small c v (subst (λ x. hex_digit_value c ≡ Some x) (ok_same e) is)
    by None is e = absurd (err_ok e)

-- a step that gave something, and the step before it
after_step : {A B : Type 0} (r : Result A FromHexError) (f : A → Result B FromHexError) (y : B) → (r >>= f) ≡ Ok y
    → (x : A) × (r ≡ Ok x) × (f x ≡ Ok y)
after_step (Ok x) f y e = (x, refl, e)
after_step (Err cause) f y e = absurd (err_ok e)

byte_read : (high low i b : ℕ) → pair_value high low i ≡ Ok b → b < 256
byte_read high low i b e =
    let first = after_step (value_at high i) _ b e in
    let second = after_step (value_at low (i + 1)) _ b first.2 in
    let h : first.0 < 16 = digit_read high i first.0 first.1 in
    let l : second.0 < 16 = digit_read low (i + 1) second.0 second.1 in
    let value : first.0 * 16 + second.0 ≡ b = ok_same second.2 in
    omega arith

pairs_read : (i : ℕ) (text bytes : Bytes) → decode_pairs i text ≡ Ok bytes → IsTrue (are_bytes bytes)
unfolding decode_pairs
pairs_read i [] bytes e = subst (λ b. IsTrue (are_bytes b)) (ok_same e) refl
pairs_read i (digit ∷ []) bytes e = absurd (err_ok e)
pairs_read i (high ∷ low ∷ rest) bytes e =
    let first = after_step (pair_value high low i) _ bytes e in
    let second = after_step (decode_pairs (i + 2) rest) _ bytes first.2 in
    let b : IsTrue (nat_lt first.0 256) = lt-ltb first.0 256 (byte_read high low i first.0 first.1) in
    subst (λ bs. IsTrue (are_bytes bs)) (ok_same second.2)
    (and_from (nat_lt first.0 256) (are_bytes second.0) b (pairs_read (i + 2) rest second.0 second.1))

decoded : (odd : Bool) (text bytes : Bytes) → (if odd then Err OddLength else decode_pairs 0 text) ≡ Ok bytes → IsTrue (are_bytes bytes)
decoded true text bytes e = absurd (err_ok e)
decoded false text bytes e = pairs_read 0 text bytes e

pub blob_bytes : (word bytes : Bytes) → IsBlob word bytes → IsTrue (are_bytes bytes)
blob_bytes word bytes is =
    ⊎_elim (λ none. subst (λ b. IsTrue (are_bytes b)) (sym none.1) refl) (λ some. decoded _ word bytes some.1) is

-- a hash's word says 32 bytes
pub hash_bytes : (word hash : Bytes) → IsHexOf word hash → IsTrue (are_bytes hash)
hash_bytes word hash is = decoded _ word hash is.value

pairs_size : (i : ℕ) (text bytes : Bytes) → decode_pairs i text ≡ Ok bytes → length bytes * 2 ≡ length text
unfolding decode_pairs
pairs_size i [] bytes e = subst (λ b. length b * 2 ≡ 0) (ok_same e) refl
pairs_size i (digit ∷ []) bytes e = absurd (err_ok e)
pairs_size i (high ∷ low ∷ rest) bytes e =
    let first = after_step (pair_value high low i) _ bytes e in
    let second = after_step (decode_pairs (i + 2) rest) _ bytes first.2 in
    let behind : length second.0 * 2 ≡ length rest = pairs_size (i + 2) rest second.0 second.1 in
    subst (λ bs. length bs * 2 ≡ length (high ∷ low ∷ rest)) (ok_same second.2) (omega (arith, behind))

decoded_size : (odd : Bool) (text bytes : Bytes) → (if odd then Err OddLength else decode_pairs 0 text) ≡ Ok bytes
    → length bytes * 2 ≡ length text
decoded_size true text bytes e = absurd (err_ok e)
decoded_size false text bytes e = pairs_size 0 text bytes e

pub hash_size : (word hash : Bytes) → IsHexOf word hash → length hash ≡ 32
hash_size word hash is =
    let twice : length hash * 2 ≡ length word = decoded_size _ word hash is.value in
    omega (arith, twice, is.digits)
