-- The front of a text that is decoded, and one piece more of it.
use Rattle.std.proofs.Common.{◌≡◌, ℕ, zero, suc, ◌+◌, ◌-◌, ◌*◌, ◌/◌, ◌%◌, ◌<◌, ◌≤◌, List, [], ◌∷◌, ◌++◌, ◌&&◌, Bool, true, false, length, take, drop, slice_index, slice_set}
use Rattle.std.proofs.Common.{Result, Ok, Err, refl, sym, ap, subst, ◌∙◌, arith}
use Rattle.std.specs.Prelude.{Option, Some, None, MatchOption, MatchBool, IsErr, is_some}
use Rattle.std.specs.List.{list_all}
use Rattle.std.specs.Result.{result_unwrap_or}
use Rattle.std.specs.Simd.Lanes.{chunk, put_chunk}
use Rattle.std.proofs.Math.Seq.{take-add}
use Rattle.std.proofs.lemmas.Simd.{length-chunk, pick_l_whole, take_more_put_chunk}
use Rattle.std.proofs.lemmas.List.{length-take-le, take_all, take-append-drop, take_more_set}
use Rattle.std.proofs.lemmas.List.Folds.{list_all-append}
use Rattle.hex.specs.Hex.{decode_of, decode_pairs, decode_sized, digit_or_error, hex_digit_value, is_hex_digit, pair_value, value_at, ◌>>=◌}
use Rattle.hex.specs.declared.error.FromHexError.{FromHexError}
use Rattle.hex.proofs.HexLemmas.{decode_of-even, decode_sized-twice}
use Rattle.hex.proofs.Pairs.{cons_byte, decode_pairs-ok_pair, drop-pair}
use Rattle.hex_digits.specs.Lanes.{IsValue, AreValues, AreDecoded, bytes_of, is_low}
use Rattle.hex_digits.proofs.Reading.{refused_sized}
use Rattle.hex_digits.proofs.SideBySide.{and_true}

-- a first step that came through
first_ok : (r : Result ℕ FromHexError) (f : ℕ → Result (List ℕ) FromHexError) (bs : List ℕ) → (r >>= f) ≡ Ok bs
    → (v : ℕ) × (r ≡ Ok v) × (f v ≡ Ok bs)
first_ok (Ok v) f bs e = (v, refl, e)
first_ok (Err x) f bs e = cc e

rest_ok : (q : Result (List ℕ) FromHexError) (v : ℕ) (bs : List ℕ) → cons_byte v q ≡ Ok bs → (ds : List ℕ) × (q ≡ Ok ds) × (v ∷ ds ≡ bs)
rest_ok (Ok ds) v bs e = (ds, refl, ap (λ (r : Result (List ℕ) FromHexError). result_unwrap_or r []) e)
rest_ok (Err x) v bs e = cc e

-- what is decoded behind what is decoded
join : (ys cs : List ℕ) → ((j : ℕ) → decode_pairs j ys ≡ Ok cs) → (i : ℕ) (xs bs : List ℕ) → decode_pairs i xs ≡ Ok bs
    → decode_pairs i (xs ++ ys) ≡ Ok (bs ++ cs)
unfolding decode_pairs
join ys cs h i [] bs e =
    let none : [] ≡ bs = ap (λ (r : Result (List ℕ) FromHexError). result_unwrap_or r []) e in
    subst (λ (front : List ℕ). decode_pairs i ys ≡ Ok (front ++ cs)) none (h i)
join ys cs h i (a ∷ []) bs e = cc e
join ys cs h i (a ∷ b ∷ rest) bs e =
    let one = first_ok (pair_value a b i) _ bs e in
    let two = rest_ok (decode_pairs (i + 2) rest) one.0 bs one.2 in
    subst (λ (front : List ℕ). decode_pairs i (a ∷ b ∷ (rest ++ ys)) ≡ Ok (front ++ cs)) two.2
    (decode_pairs-ok_pair i a b one.0 (rest ++ ys) one.1 ∙ ap (cons_byte one.0) (join ys cs h (i + 2) rest two.0 two.1))

digit_value : (c i x : ℕ) (o : Option ℕ) → MatchOption o (16 ≤ x) (λ v. (x ≡ v) × (x < 16)) → x < 16 → digit_or_error c i o ≡ Ok x
digit_value c i x None h low = absurd (omega arith)
digit_value c i x (Some v) h low = ap Ok (sym h.0)

low_of : (x : ℕ) → is_low x ≡ true → x < 16
low_of x e = grind (arith, e)

pair_low : (c d i x y : ℕ) → IsValue c x → IsValue d y → x < 16 → y < 16 → pair_value c d i ≡ Ok ((x * 16 % 256 + y) % 256)
pair_low c d i x y hx hy lx ly =
    let ex : value_at c i ≡ Ok x = digit_value c i x (hex_digit_value c) hx lx in
    let ey : value_at d (i + 1) ≡ Ok y = digit_value d (i + 1) y (hex_digit_value d) hy ly in
    let same : (x * 16 % 256 + y) % 256 ≡ x * 16 + y = omega (arith, lx, ly) in
    rw (same, ex, ey) refl

-- digits are decoded by their values
pub block : (ds v : List ℕ) → AreValues ds v → list_all is_low v ≡ true → length ds % 2 ≡ 0 → (i : ℕ) → decode_pairs i ds ≡ Ok (bytes_of v)
unfolding decode_pairs
block [] [] vals low even i = refl
block [] (x ∷ v) vals low even i = absurd vals
block (c ∷ []) v vals low even i = absurd (omega arith)
block (c ∷ d ∷ ds) [] vals low even i = absurd vals
block (c ∷ d ∷ ds) (x ∷ []) vals low even i = absurd vals.1
block (c ∷ d ∷ ds) (x ∷ y ∷ v) vals low even i =
    let one = and_true (is_low x) (is_low y && list_all is_low v) low in
    let two = and_true (is_low y) (list_all is_low v) one.1 in
    let pair = pair_low c d i x y vals.0 vals.1.0 (low_of x one.0) (low_of y two.0) in
    decode_pairs-ok_pair i c d _ ds pair ∙ ap (cons_byte _) (block ds v vals.1.1 two.1 (omega (arith, even)) (i + 2))

bad_step : (o : Option ℕ) (x : ℕ) (a b : Bool) → MatchOption o (16 ≤ x) (λ v. (x ≡ v) × (x < 16)) → (is_low x && a) ≡ false
    → (a ≡ false → b ≡ false) → (is_some o && b) ≡ false
bad_step None x a b h e on = refl
bad_step (Some v) x a b h e on =
    let low : is_low x ≡ true = grind (arith, h.1) in
    on (subst (λ (t : Bool). (t && a) ≡ false) low e)

-- where one value is none of a digit's, not all are digits
pub bad_block : (ds v : List ℕ) → AreValues ds v → list_all is_low v ≡ false → list_all is_hex_digit ds ≡ false
bad_block [] [] vals e = cc e
bad_block [] (x ∷ v) vals e = absurd vals
bad_block (c ∷ ds) [] vals e = absurd vals
bad_block (c ∷ ds) (x ∷ v) vals e =
    bad_step (hex_digit_value c) x (list_all is_low v) (list_all is_hex_digit ds) vals.0 e (bad_block ds v vals.1)

and_false : (a b : Bool) → (a && (false && b)) ≡ false
and_false true b = refl
and_false false b = refl

-- where not all of a piece are digits, not all of the text are
pub bad_piece : (text : List ℕ) (i n : ℕ) → list_all is_hex_digit (take n (drop i text)) ≡ false → list_all is_hex_digit text ≡ false
bad_piece text i n bad =
    let p = is_hex_digit in
    let piece = take n (drop i text) in
    let behind = drop n (drop i text) in
    let cut : take i text ++ (piece ++ behind) ≡ text = ap (λ (xs : List ℕ). take i text ++ xs) (take-append-drop n (drop i text)) ∙ take-append-drop i text in
    sym (ap (list_all p) cut) ∙ list_all-append p (take i text) (piece ++ behind)
    ∙ ap (λ (b : Bool). list_all p (take i text) && b) (list_all-append p piece behind ∙ ap (λ (b : Bool). b && list_all p behind) bad)
    ∙ and_false (list_all p (take i text)) (list_all p behind)

-- a piece more of the text is decoded
pub more : (text bytes new cs : List ℕ) (n k m : ℕ) → m ≡ n + k → ((j : ℕ) → decode_pairs j (take (2 * k) (drop (2 * n) text)) ≡ Ok cs)
    → take m new ≡ take n bytes ++ cs → AreDecoded text bytes n → AreDecoded text new m
more text bytes new cs n k m e h is front =
    let sum : 2 * m ≡ 2 * n + 2 * k = omega (arith, e) in
    ap (decode_pairs 0) (ap (λ (i : ℕ). take i text) sum ∙ take-add (2 * n) (2 * k) text)
    ∙ join (take (2 * k) (drop (2 * n) text)) cs h 0 (take (2 * n) text) (take n bytes) front
    ∙ ap Ok (sym is)

-- a byte more
pub one_more : (text bytes : List ℕ) (i v : ℕ) → 2 * i + 1 < length text → i < length bytes
    → ((j : ℕ) → pair_value (slice_index text (2 * i)) (slice_index text (2 * i + 1)) j ≡ Ok v)
    → AreDecoded text bytes i → AreDecoded text (slice_set bytes i v) (i + 1)
unfolding decode_pairs
one_more text bytes i v fits room pair front =
    let two = ap (take 2) (drop-pair text i fits) in
    more text bytes (slice_set bytes i v) (v ∷ []) i 1 (i + 1) refl
    (λ j. ap (decode_pairs j) two ∙ decode_pairs-ok_pair j (slice_index text (2 * i)) (slice_index text (2 * i + 1)) v [] (pair j))
    (take_more_set bytes i v room) front

-- all is decoded
pub all_decoded : (text bytes : List ℕ) (i : ℕ) → length text ≡ 2 * length bytes → length bytes ≤ i → AreDecoded text bytes i
    → decode_of text ≡ Ok bytes
all_decoded text bytes i len le front =
    let even : length text % 2 ≡ 0 = omega (arith, len) in
    decode_of-even text even ∙ sym (ap (decode_pairs 0) (take_all (2 * i) text (omega (arith, len, le)))) ∙ front ∙ ap Ok (take_all i bytes le)

-- the same for so many bytes
pub sized : (r : Bool) (text bytes : List ℕ) (n : ℕ) → length text ≡ 2 * n
    → MatchBool r (decode_of text ≡ Ok bytes) (list_all is_hex_digit text ≡ false)
    → MatchBool r (decode_sized text n ≡ Ok bytes) (IsErr (decode_sized text n))
sized true text bytes n len h = decode_sized-twice text n len ∙ h
sized false text bytes n len h = refused_sized text n h

-- nothing is decoded
pub none_decoded : decode_pairs 0 [] ≡ Ok []
unfolding decode_pairs
none_decoded = refl

length_joined : (v : List ℕ) → length v ≡ 32 → length (bytes_of v) ≡ 16
length_joined v long = subst (λ (w : List ℕ). length (bytes_of w) ≡ 16) (pick_l_whole 0 v 32 long) refl

length_values : (ds v : List ℕ) → AreValues ds v → length v ≡ length ds
length_values [] [] vals = refl
length_values [] (x ∷ v) vals = absurd vals
length_values (c ∷ ds) [] vals = absurd vals
length_values (c ∷ ds) (x ∷ v) vals = ap suc (length_values ds v vals.1)

-- a block more
pub block_more : (text bytes v : List ℕ) (at : ℕ) → length text ≡ 2 * length bytes → at + 16 ≤ length bytes
    → AreValues (chunk (2 * at) 32 text) v → list_all is_low v ≡ true
    → AreDecoded text bytes at → AreDecoded text (put_chunk at bytes (bytes_of v)) (at + 16)
block_more text bytes v at len room vals low front =
    let whole : length (chunk (2 * at) 32 text) ≡ 32 = length-chunk (2 * at) 32 text (omega (arith, len, room)) in
    let sixteen = length_joined v (length_values (chunk (2 * at) 32 text) v vals ∙ whole) in
    more text bytes (put_chunk at bytes (bytes_of v)) (bytes_of v) at 16 (at + 16) refl
    (block (chunk (2 * at) 32 text) v vals low (omega (arith, whole)))
    (take_more_put_chunk at bytes (bytes_of v) (at + 16) (omega (arith, sixteen)) room) front

split : (i : ℕ) (xs ys bs : List ℕ) (n : ℕ) → length xs ≡ 2 * n → decode_pairs i (xs ++ ys) ≡ Ok bs → decode_pairs i xs ≡ Ok (take n bs)
unfolding decode_pairs
split i [] ys bs zero len e = refl
split i [] ys bs (suc n) len e = absurd (omega arith)
split i (a ∷ []) ys bs n len e = absurd (omega arith)
split i (a ∷ b ∷ rest) ys bs zero len e = absurd (omega arith)
split i (a ∷ b ∷ rest) ys bs (suc n) len e =
    let one = first_ok (pair_value a b i) _ bs e in
    let two = rest_ok (decode_pairs (i + 2) (rest ++ ys)) one.0 bs one.2 in
    subst (λ (all : List ℕ). decode_pairs i (a ∷ b ∷ rest) ≡ Ok (take (suc n) all)) two.2
    (decode_pairs-ok_pair i a b one.0 rest one.1 ∙ ap (cons_byte one.0) (split (i + 2) rest ys two.0 n (omega (arith, len)) two.1))

take_take : (n m : ℕ) (xs : List ℕ) → n ≤ m → take n (take m xs) ≡ take n xs
take_take zero m xs le = refl
take_take (suc n) zero xs le = absurd (omega arith)
take_take (suc n) (suc m) [] le = refl
take_take (suc n) (suc m) (x ∷ xs) le = ap (λ (rest : List ℕ). x ∷ rest) (take_take n m xs (omega (arith, le)))

-- fewer bytes are decoded too
pub fewer : (text bytes : List ℕ) (n m : ℕ) → n ≤ m → 2 * n ≤ length text → AreDecoded text bytes m → AreDecoded text bytes n
fewer text bytes n m le fits front =
    let sum : 2 * m ≡ 2 * n + 2 * (m - n) = omega (arith, le) in
    let cut = ap (λ (i : ℕ). take i text) sum ∙ take-add (2 * n) (2 * (m - n)) text in
    let e = split 0 (take (2 * n) text) (take (2 * (m - n)) (drop (2 * n) text)) (take m bytes) n (length-take-le (2 * n) text fits) (ap (decode_pairs 0) (sym cut) ∙ front) in
    e ∙ ap Ok (take_take n m bytes le)

-- the last block ends the text
pub ended : (r : Bool) (text old new : List ℕ) (at : ℕ) → length text ≡ 2 * length old → length new ≡ length old → 16 ≤ length old
    → at ≡ length old - 16 → (r ≡ true → AreDecoded text old at → AreDecoded text new (at + 16))
    → (r ≡ false → list_all is_hex_digit text ≡ false) → AreDecoded text old ((length old - 1) / 16 * 16)
    → MatchBool r (decode_of text ≡ Ok new) (list_all is_hex_digit text ≡ false)
ended true text old new at len same some place on bad front =
    let low : at ≤ (length old - 1) / 16 * 16 = omega (arith, some, place) in
    let fits : 2 * at ≤ length text = omega (arith, some, place, len) in
    all_decoded text new (at + 16) (omega (arith, len, same)) (omega (arith, some, place, same))
    (on refl (fewer text old at ((length old - 1) / 16 * 16) low fits front))
ended false text old new at len same some place on bad front = bad refl
