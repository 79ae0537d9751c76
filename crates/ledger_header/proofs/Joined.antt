-- The fields joined to the 118 bytes, and the bytes taken apart.
use Rattle.std.proofs.Common.{◌≡◌, ◌≤◌, ◌<◌, ◌+◌, ℕ, zero, suc, [], ◌∷◌, ◌++◌, length, take, drop, get_or, refl, sym, ap, ◌∙◌, arith, inl}
use Rattle.std.proofs.Common.{inr, length-drop, length-take}
use Rattle.std.proofs.lemmas.Bool.{cases_lt}
use Rattle.std.proofs.lemmas.List.{drop-drop, take_at, drop_at, take_all, drop_more, take-append-drop, length-take-le}
use Rattle.std.proofs.lemmas.List.{get_or-take, get_or-drop, get_or_past, nil_from_length}
use Rattle.std.proofs.lemmas.Nat.{be_bytes_4, be_bytes_8}
use Rattle.std.specs.Int.{w32, w64, to_be_bytes, from_be_bytes}
use Rattle.ledger_spec.specs.Bytes.{Bytes}
use Rattle.ledger_spec.specs.Header.{header_bytes, IsHeader}
use Rattle.ledger_header.specs.declared.Header.{Header}
use Rattle.ledger_header.specs.Fields.{fields, Reads}

abbrev pub IsBytes : Bytes → Type 0
IsBytes bytes = (i : ℕ) → get_or bytes i 0 < 256

drop_fits : (n : ℕ) (b : Bytes) → IsBytes b → IsBytes (drop n b)
drop_fits n b h i = rw get_or-drop (h (n + i))

take_fits : (n : ℕ) (b : Bytes) → IsBytes b → IsBytes (take n b)
take_fits n b h i =
    elim (cases_lt i n) [
      | inl lt ↦ rw (get_or-take n b i 0 lt) (h i)
      | inr le ↦ rw (get_or_past (take n b) i 0 (omega (arith, length-take n b))) (omega arith)
    ]

-- two pieces that lie side by side
take_two : (m n : ℕ) (b : Bytes) → take m b ++ take n (drop m b) ≡ take (m + n) b
take_two zero n b = let e : n ≡ 0 + n = omega arith in ap (λ k. take k b) e
take_two (suc m) zero [] = let e : suc m + 0 ≡ suc m = omega arith in sym (ap (λ k. take k []) e)
take_two (suc m) (suc n) [] = let e : suc m + suc n ≡ suc (m + suc n) = omega arith in sym (ap (λ k. take k []) e)
take_two (suc m) n (x ∷ b) = let e : suc (m + n) ≡ suc m + n = omega arith in ap (λ t. x ∷ t) (take_two m n b) ∙ ap (λ k. take k (x ∷ b)) e

-- the last two bytes
last_two : (n : ℕ) (b : Bytes) → length b ≡ n + 2 → take n b ++ get_or b n 0 ∷ get_or b (n + 1) 0 ∷ [] ≡ b
last_two n b size =
    let first : drop n b ≡ get_or b n 0 ∷ drop (n + 1) b = drop_more b n 0 (omega arith) in
    let second : drop (n + 1) b ≡ get_or b (n + 1) 0 ∷ drop (n + 1 + 1) b = drop_more b (n + 1) 0 (omega arith) in
    let none : drop (n + 1 + 1) b ≡ [] = nil_from_length (drop (n + 1 + 1) b) (omega (arith, length-drop (n + 1 + 1) b)) in
    sym (
    sym (take-append-drop n b)
    ∙ ap (λ t. take n b ++ t) first
    ∙ ap (λ t. take n b ++ get_or b n 0 ∷ t) second
    ∙ ap (λ t. take n b ++ get_or b n 0 ∷ get_or b (n + 1) 0 ∷ t) none
    )

number_4 : (n at : ℕ) (b : Bytes) → IsBytes b → at + 4 ≤ length b → from_be_bytes w32 (take 4 (drop at b)) ≡ n
    → to_be_bytes w32 n ≡ take 4 (drop at b)
number_4 n at b fits within is =
    be_bytes_4 (take 4 (drop at b)) n (length-take-le 4 (drop at b) (omega (arith, length-drop at b)))
    (take_fits 4 (drop at b) (drop_fits at b fits)) (sym is)

number_8 : (n at : ℕ) (b : Bytes) → IsBytes b → at + 8 ≤ length b → from_be_bytes w64 (take 8 (drop at b)) ≡ n
    → to_be_bytes w64 n ≡ take 8 (drop at b)
number_8 n at b fits within is =
    be_bytes_8 (take 8 (drop at b)) n (length-take-le 8 (drop at b) (omega (arith, length-drop at b)))
    (take_fits 8 (drop at b) (drop_fits at b fits)) (sym is)

-- one more piece
on : (at size end : ℕ) (b front piece : Bytes) → end ≡ at + size → front ≡ take at b → piece ≡ take size (drop at b)
    → front ++ piece ≡ take end b
on at size end b front piece e f p = ap (λ t. t ++ piece) f ∙ ap (λ t. take at b ++ t) p ∙ take_two at size b ∙ ap (λ k. take k b) (sym e)

-- the bytes that read as the fields are the fields' bytes
pub joined : (h : Header) (b : Bytes) → IsBytes b → length b ≡ 118 → Reads b h → header_bytes (fields h) ≡ b
unfolding header_bytes
joined h b fits size r =
    let p1 : to_be_bytes w32 h.seq ≡ take 4 b = number_4 h.seq 0 b fits (omega arith) r.seq in
    let p2 = on 4 8 12 b _ _ refl p1 (number_8 h.drops 4 b fits (omega arith) r.drops) in
    let p3 = on 12 32 44 b _ _ refl p2 (sym r.parent) in
    let p4 = on 44 32 76 b _ _ refl p3 (sym r.tx_root) in
    let p5 = on 76 32 108 b _ _ refl p4 (sym r.state_root) in
    let p6 = on 108 4 112 b _ _ refl p5 (number_4 h.parent_close 108 b fits (omega arith) r.parent_close) in
    let p7 = on 112 4 116 b _ _ refl p6 (number_4 h.close 112 b fits (omega arith) r.close) in
    ap (λ t. t ++ h.resolution ∷ h.flags ∷ []) p7
    ∙ ap (λ x. take 116 b ++ x ∷ h.flags ∷ []) (sym r.resolution)
    ∙ ap (λ x. take 116 b ++ get_or b 116 0 ∷ x ∷ []) (sym r.flags)
    ∙ last_two 116 b size

-- a piece, and what is behind it
pub record IsCut (b piece rest : Bytes) (at end : ℕ) : Type 0 where
  pub piece_is : take (length piece) (drop at b) ≡ piece
  pub rest_is : rest ≡ drop end b

pub cut : (b tail piece rest : Bytes) (at end : ℕ) → end ≡ at + length piece → tail ≡ drop at b → tail ≡ piece ++ rest
    → IsCut b piece rest at end
cut b tail piece rest at end e is parts = record {
  piece_is = ap (take (length piece)) (sym is ∙ parts) ∙ take_at piece rest (length piece) refl;
  rest_is = sym (ap (λ k. drop k b) e ∙ sym (drop-drop (length piece) at b) ∙ ap (drop (length piece)) (sym is ∙ parts)
      ∙ drop_at piece rest (length piece) refl);
}

pub sized : (n : ℕ) (piece t : Bytes) → length piece ≡ n → take (length piece) t ≡ piece → take n t ≡ piece
sized n piece t e is = ap (λ k. take k t) (sym e) ∙ is

-- bytes read as one header
pub one_header : (h k : Header) (b : Bytes) → Reads b h → Reads b k → h ≡ k
one_header h k b p q = λ i. record {
  seq = (sym p.seq ∙ q.seq) i;
  drops = (sym p.drops ∙ q.drops) i;
  parent = (sym p.parent ∙ q.parent) i;
  tx_root = (sym p.tx_root ∙ q.tx_root) i;
  state_root = (sym p.state_root ∙ q.state_root) i;
  parent_close = (sym p.parent_close ∙ q.parent_close) i;
  close = (sym p.close ∙ q.close) i;
  resolution = (sym p.resolution ∙ q.resolution) i;
  flags = (sym p.flags ∙ q.flags) i;
}

-- the bytes as they are written, field by field
pub record Writes (h : Header) (b1 b2 b3 b4 b5 b6 b7 b8 : Bytes) : Type 0 where
  pub seq : take 4 b1 ≡ to_be_bytes w32 h.seq
  pub drops : take 12 b2 ≡ take 4 b1 ++ to_be_bytes w64 h.drops
  pub parent : take (12 + length h.parent) b3 ≡ take 12 b2 ++ h.parent
  pub tx_root : take (44 + length h.tx_root) b4 ≡ take 44 b3 ++ h.tx_root
  pub state_root : take (76 + length h.state_root) b5 ≡ take 76 b4 ++ h.state_root
  pub parent_close : take 112 b6 ≡ take 108 b5 ++ to_be_bytes w32 h.parent_close
  pub close : take 116 b7 ≡ take 112 b6 ++ to_be_bytes w32 h.close
  pub last : take 118 b8 ≡ take 116 b7 ++ h.resolution ∷ h.flags ∷ []

end_at : (n end : ℕ) (b t : Bytes) → n ≡ end → take n b ≡ t → take end b ≡ t
end_at n end b t e is = ap (λ k. take k b) (sym e) ∙ is

pub written : (h : Header) (b1 b2 b3 b4 b5 b6 b7 b8 : Bytes) → IsHeader (fields h) → length b8 ≡ 118 → Writes h b1 b2 b3 b4 b5 b6 b7 b8
    → b8 ≡ header_bytes (fields h)
unfolding header_bytes
written h b1 b2 b3 b4 b5 b6 b7 b8 is size w =
    let p2 : take 12 b2 ≡ to_be_bytes w32 h.seq ++ to_be_bytes w64 h.drops = w.drops ∙ ap (λ t. t ++ to_be_bytes w64 h.drops) w.seq in
    let p3 = end_at (12 + length h.parent) 44 b3 _ (omega (arith, is.parent)) w.parent ∙ ap (λ t. t ++ h.parent) p2 in
    let p4 = end_at (44 + length h.tx_root) 76 b4 _ (omega (arith, is.tx_root)) w.tx_root ∙ ap (λ t. t ++ h.tx_root) p3 in
    let p5 = end_at (76 + length h.state_root) 108 b5 _ (omega (arith, is.state_root)) w.state_root ∙ ap (λ t. t ++ h.state_root) p4 in
    let p6 = w.parent_close ∙ ap (λ t. t ++ to_be_bytes w32 h.parent_close) p5 in
    let p7 = w.close ∙ ap (λ t. t ++ to_be_bytes w32 h.close) p6 in
    let all : length b8 ≤ 118 = omega arith in
    sym (take_all 118 b8 all) ∙ w.last ∙ ap (λ t. t ++ h.resolution ∷ h.flags ∷ []) p7

-- a prefix, and what is behind it, put one after the other
pub two_puts : (b1 b2 p e front back : Bytes) → p ≡ front → e ≡ back → length front ≡ 4 → take (0 + length p) b1 ≡ p
    → take (4 + length e) b2 ≡ take 4 b1 ++ e → length b2 ≡ 4 + length e → b2 ≡ front ++ back
two_puts b1 b2 p e front back is behind four first second size =
    let all : length b2 ≤ 4 + length e = omega arith in
    let at : 0 + length p ≡ 4 = omega (arith, ap length is) in
    sym (take_all (4 + length e) b2 all) ∙ second ∙ ap (λ t. t ++ e) (end_at (0 + length p) 4 b1 p at first ∙ is)
    ∙ ap (λ t. front ++ t) behind
