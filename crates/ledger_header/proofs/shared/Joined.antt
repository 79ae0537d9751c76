-- A header's bytes: how many they are, and that they read as its fields. For proofs of other crates.
use Rattle.std.proofs.Common.{◌≡◌, ◌+◌, ℕ, [], ◌∷◌, ◌++◌, length, drop, get_or, refl, sym, ap, ◌∙◌, arith}
use Rattle.std.proofs.Common.{length-append}
use Rattle.std.proofs.lemmas.List.{append_assoc}
use Rattle.std.proofs.lemmas.List.{get_or-drop}
use Rattle.std.proofs.lemmas.Nat.{from_be_bytes-to_be_bytes_4, from_be_bytes-to_be_bytes_8}
use Rattle.std.specs.Int.{w32, w64, to_be_bytes, from_be_bytes}
use Rattle.ledger_spec.specs.Bytes.{Bytes}
use Rattle.ledger_spec.specs.Header.{header_bytes, IsHeader}
use Rattle.ledger_header.specs.declared.Header.{Header}
use Rattle.ledger_header.specs.Fields.{fields, Reads}
use Rattle.ledger_header.proofs.Joined.{IsCut, cut, sized}

-- the fields' bytes read as the fields
pub parted : (h : Header) (b : Bytes) → IsHeader (fields h) → b ≡ header_bytes (fields h) → Reads b h
unfolding header_bytes
parted h b is e =
    let s = to_be_bytes w32 h.seq in
    let d = to_be_bytes w64 h.drops in
    let pc = to_be_bytes w32 h.parent_close in
    let c = to_be_bytes w32 h.close in
    let e7 : Bytes = h.resolution ∷ h.flags ∷ [] in
    let e6 : Bytes = c ++ e7 in
    let e5 : Bytes = pc ++ e6 in
    let e4 : Bytes = h.state_root ++ e5 in
    let e3 : Bytes = h.tx_root ++ e4 in
    let e2 : Bytes = h.parent ++ e3 in
    let e1 : Bytes = d ++ e2 in
    let whole : b ≡ s ++ e1 = e ∙ simp append_assoc in
    let c0 : IsCut b s e1 0 4 = cut b b s e1 0 4 refl refl whole in
    let c1 : IsCut b d e2 4 12 = cut b e1 d e2 4 12 refl c0.rest_is refl in
    let c2 : IsCut b h.parent e3 12 44 = cut b e2 h.parent e3 12 44 (omega (arith, is.parent)) c1.rest_is refl in
    let c3 : IsCut b h.tx_root e4 44 76 = cut b e3 h.tx_root e4 44 76 (omega (arith, is.tx_root)) c2.rest_is refl in
    let c4 : IsCut b h.state_root e5 76 108 = cut b e4 h.state_root e5 76 108 (omega (arith, is.state_root)) c3.rest_is refl in
    let c5 : IsCut b pc e6 108 112 = cut b e5 pc e6 108 112 refl c4.rest_is refl in
    let c6 : IsCut b c e7 112 116 = cut b e6 c e7 112 116 refl c5.rest_is refl in
    record {
      seq = ap (from_be_bytes w32) c0.piece_is ∙ from_be_bytes-to_be_bytes_4 h.seq is.seq;
      drops = ap (from_be_bytes w64) c1.piece_is ∙ from_be_bytes-to_be_bytes_8 h.drops is.drops;
      parent = sized 32 h.parent (drop 12 b) is.parent c2.piece_is;
      tx_root = sized 32 h.tx_root (drop 44 b) is.tx_root c3.piece_is;
      state_root = sized 32 h.state_root (drop 76 b) is.state_root c4.piece_is;
      parent_close = ap (from_be_bytes w32) c5.piece_is ∙ from_be_bytes-to_be_bytes_4 h.parent_close is.parent_close;
      close = ap (from_be_bytes w32) c6.piece_is ∙ from_be_bytes-to_be_bytes_4 h.close is.close;
      resolution = at_end b h.resolution h.flags 116 0 c6.rest_is;
      flags = at_end b h.resolution h.flags 116 1 c6.rest_is;
    }
  where
    at_end : (b : Bytes) (x y : ℕ) (n k : ℕ) → x ∷ y ∷ [] ≡ drop n b → get_or b (n + k) 0 ≡ get_or (x ∷ y ∷ []) k 0
    at_end b x y n k e = sym (get_or-drop n b k 0) ∙ ap (λ t. get_or t k 0) (sym e)

pub length-header_bytes : (h : Header) (b : Bytes) → IsHeader (fields h) → b ≡ header_bytes (fields h) → length b ≡ 118
unfolding header_bytes
length-header_bytes h b is e =
    let s = to_be_bytes w32 h.seq ++ to_be_bytes w64 h.drops in
    let p = s ++ h.parent in
    let t = p ++ h.tx_root in
    let r = t ++ h.state_root in
    let pc = r ++ to_be_bytes w32 h.parent_close in
    let c = pc ++ to_be_bytes w32 h.close in
    let last : Bytes = h.resolution ∷ h.flags ∷ [] in
    omega (
      arith,
      is.parent,
      is.tx_root,
      is.state_root,
      ap length e,
      length-append c last,
      length-append pc (to_be_bytes w32 h.close),
      length-append r (to_be_bytes w32 h.parent_close),
      length-append t h.state_root,
      length-append p h.tx_root,
      length-append s h.parent,
    )
