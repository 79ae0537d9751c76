-- What single lines say.
use Rattle.std.proofs.Common.{◌≡◌, ◌<◌, ◌==◌, ◌&&◌, Bool, true, false, ◌∷◌, ◌++◌, length, take, drop}
use Rattle.std.proofs.Common.{nat_lt, nat_eq, slice_index, Option, None, Some, Ok, Err, refl, sym, ap, ◌∙◌, subst, arith}
use Rattle.std.proofs.lemmas.Bool.{and_parts, eqb-true, ltb-true}
use Rattle.std.proofs.lemmas.List.{length-take-le, take-append-drop}
use Rattle.std.proofs.lemmas.Slice.Eq.{bytes_eq-Decides}
use Rattle.std.proofs.Math.Seq.{split_at}
use Rattle.std.specs.List.{starts_with}
use Rattle.hex.specs.Hex.{decode_of}
use Rattle.ledger_spec.specs.Bytes.{Bytes}
use Rattle.ledger_spec.specs.Forms.{IsItem}
use Rattle.ledger_spec.specs.Tree.{Entry, IsByteEntry}
use Rattle.audit_core.specs.declared.cause.Cause.TheVariants as causes
use Rattle.audit_core.specs.Said.{digits_of, keyed}
use Rattle.plain_audit.specs.Lines.{item_of}
use Rattle.audit_core.proofs.shared.Decoded.{digits_some, decoded_bytes, decoded_size, checked_is}
use Rattle.plain_audit.specs.Ledgers.{IsItemText}

-- the two bytes of an item's text
pub item_bytes : (text : Bytes) (e : Entry) → IsItemText text e → IsByteEntry e
item_bytes text e is = (decoded_bytes is.key_text e.0 is.key.value, decoded_bytes is.data_text e.1 is.bytes)

-- the item that a text says is the item whose text it is
pub item_text : (text : Bytes) (e : Entry) → item_of text ≡ Ok e → IsItemText text e
unfolding item_of
item_text text e is = by_form (nat_lt 64 (length text) && (slice_index text 64 == 32)) refl is
  where
    by_keys : (k d : Option Bytes) → digits_of (take 64 text) ≡ k → digits_of (drop 65 text) ≡ d → 64 < length text
        → slice_index text 64 ≡ 32
        → keyed k d ≡ Ok e → IsItemText text e
    by_keys None d k_is d_is long space is = cc
    by_keys (Some key) None k_is d_is long space is = cc
    by_keys (Some key) (Some bytes) k_is d_is long space is =
        let parts = checked_is key bytes e is in
        let size : length (take 64 text) ≡ 64 = length-take-le 64 text (omega (arith, long)) in
        let value : decode_of (take 64 text) ≡ Ok key = digits_some (take 64 text) key k_is in
        let of_key : e.0 ≡ key = ap (λ (f : Entry). f.0) parts.0 in
        let of_bytes : e.1 ≡ bytes = ap (λ (f : Entry). f.1) parts.0 in
        let width : length key ≡ 32 = omega (arith, size, decoded_size (take 64 text) key value) in
        record {
          key_text = take 64 text;
          data_text = drop 65 text;
          text_is = split_at text 64 0 long ∙ ap (λ b. take 64 text ++ b ∷ drop 65 text) space;
          key = record { digits = size; value = value ∙ ap Ok (sym of_key) };
          bytes = digits_some (drop 65 text) bytes d_is ∙ ap Ok (sym of_bytes);
          item = subst (λ (f : Entry). IsItem f.0 f.1) (sym parts.0)
              (record { key_size = width; key_nonzero = parts.1; data_size = parts.2 });
        }

    by_form : (f : Bool) → (nat_lt 64 (length text) && (slice_index text 64 == 32)) ≡ f
        → (Rattle.std.specs.Prelude.if◌then◌else◌ f (keyed (digits_of (take 64 text)) (digits_of (drop 65 text))) (Err causes.Form)) ≡ Ok e
        → IsItemText text e
    by_form false f_is is = cc
    by_form true f_is is =
        let both = and_parts (nat_lt 64 (length text)) (slice_index text 64 == 32) f_is in
        by_keys (digits_of (take 64 text)) (digits_of (drop 65 text)) refl refl (ltb-true 64 (length text) both.0)
        (eqb-true (slice_index text 64) 32 both.1) is

-- a text that begins with a word is the word and what follows
pub begins_is : (line word : Bytes) → starts_with nat_eq line word ≡ true → line ≡ word ++ drop (length word) line
begins_is line word is =
    sym (take-append-drop (length word) line)
    ∙ ap (λ (w : Bytes). w ++ drop (length word) line) (sym ((bytes_eq-Decides word (take (length word) line)).0 is))
