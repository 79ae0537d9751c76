-- Bytes that begin as a form of one kind and have its length are seen as that form, and as no other. For proofs of other crates.
use Rattle.std.proofs.Common.{◌≡◌, ◌≤◌, ◌+◌, ◌-◌, ◌==◌, ◌&&◌, Bool, true, false, List, ◌++◌, length, take, drop, nat_eq, nat_le}
use Rattle.std.proofs.Common.{Some, None, refl, sym, ap, ◌∙◌, arith, length-append}
use Rattle.std.proofs.Math.Seq.{drop-append_seam, take-append_seam}
use Rattle.std.proofs.lemmas.Bool.{eq-eqb, le-leb, and_from, and_right, cond-true, cond-false}
use Rattle.std.specs.List.{starts_with, concat, list_any}
use Rattle.std.specs.Option.{option_or, option_map}
use Rattle.half_hash.specs.declared.prefix.Prefix.TheVariants.{Txn, Snd, Mln}
use Rattle.half_hash.specs.Prefix.{prefix_of}
use Rattle.half_hash.specs.Zero.{is_nonzero}
use Rattle.ledger_spec.specs.declared.Kind.{Kind}
use Rattle.ledger_spec.specs.declared.Kind.TheVariants.{State, Tx, Set}
use Rattle.ledger_spec.specs.Bytes.{Bytes, Hash, Half, hashes_of}
use Rattle.ledger_spec.specs.Forms.{Held, inner, leaf, header, Form, IsItem, IsInner, leaf_prefix, inner_prefix, header_prefix}
use Rattle.ledger_spec.specs.Forms.{data_limit, inner_of, header_of, keyed_leaf_of, bare_leaf_of, leaf_of}
use Rattle.ledger_spec.specs.Findings.{held_of}
use Rattle.ledger_spec.proofs.shared.Hashes.{hashes_of-concat, length-concat}
use Rattle.ledger_spec.proofs.shared.Inners.{inner_of_is, not_inner_prefix}

-- where the key and the data stand
pub key_at : (p bytes key : Bytes) → length p ≡ 4 → length key ≡ 32 → drop (length (p ++ bytes ++ key) - 32) (p ++ bytes ++ key) ≡ key
key_at p bytes key front whole =
    let at : length (p ++ bytes ++ key) - 32 ≡ length (p ++ bytes) = omega (arith, length-append (p ++ bytes) key, length-append p bytes) in
    ap (λ n. drop n (p ++ bytes ++ key)) at ∙ drop-append_seam (p ++ bytes) key

pub data_at : (p bytes key : Bytes) → length p ≡ 4 → length key ≡ 32
    → drop 4 (take (length (p ++ bytes ++ key) - 32) (p ++ bytes ++ key)) ≡ bytes
data_at p bytes key front whole =
    let at : length (p ++ bytes ++ key) - 32 ≡ length (p ++ bytes) = omega (arith, length-append (p ++ bytes) key, length-append p bytes) in
    ap (λ n. drop 4 (take n (p ++ bytes ++ key))) at ∙ ap (drop 4) (take-append_seam (p ++ bytes) key)
    ∙ ap (λ n. drop n (p ++ bytes)) (sym front) ∙ drop-append_seam p bytes

pub size_of : (p bytes key : Bytes) → length p ≡ 4 → length key ≡ 32 → length (p ++ bytes ++ key) ≡ length bytes + 36
size_of p bytes key front whole = omega (arith, length-append (p ++ bytes) key, length-append p bytes)

-- the sixteen hashes of an inner node
pub hashes_at : (hashes : List Hash) → IsInner hashes → hashes_of 16 (concat hashes) ≡ hashes
hashes_at hashes h = ap (λ n. hashes_of n (concat hashes)) (sym h.count) ∙ hashes_of-concat hashes h.sizes

pub starts_as : (b form p : Bytes) → b ≡ form → starts_with nat_eq b p ≡ starts_with nat_eq form p
starts_as b form p e = ap (λ x. starts_with nat_eq x p) e

-- bytes with other prefixes
no_header : (b : Bytes) → starts_with nat_eq b header_prefix ≡ false → header_of b ≡ None
unfolding header_of
no_header b other = cond-false _ _ _ (and_right (length b == 122) (starts_with nat_eq b header_prefix) other)

no_keyed : (kind : Kind) (b : Bytes) → starts_with nat_eq b (leaf_prefix kind) ≡ false → keyed_leaf_of kind b ≡ None
unfolding keyed_leaf_of
no_keyed kind b other = cond-false _ _ _
    (first_of_four (starts_with nat_eq b (leaf_prefix kind)) (nat_le 36 (length b)) (nat_le (length b) (36 + data_limit))
    (is_nonzero (drop (length b - 32) b)) other)
  where
    first_of_four : (p q r s : Bool) → p ≡ false → (p && q && r && s) ≡ false
    first_of_four false q r s e = refl
    first_of_four true q r s e = cc

four_true : (p q r s : Bool) → p ≡ true → q ≡ true → r ≡ true → s ≡ true → (p && q && r && s) ≡ true
four_true p q r s a b c d = rw (a, b, c, d) refl

three_true : (p q r : Bool) → p ≡ true → q ≡ true → r ≡ true → (p && q && r) ≡ true
three_true p q r a b c = rw (a, b, c) refl

-- a form is seen as what it holds
sees_keyed : (kind : Kind) (p key bytes b : Bytes) → leaf_prefix kind ≡ p → length p ≡ 4 → starts_with nat_eq b p ≡ true → IsItem key bytes
    → b ≡ p ++ bytes ++ key → keyed_leaf_of kind b ≡ Some (leaf kind key bytes)
unfolding keyed_leaf_of
sees_keyed kind p key bytes b is front starts item e =
    let size : length b ≡ length bytes + 36 = ap length e ∙ size_of p bytes key front item.key_size in
    let at : drop (length b - 32) b ≡ key = ap (λ x. drop (length x - 32) x) e ∙ key_at p bytes key front item.key_size in
    let before : drop 4 (take (length b - 32) b) ≡ bytes = ap (λ x. drop 4 (take (length x - 32) x)) e
    ∙ data_at p bytes key front item.key_size in
    let few : length b ≤ 36 + data_limit = omega (arith, item.data_size, size) in
    cond-true _ _ _ (four_true (starts_with nat_eq b (leaf_prefix kind)) (nat_le 36 (length b)) (nat_le (length b) (36 + data_limit))
    (is_nonzero (drop (length b - 32) b))
    (ap (starts_with nat_eq b) is ∙ starts) (le-leb 36 (length b) (omega arith)) (le-leb (length b) (36 + data_limit) few)
    (ap is_nonzero at ∙ item.key_nonzero))
    ∙ ap (λ k. Some (leaf kind k (drop 4 (take (length b - 32) b)))) at ∙ ap (λ d. Some (leaf kind key d)) before

sees_bare : (half : Half) (key bytes b : Bytes) → IsItem key bytes → key ≡ half b → b ≡ prefix_of Txn ++ bytes
    → bare_leaf_of half b ≡ Some (leaf Set key bytes)
unfolding bare_leaf_of
sees_bare half key bytes b item is e =
    let size : length b ≡ length (prefix_of Txn ++ bytes) = ap length e in
    let few : length b ≤ 4 + data_limit = omega (arith, item.data_size, size) in
    cond-true _ _ _ (three_true (starts_with nat_eq b (leaf_prefix Set)) (nat_le (length b) (4 + data_limit)) (is_nonzero (half b))
    (starts_as b _ (prefix_of Txn) e) (le-leb (length b) (4 + data_limit) few) (ap is_nonzero (sym is) ∙ item.key_nonzero))
    ∙ ap (λ k. Some (leaf Set k (drop 4 b))) (sym is) ∙ ap (λ x. Some (leaf Set key (drop 4 x))) e

sees_header : (bytes b : Bytes) → length bytes ≡ 118 → b ≡ header_prefix ++ bytes → header_of b ≡ Some bytes
unfolding header_of
sees_header bytes b whole e =
    let size : length b ≡ 122 = ap length e ∙ omega (arith, whole) in
    cond-true ((length b == 122) && starts_with nat_eq b header_prefix) _ _
    (and_from (length b == 122) (starts_with nat_eq b header_prefix) (eq-eqb (length b) 122 size) (starts_as b _ header_prefix e))
    ∙ ap (λ x. Some (drop 4 x)) e

sees_inner : (hashes : List Hash) (b : Bytes) → IsInner hashes → b ≡ inner_prefix ++ concat hashes → inner_of b ≡ Some hashes
sees_inner hashes b h e =
    let joined : length (concat hashes) ≡ 512 = omega (arith, length-concat hashes h.sizes, h.count) in
    let size : length b ≡ 516 = ap length e ∙ omega (arith, joined) in
    let same : hashes_of 16 (drop 4 b) ≡ hashes = ap (λ x. hashes_of 16 (drop 4 x)) e ∙ hashes_at hashes h in
    inner_of_is b (starts_as b (inner_prefix ++ concat hashes) inner_prefix e) size (ap (list_any is_nonzero) same ∙ h.some) ∙ ap Some same

at_header : (half : Half) (b bytes : Bytes) → inner_of b ≡ None → header_of b ≡ Some bytes → held_of half b ≡ Some (header bytes)
at_header half b bytes i h =
    ap (λ o. option_or (option_map inner o) (option_or (option_map header (header_of b)) (leaf_of half b))) i
    ∙ ap (λ o. option_or (option_map header o) (leaf_of half b)) h

at_leaf : (half : Half) (b : Bytes) → inner_of b ≡ None → header_of b ≡ None → held_of half b ≡ leaf_of half b
at_leaf half b i h =
    ap (λ o. option_or (option_map inner o) (option_or (option_map header (header_of b)) (leaf_of half b))) i
    ∙ ap (λ o. option_or (option_map header o) (leaf_of half b)) h

pub sees : (half : Half) (n : Held) (b : Bytes) → Form half n b → held_of half b ≡ Some n
sees half (inner hashes) b f =
    ap (λ o. option_or (option_map inner o) (option_or (option_map header (header_of b)) (leaf_of half b))) (sees_inner hashes b f.0 f.1)
sees half (header bytes) b f = at_header half b bytes (not_inner_prefix b (starts_as b _ inner_prefix f.1)) (sees_header bytes b f.0 f.1)
sees half (leaf State key bytes) b f =
    let e : b ≡ prefix_of Mln ++ bytes ++ key = f.1 in
    at_leaf half b (not_inner_prefix b (starts_as b _ inner_prefix e)) (no_header b (starts_as b _ header_prefix e))
    ∙ ap (λ o. option_or o (option_or (keyed_leaf_of Tx b) (bare_leaf_of half b)))
    (sees_keyed State (prefix_of Mln) key bytes b refl refl (starts_as b _ (prefix_of Mln) e) f.0 e)
sees half (leaf Tx key bytes) b f =
    let e : b ≡ prefix_of Snd ++ bytes ++ key = f.1 in
    at_leaf half b (not_inner_prefix b (starts_as b _ inner_prefix e)) (no_header b (starts_as b _ header_prefix e))
    ∙ ap (λ o. option_or o (option_or (keyed_leaf_of Tx b) (bare_leaf_of half b))) (no_keyed State b (starts_as b _ (prefix_of Mln) e))
    ∙ ap (λ o. option_or o (bare_leaf_of half b))
    (sees_keyed Tx (prefix_of Snd) key bytes b refl refl (starts_as b _ (prefix_of Snd) e) f.0 e)
sees half (leaf Set key bytes) b f =
    let e : b ≡ prefix_of Txn ++ bytes = f.1 in
    at_leaf half b (not_inner_prefix b (starts_as b _ inner_prefix e)) (no_header b (starts_as b _ header_prefix e))
    ∙ ap (λ o. option_or o (option_or (keyed_leaf_of Tx b) (bare_leaf_of half b))) (no_keyed State b (starts_as b _ (prefix_of Mln) e))
    ∙ ap (λ o. option_or o (bare_leaf_of half b)) (no_keyed Tx b (starts_as b _ (prefix_of Snd) e))
    ∙ sees_bare half key bytes b f.0.0 (f.0.1 ∙ ap half (sym e)) e
