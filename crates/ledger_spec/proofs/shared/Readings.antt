-- Bytes are the form of at most one node or header, the one that they hold. For proofs of other crates.
use Rattle.std.proofs.Common.{◌≡◌, ◌≤◌, ◌+◌, ◌-◌, ◌*◌, ◌==◌, ◌&&◌, Bool, true, false, List, ◌++◌, length, take, drop, nat_eq, nat_le}
use Rattle.std.proofs.Common.{if◌then◌else◌, Option, Some, None, refl, sym, ap, ◌∙◌, subst, arith, length-drop}
use Rattle.std.proofs.lemmas.List.{append_assoc, take_all, take-append-drop, length-take-le, drop-append-le}
use Rattle.std.proofs.lemmas.Bool.{eqb-true, leb-true, and_parts}
use Rattle.std.proofs.lemmas.Bool.Decides.{Decides-eqb}
use Rattle.std.proofs.lemmas.Slice.Eq.{starts_is}
use Rattle.std.specs.List.{starts_with, concat, list_any}
use Rattle.std.specs.Option.{option_or, option_map}
use Rattle.half_hash.specs.declared.prefix.Prefix.TheVariants.{Txn, Snd, Mln, Min}
use Rattle.half_hash.specs.Prefix.{prefix_of}
use Rattle.half_hash.specs.Zero.{is_nonzero}
use Rattle.ledger_spec.specs.declared.Kind.{Kind}
use Rattle.ledger_spec.specs.declared.Kind.TheVariants.{State, Tx, Set}
use Rattle.ledger_spec.specs.Bytes.{Bytes, Hash, Half, hashes_of}
use Rattle.ledger_spec.specs.Forms.{Held, inner, leaf, header, Form, IsItem, IsInner, leaf_prefix, inner_prefix, header_prefix}
use Rattle.ledger_spec.specs.Forms.{data_limit, inner_of, header_of, keyed_leaf_of, bare_leaf_of}
use Rattle.ledger_spec.specs.Findings.{held_of}
use Rattle.ledger_spec.proofs.shared.Hashes.{concat-hashes_of, length-hashes_of, sizes-hashes_of}
use Rattle.ledger_spec.proofs.shared.Seeing.{key_at, data_at, hashes_at}

-- bytes that begin with a prefix are it and the rest
pub starts_split : (b p : Bytes) → starts_with nat_eq b p ≡ true → b ≡ p ++ drop (length p) b
starts_split b p starts = (starts_is Decides-eqb b p (starts_with nat_eq b p) refl).0 starts

-- the form behind its four bytes
pub form_behind : (b p parts : Bytes) → length p ≡ 4 → starts_with nat_eq b p ≡ true → drop 4 b ≡ parts → b ≡ p ++ parts
form_behind b p parts size starts rest = starts_split b p starts ∙ ap (λ n. p ++ drop n b) size ∙ ap (λ t. p ++ t) rest

-- what bytes hold if they are a form
abbrev pub read : Half → Bytes → Held
read half b =
    if starts_with nat_eq b (prefix_of Min) then inner (hashes_of 16 (drop 4 b))
    else if starts_with nat_eq b (prefix_of Mln) then leaf State (drop (length b - 32) b) (drop 4 (take (length b - 32) b))
    else if starts_with nat_eq b (prefix_of Snd) then leaf Tx (drop (length b - 32) b) (drop 4 (take (length b - 32) b))
    else if starts_with nat_eq b (prefix_of Txn) then leaf Set (half b) (drop 4 b)
    else header (drop 4 b)

-- a form's bytes are read as what it holds
pub read_form : (half : Half) (n : Held) → (b : Bytes) → Form half n b → read half b ≡ n
read_form half (inner hashes) b f = ap (read half) f.1 ∙ ap inner (hashes_at hashes f.0)
read_form half (leaf State key bytes) b f =
    ap (read half) f.1
    ∙ ap (λ k. leaf State k (drop 4 (take (length (prefix_of Mln ++ bytes ++ key) - 32) (prefix_of Mln ++ bytes ++ key))))
    (key_at (prefix_of Mln) bytes key refl f.0.key_size)
    ∙ ap (leaf State key) (data_at (prefix_of Mln) bytes key refl f.0.key_size)
read_form half (leaf Tx key bytes) b f =
    ap (read half) f.1
    ∙ ap (λ k. leaf Tx k (drop 4 (take (length (prefix_of Snd ++ bytes ++ key) - 32) (prefix_of Snd ++ bytes ++ key))))
    (key_at (prefix_of Snd) bytes key refl f.0.key_size)
    ∙ ap (leaf Tx key) (data_at (prefix_of Snd) bytes key refl f.0.key_size)
read_form half (leaf Set key bytes) b f = ap (read half) f.1 ∙ ap (λ k. leaf Set k bytes) (sym f.0.1)
read_form half (header bytes) b f = ap (read half) f.1

-- one reading
pub same_reading : (half : Half) (m n : Held) (b : Bytes) → Form half m b → Form half n b → m ≡ n
same_reading half m n b f g = sym (read_form half m b f) ∙ read_form half n b g

-- a choice that gave something
pub chose : {A : Type 0} (t : Bool) (x v : A) → (if t then Some x else None) ≡ Some v → (t ≡ true) × (x ≡ v)
chose true x v e = (refl, cc)
chose false x v e = cc

pub record Three (p q r : Bool) : Type 0 where
  pub first : p ≡ true
  pub second : q ≡ true
  pub third : r ≡ true

record Four (p q r s : Bool) : Type 0 where
  pub first : p ≡ true
  pub second : q ≡ true
  pub third : r ≡ true
  fourth : s ≡ true

pub three_parts : (p q r : Bool) → (p && q && r) ≡ true → Three p q r
three_parts true true true e = record { first = refl; second = refl; third = refl }
three_parts true true false e = cc
three_parts true false r e = cc
three_parts false q r e = cc

four_parts : (p q r s : Bool) → (p && q && r && s) ≡ true → Four p q r s
four_parts true true true true e = record { first = refl; second = refl; third = refl; fourth = refl }
four_parts true true true false e = cc
four_parts true true false s e = cc
four_parts true false r s e = cc
four_parts false q r s e = cc

-- what is held by bytes has them as its form
pub holds_inner : (half : Half) (b : Bytes) (hashes : List Hash) → inner_of b ≡ Some hashes → Form half (inner hashes) b
unfolding inner_of
holds_inner half b hashes is =
    let q : ((starts_with nat_eq b inner_prefix && (length b == 516) && list_any is_nonzero (hashes_of 16 (drop 4 b))) ≡ true)
    × (hashes_of 16 (drop 4 b) ≡ hashes) = chose _ _ hashes is in
    let t : Three (starts_with nat_eq b inner_prefix) (length b == 516) (list_any is_nonzero (hashes_of 16 (drop 4 b))) =
    three_parts _ _ _ q.0 in
    let size : length b ≡ 516 = eqb-true (length b) 516 t.second in
    let rest : length (drop 4 b) ≡ 512 = omega (arith, length-drop 4 b, size) in
    let whole : length (drop 4 b) ≤ 512 = omega arith in
    let enough : 32 * 16 ≤ length (drop 4 b) = omega arith in
    let joined : drop 4 b ≡ concat hashes = sym (take_all 512 (drop 4 b) whole) ∙ sym (concat-hashes_of 16 (drop 4 b)) ∙ ap concat q.1 in (
      subst IsInner q.1 (record { count = length-hashes_of 16 (drop 4 b); sizes = sizes-hashes_of 16 (drop 4 b) enough; some = t.third }),
      form_behind b inner_prefix (concat hashes) refl t.first joined,
    )

pub holds_header : (half : Half) (b bytes : Bytes) → header_of b ≡ Some bytes → Form half (header bytes) b
unfolding header_of
holds_header half b bytes is =
    let q : (((length b == 122) && starts_with nat_eq b header_prefix) ≡ true) × (drop 4 b ≡ bytes) = chose _ _ bytes is in
    let t : ((length b == 122) ≡ true) × (starts_with nat_eq b header_prefix ≡ true) = and_parts _ _ q.0 in
    let size : length b ≡ 122 = eqb-true (length b) 122 t.0 in
    (sym (ap length q.1) ∙ omega (arith, length-drop 4 b, size), form_behind b header_prefix bytes refl t.1 q.1)

-- the key and the data behind a prefix
parts_join : (b : Bytes) → 36 ≤ length b → drop 4 b ≡ drop 4 (take (length b - 32) b) ++ drop (length b - 32) b
parts_join b long =
    let within : 4 ≤ length (take (length b - 32) b) = omega (arith, length-take-le (length b - 32) b (omega arith)) in
    ap (drop 4) (sym (take-append-drop (length b - 32) b)) ∙ drop-append-le 4 (take (length b - 32) b) (drop (length b - 32) b) within

pub record IsKeyed (kind : Kind) (b : Bytes) (n : Held) : Type 0 where
  pub key : Hash
  pub bytes : Bytes
  pub is : n ≡ leaf kind key bytes
  pub item : IsItem key bytes
  pub joined : b ≡ leaf_prefix kind ++ bytes ++ key

prefix_size : (kind : Kind) → length (leaf_prefix kind) ≡ 4
prefix_size State = refl
prefix_size Tx = refl
prefix_size Set = refl

pub holds_keyed : (kind : Kind) (b : Bytes) (n : Held) → keyed_leaf_of kind b ≡ Some n → IsKeyed kind b n
unfolding keyed_leaf_of
holds_keyed kind b n is =
    let q : ((starts_with nat_eq b (leaf_prefix kind) && nat_le 36 (length b) && nat_le (length b) (36 + data_limit) && is_nonzero
    (drop (length b - 32) b)) ≡ true)
    × (leaf kind (drop (length b - 32) b) (drop 4 (take (length b - 32) b)) ≡ n) = chose _ _ n is in
    let t : Four (starts_with nat_eq b (leaf_prefix kind)) (nat_le 36 (length b)) (nat_le (length b) (36 + data_limit))
    (is_nonzero (drop (length b - 32) b)) = four_parts _ _ _ _ q.0 in
    let long : 36 ≤ length b = leb-true 36 (length b) t.second in
    let short : length b ≤ 36 + data_limit = leb-true (length b) (36 + data_limit) t.third in
    let front : length (take (length b - 32) b) ≡ length b - 32 = length-take-le (length b - 32) b (omega arith) in
    record {
      key = drop (length b - 32) b;
      bytes = drop 4 (take (length b - 32) b);
      is = sym q.1;
      item = record {
        key_size = omega (arith, length-drop (length b - 32) b);
        key_nonzero = t.fourth;
        data_size = omega (arith, length-drop 4 (take (length b - 32) b));
      };
      joined = form_behind b (leaf_prefix kind) (drop 4 (take (length b - 32) b) ++ drop (length b - 32) b) (prefix_size kind) t.first
          (parts_join b long) ∙ sym (append_assoc (leaf_prefix kind) (drop 4 (take (length b - 32) b)) (drop (length b - 32) b));
    }

holds_bare : (half : Half) (b : Bytes) (n : Held) → ((x : Bytes) → length (half x) ≡ 32) → bare_leaf_of half b ≡ Some n → Form half n b
unfolding bare_leaf_of
holds_bare half b n sized is =
    let q : ((starts_with nat_eq b (leaf_prefix Set) && nat_le (length b) (4 + data_limit) && is_nonzero (half b)) ≡ true)
    × (leaf Set (half b) (drop 4 b) ≡ n) = chose _ _ n is in
    let t : Three (starts_with nat_eq b (leaf_prefix Set)) (nat_le (length b) (4 + data_limit)) (is_nonzero (half b)) =
    three_parts _ _ _ q.0 in
    let short : length b ≤ 4 + data_limit = leb-true (length b) (4 + data_limit) t.second in
    let e : b ≡ leaf_prefix Set ++ drop 4 b = form_behind b (leaf_prefix Set) (drop 4 b) refl t.first refl in
    subst (λ m. Form half m b) q.1
    ((record { key_size = sized b; key_nonzero = t.third; data_size = omega (arith, length-drop 4 b) }, ap half e), e)

pub state_form : (half : Half) (b : Bytes) (n : Held) → IsKeyed State b n → Form half n b
state_form half b n k = subst (λ m. Form half m b) (sym k.is) (k.item, k.joined)

pub tx_form : (half : Half) (b : Bytes) (n : Held) → IsKeyed Tx b n → Form half n b
tx_form half b n k = subst (λ m. Form half m b) (sym k.is) (k.item, k.joined)

pub by_reader : (P : Held → Type 0) (n : Held) (a : Option (List Hash)) (b : Option Bytes) (c d e : Option Held)
    → ((hashes : List Hash) → a ≡ Some hashes → P (inner hashes)) → ((bytes : Bytes) → b ≡ Some bytes → P (header bytes))
    → ((m : Held) → c ≡ Some m → P m) → ((m : Held) → d ≡ Some m → P m) → ((m : Held) → e ≡ Some m → P m)
    → option_or (option_map inner a) (option_or (option_map header b) (option_or c (option_or d e))) ≡ Some n → P n
by_reader P n (Some hashes) b c d e p q r s t is = let same : inner hashes ≡ n = cc in subst P same (p hashes refl)
by_reader P n None (Some bytes) c d e p q r s t is = let same : header bytes ≡ n = cc in subst P same (q bytes refl)
by_reader P n None None (Some m) d e p q r s t is = r n is
by_reader P n None None None (Some m) e p q r s t is = s n is
by_reader P n None None None None e p q r s t is = t n is

pub holds : (half : Half) → ((x : Bytes) → length (half x) ≡ 32) → (n : Held) (b : Bytes) → held_of half b ≡ Some n → Form half n b
holds half sized n b is =
    by_reader (λ m. Form half m b) n (inner_of b) (header_of b) (keyed_leaf_of State b) (keyed_leaf_of Tx b) (bare_leaf_of half b)
    (holds_inner half b) (holds_header half b) (λ m k. state_form half b m (holds_keyed State b m k))
    (λ m k. tx_form half b m (holds_keyed Tx b m k)) (λ m k. holds_bare half b m sized k) is
