-- Reading a wire form by its type byte, and a leaf and a full inner node by what stands before it.
use Rattle.std.proofs.Common.{◌≡◌, ◌+◌, ◌-◌, ◌≤◌, ◌<◌, ◌==◌, not, ℕ, Bool, true, false, List, [], ◌∷◌, ◌++◌, length, take, drop, get_or}
use Rattle.std.proofs.Common.{nat_lt, IsTrue, Result, Ok, Err, if◌then◌else◌, refl, sym, ap, ◌∙◌, arith, length-append}
use Rattle.std.specs.Prelude.{slice_index}
use Rattle.std.specs.List.{list_all, list_any}
use Rattle.std.proofs.lemmas.Bool.{ne_eqb, eq-eqb, eqb-true, eqb-false, cond-true, cond-false, le-ltb, ltb-false}
use Rattle.std.proofs.lemmas.Bool.{not-true}
use Rattle.std.proofs.lemmas.List.{drop_at, get_or_at, get_or-drop, take_all, take_at, take_more}
use Rattle.ledger_spec.specs.declared.Kind.{Kind}
use Rattle.ledger_spec.specs.Bytes.{Bytes, Hash, Half, hashes_of, is_zero, is_nonzero}
use Rattle.ledger_spec.proofs.shared.Hashes.{none_nonzero}
use Rattle.ledger_spec.specs.Forms.{Held, inner, leaf, data_limit}
use Rattle.ledger_spec.specs.Wire.{read_wire, read_typed, checked_inner, checked_leaf, keyed_leaf, full}

-- bytes that end in a type byte are read by it
pub read_is : (half : Half) (w front : Bytes) (t : ℕ) → (length w == 0) ≡ false → front ≡ take (length w - 1) w
    → t ≡ slice_index w (length w - 1)
    → read_wire half w ≡ read_typed half front t
unfolding read_wire
read_is half w front t long before last = rw (long, before, last) refl

pub read_empty : (half : Half) (w : Bytes) → (length w == 0) ≡ true → read_wire half w ≡ Err 1
unfolding read_wire
read_empty half w none = rw none refl

-- the last byte, read of what is behind the others
pub last_is : (w last : Bytes) (t : ℕ) → last ≡ drop (length w - 1) w → get_or last 0 0 ≡ t → t ≡ slice_index w (length w - 1)
last_is w last t behind is =
    let at : length w - 1 + 0 ≡ length w - 1 = omega arith in
    sym (sym (ap (λ n. get_or w n 0) at) ∙ sym (get_or-drop (length w - 1) w 0 0) ∙ ap (λ x. get_or x 0 0) (sym behind) ∙ is)

-- bytes are what stands before their type byte, and that
pub ends_in : (w : Bytes) → (length w == 0) ≡ false → w ≡ take (length w - 1) w ++ slice_index w (length w - 1) ∷ []
ends_in w long =
    let some : (length w ≡ 0) → ⊥ = eqb-false (length w) 0 long in
    let last : length w - 1 < length w = omega arith in
    let all : length w ≤ length w - 1 + 1 = omega arith in
    sym (take_all (length w - 1 + 1) w all) ∙ take_more w (length w - 1) 0 last

pub read_front : (half : Half) (front w : Bytes) (t : ℕ) → w ≡ front ++ t ∷ [] → read_wire half w ≡ read_typed half front t
read_front half front w t is =
    let size : length w ≡ length front + 1 = ap length is ∙ length-append front (t ∷ []) in
    let some : (length w ≡ 0) → ⊥ = omega (arith, size) in
    let at : length front ≡ length w - 1 = omega (arith, size) in
    let before : front ≡ take (length w - 1) w = sym (ap (take (length w - 1)) is ∙ take_at front (t ∷ []) (length w - 1) at) in
    let last : t ≡ slice_index w (length w - 1) =
    sym (ap (λ b. slice_index b (length w - 1)) is ∙ get_or_at front t [] 0 (length w - 1) at)
    in
    read_is half w front t (ne_eqb (length w) 0 some) before last

-- a refusal, by its number, is no node
abbrev pub refusal : ℕ → Result Held ℕ
refusal k = Err k

pub no_node : {P : Type 0} (k : ℕ) (n : Held) → refusal k ≡ Ok n → P
no_node k n e = cc

-- a leaf: what its tests say
pub record IsLeafOf (kind : Kind) (key bytes : Bytes) (n : Held) : Type 0 where
  pub within : length bytes ≤ data_limit
  pub nonzero : IsTrue (is_nonzero key)
  pub node : n ≡ leaf kind key bytes

pub leaf_of : (kind : Kind) (key bytes : Bytes) (n : Held) → checked_leaf kind key bytes ≡ Ok n → IsLeafOf kind key bytes n
leaf_of kind key bytes n e = by_tests (nat_lt data_limit (length bytes)) refl (is_zero key) refl e
  where
    by_tests : (a : Bool) → nat_lt data_limit (length bytes) ≡ a → (z : Bool) → is_zero key ≡ z
        → (if a then refusal 11 else if z then refusal 10 else Ok (leaf kind key bytes)) ≡ Ok n → IsLeafOf kind key bytes n
    by_tests true long z zero e = no_node 11 n e
    by_tests false long true zero e = no_node 10 n e
    by_tests false long false zero e =
        let same : n ≡ leaf kind key bytes = cc in
        record { within = ltb-false data_limit (length bytes) long; nonzero = ap not zero; node = same }

pub leaf_is : (kind : Kind) (key bytes : Bytes) → length bytes ≤ data_limit → IsTrue (is_nonzero key)
    → checked_leaf kind key bytes ≡ Ok (leaf kind key bytes)
leaf_is kind key bytes within nonzero =
    let long : nat_lt data_limit (length bytes) ≡ false = le-ltb data_limit (length bytes) within in
    let zero : is_zero key ≡ false = not-true (is_zero key) nonzero in
    rw (long, zero) refl

-- data and then a key
pub record IsKeyed (kind : Kind) (front : Bytes) (n : Held) : Type 0 where
  pub long : 32 ≤ length front
  pub parts : IsLeafOf kind (drop (length front - 32) front) (take (length front - 32) front) n

pub keyed_of : (kind : Kind) (front : Bytes) (n : Held) → keyed_leaf kind front ≡ Ok n → IsKeyed kind front n
keyed_of kind front n e = by_test (nat_lt (length front) 32) refl e
  where
    by_test : (a : Bool) → nat_lt (length front) 32 ≡ a
        → (if a then refusal 9 else checked_leaf kind (drop (length front - 32) front) (take (length front - 32) front)) ≡ Ok n
        → IsKeyed kind front n
    by_test true short e = no_node 9 n e
    by_test false long e = record {
      long = ltb-false (length front) 32 long;
      parts = leaf_of kind (drop (length front - 32) front) (take (length front - 32) front) n e;
    }

pub keyed_is : (kind : Kind) (key bytes : Bytes) → length key ≡ 32 → length bytes ≤ data_limit → IsTrue (is_nonzero key)
    → keyed_leaf kind (bytes ++ key) ≡ Ok (leaf kind key bytes)
keyed_is kind key bytes size within nonzero =
    let whole : length (bytes ++ key) ≡ length bytes + 32 = length-append bytes key ∙ ap (λ n. length bytes + n) size in
    let long : nat_lt (length (bytes ++ key)) 32 ≡ false = le-ltb (length (bytes ++ key)) 32 (omega (arith, whole)) in
    let at : length bytes ≡ length (bytes ++ key) - 32 = omega (arith, whole) in
    let behind : drop (length (bytes ++ key) - 32) (bytes ++ key) ≡ key = drop_at bytes key (length (bytes ++ key) - 32) at in
    let before : take (length (bytes ++ key) - 32) (bytes ++ key) ≡ bytes = take_at bytes key (length (bytes ++ key) - 32) at in
    rw (long, behind, before) (leaf_is kind key bytes within nonzero)

-- an inner node: what its tests say
pub record IsInnerOf (hashes : List Hash) (n : Held) : Type 0 where
  pub some : IsTrue (list_any is_nonzero hashes)
  pub node : n ≡ inner hashes

pub inner_by : (hashes : List Hash) (n : Held) → checked_inner hashes ≡ Ok n → IsInnerOf hashes n
inner_by hashes n e = by_test (list_any is_nonzero hashes) refl e
  where
    by_test : (a : Bool) → list_any is_nonzero hashes ≡ a → (if a then Ok (inner hashes) else refusal 8) ≡ Ok n → IsInnerOf hashes n
    by_test true some e = let same : n ≡ inner hashes = cc in record { some = some; node = same }
    by_test false none e = no_node 8 n e

pub inner_is : (hashes : List Hash) → IsTrue (list_any is_nonzero hashes) → checked_inner hashes ≡ Ok (inner hashes)
inner_is hashes some = rw some refl

pub inner_none : (hashes : List Hash) → IsTrue (list_all is_zero hashes) → checked_inner hashes ≡ Err 8
inner_none hashes all = cond-false (list_any is_nonzero hashes) _ _ (none_nonzero hashes all)

pub record IsFull (front : Bytes) (n : Held) : Type 0 where
  pub size : length front ≡ 512
  pub parts : IsInnerOf (hashes_of 16 front) n

pub full_of : (front : Bytes) (n : Held) → full front ≡ Ok n → IsFull front n
full_of front n e = by_test (length front == 512) refl e
  where
    by_test : (a : Bool) → (length front == 512) ≡ a → (if not a then refusal 3 else checked_inner (hashes_of 16 front)) ≡ Ok n
        → IsFull front n
    by_test true size e = record { size = eqb-true (length front) 512 size; parts = inner_by (hashes_of 16 front) n e }
    by_test false size e = no_node 3 n e

-- the inner node of sixteen hashes
pub full_is : (front : Bytes) (hashes : List Hash) → length front ≡ 512 → hashes ≡ hashes_of 16 front
    → full front ≡ checked_inner hashes
full_is front hashes size is =
    cond-false (not (length front == 512)) _ _ (ap not (eq-eqb (length front) 512 size)) ∙ ap checked_inner (sym is)

pub full_length : (front : Bytes) → (length front ≡ 512 → ⊥) → full front ≡ Err 3
full_length front other = cond-true (not (length front == 512)) _ _ (ap not (ne_eqb (length front) 512 other))
