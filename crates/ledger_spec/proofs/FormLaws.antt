-- What a form's bytes say of its parts.
use Rattle.std.proofs.Common.{◌≡◌, ◌≤◌, ◌+◌, ◌-◌, ℕ, List, ◌++◌, length, take, drop, nat_eq, IsTrue, T, not, false, refl, ap, ◌∙◌, subst}
use Rattle.std.proofs.Common.{arith, length-append}
use Rattle.std.proofs.Math.Seq.{drop-append_seam, take-append_seam}
use Rattle.std.specs.List.{starts_with, concat}
use Rattle.ledger_spec.specs.declared.Kind.TheVariants.{State, Tx, Set}
use Rattle.ledger_spec.specs.Bytes.{Bytes, Half}
use Rattle.ledger_spec.specs.Forms.{Held, inner, leaf, header, Form, IsItem, leaf_prefix, inner_prefix}

-- where the key and the data of a leaf's form stand
pub record AreParts (key bytes b : List ℕ) : Type 0 where
  pub size : length b ≡ length bytes + 36
  pub key_at : drop (length b - 32) b ≡ key
  pub data_at : drop 4 (take (length b - 32) b) ≡ bytes

pub parts_of_state : (key bytes b : List ℕ) → length key ≡ 32 → b ≡ leaf_prefix State ++ bytes ++ key → AreParts key bytes b
parts_of_state key bytes b whole e =
    let size : length b ≡ length bytes + 36 = ap length e ∙ omega (arith, length-append bytes key, whole) in
    let front : length b - 32 ≡ length (leaf_prefix State ++ bytes) = omega (arith, size) in
    record {
      size = size;
      key_at =
          ap (λ n. drop n b) front ∙ ap (drop (length (leaf_prefix State ++ bytes))) e ∙ drop-append_seam (leaf_prefix State ++ bytes) key;
      data_at = ap (drop 4) (ap (λ n. take n b) front ∙ ap (take (length (leaf_prefix State ++ bytes))) e
          ∙ take-append_seam (leaf_prefix State ++ bytes) key);
    }

no_false : IsTrue false → ⊥
no_false h = subst (λ b. T (not b)) h tt

inner_no_state : (xs : List ℕ) → starts_with nat_eq (inner_prefix ++ xs) (leaf_prefix State) ≡ false
inner_no_state xs = refl

-- bytes behind the state leaf's prefix are the form of an item alone
pub item_of_state : (half : Half) (n : Held) (b : Bytes) → IsTrue (starts_with nat_eq b (leaf_prefix State)) → Form half n b
    → (36 ≤ length b) × IsItem (drop (length b - 32) b) (drop 4 (take (length b - 32) b))
item_of_state half (leaf State key bytes) b starts f =
    let p : AreParts key bytes b = parts_of_state key bytes b f.0.key_size f.1 in
    (omega (arith, p.size), rw (p.key_at, p.data_at) f.0)
item_of_state half (leaf Tx key bytes) b starts f =
    absurd (no_false (subst (λ x. IsTrue (starts_with nat_eq x (leaf_prefix State))) f.1 starts))
item_of_state half (leaf Set key bytes) b starts f =
    absurd (no_false (subst (λ x. IsTrue (starts_with nat_eq x (leaf_prefix State))) f.1 starts))
item_of_state half (inner hashes) b starts f =
    absurd (no_false (subst IsTrue (ap (λ x. starts_with nat_eq x (leaf_prefix State)) f.1 ∙ inner_no_state (concat hashes)) starts))
item_of_state half (header bytes) b starts f = absurd (no_false (subst (λ x. IsTrue (starts_with nat_eq x (leaf_prefix State))) f.1 starts))
