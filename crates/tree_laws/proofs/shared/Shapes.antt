-- Keys, nibbles and tests, by the rules of shape. For proofs of other crates.
use Rattle.std.proofs.Common.{◌≡◌, ◌≢◌, ◌≤◌, ◌<◌, ◌==◌, ℕ, zero, suc, Bool, true, false}
use Rattle.std.proofs.Common.{if◌then◌else◌, List, [], ◌∷◌, length, get_or, nat_lt, is_none, IsTrue}
use Rattle.std.proofs.Common.{Option, None, Some, refl, arith}
use Rattle.std.proofs.lemmas.Bool.{eqb-false, ltb-true, and_parts, false≢true}
use Rattle.std.specs.List.{list_all}
use Rattle.ledger_spec.specs.declared.Kind.{Kind}
use Rattle.ledger_spec.specs.declared.Kind.TheVariants.{State, Tx, Set}
use Rattle.ledger_spec.specs.declared.ShapeFault.TheVariants.{InnerAtBottom}
use Rattle.ledger_spec.specs.Bytes.{Bytes, Hash, Half}
use Rattle.ledger_spec.specs.Forms.{inner, leaf, IsHeld}
use Rattle.ledger_spec.specs.Rules.{fault_of}
use Rattle.tree_laws.proofs.Shapes.{one_test}

-- a test that lets something through
pub passed : {A : Type 0} (t : Bool) (x : Option A) (v : A) → (if t then x else None) ≡ Some v → (t ≡ true) × (x ≡ Some v)
passed true x v e = (refl, e)
passed false x v e = cc

-- no fault
pub none_is : {A : Type 0} (o : Option A) → is_none o ≡ true → o ≡ None
none_is None e = refl
none_is (Some x) e = absurd (false≢true e)

-- an inner node that breaks no rule stands above the bottom
pub above_bottom : (kind : Kind) (hashes : List Hash) (parent : Option (List Hash)) (path : List ℕ) → length path ≤ 64
    → fault_of (inner hashes) parent kind path ≡ None → length path < 64
above_bottom kind hashes parent path within e =
    let other : (length path ≡ 64) → ⊥ = eqb-false (length path) 64 (one_test (length path == 64) InnerAtBottom e) in
    omega arith

-- a leaf's key has 32 bytes
pub key_size : (half : Half) (kind : Kind) (key bytes : Bytes) → IsHeld half (leaf kind key bytes) → length key ≡ 32
key_size half State key bytes h = h.key_size
key_size half Tx key bytes h = h.key_size
key_size half Set key bytes h = h.0.key_size

-- each nibble is below 16
pub below_at : (l : List ℕ) (i : ℕ) → IsTrue (list_all (λ n. nat_lt n 16) l) → i < length l → get_or l i 0 < 16
below_at [] i all lt = omega arith
below_at (x ∷ l) zero all lt = ltb-true x 16 (and_parts (nat_lt x 16) (list_all (λ n. nat_lt n 16) l) all).0
below_at (x ∷ l) (suc i) all lt = below_at l i (and_parts (nat_lt x 16) (list_all (λ n. nat_lt n 16) l) all).1 (omega arith)
