-- A step along a path.
use Rattle.std.proofs.Common.{◌≡◌, ◌≤◌, ◌<◌, ◌+◌, ◌==◌, if◌then◌else◌, ℕ, Bool, true, false, List, [], ◌∷◌, length, take, Option, None}
use Rattle.std.proofs.Common.{Some, Result, Ok, Err, OnOk, refl, sym, ◌∙◌, ap, arith, length-take}
use Rattle.std.proofs.lemmas.Bool.{false≢true}
use Rattle.std.specs.Option.{option_and_then}
use Rattle.std.specs.List.{slice_index_or}
use Rattle.std.specs.Result.{result_err}
use Rattle.nib_path.specs.Paths.{nibbles, nibble_of, length-nibbles}
use Rattle.ledger_spec.specs.declared.Kind.{Kind}
use Rattle.ledger_spec.specs.declared.ShapeFault.{ShapeFault}
use Rattle.ledger_spec.specs.Bytes.{Hash, Half, zero_hash, is_zero}
use Rattle.ledger_spec.specs.Forms.{Held, inner, leaf, header}
use Rattle.ledger_spec.specs.Rules.{fault_of}
use Rattle.ledger_spec.specs.Reads.{Outcome, nothing, inner_hashes, follow, follow_from}
use Rattle.tree_laws.proofs.shared.Shapes.{above_bottom}
use Rattle.path_proof.specs.Paths.{IsAbove}

pub above : (n : Held) (parent : Option (List Hash)) (kind : Kind) (key : Hash) (depth : ℕ) → depth ≤ 64 → length key ≡ 32
    → fault_of n parent kind (take depth (nibbles key)) ≡ None → IsAbove n depth
above (inner hashes) parent kind key depth within size fits =
    let long : length (take depth (nibbles key)) ≡ depth = omega (arith, length-take depth (nibbles key), length-nibbles key) in
    let below : length (take depth (nibbles key)) < 64 = above_bottom kind hashes parent (take depth (nibbles key)) (omega arith) fits in
    omega arith
above (leaf k own bytes) parent kind key depth within size fits = tt
above (header bytes) parent kind key depth within size fits = tt

pub judged_above : (r : Result (Unit {0}) ShapeFault) (n : Held) (parent : Option (List Hash)) (kind : Kind) (key : Hash) (depth : ℕ)
    → depth ≤ 64 → length key ≡ 32
    → result_err r ≡ fault_of n parent kind (take depth (nibbles key)) → OnOk r (IsAbove n depth)
judged_above (Ok x) n parent kind key depth within size e = above n parent kind key depth within size (sym e)
judged_above (Err x) n parent kind key depth within size e = tt

-- where the root isn't zero, the whole path is what is said from the root on
pub from_root : (half : Half) (kind : Kind) (root key : Hash) (used : List Held) → is_zero root ≡ false
    → follow half kind root key used ≡ follow_from half kind key 0 None root used
from_root half kind root key [] nonzero = ap (λ b. if b then Some nothing else None) nonzero
from_root half kind root key (n ∷ rest) nonzero = ap (λ b. if b then None else follow_from half kind key 0 None root (n ∷ rest)) nonzero

-- what isn't the last node must be an inner one
pub cut_short : (half : Half) (kind : Kind) (key : Hash) (depth : ℕ) (parent : Option (List Hash)) (h : Hash) (rest after : List Held)
    (n : Held) (whole : Option Outcome)
    → rest ≡ n ∷ after → inner_hashes n ≡ None → (length after == 0) ≡ false → follow_from half kind key depth parent h rest ≡ whole
    → None ≡ whole
cut_short half kind key depth parent h rest after n whole is none more same = sym (by_after after more)
    ∙ ap (follow_from half kind key depth parent h) (sym is) ∙ same
  where
    either : {A : Type 0} (t : Bool) (x : Option A) → x ≡ None → (if t then x else None) ≡ None
    either true x e = e
    either false x e = refl

    by_after : (l : List Held) → (length l == 0) ≡ false → follow_from half kind key depth parent h (n ∷ l) ≡ None
    by_after [] few = absurd (false≢true (sym few))
    by_after (m ∷ l) few =
        either _ _ (ap (option_and_then
        (λ hashes. follow_from half kind key (depth + 1) (Some hashes) (slice_index_or hashes (nibble_of key depth) zero_hash) (m ∷ l)))
        none)
