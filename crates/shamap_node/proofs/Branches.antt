-- One branch of an inner node, read out of its prefix form.
use Rattle.std.proofs.Common.{◌≡◌, ◌<◌, ◌+◌, ◌*◌, ◌||◌, ◌++◌, not, ℕ, zero, suc, Bool, true, false, List, [], ◌∷◌}
use Rattle.std.proofs.Common.{length, take, drop, nat_eq, IsTrue, Option, Some, None, refl, sym, ap, ◌∙◌, arith, drop-drop}
use Rattle.std.specs.List.{list_any, slice_index_or, starts_with}
use Rattle.std.specs.Option.{is_some, option_map}
use Rattle.std.proofs.lemmas.List.Folds.{list_any_at}
use Rattle.half_hash.specs.Zero.{zero_hash, is_nonzero, is_zero}
use Rattle.ledger_spec.specs.Bytes.{Bytes, Hash, hashes_of}
use Rattle.ledger_spec.specs.Forms.{inner_of, inner_prefix}
use Rattle.ledger_spec.proofs.shared.Hashes.{hashes_of_more, length-hashes_of}
use Rattle.ledger_spec.proofs.shared.Inners.{not_inner_empty, inner_of_is}
use Rattle.shamap_node.proofs.shared.Branches.{whole}

-- the piece at a place
pub piece_at : (n b : ℕ) (body : Bytes) → b < n → slice_index_or (hashes_of n body) b zero_hash ≡ take 32 (drop (32 * b) body)
piece_at zero b body lt = absurd (omega arith)
piece_at (suc n) zero body lt = refl
piece_at (suc n) (suc b) body lt =
    let e : 32 + 32 * b ≡ 32 * suc b = omega arith in
    piece_at n b (drop 32 body) (omega arith) ∙ ap (take 32) (drop-drop (32 * b) 32 body ∙ ap (λ m. drop m body) e)

-- a branch that isn't empty is one of sixteen
some_piece : (n b : ℕ) (body : Bytes) → b < n → IsTrue (is_nonzero (take 32 (drop (32 * b) body)))
    → list_any is_nonzero (hashes_of n body) ≡ true
some_piece n b body lt set =
    list_any_at is_nonzero (hashes_of n body) b zero_hash (omega (arith, length-hashes_of n body))
    (ap is_nonzero (piece_at n b body lt) ∙ set)

any_push : (hs : List Hash) (h : Hash) → list_any is_nonzero hs ≡ false → is_nonzero h ≡ false → list_any is_nonzero (hs ++ h ∷ []) ≡ false
any_push [] h none empty = either (is_nonzero h) empty
  where
    either : (b : Bool) → b ≡ false → (b || false) ≡ false
    either false e = refl
    either true e = e
any_push (x ∷ hs) h none empty =
    first (is_nonzero x) (list_any is_nonzero hs) (list_any is_nonzero (hs ++ h ∷ [])) none (λ e. any_push hs h e empty)
  where
    first : (a b c : Bool) → (a || b) ≡ false → (b ≡ false → c ≡ false) → (a || c) ≡ false
    first false b c e f = f e
    first true b c e f = e

-- one more branch that is empty
no_piece : (b : ℕ) (body : Bytes) → list_any is_nonzero (hashes_of b body) ≡ false
    → is_nonzero (take 32 (drop (32 * b) body)) ≡ false → list_any is_nonzero (hashes_of (b + 1) body) ≡ false
no_piece b body none empty = ap (list_any is_nonzero) (hashes_of_more b body) ∙ any_push (hashes_of b body) _ none empty

-- what a loop over the branches reads, and whether it is zero
pub found : (n b : ℕ) (body h : Bytes) (z : Bool) → b < n → h ≡ take 32 (drop (32 * b) body) → z ≡ is_zero h → z ≡ false
    → true ≡ list_any is_nonzero (hashes_of n body)
found n b body h z lt read is set = sym (some_piece n b body lt (ap not (ap is_zero (sym read) ∙ sym is ∙ set)))

pub passed : (b : ℕ) (body h : Bytes) (z : Bool) → h ≡ take 32 (drop (32 * b) body) → z ≡ is_zero h → z ≡ true
    → list_any is_nonzero (hashes_of b body) ≡ false → list_any is_nonzero (hashes_of (b + 1) body) ≡ false
passed b body h z read is empty none = no_piece b body none (ap not (ap is_zero (sym read) ∙ sym is ∙ empty))

pub none_of_all : (n b : ℕ) (body : Bytes) → b ≡ n → list_any is_nonzero (hashes_of b body) ≡ false
    → false ≡ list_any is_nonzero (hashes_of n body)
none_of_all n b body end none = sym (ap (λ m. list_any is_nonzero (hashes_of m body)) (sym end) ∙ none)

-- bytes that have an inner node's prefix and length, by their branches
pub seen : (b body : Bytes) (some : Bool) → starts_with nat_eq b inner_prefix ≡ true → length b ≡ 516 → body ≡ drop 4 b
    → some ≡ list_any is_nonzero (hashes_of 16 body) → some ≡ is_some (inner_of b)
seen b body some prefix size rest is = by some (is ∙ ap (λ t. list_any is_nonzero (hashes_of 16 t)) rest)
  where
    by : (t : Bool) → t ≡ list_any is_nonzero (hashes_of 16 (drop 4 b)) → t ≡ is_some (inner_of b)
    by true e = sym (ap is_some (inner_of_is b prefix size (sym e)))
    by false e = sym (ap is_some (not_inner_empty b (sym e)))

-- the hash at a branch stands behind the prefix and those before it
pub branch_is : (form : Bytes) (b at : ℕ) (h : Hash) → IsTrue (is_some (inner_of form)) → b < 16 → at ≡ 4 + 32 * b
    → h ≡ take 32 (drop at form) → Some h ≡ option_map (λ hashes. slice_index_or hashes b zero_hash) (inner_of form)
branch_is form b at h some lt place is =
    ap Some (is ∙ ap (λ n. take 32 (drop n form)) place ∙ ap (take 32) (sym (drop-drop (32 * b) 4 form))
    ∙ sym (piece_at 16 b (drop 4 form) lt))
    ∙ ap (option_map (λ hashes. slice_index_or hashes b zero_hash)) (sym (whole form some).1)

pub no_branch : (form : Bytes) (b : ℕ) → is_some (inner_of form) ≡ false
    → None ≡ option_map (λ hashes. slice_index_or hashes b zero_hash) (inner_of form)
no_branch form b = by (inner_of form)
  where
    by : (o : Option (List Hash)) → is_some o ≡ false → None ≡ option_map (λ hashes. slice_index_or hashes b zero_hash) o
    by None e = refl
    by (Some hashes) e = absurd (cc)
