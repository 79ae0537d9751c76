-- Bytes joined and taken apart are bytes, and so is the form of what is read of a wire form. For proofs of other crates.
use Rattle.std.proofs.Common.{◌≡◌, ◌-◌, ◌*◌, ◌/◌, ⊎_elim, ℕ, zero, suc, not, ◌==◌, nat_lt, List, [], ◌∷◌, ◌++◌, length, take, drop}
use Rattle.std.proofs.Common.{slice_index, map}
use Rattle.std.proofs.Common.{Ok, IsTrue, refl, sym, subst}
use Rattle.std.proofs.lemmas.Bool.{and_parts, and_from}
use Rattle.std.specs.List.{list_any, concat, AllByRecursion}
use Rattle.ledger_spec.specs.declared.Kind.{Kind}
use Rattle.ledger_spec.specs.declared.Kind.TheVariants.{State, Tx, Set}
use Rattle.ledger_spec.specs.Bytes.{Bytes, Hash, Half, zero_hash, is_zero, is_nonzero, are_bytes, branches, hashes_of}
use Rattle.ledger_spec.specs.Forms.{Held, inner, leaf, form_of, leaf_form, leaf_prefix, inner_prefix, data_limit}
use Rattle.ledger_spec.specs.Wire.{Chunk, checked_leaf, keyed_leaf, checked_inner, full, compressed, chunks_in, hash_at, read_typed}
use Rattle.ledger_spec.specs.Wire.{read_wire}
use Rattle.ledger_spec.proofs.shared.Hashes.{concat-hashes_of}
use Rattle.ledger_spec.proofs.shared.OfferLaws.{ok_same, err_ok, past_test, at_test, either_way, hash_by_chunks, compressed_read_is}

pub bytes_front : (xs ys : Bytes) → IsTrue (are_bytes (xs ++ ys)) → IsTrue (are_bytes xs)
bytes_front [] ys all = refl
bytes_front (x ∷ xs) ys all =
    let both = and_parts (nat_lt x 256) (are_bytes (xs ++ ys)) all in
    and_from (nat_lt x 256) (are_bytes xs) both.0 (bytes_front xs ys both.1)

pub bytes_end : (xs ys : Bytes) → IsTrue (are_bytes (xs ++ ys)) → IsTrue (are_bytes ys)
bytes_end [] ys all = all
bytes_end (x ∷ xs) ys all = bytes_end xs ys (and_parts (nat_lt x 256) (are_bytes (xs ++ ys)) all).1

pub bytes_join : (xs ys : Bytes) → IsTrue (are_bytes xs) → IsTrue (are_bytes ys) → IsTrue (are_bytes (xs ++ ys))
bytes_join [] ys all more = more
bytes_join (x ∷ xs) ys all more =
    let both = and_parts (nat_lt x 256) (are_bytes xs) all in
    and_from (nat_lt x 256) (are_bytes (xs ++ ys)) both.0 (bytes_join xs ys both.1 more)

pub bytes_take : (n : ℕ) (xs : Bytes) → IsTrue (are_bytes xs) → IsTrue (are_bytes (take n xs))
bytes_take zero xs all = refl
bytes_take (suc n) [] all = refl
bytes_take (suc n) (x ∷ xs) all =
    let both = and_parts (nat_lt x 256) (are_bytes xs) all in
    and_from (nat_lt x 256) (are_bytes (take n xs)) both.0 (bytes_take n xs both.1)

pub bytes_drop : (n : ℕ) (xs : Bytes) → IsTrue (are_bytes xs) → IsTrue (are_bytes (drop n xs))
bytes_drop zero xs all = all
bytes_drop (suc n) [] all = refl
bytes_drop (suc n) (x ∷ xs) all = bytes_drop n xs (and_parts (nat_lt x 256) (are_bytes xs) all).1

-- the form of what is read is bytes
abbrev HasByteForm : Held → Type 0
HasByteForm n = IsTrue (are_bytes (form_of n))

-- the leaf that is read is the one that was tested
leaf_node : (kind : Kind) (key bytes : Bytes) (n : Held) → checked_leaf kind key bytes ≡ Ok n → leaf kind key bytes ≡ n
leaf_node kind key bytes n e =
    let small = past_test (nat_lt data_limit (length bytes)) 11 _ n e in
    ok_same (past_test (is_zero key) 10 (Ok (leaf kind key bytes)) n small.1).1

keyed_form : (kind : Kind) (front : Bytes) → IsTrue (are_bytes front) → IsTrue (are_bytes (leaf_prefix kind))
    → IsTrue (are_bytes (leaf_prefix kind ++ take (length front - 32) front ++ drop (length front - 32) front))
keyed_form kind front all prefix =
    bytes_join (leaf_prefix kind ++ take (length front - 32) front) (drop (length front - 32) front)
    (bytes_join (leaf_prefix kind) (take (length front - 32) front) prefix (bytes_take (length front - 32) front all))
    (bytes_drop (length front - 32) front all)

keyed_node : (kind : Kind) (front : Bytes) (n : Held) → keyed_leaf kind front ≡ Ok n
    → leaf kind (drop (length front - 32) front) (take (length front - 32) front) ≡ n
keyed_node kind front n e =
    let long = past_test (nat_lt (length front) 32) 9 _ n e in
    leaf_node kind (drop (length front - 32) front) (take (length front - 32) front) n long.1

state_bytes : (front : Bytes) (n : Held) → IsTrue (are_bytes front) → keyed_leaf State front ≡ Ok n → HasByteForm n
state_bytes front n all e = subst HasByteForm (keyed_node State front n e) (keyed_form State front all refl)

tx_bytes : (front : Bytes) (n : Held) → IsTrue (are_bytes front) → keyed_leaf Tx front ≡ Ok n → HasByteForm n
tx_bytes front n all e = subst HasByteForm (keyed_node Tx front n e) (keyed_form Tx front all refl)

bare_bytes : (key front : Bytes) (n : Held) → IsTrue (are_bytes front) → checked_leaf Set key front ≡ Ok n → HasByteForm n
bare_bytes key front n all e = subst HasByteForm (leaf_node Set key front n e) (bytes_join (leaf_prefix Set) front refl all)

-- an inner node's form is bytes where its hashes are
inner_bytes : (hashes : List Hash) (n : Held) → IsTrue (are_bytes (concat hashes)) → checked_inner hashes ≡ Ok n → HasByteForm n
inner_bytes hashes n all e =
    let some = at_test (list_any is_nonzero hashes) 8 (Ok (inner hashes)) n e in
    subst HasByteForm (ok_same some.1) (bytes_join inner_prefix (concat hashes) refl all)

full_bytes : (front : Bytes) (n : Held) → IsTrue (are_bytes front) → full front ≡ Ok n → HasByteForm n
full_bytes front n all e =
    let exact = past_test (not (length front == 512)) 3 (checked_inner (hashes_of 16 front)) n e in
    inner_bytes (hashes_of 16 front) n
    (subst (λ b. IsTrue (are_bytes b)) (sym (concat-hashes_of 16 front)) (bytes_take (32 * 16) front all)) exact.1

-- each chunk's hash is bytes
chunk_bytes : (n : ℕ) (front : Bytes) → IsTrue (are_bytes front) → AllByRecursion (λ c. IsTrue (are_bytes c.hash)) (chunks_in n front)
chunk_bytes zero front all = tt
chunk_bytes (suc n) front all = (bytes_take 32 front all, chunk_bytes n (drop 33 front) (bytes_drop 33 front all))

concat_bytes : (f : ℕ → Hash) (xs : List ℕ) → ((b : ℕ) → IsTrue (are_bytes (f b))) → IsTrue (are_bytes (concat (map f xs)))
concat_bytes f [] all = refl
concat_bytes f (x ∷ xs) all = bytes_join (f x) (concat (map f xs)) (all x) (concat_bytes f xs all)

compressed_bytes : (front : Bytes) (n : Held) → IsTrue (are_bytes front) → compressed front ≡ Ok n → HasByteForm n
compressed_bytes front n all e =
    let chunks : List Chunk = chunks_in (length front / 33) front in
    inner_bytes (map (hash_at chunks) branches) n
    (concat_bytes (hash_at chunks) branches
    (hash_by_chunks (λ h. IsTrue (are_bytes h)) chunks (chunk_bytes (length front / 33) front all) refl))
    (compressed_read_is front n e).parts

typed_bytes : (half : Half) (front : Bytes) (type : ℕ) (n : Held) → IsTrue (are_bytes front) → read_typed half front type ≡ Ok n
    → HasByteForm n
typed_bytes half front type n all e =
    ⊎_elim (λ bare. bare_bytes (half (leaf_form Set zero_hash front)) front n all bare)
    (λ e1. ⊎_elim (λ state. state_bytes front n all state)
    (λ e2. ⊎_elim (λ inner. full_bytes front n all inner)
    (λ e3. ⊎_elim (λ chunks. compressed_bytes front n all chunks)
    (λ e4. ⊎_elim (λ tx. tx_bytes front n all tx) (λ no. absurd (err_ok no)) (either_way (type == 4) _ _ n e4))
    (either_way (type == 3) _ _ n e3))
    (either_way (type == 2) _ _ n e2))
    (either_way (type == 1) _ _ n e1))
    (either_way (type == 0) _ _ n e)

-- what is read of a wire form of bytes has a form of bytes
pub read_wire_bytes : (half : Half) (w : Bytes) (n : Held) → IsTrue (are_bytes w) → read_wire half w ≡ Ok n → HasByteForm n
unfolding read_wire
read_wire_bytes half w n all e =
    let some = past_test (length w == 0) 1 _ n e in
    typed_bytes half (take (length w - 1) w) (slice_index w (length w - 1)) n (bytes_take (length w - 1) w all) some.1
