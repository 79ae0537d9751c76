-- What is read of a wire form has a prefix form, and what is wanted at a place isn't zero. For proofs of other crates.
use Rattle.std.proofs.Common.{◌≡◌, ◌⊎◌, inl, inr, ⊎_elim, ◌≤◌, ◌-◌, ◌*◌, ◌/◌, ◌%◌, ℕ, zero, suc, Bool, true, false, not, if◌then◌else◌}
use Rattle.std.proofs.Common.{◌==◌}
use Rattle.std.proofs.Common.{nat_lt, List, map}
use Rattle.std.proofs.Common.{[], ◌∷◌, ◌++◌, length, take, drop, slice_index, Option, None, Some, Result, Ok, Err, IsTrue, refl, sym, ap}
use Rattle.std.proofs.Common.{◌∙◌, subst, arith, length-take, length-drop}
use Rattle.std.specs.Option.{option_map_or}
use Rattle.std.specs.List.{list_all, list_any, find, slice_index_or, AllByRecursion}
use Rattle.std.proofs.lemmas.Bool.{ltb-false, eqb-true, eq-eqb, and_from}
use Rattle.std.proofs.lemmas.List.{length-map}
use Rattle.std.proofs.lemmas.Nat.{div-add-mod'}
use Rattle.ledger_spec.specs.declared.Kind.{Kind}
use Rattle.ledger_spec.specs.declared.Kind.TheVariants.{State, Tx, Set}
use Rattle.ledger_spec.specs.Bytes.{Bytes, Hash, Half, IsHalf, Lookup, zero_hash, is_zero, is_nonzero, branches, hashes_of}
use Rattle.ledger_spec.specs.Forms.{Held, inner, leaf, IsHeld, IsItem, IsInner, data_limit, inner_of, leaf_form}
use Rattle.ledger_spec.specs.Wire.{Chunk, checked_leaf, keyed_leaf, checked_inner, full, compressed, chunks_in, chunk_cause, hash_at}
use Rattle.ledger_spec.specs.Wire.{read_typed, read_wire}
use Rattle.ledger_spec.specs.Spots.{Spot, no_base, no_parent, empty_branch, under_leaf, wanted, spot_from, into, spot_below, spot_of}
use Rattle.ledger_spec.specs.Spots.{header_in, header_root}

-- an error isn't a result
pub err_ok : {X E : Type 0} {e : E} {x : X} → Err e ≡ Ok x → ⊥
err_ok e = cc

-- two results that are one hold one thing
pub ok_same : {X E : Type 0} {x y : X} → ◌≡◌ {A = Result X E} (Ok x) (Ok y) → x ≡ y
ok_same e = cc

-- a result behind a test that refuses
pub past_test : {X : Type 0} (b : Bool) (cause : ℕ) (r : Result X ℕ) (x : X) → (if b then Err cause else r) ≡ Ok x
    → (b ≡ false) × (r ≡ Ok x)
past_test true cause r x e = absurd (err_ok e)
past_test false cause r x e = (refl, e)

-- a result behind a test that lets through
pub at_test : {X : Type 0} (b : Bool) (cause : ℕ) (r : Result X ℕ) (x : X) → (if b then r else Err cause) ≡ Ok x → (b ≡ true) × (r ≡ Ok x)
at_test true cause r x e = (refl, e)
at_test false cause r x e = absurd (err_ok e)

-- one of two results, by a test
pub either_way : {X : Type 0} (b : Bool) (r s : Result X ℕ) (x : X) → (if b then r else s) ≡ Ok x → (r ≡ Ok x) ⊎ (s ≡ Ok x)
either_way true r s x e = inl e
either_way false r s x e = inr e

-- what the tests of a leaf with a key of 32 bytes say
pub record IsLeafRead (kind : Kind) (key bytes : Bytes) (n : Held) : Type 0 where
  pub item : IsItem key bytes
  pub node : leaf kind key bytes ≡ n

leaf_read : (kind : Kind) (key bytes : Bytes) (n : Held) → length key ≡ 32 → checked_leaf kind key bytes ≡ Ok n
    → IsLeafRead kind key bytes n
leaf_read kind key bytes n size e =
    let small : (nat_lt data_limit (length bytes) ≡ false) × _ = past_test (nat_lt data_limit (length bytes)) 11 _ n e in
    let nonzero : (is_zero key ≡ false) × (Ok (leaf kind key bytes) ≡ Ok n) =
    past_test (is_zero key) 10 (Ok (leaf kind key bytes)) n small.1 in
    record {
      item = record { key_size = size; key_nonzero = ap not nonzero.0; data_size = ltb-false data_limit (length bytes) small.0 };
      node = ok_same nonzero.1;
    }

-- a leaf whose key stands behind its data has a form
keyed_read : (kind : Kind) (front : Bytes) (n : Held) → keyed_leaf kind front ≡ Ok n
    → IsLeafRead kind (drop (length front - 32) front) (take (length front - 32) front) n
keyed_read kind front n e =
    let long : (nat_lt (length front) 32 ≡ false) × _ = past_test (nat_lt (length front) 32) 9 _ n e in
    let enough : 32 ≤ length front = ltb-false (length front) 32 long.0 in
    leaf_read kind (drop (length front - 32) front) (take (length front - 32) front) n
    (omega (arith, length-drop (length front - 32) front, enough)) long.1

-- a leaf without a key has one: its hash
bare_held : (half : Half) (front : Bytes) (n : Held) → length (half (leaf_form Set zero_hash front)) ≡ 32
    → checked_leaf Set (half (leaf_form Set zero_hash front)) front ≡ Ok n → IsHeld half n
bare_held half front n size e =
    let is = leaf_read Set (half (leaf_form Set zero_hash front)) front n size e in
    subst (λ x. IsHeld half x) is.node (is.item, refl)

state_held : (half : Half) (front : Bytes) (n : Held) → keyed_leaf State front ≡ Ok n → IsHeld half n
state_held half front n e = let is = keyed_read State front n e in subst (λ x. IsHeld half x) is.node is.item

tx_held : (half : Half) (front : Bytes) (n : Held) → keyed_leaf Tx front ≡ Ok n → IsHeld half n
tx_held half front n e = let is = keyed_read Tx front n e in subst (λ x. IsHeld half x) is.node is.item

-- as many pieces as are asked for
pub count_hashes : (n : ℕ) (bytes : List ℕ) → length (hashes_of n bytes) ≡ n
count_hashes zero bytes = refl
count_hashes (suc n) bytes = ap suc (count_hashes n (drop 32 bytes))

-- each piece has 32 bytes
pub sizes_of_hashes : (n : ℕ) (bytes : List ℕ) → length bytes ≡ n * 32 → IsTrue (list_all (λ h. length h == 32) (hashes_of n bytes))
sizes_of_hashes zero bytes e = refl
sizes_of_hashes (suc n) bytes e =
    and_from (length (take 32 bytes) == 32) (list_all (λ h. length h == 32) (hashes_of n (drop 32 bytes)))
    (eq-eqb (length (take 32 bytes)) 32 (omega (arith, length-take 32 bytes, e)))
    (sizes_of_hashes n (drop 32 bytes) (omega (arith, length-drop 32 bytes, e)))

-- an inner node of sixteen hashes that is read has a form
checked_inner_held : (half : Half) (hashes : List Hash) (n : Held) → length hashes ≡ 16
    → IsTrue (list_all (λ h. length h == 32) hashes) → checked_inner hashes ≡ Ok n → IsHeld half n
checked_inner_held half hashes n count sizes e =
    let some : (list_any is_nonzero hashes ≡ true) × (Ok (inner hashes) ≡ Ok n) =
    at_test (list_any is_nonzero hashes) 8 (Ok (inner hashes)) n e in
    let is : IsInner hashes = record { count = count; sizes = sizes; some = some.0 } in
    subst (λ x. IsHeld half x) (ok_same some.1) is

-- what isn't false is true
not_false : (b : Bool) → not b ≡ false → b ≡ true
not_false true e = refl
not_false false e = cc

-- a full inner node has a form
full_held : (half : Half) (front : List ℕ) (n : Held) → full front ≡ Ok n → IsHeld half n
full_held half front n e =
    let exact : (not (length front == 512) ≡ false) × (checked_inner (hashes_of 16 front) ≡ Ok n) =
    past_test (not (length front == 512)) 3 (checked_inner (hashes_of 16 front)) n e
    in
    let size : length front ≡ 16 * 32 = eqb-true (length front) 512 (not_false (length front == 512) exact.0) in
    checked_inner_held half (hashes_of 16 front) n (count_hashes 16 front) (sizes_of_hashes 16 front size) exact.1

-- each chunk of a multiple of 33 bytes has a hash of 32 bytes
pub chunk_sizes : (n : ℕ) (b : Bytes) → length b ≡ 33 * n → AllByRecursion (λ c. length c.hash ≡ 32) (chunks_in n b)
chunk_sizes zero b size = tt
chunk_sizes (suc n) b size =
    (omega (arith, length-take 32 b, size), chunk_sizes n (drop 33 b) (omega (arith, length-drop 33 b, size)))

-- what holds of the hash of each chunk, and of the zero hash, holds of the hash at each position
pub hash_by_chunks : (P : Hash → Type 0) (chunks : List Chunk) → AllByRecursion (λ c. P c.hash) chunks → P zero_hash → (b : ℕ)
    → P (hash_at chunks b)
hash_by_chunks P [] all at_zero b = at_zero
hash_by_chunks P (c ∷ chunks) all at_zero b = by_place (c.position == b) (hash_by_chunks P chunks all.1 at_zero b)
  where
    by_place : (t : Bool) → P (hash_at chunks b)
        → P (option_map_or (λ (d : Chunk). d.hash) (if t then Some c else find (λ d. d.position == b) chunks) zero_hash)
    by_place true later = all.0
    by_place false later = later

pub sizes_map : (f : ℕ → Hash) (xs : List ℕ) → ((b : ℕ) → length (f b) ≡ 32) → IsTrue (list_all (λ h. length h == 32) (map f xs))
sizes_map f [] size = refl
sizes_map f (x ∷ xs) size =
    and_from (length (f x) == 32) (list_all (λ h. length h == 32) (map f xs)) (eq-eqb (length (f x)) 32 (size x)) (sizes_map f xs size)

-- a multiple of 33, taken apart
pub whole_size : (n : ℕ) → n % 33 ≡ 0 → n ≡ 33 * (n / 33)
whole_size n whole = omega (arith, div-add-mod' n 33, whole)

-- what the tests of a compressed inner node say
pub record IsCompressedRead (front : Bytes) (n : Held) : Type 0 where
  pub size : length front ≡ 33 * (length front / 33)
  pub parts : checked_inner (map (hash_at (chunks_in (length front / 33) front)) branches) ≡ Ok n

pub compressed_read_is : (front : Bytes) (n : Held) → compressed front ≡ Ok n → IsCompressedRead front n
compressed_read_is front n e =
    let chunks : List Chunk = chunks_in (length front / 33) front in
    let whole : (not (length front % 33 == 0) ≡ false) × _ = past_test (not (length front % 33 == 0)) 4 _ n e in
    let clean : (not (chunk_cause [] chunks == 0) ≡ false) × (checked_inner (map (hash_at chunks) branches) ≡ Ok n) =
    past_test (not (chunk_cause [] chunks == 0)) (chunk_cause [] chunks) (checked_inner (map (hash_at chunks) branches)) n whole.1
    in
    record {
      size = whole_size (length front) (eqb-true (length front % 33) 0 (not_false (length front % 33 == 0) whole.0));
      parts =
          clean.1;
    }

-- a compressed inner node has a form
compressed_held : (half : Half) (front : Bytes) (n : Held) → compressed front ≡ Ok n → IsHeld half n
compressed_held half front n e =
    let chunks : List Chunk = chunks_in (length front / 33) front in
    let is = compressed_read_is front n e in
    checked_inner_held half (map (hash_at chunks) branches) n (length-map branches (hash_at chunks))
    (sizes_map (hash_at chunks) branches
    (hash_by_chunks (λ h. length h ≡ 32) chunks (chunk_sizes (length front / 33) front is.size) refl)) is.parts

-- what is read before a type byte has a form
read_typed_held : (half : Half) (front : List ℕ) (type : ℕ) (n : Held) → length (half (leaf_form Set zero_hash front)) ≡ 32
    → read_typed half front type ≡ Ok n → IsHeld half n
read_typed_held half front type n size e =
    ⊎_elim (λ bare. bare_held half front n size bare)
    (λ e1. ⊎_elim (λ state. state_held half front n state)
    (λ e2. ⊎_elim (λ all. full_held half front n all)
    (λ e3. ⊎_elim (λ chunks. compressed_held half front n chunks)
    (λ e4. ⊎_elim (λ tx. tx_held half front n tx) (λ no. absurd (err_ok no)) (either_way (type == 4) _ _ n e4))
    (either_way (type == 3) _ _ n e3))
    (either_way (type == 2) _ _ n e2))
    (either_way (type == 1) _ _ n e1))
    (either_way (type == 0) _ _ n e)

-- what is read of a wire form has a prefix form
pub read_wire_held : (half : Half) (w : List ℕ) (n : Held) → IsHalf half → read_wire half w ≡ Ok n → IsHeld half n
unfolding read_wire
read_wire_held half w n is e =
    let some : (length w == 0 ≡ false) × _ = past_test (length w == 0) 1 _ n e in
    read_typed_held half (take (length w - 1) w) (slice_index w (length w - 1)) n
    (is.size (leaf_form Set zero_hash (take (length w - 1) w))) some.1

-- what is wanted at one place is one
pub wanted_same : {h g : Hash} {p q : Option (List Hash)} → wanted h p ≡ wanted g q → h ≡ g
wanted_same e = cc

-- nothing is wanted at an empty branch
pub empty_wanted : {path : List ℕ} {g : Hash} {q : Option (List Hash)} → empty_branch path ≡ wanted g q → ⊥
empty_wanted e = cc

-- nor without a parent
pub no_parent_wanted : {path : List ℕ} {g : Hash} {q : Option (List Hash)} → no_parent path ≡ wanted g q → ⊥
no_parent_wanted e = cc

-- nor under a leaf
pub under_wanted : {path : List ℕ} {g : Hash} {q : Option (List Hash)} → under_leaf path ≡ wanted g q → ⊥
under_wanted e = cc

-- nor without a header
pub no_base_wanted : {g : Hash} {q : Option (List Hash)} → no_base ≡ wanted g q → ⊥
no_base_wanted e = cc

-- a place with its hash, where the hash isn't zero
here_wanted : (z : Bool) (path : List ℕ) (h g : Hash) (parent q : Option (List Hash)) → is_zero h ≡ z
    → (if z then empty_branch path else wanted h parent) ≡ wanted g q → IsTrue (is_nonzero g)
here_wanted true path h g parent q is e = absurd (empty_wanted e)
here_wanted false path h g parent q is e = ap not (sym (ap is_zero (wanted_same e)) ∙ is)

-- a place below, where the way there is known
below_wanted : (z : Bool) (path : List ℕ) (s : Spot) (g : Hash) (q : Option (List Hash)) → (if z then empty_branch path else s) ≡ wanted g q
    → s ≡ wanted g q
below_wanted true path s g q e = absurd (empty_wanted e)
below_wanted false path s g q e = e

-- a hash that is wanted below an inner node
hashes_wanted : (path : List ℕ) (on : List Hash → Spot) (o : Option (List Hash)) (g : Hash) (q : Option (List Hash))
    → ((hashes : List Hash) → on hashes ≡ wanted g q → IsTrue (is_nonzero g)) → option_map_or on o (under_leaf path) ≡ wanted g q
    → IsTrue (is_nonzero g)
hashes_wanted path on None g q each e = absurd (under_wanted e)
hashes_wanted path on (Some hashes) g q each e = each hashes e

-- a hash that is wanted below what is stored
into_wanted : (path : List ℕ) (on : List Hash → Spot) (o : Option Bytes) (g : Hash) (q : Option (List Hash))
    → ((hashes : List Hash) → on hashes ≡ wanted g q → IsTrue (is_nonzero g)) → into path on o ≡ wanted g q → IsTrue (is_nonzero g)
into_wanted path on None g q each e = absurd (no_parent_wanted e)
into_wanted path on (Some form) g q each e = hashes_wanted path on (inner_of form) g q each e

-- a hash that is wanted on the way down isn't zero
pub spot_wanted : (nodes : Lookup) (path : List ℕ) (parent : Option (List Hash)) (h : Hash) (rest : List ℕ) (g : Hash)
    (q : Option (List Hash))
    → spot_from nodes path parent h rest ≡ wanted g q → IsTrue (is_nonzero g)
spot_wanted nodes path parent h [] g q e = here_wanted (is_zero h) path h g parent q refl e
spot_wanted nodes path parent h (n ∷ rest) g q e =
    into_wanted path (λ hashes. spot_from nodes (path ++ n ∷ []) (Some hashes) (slice_index_or hashes n zero_hash) rest) (nodes h) g q
    (λ hashes. spot_wanted nodes (path ++ n ∷ []) (Some hashes) (slice_index_or hashes n zero_hash) rest g q)
    (below_wanted (is_zero h) path _ g q e)

-- a hash that is wanted below a header
header_wanted : (nodes : Lookup) (kind : Kind) (path : List ℕ) (o : Option Bytes) (g : Hash) (q : Option (List Hash))
    → spot_below nodes kind path o ≡ wanted g q → IsTrue (is_nonzero g)
header_wanted nodes kind path None g q e = absurd (no_base_wanted e)
header_wanted nodes kind path (Some bytes) g q e = spot_wanted nodes [] None (header_root kind bytes) path g q e

-- a hash that is wanted at a place of a ledger isn't zero
pub wanted_nonzero : (nodes : Lookup) (t : Hash) (kind : Kind) (path : List ℕ) (g : Hash) (q : Option (List Hash))
    → spot_of nodes t kind path ≡ wanted g q → IsTrue (is_nonzero g)
wanted_nonzero nodes t kind path g q e = header_wanted nodes kind path (header_in nodes t) g q e
