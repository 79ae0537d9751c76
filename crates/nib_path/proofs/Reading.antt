-- Reading a node ID's wire form.
use Rattle.std.proofs.Common.{◌≡◌, ℕ, suc, zero, ◌+◌, ◌-◌, ◌*◌, ◌≤◌, List, [], ◌∷◌, ◌++◌, length, take, drop, replicate, refl, sym, ap}
use Rattle.std.proofs.Common.{◌∙◌, arith, inl, inr, take-append-drop, length-append, length-drop, length-take}
use Rattle.std.specs.Prelude.{slice_index, nat_lt, nat_eq, Option, None, Some, Result, Ok, Err, IfOk}
use Rattle.std.specs.List.{position_from}
use Rattle.std.proofs.lemmas.List.{length-replicate, drop_all, drop_more}
use Rattle.std.proofs.lemmas.Bool.{cases_Bool, cond-true, cond-false, ltb-false, lt-ltb, eq-eqb, eqb-true}
use Rattle.nib_path.specs.declared.NodeId.TheInside.{Inside}
use Rattle.nib_path.specs.declared.IdFault.{IdFault}
use Rattle.nib_path.specs.declared.IdFault.TheVariants.{Length, Depth}
use Rattle.nib_path.specs.Paths.{nibbles, id_of, id_wire, first_set_from, IsNodeId, IsPath, length-nibbles}
use Rattle.nib_path.specs.Paths.{length_of_view, id_of_view}
use Rattle.nib_path.specs.Wire.{path_unless, read_id, read_wire_id}
use Rattle.nib_path.proofs.Nibbles.{length-packed}

-- no nibble but zeros
pub position_from-none : (i : ℕ) (ns : List ℕ) → position_from (λ n. nat_lt 0 n) i ns ≡ None → ns ≡ replicate (length ns) 0
position_from-none i [] e = refl
position_from-none i (zero ∷ ns) e = ap (λ (r : List ℕ). 0 ∷ r) (position_from-none (i + 1) ns e)
position_from-none i (suc n ∷ ns) e =
    let bad : Some i ≡ None = sym (cond-true _ _ _ (lt-ltb 0 (suc n) (omega arith))) ∙ e in absurd (cc)

pub position_from-replicate : (i k : ℕ) → position_from (λ n. nat_lt 0 n) i (replicate k 0) ≡ None
position_from-replicate i zero = refl
position_from-replicate i (suc k) = position_from-replicate (i + 1) k

-- past the last nibble there is none
pub first_set_from-end : (i : ℕ) (ns : List ℕ) → length ns ≤ i → first_set_from i ns ≡ None
first_set_from-end i ns h = ap (position_from (λ n. nat_lt 0 n) i) (drop_all i ns h)

-- an ID with zeros behind the depth
pub zeros-IsNodeId : (id : List ℕ) (d : ℕ) → length id ≡ 32 → d ≤ 64 → first_set_from d (nibbles id) ≡ None
    → IsNodeId (record { depth = d; id = id })
zeros-IsNodeId id d full h e =
    let n : length (drop d (nibbles id)) ≡ 64 - d = omega (arith, length-drop d (nibbles id), length-nibbles id) in
    record {
      shallow = h;
      whole = full;
      rest = position_from-none d (drop d (nibbles id)) e ∙ ap (λ k. replicate k 0) n;
    }

path_unless-ok : (path p : List ℕ) (o : Option ℕ) → path_unless path o ≡ Ok p → (o ≡ None) × (path ≡ p)
path_unless-ok path p None e = (refl, cc)
path_unless-ok path p (Some i) e = absurd (cc)

-- what is read of 32 bytes and a depth has these
read_id-ok : (id : List ℕ) (d : ℕ) (p : List ℕ) → length id ≡ 32 → read_id id d ≡ Ok p → (id_of p ≡ id) × (length p ≡ d)
read_id-ok id d p full e =
    elim (cases_Bool (nat_lt 64 d)) [
      | inl deep ↦
          let bad : Err (Depth d) ≡ Ok p = sym (cond-true _ _ _ deep) ∙ e in
          absurd (cc)
      | inr shallow ↦
          let good : path_unless (take d (nibbles id)) (first_set_from d (nibbles id)) ≡ Ok p = sym (cond-false _ _ _ shallow) ∙ e in
          let parts = path_unless-ok (take d (nibbles id)) p (first_set_from d (nibbles id)) good in
          let a : Inside = record { depth = d; id = id } in
          let h : IsNodeId a = zeros-IsNodeId id d full (ltb-false 64 d shallow) parts.0 in
          (id_of_view a p h parts.1, length_of_view a p h parts.1)
    ]

-- 33 bytes are 32, and one
bytes-split : (bytes : List ℕ) → length bytes ≡ 33 → bytes ≡ take 32 bytes ++ slice_index bytes 32 ∷ []
bytes-split bytes full =
    let last : drop 32 bytes ≡ slice_index bytes 32 ∷ drop 33 bytes = drop_more bytes 32 0 (omega arith) in
    let none : drop 33 bytes ≡ [] = drop_all 33 bytes (omega arith) in
    sym (take-append-drop 32 bytes) ∙ ap (λ (r : List ℕ). take 32 bytes ++ r) (last ∙ ap (λ (r : List ℕ). slice_index bytes 32 ∷ r) none)

-- what is read of 33 bytes
pub read_wire_id-whole : (bytes id : List ℕ) (r : Result (List ℕ) IdFault) → length bytes ≡ 33 → id ≡ take 32 bytes
    → r ≡ read_id id (slice_index bytes 32) → r ≡ read_wire_id bytes
read_wire_id-whole bytes id r full e h =
    h ∙ ap (λ (l : List ℕ). read_id l (slice_index bytes 32)) e ∙ sym (cond-true _ _ _ (eq-eqb (length bytes) 33 full))

pub get_or_seam : (xs : List ℕ) (y : ℕ) (ys : List ℕ) → slice_index (xs ++ y ∷ ys) (length xs) ≡ y
get_or_seam [] y ys = refl
get_or_seam (x ∷ xs) y ys = get_or_seam xs y ys

-- bytes that are read as a path are its wire form
pub read_wire_id-ok : (bytes p : List ℕ) → read_wire_id bytes ≡ Ok p → bytes ≡ id_wire p
read_wire_id-ok bytes p e =
    elim (cases_Bool (nat_eq (length bytes) 33)) [
      | inl whole ↦
          let full : length bytes ≡ 33 = eqb-true (length bytes) 33 whole in
          let good : read_id (take 32 bytes) (slice_index bytes 32) ≡ Ok p = sym (cond-true _ _ _ whole) ∙ e in
          let parts = read_id-ok (take 32 bytes) (slice_index bytes 32) p (omega (arith, length-take 32 bytes)) good in
          bytes-split bytes full ∙ ap (λ (r : List ℕ). r ++ slice_index bytes 32 ∷ []) (sym parts.0)
          ∙ ap (λ n. id_of p ++ n ∷ []) (sym parts.1)
      | inr short ↦
          let bad : Err (Length (length bytes)) ≡ Ok p = sym (cond-false _ _ _ short) ∙ e in
          absurd (cc)
    ]

pub read_wire_id-IfOk : (bytes : List ℕ) (r : Result (List ℕ) IdFault) → r ≡ read_wire_id bytes → IfOk r (λ p. bytes ≡ id_wire p)
read_wire_id-IfOk bytes (Ok p) e = read_wire_id-ok bytes p (sym e)
read_wire_id-IfOk bytes (Err f) e = tt

pub length-filled : (p : List ℕ) → IsPath p → length (p ++ replicate (64 - length p) 0) ≡ 2 * 32
length-filled p h =
    let both : length (p ++ replicate {A = ℕ} (64 - length p) 0) ≡ length p + length (replicate {A = ℕ} (64 - length p) 0) =
    length-append p _ in
    let zeros : length (replicate {A = ℕ} (64 - length p) 0) ≡ 64 - length p = length-replicate (64 - length p) 0 in
    omega (arith, h.short)

pub length-id_of : (p : List ℕ) → IsPath p → length (id_of p) ≡ 32
length-id_of p h = length-packed 32 (p ++ replicate (64 - length p) 0) (length-filled p h)
