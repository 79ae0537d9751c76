-- A path's wire form: its length, its nibbles, and that it is read as the path; and when two node IDs are one. For proofs of other crates.
use Rattle.std.proofs.Common.{◌≡◌, ℕ, ◌+◌, ◌-◌, List, [], ◌∷◌, ◌++◌, length, take, drop, replicate, refl, sym, ap}
use Rattle.std.proofs.Common.{◌∙◌, length-append}
use Rattle.std.specs.Prelude.{slice_index, nat_lt, nat_eq, None, Ok, true, ◌&&◌}
use Rattle.std.specs.Bool.{Decides}
use Rattle.std.specs.Str.{bytes_eq}
use Rattle.std.specs.List.{position_from}
use Rattle.std.proofs.lemmas.Slice.Eq.{bytes_eq-Decides}
use Rattle.std.proofs.lemmas.List.{take_at, drop_at}
use Rattle.std.proofs.lemmas.Bool.{and_parts, and_from, cond-true, cond-false, le-ltb, eq-eqb, eqb-true}
use Rattle.nib_path.specs.Paths.{nibbles, path_of, inside_of, id_of, id_wire, first_set_from, IsPath}
use Rattle.nib_path.specs.Wire.{path_unless, read_id, read_wire_id}
use Rattle.nib_path.proofs.shared.Nibbles.{nibbles-packed, list_all-append_zeros}
use Rattle.nib_path.proofs.Reading.{position_from-replicate, get_or_seam, length-filled, length-id_of}

pub nibbles-id_of : (p : List ℕ) → IsPath p → nibbles (id_of p) ≡ p ++ replicate (64 - length p) 0
nibbles-id_of p h =
    nibbles-packed 32 (p ++ replicate (64 - length p) 0) (length-filled p h) (list_all-append_zeros p (64 - length p) h.nibbles_below)

-- the fields that a path gives are seen as that path, so two paths that give the same fields are the same
pub path_of-inside_of : (p : List ℕ) → IsPath p → path_of (inside_of p) ≡ p
path_of-inside_of p h = ap (take (length p)) (nibbles-id_of p h) ∙ take_at p (replicate (64 - length p) 0) (length p) refl

-- what `==` says of two node IDs
pub same_path-Decides : (p q : List ℕ) → IsPath p → IsPath q
    → Decides (nat_eq (length p) (length q) && bytes_eq (id_of p) (id_of q)) (p ≡ q)
same_path-Decides p q h k =
    let ids = bytes_eq-Decides (id_of p) (id_of q) in
    let there : (nat_eq (length p) (length q) && bytes_eq (id_of p) (id_of q)) ≡ true → p ≡ q = λ t.
    let both = and_parts (nat_eq (length p) (length q)) (bytes_eq (id_of p) (id_of q)) t in
    let depth : length p ≡ length q = eqb-true (length p) (length q) both.0 in
    let id : id_of p ≡ id_of q = ids.0 both.1 in
    let fields : inside_of p ≡ inside_of q = λ i. record { depth = depth i; id = id i } in
    sym (path_of-inside_of p h) ∙ ap path_of fields ∙ path_of-inside_of q k
    in
    (there, λ e. and_from _ _ (eq-eqb (length p) (length q) (ap length e)) (ids.1 (ap id_of e)))

-- a path's ID is read as the path
read_id-id_of : (p : List ℕ) → IsPath p → read_id (id_of p) (length p) ≡ Ok p
read_id-id_of p h =
    let n = length p in
    let zeros = replicate (64 - n) 0 in
    let rest : drop n (nibbles (id_of p)) ≡ zeros = ap (drop n) (nibbles-id_of p h) ∙ drop_at p zeros n refl in
    let none : first_set_from n (nibbles (id_of p)) ≡ None = ap (position_from (λ k. nat_lt 0 k) n) rest
    ∙ position_from-replicate n (64 - n) in
    cond-false _ _ _ (le-ltb 64 n h.short)
    ∙ ap (path_unless (take n (nibbles (id_of p)))) none
    ∙ ap (λ (q : List ℕ). Ok q) (path_of-inside_of p h)

pub length-id_wire : (p : List ℕ) → IsPath p → length (id_wire p) ≡ 33
length-id_wire p h = length-append (id_of p) (length p ∷ []) ∙ ap (λ k. k + 1) (length-id_of p h)

-- a path's wire form is read as the path
pub read_wire_id-id_wire : (p : List ℕ) → IsPath p → read_wire_id (id_wire p) ≡ Ok p
read_wire_id-id_wire p h =
    let id = id_of p in
    let n = length-id_wire p h in
    let front : take 32 (id_wire p) ≡ id = take_at id _ 32 (length-id_of p h) in
    let last : slice_index (id_wire p) 32 ≡ length p = ap (λ k. slice_index (id_wire p) k) (sym (length-id_of p h))
    ∙ get_or_seam id (length p) [] in
    cond-true _ _ _ (eq-eqb (length (id_wire p)) 33 n)
    ∙ ap (λ (r : List ℕ). read_id r (slice_index (id_wire p) 32)) front
    ∙ ap (read_id id) last
    ∙ read_id-id_of p h
