-- Node IDs that are made from a key, or from the ID above.
use Rattle.std.proofs.Common.{◌≡◌, ℕ, ◌+◌, ◌-◌, ◌*◌, ◌/◌, ◌%◌, ◌≤◌, ◌<◌, List, [], ◌∷◌, ◌++◌, length, take, drop, replicate, sym, ap, ◌∙◌}
use Rattle.std.proofs.Common.{arith, length-take, length-append}
use Rattle.std.specs.Prelude.{slice_index, slice_set}
use Rattle.std.proofs.lemmas.List.{length-replicate, drop-set-lt, drop-drop, drop-replicate, take_more_set}
use Rattle.std.proofs.lemmas.Bool.Decides.{same_from_decides, Decides-like}
use Rattle.std.proofs.lemmas.Slice.Eq.{bytes_eq-Decides}
use Rattle.std.specs.Str.{bytes_eq}
use Rattle.nib_path.specs.declared.NodeId.TheInside.{Inside}
use Rattle.nib_path.specs.Paths.{nibbles, packed, path_of, lies_under, IsNodeId, packed-nibbles, length-nibbles, length_of_view, id_of_view}
use Rattle.nib_path.proofs.Nibbles.{nibbles-append, nibbles-take, nibbles-replicate, head-more, take-head, drop-head}

-- whole bytes of a key, and then zeros
pub head-start : (key copied : List ℕ) (k : ℕ) → k ≤ 32 → copied ≡ take k key
    → nibbles (copied ++ drop k (replicate 32 0)) ≡ take (2 * k) (nibbles key) ++ replicate (64 - 2 * k) 0
head-start key copied k h e =
    let zeros : drop k (replicate 32 0) ≡ replicate (32 - k) 0 = drop-replicate k 32 0 in
    let fewer : 2 * (32 - k) ≡ 64 - 2 * k = omega arith in
    ap (λ (r : List ℕ). nibbles (r ++ drop k (replicate 32 0))) e
    ∙ ap (λ (r : List ℕ). nibbles (take k key ++ r)) zeros
    ∙ nibbles-append (take k key) (replicate (32 - k) 0)
    ∙ ap (λ (r : List ℕ). r ++ nibbles (replicate (32 - k) 0)) (nibbles-take key k)
    ∙ ap (λ (r : List ℕ). take (2 * k) (nibbles key) ++ r) (nibbles-replicate (32 - k))
    ∙ ap (λ n. take (2 * k) (nibbles key) ++ replicate n 0) fewer

-- the same, and then a nibble more
pub head-odd : (key id new : List ℕ) (d n : ℕ) → d % 2 ≡ 1 → d ≤ 64 → length key ≡ 32
    → nibbles id ≡ take (2 * (d / 2)) (nibbles key) ++ replicate (64 - 2 * (d / 2)) 0
    → n ≡ slice_index (nibbles key) (d - 1)
    → nibbles new ≡ slice_set (nibbles id) (d - 1) n
    → nibbles new ≡ take d (nibbles key) ++ replicate (64 - d) 0
head-odd key id new d n odd h full e value write =
    let ns = nibbles key in
    let i : 2 * (d / 2) ≡ d - 1 = omega arith in
    let more : d - 1 + 1 ≡ d = omega arith in
    let before : nibbles id ≡ take (d - 1) ns ++ replicate (64 - (d - 1)) 0 = e ∙ ap (λ k. take k ns ++ replicate (64 - k) 0) i in
    write
    ∙ ap (slice_set (nibbles id) (d - 1)) value
    ∙ ap (λ (r : List ℕ). slice_set r (d - 1) (slice_index ns (d - 1))) before
    ∙ head-more ns (d - 1) (omega (arith, length-nibbles key)) (omega arith)
    ∙ ap (λ k. take k ns ++ replicate (64 - k) 0) more

-- whole bytes are all where the depth is even
pub head-even : (key id : List ℕ) (d : ℕ) → (d % 2 ≡ 1 → ⊥)
    → nibbles id ≡ take (2 * (d / 2)) (nibbles key) ++ replicate (64 - 2 * (d / 2)) 0
    → nibbles id ≡ take d (nibbles key) ++ replicate (64 - d) 0
head-even key id d even e =
    let i : 2 * (d / 2) ≡ d = omega arith in
    e ∙ ap (λ k. take k (nibbles key) ++ replicate (64 - k) 0) i

-- an ID of some of a key's nibbles
pub head-IsNodeId : (id key : List ℕ) (d : ℕ) → d ≤ 64 → length key ≡ 32 → nibbles id ≡ take d (nibbles key) ++ replicate (64 - d) 0
    → IsNodeId (record { depth = d; id = id })
head-IsNodeId id key d h full e =
    let whole : length (nibbles id) ≡ length (take d (nibbles key)) + length (replicate {A = ℕ} (64 - d) 0) = ap length e
    ∙ length-append _ _ in
    let zeros : length (replicate {A = ℕ} (64 - d) 0) ≡ 64 - d = length-replicate (64 - d) 0 in
    record {
      shallow = h;
      whole = omega (arith, whole, zeros, length-nibbles id, length-nibbles key, length-take d (nibbles key));
      rest = ap (drop d) e ∙ drop-head (nibbles key) d (omega (arith, length-nibbles key));
    }

pub head-path : (id key : List ℕ) (d : ℕ) → d ≤ 64 → length key ≡ 32 → nibbles id ≡ take d (nibbles key) ++ replicate (64 - d) 0
    → take d (nibbles id) ≡ take d (nibbles key)
head-path id key d h full e = ap (take d) e ∙ take-head (nibbles key) d (omega (arith, length-nibbles key))

-- an ID with one nibble more
pub child-IsNodeId : (a : Inside) (id : List ℕ) (b : ℕ) → IsNodeId a → a.depth < 64 → nibbles id ≡ slice_set (nibbles a.id) a.depth b
    → length id ≡ 32 → IsNodeId (record { depth = a.depth + 1; id = id })
child-IsNodeId a id b h room e full =
    let fewer : 64 - a.depth - 1 ≡ 64 - (a.depth + 1) = omega arith in
    record {
      shallow = omega arith;
      whole = full;
      rest =
          ap (drop (a.depth + 1)) e
          ∙ drop-set-lt (a.depth + 1) (nibbles a.id) a.depth b (omega arith)
          ∙ sym (drop-drop 1 a.depth (nibbles a.id))
          ∙ ap (drop 1) h.rest
          ∙ drop-replicate 1 (64 - a.depth) 0
          ∙ ap (λ n. replicate n 0) fewer;
    }

pub child-path : (a : Inside) (id : List ℕ) (b : ℕ) → IsNodeId a → a.depth < 64 → nibbles id ≡ slice_set (nibbles a.id) a.depth b
    → take (a.depth + 1) (nibbles id) ≡ path_of a ++ b ∷ []
child-path a id b h room e =
    ap (take (a.depth + 1)) e ∙ take_more_set (nibbles a.id) a.depth b (omega (arith, length-nibbles a.id, h.whole))

-- an ID is that of some of a key's nibbles where the key begins with its path
pub head-eq : (a : Inside) (path head key : List ℕ) → IsNodeId a → path_of a ≡ path → length key ≡ 32
    → nibbles head ≡ take a.depth (nibbles key) ++ replicate (64 - a.depth) 0 → bytes_eq head a.id ≡ lies_under path key
head-eq a path head key h v full e =
    let d : length path ≡ a.depth = length_of_view a path h v in
    let front : take a.depth (nibbles head) ≡ take a.depth (nibbles key) = head-path head key a.depth h.shallow full e in
    let there : path ≡ take (length path) (nibbles key) → head ≡ a.id = λ p.
    let filled : path ++ replicate (64 - length path) 0 ≡ nibbles head =
    ap (λ (r : List ℕ). r ++ replicate (64 - length path) 0) p
    ∙ ap (λ n. take n (nibbles key) ++ replicate (64 - n) 0) d
    ∙ sym e
    in
    sym (packed-nibbles head) ∙ ap packed (sym filled) ∙ id_of_view a path h v
    in
    let back : head ≡ a.id → path ≡ take (length path) (nibbles key) = λ same.
    sym v ∙ ap (λ (r : List ℕ). take a.depth (nibbles r)) (sym same) ∙ front ∙ ap (λ n. take n (nibbles key)) (sym d)
    in
    same_from_decides (bytes_eq head a.id) (lies_under path key) (bytes_eq-Decides head a.id)
    (Decides-like (lies_under path key) there back (bytes_eq-Decides path (take (length path) (nibbles key))))
