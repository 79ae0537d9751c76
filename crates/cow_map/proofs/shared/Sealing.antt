-- Lists over sixteen branches, joined by what each has. For proofs of other crates.
use Rattle.std.proofs.Common.{◌≡◌, ℕ, ◌+◌, ◌<◌, List, [], ◌∷◌, ◌++◌, length}
use Rattle.std.proofs.Common.{refl, sym, ap, ◌∙◌, slice_index_or, append_assoc, length-append}
use Rattle.std.specs.List.{flat_map, range_with_len}
use Rattle.std.proofs.Math.Seq.{get_or-append_seam}
use Rattle.ledger_spec.specs.Bytes.{branches}
use Rattle.cow_map.proofs.Branches.{flat_same, all_range}

-- lists by their places
index_from : {X Y : Type 0} (f : X → List Y) (d : X) (pre xs : List X)
    → flat_map f xs ≡ flat_map (λ b. f (slice_index_or (pre ++ xs) b d)) (range_with_len (length pre) (length xs))
index_from f d pre [] = refl
index_from f d pre (x ∷ xs) =
    let here : x ≡ slice_index_or (pre ++ x ∷ xs) (length pre) d = sym (get_or-append_seam pre x xs d) in
    let longer : length (pre ++ x ∷ []) ≡ length pre + 1 = length-append pre (x ∷ []) in
    let seam : pre ++ x ∷ [] ++ xs ≡ pre ++ x ∷ xs = append_assoc pre (x ∷ []) xs in
    (λ i. f (here i) ++ index_from f d (pre ++ x ∷ []) xs i)
    ∙ (λ i. f (slice_index_or (pre ++ x ∷ xs) (length pre) d) ++ flat_map (λ b. f (slice_index_or (seam i) b d))
    (range_with_len (longer i) (length xs)))

pub by_index : {X Y : Type 0} (f : X → List Y) (d : X) (xs : List X) → length xs ≡ 16
    → flat_map f xs ≡ flat_map (λ b. f (slice_index_or xs b d)) branches
by_index f d xs width = index_from f d [] xs ∙ ap (λ n. flat_map (λ b. f (slice_index_or xs b d)) (range_with_len 0 n)) width

pub flat_each : {Y : Type 0} (f g : ℕ → List Y) → ((b : ℕ) → b < 16 → f b ≡ g b) → flat_map f branches ≡ flat_map g branches
flat_each f g h = flat_same f g branches (all_range (λ b. f b ≡ g b) 16 0 (λ b at low. h b low))
