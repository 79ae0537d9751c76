-- What is written of the node at a place of a map's list.
use Rattle.std.proofs.Common.{◌≡◌, ℕ, zero, suc, ◌+◌, ◌≤◌, Bool, true, not, if◌then◌else◌, List, [], ◌∷◌, ◌++◌, length, map, refl}
use Rattle.std.proofs.Common.{None, Some, sym, ap, ◌∙◌, arith, slice_index_or}
use Rattle.std.specs.Prelude.{nat_lt}
use Rattle.std.specs.List.{concat, count_by, filter, flat_map, fold, list_all, slice_get}
use Rattle.std.proofs.lemmas.Bool.{and_parts}
use Rattle.ledger_spec.specs.declared.Kind.{Kind}
use Rattle.ledger_spec.specs.Bytes.{Bytes, Hash, Half, branches, zero_hash, is_zero, is_nonzero}
use Rattle.ledger_spec.specs.Forms as held
use Rattle.ledger_spec.specs.Wire.{Chunk, chunk_bytes, chunks_of, wire_of}
use Rattle.cow_map.specs.declared.link.Link.{Link}
use Rattle.cow_map.specs.declared.link.Link.TheVariants.{Empty, Unloaded}
use Rattle.cow_map.specs.Bodies.{Body, leaf, inner, AreBodies}
use Rattle.map_changes.specs.Tracking.{link_hash, node_of, node_at}

-- behind the end of a list there is nothing
pub none_past : {X : Type 0} (xs : List X) (i : ℕ) → length xs ≤ i → slice_get xs i ≡ None
none_past [] zero long = refl
none_past [] (suc i) long = refl
none_past (x ∷ xs) zero long = absurd (omega arith)
none_past (x ∷ xs) (suc i) long = let shorter : length xs ≤ i = omega arith in none_past xs i shorter

-- an inner node has sixteen links
pub sixteen : (nodes : List Body) (at : ℕ) (links : List Link) → AreBodies nodes → slice_get nodes at ≡ Some (inner links)
    → length links ≡ 16
sixteen nodes at links bodies is = (bodies at (inner links) is).0

-- what is written of hashes, by another name of them
pub wire_as : (w : Bytes) (hashes others : List Hash) → w ≡ wire_of (held.inner hashes) → hashes ≡ others
    → w ≡ wire_of (held.inner others)
wire_as w hashes others is same = is ∙ ap (λ (hs : List Hash). wire_of (held.inner hs)) same

module _ (half : Half) (kind : Kind) (nodes : List Body) where
  pub empty_is : zero_hash ≡ link_hash half kind nodes Empty
  unfolding link_hash
  empty_is = refl

  pub unloaded_is : (h : Hash) → h ≡ link_hash half kind nodes (Unloaded h)
  unfolding link_hash
  unloaded_is h = refl

  pub inner_there : (at : ℕ) (links : List Link) (below : List Hash) → slice_get nodes at ≡ Some (inner links)
      → below ≡ map (link_hash half kind nodes) links → held.inner below ≡ node_at half kind nodes at
  inner_there at links below is e = ap held.inner e ∙ ap (node_of kind (link_hash half kind nodes)) (sym is)

  pub wire_there : (at : ℕ) (links : List Link) (below : List Hash) (w : Bytes) → w ≡ wire_of (held.inner below)
      → slice_get nodes at ≡ Some (inner links) → below ≡ map (link_hash half kind nodes) links
      → w ≡ wire_of (node_at half kind nodes at)
  wire_there at links below w written is e = written ∙ ap wire_of (inner_there at links below is e)

  pub leaf_there : (at : ℕ) (key : Hash) (bytes : Bytes) → slice_get nodes at ≡ Some (leaf key bytes)
      → held.leaf kind key bytes ≡ node_at half kind nodes at
  leaf_there at key bytes is = ap (node_of kind (link_hash half kind nodes)) (sym is)

  pub none_there : (at : ℕ) → length nodes ≤ at → held.header [] ≡ node_at half kind nodes at
  none_there at long = ap (node_of kind (link_hash half kind nodes)) (sym (none_past nodes at long))

-- where all hashes are zero no branch is written
none_fold : (hashes : List Hash) → list_all is_zero hashes ≡ true → (n : ℕ)
    → fold (λ m h. m + (if is_nonzero h then 1 else 0)) n hashes ≡ n
none_fold [] e n = refl
none_fold (h ∷ hashes) e n =
    let both = and_parts (is_zero h) (list_all is_zero hashes) e in
    let same : n + 0 ≡ n = omega arith in
    none_fold hashes both.1 (n + (if is_nonzero h then 1 else 0)) ∙ ap (λ (z : Bool). n + (if not z then 1 else 0)) both.0 ∙ same

none_count : (hashes : List Hash) → list_all is_zero hashes ≡ true → count_by is_nonzero hashes ≡ 0
none_count hashes e = none_fold hashes e 0

zero_at : (hashes : List Hash) (b : ℕ) → list_all is_zero hashes ≡ true → is_zero (slice_index_or hashes b zero_hash) ≡ true
zero_at [] zero e = refl
zero_at [] (suc b) e = refl
zero_at (h ∷ hashes) zero e = (and_parts (is_zero h) (list_all is_zero hashes) e).0
zero_at (h ∷ hashes) (suc b) e = zero_at hashes b (and_parts (is_zero h) (list_all is_zero hashes) e).1

none_kept : (hashes : List Hash) → list_all is_zero hashes ≡ true → (bs : List ℕ)
    → filter (λ (c : Chunk). is_nonzero c.hash) (map (λ b. record { hash = slice_index_or hashes b zero_hash; position = b }) bs) ≡ []
none_kept hashes e [] = refl
none_kept hashes e (b ∷ bs) =
    let here : Chunk = record { hash = slice_index_or hashes b zero_hash; position = b } in
    let rest : List Chunk = filter (λ (c : Chunk). is_nonzero c.hash)
    (map (λ b. record { hash = slice_index_or hashes b zero_hash; position = b }) bs) in
    ap (λ (z : Bool). if not z then here ∷ rest else rest) (zero_at hashes b e) ∙ none_kept hashes e bs

pub no_branches : (hashes : List Hash) → list_all is_zero hashes ≡ true → 3 ∷ [] ≡ wire_of (held.inner hashes)
no_branches hashes e =
    sym (ap (λ n. if nat_lt n 12 then flat_map chunk_bytes (chunks_of hashes) ++ 3 ∷ [] else concat hashes ++ 2 ∷ []) (none_count hashes e)
    ∙ ap (λ (cs : List Chunk). flat_map chunk_bytes cs ++ 3 ∷ []) (none_kept hashes e branches))

pub none_written : (w : Bytes) (hashes others : List Hash) → w ≡ 3 ∷ [] → list_all is_zero hashes ≡ true → hashes ≡ others
    → w ≡ wire_of (held.inner others)
none_written w hashes others is none same = wire_as w hashes others (is ∙ no_branches hashes none) same
