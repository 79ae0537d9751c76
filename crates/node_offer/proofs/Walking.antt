-- One step of the way to a place: on through an inner node, or what stands in the way.
use Rattle.std.proofs.Common.{◌≡◌, ◌+◌, ◌-◌, ◌<◌, ℕ, List, [], ◌∷◌, ◌++◌, length, take, drop, get_or, replicate, Option, Some, Result, Ok}
use Rattle.std.specs.FinMap as map
use Rattle.ledger_spec.specs.Own.{own_forms}
use Rattle.std.proofs.Common.{Err, None, true, false, is_some, refl, sym, ap, subst, ◌∙◌, arith, length-append}
use Rattle.std.specs.Option.{option_map, option_map_or}
use Rattle.std.proofs.lemmas.Option.{same_Some}
use Rattle.std.specs.Prelude.{slice_index}
use Rattle.std.specs.List.{slice_index_or}
use Rattle.std.proofs.lemmas.List.{length-replicate, take_more, drop_more, take-append-le, get_or_append_left}
use Rattle.nib_path.specs.Paths.{nibbles, nibble_of, id_of, IsPath}
use Rattle.nib_path.proofs.shared.Nibbles.{nibbles-packed, list_all-append_zeros}
use Rattle.ledger_spec.specs.Bytes.{Bytes, Hash, Half, Lookup, Nodes, zero_hash}
use Rattle.ledger_spec.specs.Spots as way
use Rattle.ledger_spec.specs.Spots.{spot_from, spot_of, spot_below, header_in, header_root}
use Rattle.ledger_spec.specs.Forms.{inner_of}
use Rattle.node_offer.specs.declared.spots.Block.{Block}
use Rattle.node_offer.specs.Ways.{blocked, step_down, step_of}

-- the nibbles of a place's ID are its path, and zeros
id_nibbles : (path : List ℕ) → IsPath path → nibbles (id_of path) ≡ path ++ replicate (64 - length path) 0
id_nibbles path is =
    let zeros : List ℕ = replicate (64 - length path) 0 in
    nibbles-packed 32 (path ++ zeros) (omega (arith, length-append path zeros, length-replicate {A = ℕ} (64 - length path) 0, is.short))
    (list_all-append_zeros path (64 - length path) is.nibbles_below)

nibble_is : (path : List ℕ) (d : ℕ) → IsPath path → d < length path → slice_index (nibbles (id_of path)) d ≡ get_or path d 0
nibble_is path d is lt = ap (λ ns. get_or ns d 0) (id_nibbles path is) ∙ get_or_append_left path (replicate (64 - length path) 0) 0 d lt

at_is : (path : List ℕ) (d : ℕ) → IsPath path → d < length path → take d (nibbles (id_of path)) ≡ take d path
at_is path d is lt = ap (take d) (id_nibbles path is) ∙ take-append-le d path (replicate (64 - length path) 0) (omega arith)

-- one level down, by what is made of the inner node above
walk_on : (nodes : Lookup) (path : List ℕ) (d : ℕ) (parent : Option (List Hash)) (h : Hash) (at : List ℕ)
    (s : (List Hash → way.Spot) → way.Spot) (total : way.Spot) → d < length path → at ≡ take d path
    → ((on : List Hash → way.Spot) → s on ≡ step_down at on h (nodes h))
    → spot_from nodes (take d path) parent h (drop d path) ≡ total
    → s (λ hashes. spot_from nodes (take (d + 1) path) (Some hashes) (slice_index_or hashes (get_or path d 0) zero_hash)
    (drop (d + 1) path)) ≡ total
walk_on nodes path d parent h at s total lt is step so_far =
    let on : List Hash → way.Spot = λ hashes. spot_from nodes (take d path ++ get_or path d 0 ∷ []) (Some hashes)
    (slice_index_or hashes (get_or path d 0) zero_hash) (drop (d + 1) path) in
    ap (λ p. s (λ hashes. spot_from nodes p (Some hashes) (slice_index_or hashes (get_or path d 0) zero_hash)
    (drop (d + 1) path))) (take_more path d 0 lt)
    ∙ step on
    ∙ ap (λ a. step_down a on h (nodes h)) is
    ∙ sym (ap (λ x. spot_from nodes (take d path) parent h x) (drop_more path d 0 lt))
    ∙ so_far

-- on through the inner node whose form is held at a place on the way
pub goes_on : (nodes : Lookup) (path key : List ℕ) (d n : ℕ) (parent : Option (List Hash)) (h next : Hash) (at : List ℕ) (form : Bytes)
    (total : way.Spot) → IsPath path → d < length path → key ≡ id_of path → at ≡ take d (nibbles key)
    → n ≡ nibble_of key d → Some next ≡ option_map (λ hashes. slice_index_or hashes n zero_hash) (inner_of form)
    → ((on : List Hash → way.Spot) → step_of (Ok form) on ≡ step_down at on h (nodes h))
    → spot_from nodes (take d path) parent h (drop d path) ≡ total
    → spot_from nodes (take (d + 1) path) (inner_of form) next (drop (d + 1) path) ≡ total
goes_on nodes path key d n parent h next at form total is lt id before nibble branch step so_far = by (inner_of form) branch step
  where
    through : (hashes : List Hash) → next ≡ slice_index_or hashes n zero_hash
        → ((on : List Hash → way.Spot) → on hashes ≡ step_down at on h (nodes h))
        → spot_from nodes (take (d + 1) path) (Some hashes) next (drop (d + 1) path) ≡ total
    through hashes one down =
        let branch_is : next ≡ slice_index_or hashes (get_or path d 0) zero_hash =
        one ∙ ap (λ m. slice_index_or hashes m zero_hash) (nibble ∙ ap (λ k. nibble_of k d) id ∙ nibble_is path d is lt)
        in
        ap (λ x. spot_from nodes (take (d + 1) path) (Some hashes) x (drop (d + 1) path)) branch_is
        ∙ walk_on nodes path d parent h at (λ on. on hashes) total lt (before ∙ ap (λ k. take d (nibbles k)) id ∙ at_is path d is lt)
        down so_far

    by : (o : Option (List Hash)) → Some next ≡ option_map (λ hashes. slice_index_or hashes n zero_hash) o
        → ((on : List Hash → way.Spot) → option_map_or on o way.no_base ≡ step_down at on h (nodes h))
        → spot_from nodes (take (d + 1) path) o next (drop (d + 1) path) ≡ total
    by None one down = cc
    by (Some hashes) one down = through hashes (same_Some next (slice_index_or hashes n zero_hash) one) down

-- what stands in the way there
pub ends : (nodes : Lookup) (path key : List ℕ) (d : ℕ) (parent : Option (List Hash)) (h : Hash) (at : List ℕ) (b : Block) (total : way.Spot)
    → IsPath path → d < length path → key ≡ id_of path → at ≡ take d (nibbles key)
    → ((on : List Hash → way.Spot) → step_of (Err b) on ≡ step_down at on h (nodes h))
    → spot_from nodes (take d path) parent h (drop d path) ≡ total → blocked b ≡ total
ends nodes path key d parent h at b total is lt id before step so_far =
    walk_on nodes path d parent h at (λ on. blocked b) total lt (before ∙ ap (λ k. take d (nibbles k)) id ∙ at_is path d is lt) step so_far

-- a step over the store as it was read on the way
pub step_at : (half : Half) (n n' : Nodes) (at : List ℕ) (h : Hash) (r r' : Result Bytes Block) → n' ≡ n → r ≡ r'
    → ((on : List Hash → way.Spot) → step_of r on ≡ step_down at on h (own_forms half (map.get n') h))
    → (on : List Hash → way.Spot) → step_of r' on ≡ step_down at on h (own_forms half (map.get n) h)
step_at half n n' at h r r' same is step =
    subst (λ x. (on : List Hash → way.Spot) → step_of r' on ≡ step_down at on h (own_forms half (map.get x) h)) same
    (subst (λ x. (on : List Hash → way.Spot) → step_of x on ≡ step_down at on h (own_forms half (map.get n') h)) is step)

-- what is made of a form that is an inner node's, and of one that is none
pub inner_found : {A B : Type 0} (on : A → B) (o : Option A) (x y : B) → is_some o ≡ true → option_map_or on o x ≡ option_map_or on o y
inner_found on None x y some = cc
inner_found on (Some a) x y some = refl

pub none_found : {A B : Type 0} (on : A → B) (o : Option A) (y : B) → is_some o ≡ false → y ≡ option_map_or on o y
none_found on None y none = refl
none_found on (Some a) y none = cc
