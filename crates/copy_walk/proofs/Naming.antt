-- What a form names, and that it is shaded branch by branch.
use Rattle.std.proofs.Common.{◌≡◌, ◌∙◌, ◌+◌, ◌++◌, ◌∷◌, ◌≤◌, ◌<◌, [], ℕ, List, Option, None, Some, IsTrue, is_some}
use Rattle.std.proofs.Common.{arith, drop, length, refl, sym, subst, ap, take, Contains, slice_index_or}
use Rattle.std.specs.Option.{option_map, option_map_or}
use Rattle.std.specs.List.{filter}
use Rattle.std.proofs.lemmas.List.{take_all, take-append-drop}
use Rattle.std.proofs.lemmas.List.Elements.{filter_more, filter-append}
use Rattle.std.proofs.lemmas.List.Sums.{length-filter, count_by-le-length}
use Rattle.half_hash.specs.Zero.{zero_hash}
use Rattle.ledger_spec.specs.Bytes.{Bytes, Hash, hashes_of, is_nonzero}
use Rattle.ledger_spec.specs.Forms.{inner_of, header_of}
use Rattle.ledger_spec.specs.Reach.{kids, named_by}
use Rattle.ledger_spec.proofs.shared.Hashes.{length-hashes_of}
use Rattle.shamap_node.proofs.shared.Branches.{whole}
use Rattle.copy_walk.specs.Walks.{Walk, ShadesSome, shaded}
use Rattle.copy_walk.proofs.Shading.{front_shaded, more_shaded, all_more}

-- the sixteen hashes behind the prefix
abbrev pub branches : Bytes → List Hash
branches form = hashes_of 16 (drop 4 form)

sixteen : (form : Bytes) → length (branches form) ≡ 16
sixteen form = length-hashes_of 16 (drop 4 form)

-- those that aren't zero of the first so many
abbrev pub first_kids : Bytes → ℕ → List Hash
first_kids form n = filter is_nonzero (take n (branches form))

module _ (form : Bytes) (inner : IsTrue (is_some (inner_of form))) where
  -- an inner node names its branches
  kids_inner : filter is_nonzero (branches form) ≡ kids form
  kids_inner = ap (λ (o : Option (List Hash)). filter is_nonzero (named_by o (header_of form))) (sym (whole form inner).1)

  pub front_kids : (n : ℕ) → first_kids form n ++ filter is_nonzero (drop n (branches form)) ≡ kids form
  front_kids n =
      sym (filter-append is_nonzero (take n (branches form)) (drop n (branches form)))
      ∙ ap (filter is_nonzero) (take-append-drop n (branches form)) ∙ kids_inner

  pub all_kids : (n : ℕ) → 16 ≤ n → first_kids form n ≡ kids form
  all_kids n all =
      let long : length (branches form) ≤ n = omega (arith, all, sixteen form) in
      ap (filter is_nonzero) (take_all n (branches form) long) ∙ kids_inner

  -- one branch more
  branch_more : (b : ℕ) (h : Hash) → b < 16 → Some h ≡ option_map (λ hashes. slice_index_or hashes b zero_hash) (inner_of form)
      → first_kids form (b + 1) ≡ first_kids form b ++ filter is_nonzero (h ∷ [])
  branch_more b h within is =
      let lt : b < length (branches form) = omega (arith, within, sixteen form) in
      let same : slice_index_or (branches form) b zero_hash ≡ h = sym (some_same (is
      ∙ ap (option_map (λ hashes. slice_index_or hashes b zero_hash)) (whole form inner).1)) in
      filter_more is_nonzero (branches form) b zero_hash lt
      ∙ ap (λ (x : Hash). first_kids form b ++ filter is_nonzero (x ∷ [])) same
    where
      some_same : {x y : Hash} → Some x ≡ Some y → x ≡ y
      some_same e = cc

  -- and shaded
  module _ (w : Walk) (b : ℕ) (h : Hash) (v u : Walk) (within : b < 16)
      (is : Some h ≡ option_map (λ hashes. slice_index_or hashes b zero_hash) (inner_of form))
      (some : ShadesSome w (first_kids form b) v) (next : ShadesSome v (filter is_nonzero (h ∷ [])) u) where
    pub branch_shaded : ShadesSome w (first_kids form (b + 1)) u
    branch_shaded =
        subst (λ (hs : List Hash). ShadesSome w hs u) (sym (branch_more b h within is))
        (more_shaded w (first_kids form b) v (filter is_nonzero (h ∷ [])) u some next)

    -- where that is refused, some of all were
    pub branch_refused : ShadesSome w (kids form) u
    branch_refused =
        front_shaded w (first_kids form (b + 1)) (filter is_nonzero (drop (b + 1) (branches form))) (kids form) u (front_kids (b + 1))
        branch_shaded

    pub branches_shaded : ((q : Hash) → Contains (first_kids form b) q → Contains (shaded v) q)
        → ((q : Hash) → Contains (filter is_nonzero (h ∷ [])) q → Contains (shaded u) q) → (q : Hash)
        → Contains (first_kids form (b + 1)) q → Contains (shaded u) q
    branches_shaded all rest q c =
        all_more w (first_kids form b) v (filter is_nonzero (h ∷ [])) u some next all rest q
        (subst (λ (hs : List Hash). Contains hs q) (branch_more b h within is) c)

-- no form names more than sixteen hashes
pub few_kids : (form : Bytes) → length (kids form) ≤ 16
few_kids form =
    let named : List Hash = named_by (inner_of form) (header_of form) in
    omega (arith, length-filter is_nonzero named, count_by-le-length is_nonzero named, few (inner_of form) refl (header_of form))
  where
    few : (o : Option (List Hash)) → inner_of form ≡ o → (header : Option Bytes) → length (named_by o header) ≤ 16
    few (Some hashes) is header =
        let same : length hashes ≡ length (branches form) =
        ap (λ (o : Option (List Hash)). option_map_or length o 0) (sym is ∙ (whole form (ap is_some is)).1) in
        omega (arith, same, sixteen form)
    few None is (Some header) = omega arith
    few None is None = omega arith
