-- The walk, one level at a time. For proofs of other crates.
use Rattle.std.proofs.Common.{◌≡◌, ℕ, zero, suc, true, false, if◌then◌else◌, List, [], ◌∷◌, ◌++◌, Option, Some}
use Rattle.std.proofs.Common.{refl, sym, ap, ◌∙◌}
use Rattle.std.specs.List.{flat_map, slice_index_or}
use Rattle.ledger_spec.specs.declared.Kind.{Kind}
use Rattle.ledger_spec.specs.declared.Place.TheVariants.{Node}
use Rattle.ledger_spec.specs.Bytes.{Bytes, Hash, Half, Lookup, is_zero, zero_hash, branches}
use Rattle.ledger_spec.specs.Forms.{inner}
use Rattle.ledger_spec.specs.Rules.{fault_of}
use Rattle.ledger_spec.specs.Findings.{sound, Met, held_of, sight_of, branches_of, walk}
use Rattle.ledger_spec.proofs.shared.Growth.{met}
use Rattle.tree_laws.specs.Walks.{at_place}

module _ (half : Half) (nodes : Lookup) (kind : Kind) where
  -- the place itself, as the walk meets it
  abbrev pub met_at : Option (List Hash) → List ℕ → Hash → Met
  met_at parent path h = met (Node kind path) h parent (at_place half nodes kind parent path h)

  -- the walks from the branches of an inner node
  abbrev pub walks_below : ℕ → List ℕ → List Hash → List Met
  walks_below left path hashes = flat_map (λ b. walk half nodes kind left (Some hashes) (path ++ b ∷ [])
      (slice_index_or hashes b zero_hash)) branches

  -- nothing is met at the zero hash
  pub walk_empty : (left : ℕ) (parent : Option (List Hash)) (path : List ℕ) (h : Hash) → is_zero h ≡ true
      → walk half nodes kind left parent path h ≡ []
  unfolding walk
  walk_empty zero parent path h z = ap (λ t. if t then [] else met_at parent path h ∷ []) z
  walk_empty (suc left) parent path h z =
      ap (λ t. if t then [] else met_at parent path h ∷ branches_of (at_place half nodes kind parent path h)
      (walks_below left path)) z

  -- at the bottom the place alone
  pub walk_bottom : (parent : Option (List Hash)) (path : List ℕ) (h : Hash) → is_zero h ≡ false
      → walk half nodes kind zero parent path h ≡ met_at parent path h ∷ []
  unfolding walk
  walk_bottom parent path h z = ap (λ t. if t then [] else met_at parent path h ∷ []) z

  -- else the place, and then what is below its branches
  pub walk_step : (left : ℕ) (parent : Option (List Hash)) (path : List ℕ) (h : Hash) → is_zero h ≡ false
      → walk half nodes kind (suc left) parent path h ≡ met_at parent path h ∷ branches_of (at_place half nodes kind parent path h)
      (walks_below left path)
  unfolding walk
  walk_step left parent path h z =
      ap (λ t. if t then [] else met_at parent path h ∷ branches_of (at_place half nodes kind parent path h)
      (walks_below left path)) z

  -- where an inner node is seen, that is the walks from its branches
  pub walk_inner : (left : ℕ) (parent : Option (List Hash)) (path : List ℕ) (h : Hash) (hashes : List Hash) → is_zero h ≡ false
      → at_place half nodes kind parent path h ≡ sound (inner hashes)
      → walk half nodes kind (suc left) parent path h ≡ met_at parent path h ∷ walks_below left path hashes
  walk_inner left parent path h hashes z is = walk_step left parent path h z
      ∙ ap (λ s. met_at parent path h ∷ branches_of s (walks_below left path)) is

  -- no rule looks at what is above an inner node
  pub seen_any : (parent other : Option (List Hash)) (path : List ℕ) (h : Hash) (form : Bytes) (hashes : List Hash)
      → nodes h ≡ Some form
      → held_of half form ≡ Some (inner hashes) → at_place half nodes kind parent path h ≡ at_place half nodes kind other path h
  seen_any parent other path h form hashes is holds =
      ap (sight_of half (λ n. fault_of n parent kind path)) is ∙ rw holds refl
      ∙ sym (ap (sight_of half (λ n. fault_of n other kind path)) is)
