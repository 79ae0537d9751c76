-- What the rules leave at a place, and what a node of the map says of the places below it.
use Rattle.std.proofs.Common.{◌≡◌, ◌≢◌, ◌⊎◌, inl, inr, ◌<◌, ◌-◌, ◌==◌, not, ℕ, suc, Bool, true, false}
use Rattle.std.proofs.Common.{if◌then◌else◌, List, [], ◌∷◌, ◌++◌, length, map}
use Rattle.std.proofs.Common.{Option, None, Some, refl, sym, ap, ◌∙◌, arith, length-append}
use Rattle.std.proofs.lemmas.Bool.{eqb-true, eqb-false, and_parts, false≢true}
use Rattle.std.proofs.lemmas.List.{append_cancel_left}
use Rattle.std.proofs.lemmas.Slice.Eq.{bytes_eq-Decides}
use Rattle.std.specs.Str.{bytes_eq}
use Rattle.std.specs.List.{concat, flat_map, slice_index_or}
use Rattle.nib_path.specs.Paths.{lies_under}
use Rattle.ledger_spec.specs.declared.Kind.{Kind}
use Rattle.ledger_spec.specs.declared.Kind.TheVariants.{State, Tx, Set}
use Rattle.ledger_spec.specs.declared.ShapeFault.{ShapeFault}
use Rattle.ledger_spec.specs.declared.ShapeFault.TheVariants.{LeafAtRoot, LeafElsewhere, LoneLeaf, WrongKind}
use Rattle.ledger_spec.specs.Bytes.{Bytes, Hash, Half, Items, zero_hash, is_zero, branches}
use Rattle.ledger_spec.specs.Forms.{inner, leaf, IsHeld, inner_prefix, leaf_form, form_of, hash_or_zero}
use Rattle.ledger_spec.specs.Rules.{fault_of, same_kind, is_lone}
use Rattle.ledger_spec.specs.Tree.{Entry, part, form_of_part, form_at}
use Rattle.tree_laws.proofs.shared.Trees.{Sized, crowd, kid_hash, node_cases, leaf_no_inner, size_or_zero, hashes_are, hash_at_branch}

-- two kinds that are the same by the test
pub kinds_same : (a b : Kind) → same_kind a b ≡ true → a ≡ b
kinds_same State State e = refl
kinds_same State Tx e = cc
kinds_same State Set e = cc
kinds_same Tx State e = cc
kinds_same Tx Tx e = refl
kinds_same Tx Set e = cc
kinds_same Set State e = cc
kinds_same Set Tx e = cc
kinds_same Set Set e = refl

-- what a leaf that breaks no rule keeps
pub record KeepsLeaf (kind own : Kind) (key : Hash) (path : List ℕ) : Type 0 where
  pub kinds : own ≡ kind
  pub below : 0 < length path
  pub under : lies_under path key ≡ true

leaf_tests : (a b c d : Bool) (w r e l : ShapeFault)
    → (if a then Some w else if b then Some r else if c then Some e else if d then Some l else None) ≡ None
    → (a ≡ false) × (b ≡ false) × (c ≡ false)
leaf_tests true b c d w r e l h = cc
leaf_tests false true c d w r e l h = cc
leaf_tests false false true d w r e l h = cc
leaf_tests false false false d w r e l h = (refl, refl, refl)

not_is : (b : Bool) → not b ≡ false → b ≡ true
not_is true e = refl
not_is false e = cc

pub keeps_leaf : (kind own : Kind) (key bytes : Bytes) (parent : Option (List Hash)) (path : List ℕ)
    → fault_of (leaf own key bytes) parent kind path ≡ None → KeepsLeaf kind own key path
keeps_leaf kind own key bytes parent path e =
    let t = leaf_tests (not (same_kind own kind)) (length path == 0) (not (lies_under path key))
    (is_lone parent path) WrongKind LeafAtRoot (LeafElsewhere key) LoneLeaf e in
    let some : (length path ≡ 0) → ⊥ = eqb-false (length path) 0 t.1 in
    record { kinds = kinds_same own kind (not_is (same_kind own kind) t.0); below = omega arith; under = not_is (lies_under path key) t.2 }

pub one_test : (a : Bool) (w : ShapeFault) → (if a then Some w else None) ≡ None → a ≡ false
one_test true w e = cc
one_test false w e = refl

-- a form is another or the same
pub same_or_not : (a : Option Bytes) (b : Bytes) → (a ≡ Some b) ⊎ (Some b ≢ a)
same_or_not None b = inr (λ e. cc)
same_or_not (Some a) b = by_test (bytes_eq a b) refl
  where
    by_test : (t : Bool) → bytes_eq a b ≡ t → (Some a ≡ Some b) ⊎ (Some b ≢ Some a)
    by_test true is = inl (ap Some ((bytes_eq-Decides a b).0 is))
    by_test false is = inr (λ e. let same : a ≡ b = cc in false≢true (sym is ∙ (bytes_eq-Decides a b).1 same))

-- a hash whose bytes are zero is the zero hash
zeros : (h : List ℕ) → is_zero h ≡ true → h ≡ Rattle.std.proofs.Common.replicate (length h) 0
zeros [] e = refl
zeros (x ∷ h) e =
    let both : ((x == 0) ≡ true) × (is_zero h ≡ true) = and_parts (x == 0) (is_zero h) e in
    λ i. eqb-true x 0 both.0 i ∷ zeros h both.1 i

pub zero_is : (h : Hash) → length h ≡ 32 → is_zero h ≡ true → h ≡ zero_hash
zero_is h size e = zeros h e ∙ ap (λ n. Rattle.std.proofs.Common.replicate n 0) size

-- what a node of the map at a path says of the hashes below it
pub record Below (half : Half) (kind : Kind) (items : Items) (path : List ℕ) (b : ℕ) (hash : Hash) : Type 0 where
  pub kid : hash_or_zero half (form_at half kind items (path ++ b ∷ [])) ≡ hash
  pub crowded : 0 < length path → length (part items path) ≡ 1 → ⊥

one_other : (others : List Entry) → suc (length others) ≡ 1 → others ≡ []
one_other [] e = refl
one_other (x ∷ others) e = absurd (omega arith)

pub branch_below : (half : Half) → Sized half → (kind : Kind) (items : Items) (path : List ℕ) (b : ℕ) (hashes : List Hash)
    → IsHeld half (inner hashes) → length path < 64 → b < 16
    → form_at half kind items path ≡ Some (form_of (inner hashes)) → Below half kind items path b (slice_index_or hashes b zero_hash)
unfolding form_at
branch_below half sized kind items path b hashes held above below is =
    node_cases half kind items (64 - length path) path (part items path)
    (λ o. o ≡ Some (form_of (inner hashes)) → Below half kind items path b (slice_index_or hashes b zero_hash))
    (λ none e. let no : None ≡ Some (form_of (inner hashes)) = e in cc)
    (λ e others there one same. let form : leaf_form kind e.0 e.1 ≡ inner_prefix ++ concat hashes =
    cc in absurd (leaf_no_inner kind e.0 e.1 (concat hashes) form))
    (λ e others n there level many same.
    let form : inner_prefix ++ flat_map (kid_hash half kind items n path) branches ≡ inner_prefix ++ concat hashes = cc in
    let pieces : concat hashes ≡ flat_map (kid_hash half kind items n path) branches = sym (append_cancel_left inner_prefix _ _ form) in
    let are : hashes ≡ map (kid_hash half kind items n path) branches =
    hashes_are (kid_hash half kind items n path) hashes (λ c. size_or_zero half sized _) held.count held.sizes pieces in
    let levels : 64 - length (path ++ b ∷ []) ≡ n = omega (arith, length-append path (b ∷ [])) in
    record {
      kid =
          ap (λ l. hash_or_zero half (form_of_part half kind items l (path ++ b ∷ []) (part items (path ++ b ∷ [])))) levels
          ∙ sym (hash_at_branch (kid_hash half kind items n path) hashes b below are);
      crowded = λ some one. crowd path others many some (one_other others (sym (ap length there) ∙ one));
    })
    is

-- an empty node has nothing below it
pub empty_part : (half : Half) (kind : Kind) (items : Items) (path : List ℕ) → form_at half kind items path ≡ None → part items path ≡ []
unfolding form_at
empty_part half kind items path none =
    node_cases half kind items (64 - length path) path (part items path) (λ o. o ≡ None → part items path ≡ [])
    (λ is e. is) (λ e others there one same. let no : Some (leaf_form kind e.0 e.1) ≡ None = same in cc)
    (λ e others n there level many same. let no : Some (inner_prefix ++ flat_map (kid_hash half kind items n path) branches) ≡ None =
    same in cc) none
