-- The forms of the tree, one level at a time; and that a subtree's forms depend on its part alone. For proofs of other crates.
use Rattle.std.proofs.Common.{◌≡◌, ◌<◌, ◌-◌, ℕ, zero, suc, Bool, true, false, if◌then◌else◌, List, [], ◌∷◌}
use Rattle.std.proofs.Common.{◌++◌, length, Option, None, Some}
use Rattle.std.proofs.Common.{refl, sym, ap, ◌∙◌, arith, length-append, append_assoc}
use Rattle.std.specs.List.{flat_map}
use Rattle.std.specs.Option.{option_to_list}
use Rattle.ledger_spec.specs.declared.Kind.{Kind}
use Rattle.ledger_spec.specs.Bytes.{Bytes, Hash, Half, Items, branches}
use Rattle.ledger_spec.specs.Maps.{hash_cmp, insert_in, remove_in}
use Rattle.nib_path.specs.Paths.{lies_under}
use Rattle.ledger_spec.specs.Forms.{inner_prefix, leaf_form, hash_or_zero}
use Rattle.ledger_spec.specs.Tree.{Entry, part, is_alone, form_of_part, form_at, forms_of_part}
use Rattle.tree_laws.proofs.shared.Parts.{part_of_part}
use Rattle.tree_laws.proofs.Parts.{part_again, part_insert_beside, part_remove_beside}

module _ (half : Half) (kind : Kind) (all : List Entry) where
  -- the form at the branch of a path, with so many levels below it
  abbrev pub kid_form : ℕ → List ℕ → ℕ → Option Bytes
  kid_form left path b = form_of_part half kind all left (path ++ b ∷ []) (part all (path ++ b ∷ []))

  -- the forms at and below that branch
  abbrev pub kid_forms : ℕ → List ℕ → ℕ → List Bytes
  kid_forms left path b = forms_of_part half kind all left (path ++ b ∷ []) (part all (path ++ b ∷ []))

  -- the form of the inner node at a path, whose branches have so many levels below them
  abbrev pub inner_above : ℕ → List ℕ → Bytes
  inner_above left path = inner_prefix ++ flat_map (λ b. hash_or_zero half (kid_form left path b)) branches

  -- no entry: no node
  pub form_none : (left : ℕ) (path : List ℕ) → form_of_part half kind all left path [] ≡ None
  unfolding form_of_part
  form_none zero path = refl
  form_none (suc left) path = refl

  -- no level below: a leaf
  pub form_bottom : (path : List ℕ) (e : Entry) (others : List Entry)
      → form_of_part half kind all zero path (e ∷ others) ≡ Some (leaf_form kind e.0 e.1)
  unfolding form_of_part
  form_bottom path e others = refl

  -- one entry alone, below the root: a leaf
  pub form_alone : (left : ℕ) (path : List ℕ) (e : Entry) (others : List Entry) → is_alone path others ≡ true
      → form_of_part half kind all (suc left) path (e ∷ others) ≡ Some (leaf_form kind e.0 e.1)
  unfolding form_of_part
  form_alone left path e others lone = ap (λ t. Some (if t then leaf_form kind e.0 e.1 else inner_above left path)) lone

  pub form_one : (left : ℕ) (path : List ℕ) (e : Entry) → 0 < length path
      → form_of_part half kind all left path (e ∷ []) ≡ Some (leaf_form kind e.0 e.1)
  unfolding form_of_part
  form_one zero path e long = refl
  form_one (suc left) [] e long = absurd (omega arith)
  form_one (suc left) (n ∷ path) e long = refl

  -- else an inner node
  pub form_fork : (left : ℕ) (path : List ℕ) (e : Entry) (others : List Entry) → is_alone path others ≡ false
      → form_of_part half kind all (suc left) path (e ∷ others) ≡ Some (inner_above left path)
  unfolding form_of_part
  form_fork left path e others more = ap (λ t. Some (if t then leaf_form kind e.0 e.1 else inner_above left path)) more

  -- the forms at and below a path, in the same four cases
  pub forms_none : (left : ℕ) (path : List ℕ) → forms_of_part half kind all left path [] ≡ []
  unfolding forms_of_part
  forms_none zero path = refl
  forms_none (suc left) path = refl

  pub forms_bottom : (path : List ℕ) (e : Entry) (others : List Entry)
      → forms_of_part half kind all zero path (e ∷ others) ≡ leaf_form kind e.0 e.1 ∷ []
  unfolding forms_of_part
  forms_bottom path e others = refl

  pub forms_alone : (left : ℕ) (path : List ℕ) (e : Entry) (others : List Entry) → is_alone path others ≡ true
      → forms_of_part half kind all (suc left) path (e ∷ others) ≡ leaf_form kind e.0 e.1 ∷ []
  unfolding forms_of_part form_of_part
  forms_alone left path e others lone =
      ap (λ t. (if t then [] else flat_map (kid_forms left path) branches) ++ option_to_list
      (Some (if t then leaf_form kind e.0 e.1 else inner_above left path))) lone

  pub forms_one : (left : ℕ) (path : List ℕ) (e : Entry) → 0 < length path
      → forms_of_part half kind all left path (e ∷ []) ≡ leaf_form kind e.0 e.1 ∷ []
  unfolding forms_of_part form_of_part
  forms_one zero path e long = refl
  forms_one (suc left) [] e long = absurd (omega arith)
  forms_one (suc left) (n ∷ path) e long = refl

  pub forms_fork : (left : ℕ) (path : List ℕ) (e : Entry) (others : List Entry) → is_alone path others ≡ false
      → forms_of_part half kind all (suc left) path (e ∷ others)
      ≡ flat_map (kid_forms left path) branches ++ inner_above left path ∷ []
  unfolding forms_of_part form_of_part
  forms_fork left path e others more =
      ap (λ t. (if t then [] else flat_map (kid_forms left path) branches)
      ++ option_to_list (Some (if t then leaf_form kind e.0 e.1 else inner_above left path))) more

  -- the form at a path, for any number that is the levels below it
  pub form_at_is : (left : ℕ) (path : List ℕ) → left ≡ 64 - length path
      → form_at half kind all path ≡ form_of_part half kind all left path (part all path)
  unfolding form_at
  form_at_is left path is = ap (λ n. form_of_part half kind all n path (part all path)) (sym is)

-- two maps that have the same parts at and below a path have the same forms there
abbrev SameParts : List Entry → List Entry → List ℕ → Type 0
SameParts m n path = (more : List ℕ) → part m (path ++ more) ≡ part n (path ++ more)

parts_below : (m n : List Entry) (path : List ℕ) (b : ℕ) → SameParts m n path → SameParts m n (path ++ b ∷ [])
parts_below m n path b same more =
    ap (part m) (append_assoc path (b ∷ []) more) ∙ same (b ∷ more) ∙ sym (ap (part n) (append_assoc path (b ∷ []) more))

module _ (half : Half) (kind : Kind) (m n : List Entry) where
  same_form : (left : ℕ) (path : List ℕ) (es : List Entry) → SameParts m n path
      → form_of_part half kind m left path es ≡ form_of_part half kind n left path es
  same_form left path [] same = form_none half kind m left path ∙ sym (form_none half kind n left path)
  same_form zero path (e ∷ others) same = form_bottom half kind m path e others ∙ sym (form_bottom half kind n path e others)
  same_form (suc left) path (e ∷ others) same =
      by (is_alone path others) refl
      (λ b. ap (form_of_part half kind m left (path ++ b ∷ [])) (same (b ∷ []))
      ∙ same_form left (path ++ b ∷ []) (part n (path ++ b ∷ [])) (parts_below m n path b same))
    where
      by : (t : Bool) → is_alone path others ≡ t → ((b : ℕ) → kid_form half kind m left path b ≡ kid_form half kind n left path b)
          → form_of_part half kind m (suc left) path (e ∷ others) ≡ form_of_part half kind n (suc left) path (e ∷ others)
      by true is kids = form_alone half kind m left path e others is ∙ sym (form_alone half kind n left path e others is)
      by false is kids =
          form_fork half kind m left path e others is ∙ (λ i. Some
          (inner_prefix ++ flat_map (λ b. hash_or_zero half (kids b i)) branches))
          ∙ sym (form_fork half kind n left path e others is)

  same_kid : (left : ℕ) (path : List ℕ) → SameParts m n path → (b : ℕ)
      → kid_form half kind m left path b ≡ kid_form half kind n left path b
  same_kid left path same b =
      ap (form_of_part half kind m left (path ++ b ∷ [])) (same (b ∷ []))
      ∙ same_form left (path ++ b ∷ []) (part n (path ++ b ∷ [])) (parts_below m n path b same)

  same_forms : (left : ℕ) (path : List ℕ) (es : List Entry) → SameParts m n path
      → forms_of_part half kind m left path es ≡ forms_of_part half kind n left path es
  same_forms left path [] same = forms_none half kind m left path ∙ sym (forms_none half kind n left path)
  same_forms zero path (e ∷ others) same = forms_bottom half kind m path e others ∙ sym (forms_bottom half kind n path e others)
  same_forms (suc left) path (e ∷ others) same =
      by (is_alone path others) refl
      (λ b. ap (forms_of_part half kind m left (path ++ b ∷ [])) (same (b ∷ []))
      ∙ same_forms left (path ++ b ∷ []) (part n (path ++ b ∷ [])) (parts_below m n path b same))
    where
      by : (t : Bool) → is_alone path others ≡ t → ((b : ℕ) → kid_forms half kind m left path b ≡ kid_forms half kind n left path b)
          → forms_of_part half kind m (suc left) path (e ∷ others) ≡ forms_of_part half kind n (suc left) path (e ∷ others)
      by true is kids = forms_alone half kind m left path e others is ∙ sym (forms_alone half kind n left path e others is)
      by false is kids =
          forms_fork half kind m left path e others is
          ∙ (λ i. flat_map (λ b. kids b i) branches ++ (inner_prefix ++ flat_map
          (λ b. hash_or_zero half (same_kid left path same b i)) branches) ∷ [])
          ∙ sym (forms_fork half kind n left path e others is)

  -- so have two maps with the same part at a path, at each place at or below it
  parts_of_part : (path : List ℕ) → part m path ≡ part n path → SameParts m n path
  parts_of_part path same more = sym (part_of_part m path more) ∙ ap (λ es. part es (path ++ more)) same ∙ part_of_part n path more

  pub form_by_part : (path more : List ℕ) → part m path ≡ part n path
      → form_at half kind m (path ++ more) ≡ form_at half kind n (path ++ more)
  unfolding form_at
  form_by_part path more same =
      ap (form_of_part half kind m (64 - length (path ++ more)) (path ++ more)) (parts_of_part path same more)
      ∙ same_form (64 - length (path ++ more)) (path ++ more) (part n (path ++ more)) (below more)
    where
      below : (more : List ℕ) → SameParts m n (path ++ more)
      below more rest =
          ap (part m) (append_assoc path more rest) ∙ parts_of_part path same (more ++ rest)
          ∙ sym (ap (part n) (append_assoc path more rest))

  pub forms_by_part : (left : ℕ) (path : List ℕ) → part m path ≡ part n path
      → forms_of_part half kind m left path (part m path) ≡ forms_of_part half kind n left path (part n path)
  forms_by_part left path same =
      ap (forms_of_part half kind m left path) same ∙ same_forms left path (part n path) (parts_of_part path same)

-- the part at a path, as a map by itself, has the whole map's forms there
pub form_in_part : (half : Half) (kind : Kind) (all : List Entry) (path more : List ℕ)
    → form_at half kind (part all path) (path ++ more) ≡ form_at half kind all (path ++ more)
form_in_part half kind all path more = form_by_part half kind (part all path) all path more (part_again all path)

pub forms_in_part : (half : Half) (kind : Kind) (all : List Entry) (left : ℕ) (path : List ℕ)
    → forms_of_part half kind (part all path) left path (part all path) ≡ forms_of_part half kind all left path (part all path)
forms_in_part half kind all left path =
    ap (forms_of_part half kind (part all path) left path) (sym (part_again all path))
    ∙ forms_by_part half kind (part all path) all left path (part_again all path)

-- an entry that comes or goes leaves the forms at the places that its key doesn't lie under
module _ (half : Half) (kind : Kind) (items : Items) (path more : List ℕ) (key : Hash) (beside : lies_under path key ≡ false) where
  pub form_beside_insert : (bytes : Bytes) → form_at half kind (insert_in hash_cmp items key bytes) (path ++ more) ≡ form_at half
      kind items (path ++ more)
  form_beside_insert bytes = form_by_part half kind (insert_in hash_cmp items key bytes) items path more
      (part_insert_beside items path key bytes beside)

  pub form_beside_remove : form_at half kind (remove_in hash_cmp items key) (path ++ more) ≡ form_at half kind items (path ++ more)
  form_beside_remove = form_by_part half kind (remove_in hash_cmp items key) items path more
      (part_remove_beside items path key beside)

-- the inner node above the bottom names the forms at its branches
pub form_at_fork : (half : Half) (kind : Kind) (all : List Entry) (path : List ℕ) (e : Entry) (others : List Entry)
    → length path < 64
    → part all path ≡ e ∷ others → is_alone path others ≡ false
    → form_at half kind all path ≡ Some (inner_prefix ++ flat_map (λ b. hash_or_zero half (form_at half kind all (path ++ b ∷ [])))
    branches)
form_at_fork half kind all path e others above there more =
    form_at_is half kind all (suc (63 - length path)) path (omega arith)
    ∙ ap (form_of_part half kind all (suc (63 - length path)) path) there
    ∙ form_fork half kind all (63 - length path) path e others more
    ∙ (λ i. Some (inner_prefix ++ flat_map (λ b. hash_or_zero half (kid b i)) branches))
  where
    kid : (b : ℕ) → kid_form half kind all (63 - length path) path b ≡ form_at half kind all (path ++ b ∷ [])
    kid b = sym (form_at_is half kind all (63 - length path) (path ++ b ∷ []) (omega (arith, length-append path (b ∷ []))))
