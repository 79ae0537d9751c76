-- The one tree of a finite map.
use Rattle.std.specs.Prelude.{◌≡◌, ◌≢◌, ◌⊎◌, ℕ, zero, suc, ◌-◌, ◌<◌, Bool, true, false, if◌then◌else◌, List, [], ◌∷◌, ◌++◌, length, take}
use Rattle.std.specs.Prelude.{IsTrue, Option, None, Some}
use Rattle.std.specs.Option.{option_to_list}
use Rattle.std.specs.List.{flat_map, filter, AllByRecursion}
use Rattle.ledger_spec.specs.Maps.{IsMap, hash_cmp}
use Rattle.nib_path.specs.Paths.{lies_under}
use Rattle.ledger_spec.specs.declared.Kind.{Kind}
use Rattle.ledger_spec.specs.Bytes.{Bytes, Hash, Half, Items, are_bytes, branches}
use Rattle.ledger_spec.specs.Forms.{leaf, IsHeld, inner_prefix, leaf_form, hash_or_zero}

-- a key and its data
abbrev pub Entry : Type 0
Entry = Hash × Bytes

-- a key and data of bytes
abbrev pub IsByteEntry : Entry → Type 0
IsByteEntry e = IsTrue (are_bytes e.0) × IsTrue (are_bytes e.1)

-- a finite map of a kind's items: keys rise, and each key and its data are bytes and those of a leaf; so a bare transaction's key is its
-- hash
pub record AreItems (half : Half) (kind : Kind) (items : Items) : Type 0 where
  pub rising : IsMap hash_cmp items
  pub each : AllByRecursion (λ e. IsHeld half (leaf kind e.0 e.1)) items
  pub bytes : AllByRecursion IsByteEntry items

-- the entries whose key lies under the path
abbrev pub part : List Entry → List ℕ → List Entry
part all path = filter (λ e. lies_under path e.0) all

-- no entry besides the first
abbrev pub is_alone : List ℕ → List Entry → Bool
is_alone [] others = false
is_alone (n ∷ path) [] = true
is_alone (n ∷ path) (e ∷ others) = false

-- the form of the node at a path with these entries; there are `left` levels below it, and none where there is no entry
unfoldable pub form_of_part : Half → Kind → List Entry → ℕ → List ℕ → List Entry → Option Bytes
form_of_part half kind all left path [] = None
form_of_part half kind all zero path (e ∷ others) = Some (leaf_form kind e.0 e.1)
form_of_part half kind all (suc left) path (e ∷ others) =
    let kid : ℕ → Option Bytes = λ b. form_of_part half kind all left (path ++ b ∷ []) (part all (path ++ b ∷ [])) in
    Some (if is_alone path others then leaf_form kind e.0 e.1
    else inner_prefix ++ flat_map (λ b. hash_or_zero half (kid b)) branches)

-- the form of the map's node at a path, none for the empty node
unfoldable pub form_at : Half → Kind → List Entry → List ℕ → Option Bytes
form_at half kind all path = form_of_part half kind all (64 - length path) path (part all path)

-- the root hash
abbrev pub root_of : Half → Kind → Items → Hash
root_of half kind items = hash_or_zero half (form_at half kind items [])

-- the forms of the nodes at and below a path, kids before their parent
unfoldable pub forms_of_part : Half → Kind → List Entry → ℕ → List ℕ → List Entry → List Bytes
forms_of_part half kind all left path [] = []
forms_of_part half kind all zero path (e ∷ others) = leaf_form kind e.0 e.1 ∷ []
forms_of_part half kind all (suc left) path (e ∷ others) =
    let kid : ℕ → List Bytes = λ b. forms_of_part half kind all left (path ++ b ∷ []) (part all (path ++ b ∷ [])) in
    (if is_alone path others then [] else flat_map kid branches)
    ++ option_to_list (form_of_part half kind all (suc left) path (e ∷ others))

-- the forms of all nodes of the map, branches rising and kids before their parent
abbrev pub forms_of : Half → Kind → Items → List Bytes
forms_of half kind items = forms_of_part half kind items 64 [] (part items [])

-- no leaf stands above the path
abbrev pub NoLeafAbove : Items → List ℕ → Type 0
NoLeafAbove items path = (k : ℕ) → 0 < k → k < length path → length (part items (take k path)) ≢ 1

-- the map has this form at the path; none says that it has the empty node there
abbrev pub HasAt : Half → Kind → Items → List ℕ → Option Bytes → Type 0
HasAt half kind items path form = (form_at half kind items path ≡ form) × ((form ≡ None) ⊎ NoLeafAbove items path)
