-- A leaf's form, by the tests that the code makes of it.
use Rattle.std.proofs.Common.{◌≡◌, ◌+◌, ◌-◌, ◌&&◌, Bool, true, false, is_some, if◌then◌else◌, nat_eq, nat_le, [], length, take, drop, Option, None}
use Rattle.std.proofs.Common.{Some, refl, ap, ◌∙◌}
use Rattle.std.specs.Option.{option_map}
use Rattle.std.specs.List.{starts_with}
use Rattle.ledger_spec.specs.declared.Kind.{Kind}
use Rattle.ledger_spec.specs.declared.Kind.TheVariants.{Set}
use Rattle.ledger_spec.specs.Bytes.{Bytes, Half, is_nonzero}
use Rattle.ledger_spec.specs.Forms.{Held, leaf, leaf_prefix, data_limit, keyed_leaf_of, bare_leaf_of}
use Rattle.shamap_node.specs.declared.parts.LeafHead.{LeafHead}
use Rattle.shamap_node.specs.Heads.{held_head, without_data}

abbrev is_keyed : Kind → Bytes → Bool
is_keyed kind b = starts_with nat_eq b (leaf_prefix kind) && nat_le 36 (length b) && nat_le (length b) (36 + data_limit)

abbrev is_bare : Bytes → Bool
is_bare b = starts_with nat_eq b (leaf_prefix Set) && nat_le (length b) (4 + data_limit)

passed : (t z : Bool) (n : Held) → true ≡ t
    → (if z then Some (without_data n) else None) ≡ option_map without_data (if t && z then Some n else None)
passed true true n e = refl
passed true false n e = refl
passed false z n e = cc

failed : (t z : Bool) (n : Held) → false ≡ t → None ≡ option_map without_data (if t && z then Some n else None)
failed true z n e = cc
failed false z n e = refl

pub keyed : (kind : Kind) (b key : Bytes) (out : Option Held) → true ≡ is_keyed kind b → key ≡ drop (length b - 32) b
    → out ≡ (if is_nonzero key then Some (leaf kind key []) else None) → out ≡ option_map without_data (keyed_leaf_of kind b)
unfolding keyed_leaf_of
keyed kind b key out fits place e =
    e ∙ ap (λ k. if is_nonzero k then Some (leaf kind k []) else None) place
    ∙ passed (is_keyed kind b) (is_nonzero (drop (length b - 32) b))
    (leaf kind (drop (length b - 32) b) (drop 4 (take (length b - 32) b))) fits

pub not_keyed : (kind : Kind) (b : Bytes) → false ≡ is_keyed kind b → None ≡ option_map without_data (keyed_leaf_of kind b)
unfolding keyed_leaf_of
not_keyed kind b fits = failed (is_keyed kind b) (is_nonzero (drop (length b - 32) b))
    (leaf kind (drop (length b - 32) b) (drop 4 (take (length b - 32) b))) fits

pub bare : (half : Half) (b key : Bytes) (out : Option Held) → true ≡ is_bare b → key ≡ half b
    → out ≡ (if is_nonzero key then Some (leaf Set key []) else None) → out ≡ option_map without_data (bare_leaf_of half b)
unfolding bare_leaf_of
bare half b key out fits same e =
    e ∙ ap (λ k. if is_nonzero k then Some (leaf Set k []) else None) same
    ∙ passed (is_bare b) (is_nonzero (half b)) (leaf Set (half b) (drop 4 b)) fits

pub not_bare : (half : Half) (b : Bytes) → false ≡ is_bare b → None ≡ option_map without_data (bare_leaf_of half b)
unfolding bare_leaf_of
not_bare half b fits = failed (is_bare b) (is_nonzero (half b)) (leaf Set (half b) (drop 4 b)) fits

-- there is a head where there is a leaf
pub head_where_leaf : (head : Option LeafHead) (o : Option Held) → option_map held_head head ≡ option_map without_data o
    → is_some head ≡ is_some o
head_where_leaf None None e = refl
head_where_leaf None (Some n) e = cc
head_where_leaf (Some head) None e = cc
head_where_leaf (Some head) (Some n) e = refl
