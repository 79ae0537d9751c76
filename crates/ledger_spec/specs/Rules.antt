-- The rules of shape at a place.
use Rattle.std.specs.Prelude.{ℕ, ◌==◌, ◌&&◌, not, nat_le, Bool, true, false, if◌then◌else◌, List, length, Option, None, Some}
use Rattle.std.specs.List.{count_by}
use Rattle.nib_path.specs.Paths.{lies_under}
use Rattle.ledger_spec.specs.declared.Kind.{Kind}
use Rattle.ledger_spec.specs.declared.Kind.TheVariants.{State, Tx, Set}
use Rattle.ledger_spec.specs.declared.ShapeFault.{ShapeFault}
use Rattle.ledger_spec.specs.declared.ShapeFault.TheVariants.{WrongKind, LeafElsewhere, LoneLeaf, InnerAtBottom, LeafAtRoot, Foreign}
use Rattle.ledger_spec.specs.Bytes.{Hash, is_nonzero}
use Rattle.ledger_spec.specs.Forms.{Held, inner, leaf, header}

-- the rule's number
abbrev pub rule_number : ShapeFault → ℕ
rule_number WrongKind = 1
rule_number (LeafElsewhere key) = 2
rule_number LoneLeaf = 3
rule_number InnerAtBottom = 4
rule_number LeafAtRoot = 5
rule_number Foreign = 6

-- the two kinds are one
abbrev pub same_kind : Kind → Kind → Bool
same_kind State State = true
same_kind Tx Tx = true
same_kind Set Set = true
same_kind _ _ = false

-- the place's only sibling is none: its parent, which isn't the root, has one branch that isn't empty
abbrev pub is_lone : Option (List Hash) → List ℕ → Bool
is_lone None path = false
is_lone (Some hashes) path = nat_le 2 (length path) && (count_by is_nonzero hashes == 1)

-- the first rule that is broken at the place with this parent, map and path; a leaf is tried for 1, 5, 2, 3 in this order
abbrev pub fault_of : Held → Option (List Hash) → Kind → List ℕ → Option ShapeFault
fault_of (header bytes) parent kind path = Some Foreign
fault_of (inner hashes) parent kind path = if length path == 64 then Some InnerAtBottom else None
fault_of (leaf own key bytes) parent kind path =
    if not (same_kind own kind) then Some WrongKind
    else if length path == 0 then Some LeafAtRoot
    else if not (lies_under path key) then Some (LeafElsewhere key)
    else if is_lone parent path then Some LoneLeaf
    else None
