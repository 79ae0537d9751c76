-- Why bytes are no prefix form of a node: the first cause that applies.
use Rattle.std.specs.Prelude.{ℕ, ◌==◌, ◌-◌, not, nat_eq, nat_lt, if◌then◌else◌, length, take, drop, Option, None, Some}
use Rattle.std.specs.Int.{w32, from_be_bytes}
use Rattle.std.specs.List.{list_all, starts_with}
use Rattle.half_hash.specs.declared.prefix.Prefix.TheVariants.{Txn, Snd, Mln, Min}
use Rattle.half_hash.specs.Prefix.{prefix_of}
use Rattle.ledger_spec.specs.Bytes.{Bytes, Hash, Half, is_zero, hashes_of}
use Rattle.ledger_spec.specs.Forms.{data_limit}
use Rattle.shamap_node.specs.declared.forms.FormFault.{FormFault}
use Rattle.shamap_node.specs.declared.forms.FormFault.TheVariants.{Short, Prefix, InnerLength, EmptyInner, LeafShort, ZeroKey, TooLong}

-- too much data, and else a zero key
abbrev pub leaf_cause : ℕ → Hash → Option FormFault
leaf_cause size key = if nat_lt data_limit size then Some (TooLong size) else if is_zero key then Some ZeroKey else None

-- behind the prefix of a leaf whose key stands behind its data
abbrev pub keyed_cause : Bytes → Option FormFault
keyed_cause b = if nat_lt (length b) 36 then Some (LeafShort (length b)) else leaf_cause (length b - 36) (drop (length b - 32) b)

-- behind the prefix of an inner node
unfoldable pub inner_cause : Bytes → Option FormFault
inner_cause b =
    if not (length b == 516) then Some (InnerLength (length b))
    else if list_all is_zero (hashes_of 16 (drop 4 b)) then Some EmptyInner
    else None

-- fewer than four bytes, and else by the prefix; a bare transaction's key is its hash
unfoldable pub form_cause : Half → Bytes → Option FormFault
form_cause half b =
    if nat_lt (length b) 4 then Some (Short (length b))
    else if starts_with nat_eq b (prefix_of Min) then inner_cause b
    else if starts_with nat_eq b (prefix_of Mln) then keyed_cause b
    else if starts_with nat_eq b (prefix_of Snd) then keyed_cause b
    else if starts_with nat_eq b (prefix_of Txn) then leaf_cause (length b - 4) (half b)
    else Some (Prefix (from_be_bytes w32 (take 4 b)))
