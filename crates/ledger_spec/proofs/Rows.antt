-- Worked rows, computed: a ledger over one item, under the byte sum.
use Rattle.std.specs.Prelude.{◌≡◌, ℕ, List, [], ◌∷◌, ◌++◌, replicate, Some, refl}
use Rattle.std.specs.List.{find}
use Rattle.half_hash.specs.Half.{byte_sum_half}
use Rattle.ledger_spec.specs.declared.Kind.TheVariants.{State}
use Rattle.ledger_spec.specs.declared.Place.TheVariants.{Node}
use Rattle.ledger_spec.specs.Bytes.{Bytes, Hash, Lookup, same_bytes}
use Rattle.ledger_spec.specs.Forms.{Held, inner, leaf, header, form_of, inner_of, header_of, keyed_leaf_of, bare_leaf_of}
use Rattle.ledger_spec.specs.Findings.{walk, walk_map, walk_ledger, findings, lacks}
use Rattle.ledger_spec.specs.Reads.{follow, value}
use Rattle.ledger_spec.specs.Tree.{form_of_part, forms_of_part, form_at, part}
use Rattle.ledger_spec.specs.Forms.{hash_or_zero}
use Rattle.std.specs.Prelude.{map}
use Rattle.std.specs.Option.{option_map}

-- xx and 31 zero bytes
abbrev at : ℕ → Hash
at x = x ∷ replicate 31 0

-- the leaf of key [10], data 0102
abbrev leaf10 : Held
leaf10 = leaf State (at 0x10) (1 ∷ 2 ∷ [])

abbrev root10 : Held
root10 = inner (replicate 1 (replicate 32 0) ++ at 0xFA ∷ replicate 14 (replicate 32 0))

abbrev head10 : Held
head10 = header (0 ∷ 0 ∷ 0 ∷ 10 ∷ replicate 72 0 ++ at 0xDE ++ replicate 10 0)

abbrev with_root : Lookup
with_root h =
    option_map {T = Hash × Bytes} (λ e. e.1) (find (λ e. same_bytes e.0 h) ((at 0xDD, form_of head10) ∷ (at 0xDE, form_of root10) ∷ []))

abbrev whole10 : Lookup
whole10 h = option_map {T = Hash × Bytes} (λ e. e.1)
    (find (λ e. same_bytes e.0 h) ((at 0xDD, form_of head10) ∷ (at 0xDE, form_of root10) ∷ (at 0xFA, form_of leaf10) ∷ []))

hash_of_leaf : byte_sum_half (form_of leaf10) ≡ at 0xFA
hash_of_leaf = refl

hash_of_root : byte_sum_half (form_of root10) ≡ at 0xDE
hash_of_root = refl

hash_of_head : byte_sum_half (form_of head10) ≡ at 0xDD
hash_of_head = refl

read_root : inner_of (form_of root10) ≡ Some (replicate 1 (replicate 32 0) ++ at 0xFA ∷ replicate 14 (replicate 32 0))
unfolding inner_of
read_root = refl

lacks_leaf : findings byte_sum_half with_root (at 0xDD) ≡ lacks (Node State (1 ∷ [])) ∷ []
unfolding walk walk_map walk_ledger inner_of header_of keyed_leaf_of bare_leaf_of
lacks_leaf = refl

is_whole : findings byte_sum_half whole10 (at 0xDD) ≡ []
unfolding walk walk_map walk_ledger inner_of header_of keyed_leaf_of bare_leaf_of
is_whole = refl

gets_value : follow byte_sum_half State (at 0xDE) (at 0x10) (root10 ∷ leaf10 ∷ []) ≡ Some (value (1 ∷ 2 ∷ []))
gets_value = refl

abbrev items11 : List (Hash × Bytes)
items11 = (at 0x10, 1 ∷ 2 ∷ []) ∷ (at 0x11, 5 ∷ []) ∷ []

root11 : hash_or_zero byte_sum_half (form_at byte_sum_half State items11 []) ≡ at 0xBF
unfolding form_of_part form_at
root11 = refl

-- leaf, leaf, inner node, root
forms11 : map byte_sum_half (forms_of_part byte_sum_half State items11 64 [] (part items11 [])) ≡ at 0xFA ∷ at 0xFD ∷ at 0xDB ∷ at 0xBF ∷ []
unfolding form_of_part forms_of_part
forms11 = refl
