-- The values of the worked rows: four ledgers over one or two items, under the byte sum.
use Rattle.std.specs.Prelude.{ℕ, List, [], ◌∷◌, ◌++◌, replicate, map}
use Rattle.std.proofs.Common.{refl, arith}
use Rattle.shamap_node.specs.declared.parts.Item.{Item}
use Rattle.half_hash.specs.Half.{byte_sum_half}
use Rattle.ledger_spec.specs.declared.Kind.TheVariants.{State}
use Rattle.ledger_spec.specs.Bytes.{Bytes, Hash, zero_hash}
use Rattle.ledger_spec.specs.Forms.{Held, inner, leaf, header, form_of}

-- xx and 31 zero bytes
abbrev pub at : ℕ → Hash
at x = x ∷ replicate 31 0

-- the stored entries of these nodes and headers
abbrev pub entries_of : List Held → List (Hash × Bytes)
entries_of ns = map (λ n. (byte_sum_half (form_of n), form_of n)) ns

-- a header: sequence, parent, state root, the rest zero
abbrev pub head : ℕ → Hash → Hash → Bytes
head seq parent root = 0 ∷ 0 ∷ 0 ∷ seq ∷ replicate 8 0 ++ parent ++ zero_hash ++ root ++ replicate 10 0

-- an inner node whose branch 1 alone isn't empty
abbrev pub one_branch : Hash → Held
one_branch h = inner (zero_hash ∷ h ∷ replicate 14 zero_hash)

-- the hashes of these nodes and headers
abbrev pub hashes_of : List Held → List Hash
hashes_of ns = map (λ n. byte_sum_half (form_of n)) ns

-- their forms
abbrev pub forms_in : List Held → List Bytes
forms_in ns = map form_of ns

-- ledger 10: the item [10] = 0102
abbrev pub leaf10 : Held
leaf10 = leaf State (at 0x10) (1 ∷ 2 ∷ [])

abbrev pub root10 : Held
root10 = one_branch (at 0xFA)

abbrev pub bytes10 : Bytes
bytes10 = head 10 zero_hash (at 0xDE)

-- ledger 11: also [11] = 05
abbrev pub leaf11 : Held
leaf11 = leaf State (at 0x11) (5 ∷ [])

abbrev pub inner11 : Held
inner11 = inner (at 0xFA ∷ at 0xFD ∷ replicate 14 zero_hash)

abbrev pub root11 : Held
root11 = one_branch (at 0xDB)

abbrev pub bytes11 : Bytes
bytes11 = head 11 (at 0xDD) (at 0xBF)

-- ledger 12: [11] = 05 alone
abbrev pub root12 : Held
root12 = one_branch (at 0xFD)

abbrev pub bytes12 : Bytes
bytes12 = head 12 (at 0x9C) (at 0xE1)

abbrev pub nodes10 : List Held
nodes10 = leaf10 ∷ root10 ∷ header bytes10 ∷ []

abbrev pub nodes11 : List Held
nodes11 = header bytes11 ∷ root11 ∷ inner11 ∷ leaf11 ∷ nodes10

abbrev pub nodes12 : List Held
nodes12 = header bytes12 ∷ root12 ∷ nodes11

-- the item [11] = 05, to be put
abbrev pub item11 : Item
item11 = record { key = at 0x11; value = 5 ∷ []; valid = record { key_size = refl; key_nonzero = refl; data_size = omega arith } }

-- ledgers 13 and 14: also [20] = 07, and then [20] = 08
abbrev pub leaf20 : ℕ → Held
leaf20 b = leaf State (at 0x20) (b ∷ [])

abbrev pub root_of_two : Hash → Held
root_of_two h = inner (zero_hash ∷ at 0xFD ∷ h ∷ replicate 13 zero_hash)

abbrev pub bytes13 : Bytes
bytes13 = head 13 (at 0x7E) (at 0xEF)

abbrev pub bytes14 : Bytes
bytes14 = head 14 (at 0x6F) (at 0xF0)

abbrev pub nodes13 : List Held
nodes13 = header bytes13 ∷ root_of_two (at 0x0E) ∷ leaf20 7 ∷ nodes12

abbrev pub nodes14 : List Held
nodes14 = header bytes14 ∷ root_of_two (at 0x0F) ∷ leaf20 8 ∷ nodes13
