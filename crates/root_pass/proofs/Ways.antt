-- The way of a key, and the entries below it when one comes behind.
use Rattle.std.proofs.Common.{◌≡◌, ◌≢◌, ℕ, ◌+◌, ◌<◌, ◌≤◌, Bool, true, false, List, [], ◌∷◌, ◌++◌, length, cond}
use Rattle.std.proofs.Common.{sym, ap, ◌∙◌, subst, arith}
use Rattle.std.proofs.lemmas.Bool.{cond-true, cond-false}
use Rattle.std.proofs.lemmas.List.{take_more, length-take-le, append-nil}
use Rattle.std.proofs.lemmas.List.Elements.{filter-append}
use Rattle.std.specs.List.{filter}
use Rattle.nib_path.specs.Paths.{nibbles, nibble_of, lies_under, length-nibbles}
use Rattle.ledger_spec.specs.Bytes.{Hash, Items}
use Rattle.ledger_spec.specs.Tree.{Entry, part}
use Rattle.tree_laws.proofs.shared.Trees.{under_own}
use Rattle.tree_laws.proofs.shared.Parts.{under_other, part_of_part}
use Rattle.root_pass.specs.Rows.{way}

pub way_more : (key : Hash) (j : ℕ) → length key ≡ 32 → j < 64 → way key (j + 1) ≡ way key j ++ nibble_of key j ∷ []
way_more key j size low = take_more (nibbles key) j 0 (omega (arith, length-nibbles key))

pub way_size : (key : Hash) (j : ℕ) → length key ≡ 32 → j ≤ 64 → length (way key j) ≡ j
way_size key j size low = length-take-le j (nibbles key) (omega (arith, length-nibbles key))

-- the key lies under its way, and under no other branch of it
pub on_way : (key : Hash) (j : ℕ) → length key ≡ 32 → j ≤ 64 → lies_under (way key j) key ≡ true
on_way key j size low = under_own j key low size

pub off_way : (key : Hash) (j b : ℕ) → length key ≡ 32 → j < 64 → b ≢ nibble_of key j → lies_under (way key j ++ b ∷ []) key ≡ false
off_way key j b size low differ =
    let on : lies_under (way key j ++ nibble_of key j ∷ []) key ≡ true =
    ap (λ p. lies_under p key) (sym (way_more key j size low)) ∙ on_way key (j + 1) size (omega arith) in
    under_other (way key j) (nibble_of key j) b key (λ e. differ (sym e)) on

-- an entry that comes behind
pub part_on : (items : Items) (e : Entry) (path : List ℕ) → lies_under path e.0 ≡ true → part
    (items ++ e ∷ []) path ≡ part items path ++ e ∷ []
part_on items e path on =
    filter-append (λ (f : Entry). lies_under path f.0) items (e ∷ [])
    ∙ ap (λ es. part items path ++ es) (cond-true (lies_under path e.0) (e ∷ []) [] on)

pub part_off : (items : Items) (e : Entry) (path : List ℕ) → lies_under path e.0 ≡ false → part (items ++ e ∷ []) path ≡ part items path
part_off items e path off =
    filter-append (λ (f : Entry). lies_under path f.0) items (e ∷ [])
    ∙ ap (λ es. part items path ++ es) (cond-false (lies_under path e.0) (e ∷ []) [] off) ∙ append-nil (part items path)

-- where nothing lies, nothing lies below
pub part_none : (items : Items) (path more : List ℕ) → part items path ≡ [] → part items (path ++ more) ≡ []
part_none items path more none = sym (part_of_part items path more) ∙ ap (λ es. part es (path ++ more)) none

-- fewer pass a test than are tested
pub fewer : (test : Entry → Bool) (items : Items) → length (filter test items) ≤ length items
fewer test [] = omega arith
fewer test (e ∷ items) = by (test e) (fewer test items)
  where
    by : (b : Bool) → length (filter test items) ≤ length items → length (cond b (e ∷ filter test items) (filter test items)) ≤ length
        (e ∷ items)
    by true le = omega arith
    by false le = omega arith

-- no more lie below than above
pub part_fewer : (items : Items) (path more : List ℕ) → length (part items (path ++ more)) ≤ length (part items path)
part_fewer items path more =
    subst (λ (es : Items). length es ≤ length (part items path)) (part_of_part items path more)
    (fewer (λ (e : Entry). lies_under (path ++ more) e.0) (part items path))
