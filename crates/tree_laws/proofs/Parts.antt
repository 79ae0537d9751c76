-- The entries whose keys lie under a path: a part of a part, and a part after an entry came or went.
use Rattle.std.proofs.Common.{◌≡◌, ℕ, Bool, true, false, cond, List, [], ◌∷◌, ◌++◌, length, take, refl, sym, ap}
use Rattle.std.proofs.Common.{◌∙◌, arith, length-append}
use Rattle.std.proofs.lemmas.Bool.{cond-true, cond-false, false≢true}
use Rattle.std.proofs.lemmas.List.{take-take}
use Rattle.std.proofs.Math.Seq.{take-append_seam}
use Rattle.std.specs.BTreeMap.{is_at}
use Rattle.std.specs.Cmp.Lexicographic.{nat_list_cmp_total}
use Rattle.std.proofs.lemmas.Map.Lookups.{exact_bytes}
use Rattle.std.specs.List.{filter, AllByRecursion}
use Rattle.std.specs.List.Sorted.{IsStrictlySortedBy}
use Rattle.std.specs.Map.{keys_of}
use Rattle.std.specs.Ordering.{match_ordering}
use Rattle.std.specs.declared.cmp.Ordering.{Ordering}
use Rattle.std.specs.declared.cmp.Ordering.TheVariants.{Less, Equal, Greater}
use Rattle.nib_path.specs.Paths.{nibbles, lies_under}
use Rattle.ledger_spec.specs.Bytes.{Bytes, Hash, Items}
use Rattle.ledger_spec.specs.Maps.{hash_cmp, insert_in, remove_in, IsMap}
use Rattle.ledger_spec.specs.Tree.{Entry, part}
use Rattle.tree_laws.proofs.shared.Trees.{under_begins, under_from, each_in_part, same_key}

-- two tests in a row, the second narrower
pub filter_twice : (wide narrow : Entry → Bool) → ((e : Entry) → narrow e ≡ true → wide e ≡ true) → (xs : Items)
    → filter narrow (filter wide xs) ≡ filter narrow xs
filter_twice wide narrow within [] = refl
filter_twice wide narrow within (x ∷ xs) = by_test (wide x) (narrow x) refl refl (filter_twice wide narrow within xs)
  where
    by_test : (w n : Bool) → wide x ≡ w → narrow x ≡ n → filter narrow (filter wide xs) ≡ filter narrow xs
        → filter narrow (cond w (x ∷ filter wide xs) (filter wide xs)) ≡ cond n (x ∷ filter narrow xs) (filter narrow xs)
    by_test true true is_w is_n rest = cond-true (narrow x) _ _ is_n ∙ ap (λ l. x ∷ l) rest
    by_test true false is_w is_n rest = cond-false (narrow x) _ _ is_n ∙ rest
    by_test false true is_w is_n rest = absurd (false≢true (sym is_w ∙ within x is_n))
    by_test false false is_w is_n rest = rest

-- what lies under a longer path lies under its front
pub under_front : (path more : List ℕ) (k : Hash) → lies_under (path ++ more) k ≡ true → lies_under path k ≡ true
under_front path more k under =
    let front : path ≡ take (length path) (nibbles k) =
    sym (take-append_seam path more) ∙ ap (take (length path)) (under_begins (path ++ more) k under)
    ∙ take-take (length path) (length (path ++ more)) (nibbles k) (omega (arith, length-append path more))
    in
    under_from path k front

-- what lies under a branch lies under the path, and under no other branch
pub under_up : (path : List ℕ) (b : ℕ) (k : Hash) → lies_under (path ++ b ∷ []) k ≡ true → lies_under path k ≡ true
under_up path b k under = under_front path (b ∷ []) k under

pub part_again : (items : List Entry) (path : List ℕ) → part (part items path) path ≡ part items path
part_again items path = filter_twice (λ e. lies_under path e.0) (λ e. lies_under path e.0) (λ e under. under) items

-- keys that pass a test
abbrev passing : (Hash → Bool) → Items → Items
passing test items = filter (λ e. test e.0) items

module _ (key : Hash) (bytes : Bytes) where
  -- an entry whose key is less than all stands first
  pub insert_first : (items : Items) → AllByRecursion (λ (e : Entry). hash_cmp key e.0 ≡ Less) items
      → insert_in hash_cmp items key bytes ≡ (key, bytes) ∷ items
  insert_first [] all = refl
  insert_first (e ∷ items) all = ap (λ o. match_ordering o ((key, bytes) ∷ e ∷ items) ((e.0, bytes) ∷ items)
      (e ∷ insert_in hash_cmp items key bytes)) all.0

  module _ (test : Hash → Bool) where
    -- an entry that fails the test is put beside those that pass
    insert_failing : test key ≡ false → (items : Items) → passing test (insert_in hash_cmp items key bytes) ≡ passing test items
    insert_failing fails [] = cond-false (test key) _ _ fails
    insert_failing fails (e ∷ items) = by (hash_cmp key e.0) refl (insert_failing fails items)
      where
        by : (o : Ordering) → hash_cmp key e.0 ≡ o → passing test (insert_in hash_cmp items key bytes) ≡ passing test items
            → passing test (match_ordering o ((key, bytes) ∷ e ∷ items) ((e.0, bytes) ∷ items)
            (e ∷ insert_in hash_cmp items key bytes)) ≡ passing test (e ∷ items)
        by Less is rest = cond-false (test key) _ _ fails
        by Equal is rest =
            let here : test e.0 ≡ false = ap test (sym (exact_bytes key e.0 is)) ∙ fails in
            cond-false (test e.0) _ _ here ∙ sym (cond-false (test e.0) _ _ here)
        by Greater is rest = ap (λ l. cond (test e.0) (e ∷ l) l) rest

    -- one that passes is put among them
    insert_passing : test key ≡ true → (items : Items) → IsMap hash_cmp items
        → passing test (insert_in hash_cmp items key bytes) ≡ insert_in hash_cmp (passing test items) key bytes
    unfolding IsStrictlySortedBy
    insert_passing passes [] rises = cond-true (test key) _ _ passes
    insert_passing passes (e ∷ items) rises = by (hash_cmp key e.0) refl (insert_passing passes items rises.1)
      where
        behind : (less : hash_cmp key e.0 ≡ Less) (es : Items) → AllByRecursion (λ k. hash_cmp e.0 k ≡ Less) (keys_of es)
            → AllByRecursion (λ (f : Entry). hash_cmp key f.0 ≡ Less) es
        behind less [] all = tt
        behind less (f ∷ es) all = (nat_list_cmp_total.trans key e.0 f.0 less all.0, behind less es all.1)

        by : (o : Ordering) → hash_cmp key e.0 ≡ o → passing test (insert_in hash_cmp items key bytes) ≡ insert_in hash_cmp
            (passing test items) key bytes
            → passing test (match_ordering o ((key, bytes) ∷ e ∷ items) ((e.0, bytes) ∷ items)
            (e ∷ insert_in hash_cmp items key bytes))
            ≡ insert_in hash_cmp (passing test (e ∷ items)) key bytes
        by Less is rest =
            cond-true (test key) _ _ passes
            ∙ sym (insert_first (passing test (e ∷ items)) (each_in_part (λ (f : Entry). hash_cmp key f.0 ≡ Less) (λ f. test f.0)
            (e ∷ items) (is, behind is items rises.0)))
        by Equal is rest =
            let here : test e.0 ≡ true = ap test (sym (exact_bytes key e.0 is)) ∙ passes in
            cond-true (test e.0) _ _ here
            ∙ sym (ap (λ l. insert_in hash_cmp l key bytes) (cond-true (test e.0) _ _ here)
            ∙ ap (λ o. match_ordering o ((key, bytes) ∷ e ∷ passing test items) ((e.0, bytes) ∷ passing test items)
            (e ∷ insert_in hash_cmp (passing test items) key bytes)) is)
        by Greater is rest = kept (test e.0)
          where
            kept : (b : Bool) → cond b (e ∷ passing test (insert_in hash_cmp items key bytes))
                (passing test (insert_in hash_cmp items key bytes))
                ≡ insert_in hash_cmp (cond b (e ∷ passing test items) (passing test items)) key bytes
            kept true = ap (λ l. e ∷ l) rest
                ∙ sym (ap (λ o. match_ordering o ((key, bytes) ∷ e ∷ passing test items) ((e.0, bytes) ∷ passing test items)
                (e ∷ insert_in hash_cmp (passing test items) key bytes)) is)
            kept false = rest

-- a key that fails the test is taken from beside those that pass
remove_failing : (test : Hash → Bool) (key : Hash) → test key ≡ false → (items : Items)
    → passing test (remove_in hash_cmp items key) ≡ passing test items
remove_failing test key fails [] = refl
remove_failing test key fails (e ∷ items) = by (is_at (hash_cmp key) e.0) refl (remove_failing test key fails items)
  where
    by : (b : Bool) → is_at (hash_cmp key) e.0 ≡ b → passing test (remove_in hash_cmp items key) ≡ passing test items
        → passing test (cond b items (e ∷ remove_in hash_cmp items key)) ≡ passing test (e ∷ items)
    by true is rest = sym (cond-false (test e.0) _ _ (ap test (sym (same_key key e.0 is)) ∙ fails))
    by false is rest = ap (λ l. cond (test e.0) (e ∷ l) l) rest

-- one that passes is taken from among them
remove_passing : (test : Hash → Bool) (key : Hash) → test key ≡ true → (items : Items)
    → passing test (remove_in hash_cmp items key) ≡ remove_in hash_cmp (passing test items) key
remove_passing test key passes [] = refl
remove_passing test key passes (e ∷ items) = by (is_at (hash_cmp key) e.0) refl (remove_passing test key passes items)
  where
    by : (b : Bool) → is_at (hash_cmp key) e.0 ≡ b → passing test (remove_in hash_cmp items key) ≡ remove_in hash_cmp
        (passing test items) key
        → passing test (cond b items (e ∷ remove_in hash_cmp items key)) ≡ remove_in hash_cmp (passing test (e ∷ items)) key
    by true is rest =
        sym (ap (λ l. remove_in hash_cmp l key) (cond-true (test e.0) _ _ (ap test (sym (same_key key e.0 is)) ∙ passes))
        ∙ cond-true (is_at (hash_cmp key) e.0) _ _ is)
    by false is rest = kept (test e.0)
      where
        kept : (b : Bool) → cond b (e ∷ passing test (remove_in hash_cmp items key)) (passing test (remove_in hash_cmp items key))
            ≡ remove_in hash_cmp (cond b (e ∷ passing test items) (passing test items)) key
        kept true = ap (λ l. e ∷ l) rest ∙ sym (cond-false (is_at (hash_cmp key) e.0) _ _ is)
        kept false = rest

module _ (items : Items) (path : List ℕ) (key : Hash) where
  -- an entry that is put changes the parts that its key lies under, and no others
  pub part_insert : (bytes : Bytes) → lies_under path key ≡ true → IsMap hash_cmp items
      → part (insert_in hash_cmp items key bytes) path ≡ insert_in hash_cmp (part items path) key bytes
  part_insert bytes under rises = insert_passing key bytes (lies_under path) under items rises

  pub part_insert_beside : (bytes : Bytes) → lies_under path key ≡ false
      → part (insert_in hash_cmp items key bytes) path ≡ part items path
  part_insert_beside bytes beside = insert_failing key bytes (lies_under path) beside items

  -- and so does a key that is taken
  pub part_remove : lies_under path key ≡ true → part (remove_in hash_cmp items key) path ≡ remove_in hash_cmp (part items path) key
  part_remove under = remove_passing (lies_under path) key under items

  pub part_remove_beside : lies_under path key ≡ false → part (remove_in hash_cmp items key) path ≡ part items path
  part_remove_beside beside = remove_failing (lies_under path) key beside items
