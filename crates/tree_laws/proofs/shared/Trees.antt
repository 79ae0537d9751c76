-- The tree of a finite map: which entries lie under a path, and what stands there. For proofs of other crates.
use Rattle.std.proofs.Common.{◌≡◌, ◌⊎◌, inl, inr, ◌≤◌, ◌<◌, ◌==◌, ℕ, zero, suc, Bool, true, false, if◌then◌else◌, List, [], ◌∷◌, ◌++◌}
use Rattle.std.proofs.Common.{length, take, map, nat_eq, cond, IsTrue, Option, None, Some, refl, sym, ap, ◌∙◌, subst, arith}
use Rattle.std.proofs.lemmas.Bool.{eq-eqb, and_from, false≢true}
use Rattle.std.proofs.lemmas.List.{length-take-le, take_all}
use Rattle.std.proofs.lemmas.List.Elements.{filter_passes, All-head}
use Rattle.std.proofs.lemmas.List.FromFn.{get_or-map-range_with_len}
use Rattle.std.proofs.lemmas.Map.Entries.{lookup-filter-keys}
use Rattle.std.proofs.lemmas.Map.Text.{is_eq-slice_cmp}
use Rattle.std.proofs.lemmas.Slice.Eq.{bytes_eq-Decides}
use Rattle.std.specs.BTreeMap.{is_at}
use Rattle.std.specs.List.{concat, flat_map, list_all, slice_index_or, starts_with, filter, AllByRecursion}
use Rattle.nib_path.specs.Paths.{nibbles, packed, lies_under, packed-nibbles, length-nibbles}
use Rattle.ledger_spec.specs.declared.Kind.{Kind}
use Rattle.ledger_spec.specs.declared.Kind.TheVariants.{State, Tx, Set}
use Rattle.ledger_spec.specs.Maps.{hash_cmp, get_in}
use Rattle.ledger_spec.specs.Bytes.{Bytes, Hash, Half, Items, zero_hash, branches, hashes_of}
use Rattle.ledger_spec.specs.Forms.{inner_prefix, leaf_form, hash_or_zero}
use Rattle.ledger_spec.specs.Tree.{Entry, part, is_alone, form_of_part}
use Rattle.ledger_spec.proofs.shared.Hashes.{hashes_of-concat}

-- a hash has 32 bytes
abbrev pub Sized : Half → Type 0
Sized half = (bytes : Bytes) → length (half bytes) ≡ 32

-- the bytes' order tells keys apart
pub same_key : (a b : Hash) → is_at (hash_cmp a) b ≡ true → a ≡ b
same_key a b e = (bytes_eq-Decides a b).0 (sym (is_eq-slice_cmp a b) ∙ e)

pub at_itself : (a b : Hash) → a ≡ b → is_at (hash_cmp a) b ≡ true
at_itself a b e = is_eq-slice_cmp a b ∙ (bytes_eq-Decides a b).1 e

-- what lies under a path begins with it
pub under_from : (path key : List ℕ) → path ≡ take (length path) (nibbles key) → lies_under path key ≡ true
under_from path key e = (bytes_eq-Decides path (take (length path) (nibbles key))).1 e

pub under_begins : (path key : List ℕ) → lies_under path key ≡ true → path ≡ take (length path) (nibbles key)
under_begins path key e = (bytes_eq-Decides path (take (length path) (nibbles key))).0 e

-- a key lies under its own first nibbles
pub under_own : (depth : ℕ) (key : Hash) → depth ≤ 64 → length key ≡ 32 → lies_under (take depth (nibbles key)) key ≡ true
under_own depth key within size =
    let enough : depth ≤ length (nibbles key) = omega (arith, length-nibbles key) in
    under_from (take depth (nibbles key)) key (ap (λ n. take n (nibbles key)) (sym (length-take-le depth (nibbles key) enough)))

-- two keys under a path of 64 nibbles are one
pub under_whole : (path a b : List ℕ) → length path ≡ 64 → length a ≡ 32 → length b ≡ 32 → lies_under path a ≡ true
    → lies_under path b ≡ true → a ≡ b
under_whole path a b whole size_a size_b under_a under_b =
    let all : (k : Hash) → length k ≡ 32 → lies_under path k ≡ true → path ≡ nibbles k = λ k size under.
    let short : length (nibbles k) ≤ length path = omega (arith, length-nibbles k) in
    under_begins path k under ∙ take_all (length path) (nibbles k) short
    in
    sym (packed-nibbles a) ∙ ap packed (sym (all a size_a under_a) ∙ all b size_b under_b) ∙ packed-nibbles b

-- a look-up under a path is one among what lies there
pub get_in_part : (items : Items) (path key : List ℕ) → lies_under path key ≡ true
    → get_in hash_cmp (part items path) key ≡ get_in hash_cmp items key
get_in_part items path key under =
    lookup-filter-keys (is_at (hash_cmp key)) (lies_under path) true
    (λ k e. subst (λ q. lies_under path q ≡ true) (same_key key k e) under) items

-- what is true of each entry is true of what lies under a path
pub each_in_part : (P : Entry → Type 0) (test : Entry → Bool) (items : Items) → AllByRecursion P items
    → AllByRecursion P (filter test items)
each_in_part P test [] all = tt
each_in_part P test (e ∷ items) all = kept (test e) (filter test items) (each_in_part P test items all.1)
  where
    kept : (b : Bool) (rest : List Entry) → AllByRecursion P rest → AllByRecursion P (cond b (e ∷ rest) rest)
    kept true rest more = (all.0, more)
    kept false rest more = more

-- each entry that is kept passes
pub first_passes : (test : Entry → Bool) (items others : List Entry) (e : Entry) → filter test items ≡ e ∷ others → test e ≡ true
first_passes test items others e is = All-head (λ x. test x ≡ true) e others
    (subst (λ l. (k : ℕ) (d : Entry) → k < length l → test (slice_index_or l k d) ≡ true) is (filter_passes test items))

-- no other entry below the root
pub alone_nil : (path : List ℕ) (others : List Entry) → is_alone path others ≡ true → others ≡ []
alone_nil [] others e = absurd (false≢true e)
alone_nil (n ∷ path) [] e = refl
alone_nil (n ∷ path) (x ∷ others) e = absurd (false≢true e)

pub crowd : (path : List ℕ) (others : List Entry) → is_alone path others ≡ false → 0 < length path → (others ≡ []) → ⊥
crowd [] others e below none = omega arith
crowd (n ∷ path) [] e below none = false≢true (sym e)
crowd (n ∷ path) (x ∷ others) e below none = let no : x ∷ others ≡ [] = none in cc

-- the hash of the node at a branch
abbrev pub kid_hash : Half → Kind → Items → ℕ → List ℕ → ℕ → Hash
kid_hash half kind items left path b = hash_or_zero half (form_of_part half kind items left (path ++ b ∷ []) (part items (path ++ b ∷ [])))

-- what stands at a path: nothing, a leaf, or an inner node
pub node_cases : (half : Half) (kind : Kind) (items : Items) (left : ℕ) (path : List ℕ) (there : List Entry) (P : Option Bytes → Type 0)
    → (there ≡ [] → P None)
    → ((e : Entry) (others : List Entry) → there ≡ e ∷ others → (others ≡ []) ⊎ (left ≡ 0) → P (Some (leaf_form kind e.0 e.1)))
    → ((e : Entry) (others : List Entry) (n : ℕ) → there ≡ e ∷ others → left ≡ suc n → is_alone path others ≡ false
    → P (Some (inner_prefix ++ flat_map (kid_hash half kind items n path) branches)))
    → P (form_of_part half kind items left path there)
unfolding form_of_part
node_cases half kind items left path [] P nothing at_leaf at_inner = nothing refl
node_cases half kind items zero path (e ∷ others) P nothing at_leaf at_inner = at_leaf e others refl (inr refl)
node_cases half kind items (suc n) path (e ∷ others) P nothing at_leaf at_inner = by_test (is_alone path others) refl
  where
    by_test : (b : Bool) → is_alone path others ≡ b
        → P (Some (if b then leaf_form kind e.0 e.1 else inner_prefix ++ flat_map (kid_hash half kind items n path) branches))
    by_test true is = at_leaf e others refl (inl (alone_nil path others is))
    by_test false is = at_inner e others n refl refl is

-- a leaf's form is no inner node's
leaf_starts : (kind : Kind) (key bytes : Bytes) → starts_with nat_eq (leaf_form kind key bytes) inner_prefix ≡ false
leaf_starts State key bytes = refl
leaf_starts Tx key bytes = refl
leaf_starts Set key bytes = refl

pub leaf_no_inner : (kind : Kind) (key bytes rest : Bytes) → leaf_form kind key bytes ≡ inner_prefix ++ rest → ⊥
leaf_no_inner kind key bytes rest e =
    let starts : starts_with nat_eq (inner_prefix ++ rest) inner_prefix ≡ true = refl in
    false≢true (sym (leaf_starts kind key bytes) ∙ ap (λ x. starts_with nat_eq x inner_prefix) e ∙ starts)

-- the hash of a form, or zero, has 32 bytes
pub size_or_zero : (half : Half) → Sized half → (form : Option Bytes) → length (hash_or_zero half form) ≡ 32
size_or_zero half sized None = refl
size_or_zero half sized (Some form) = sized form

-- pieces of 32 bytes, joined
pub concat_map : (f : ℕ → Hash) (xs : List ℕ) → concat (map f xs) ≡ flat_map f xs
concat_map f [] = refl
concat_map f (x ∷ xs) = ap (λ t. f x ++ t) (concat_map f xs)

pub sizes_map : (f : ℕ → Hash) (xs : List ℕ) → ((b : ℕ) → length (f b) ≡ 32) → IsTrue (list_all (λ h. length h == 32) (map f xs))
sizes_map f [] size = refl
sizes_map f (x ∷ xs) size =
    and_from (length (f x) == 32) (list_all (λ h. length h == 32) (map f xs)) (eq-eqb (length (f x)) 32 (size x)) (sizes_map f xs size)

-- sixteen hashes that join to the pieces are the pieces
pub hashes_are : (f : ℕ → Hash) (hashes : List Hash) → ((b : ℕ) → length (f b) ≡ 32) → length hashes ≡ 16
    → IsTrue (list_all (λ h. length h == 32) hashes)
    → concat hashes ≡ flat_map f branches → hashes ≡ map f branches
hashes_are f hashes size count sizes e =
    sym (hashes_of-concat hashes sizes) ∙ ap (λ n. hashes_of n (concat hashes)) count
    ∙ ap (hashes_of 16) (e ∙ sym (concat_map f branches)) ∙ hashes_of-concat (map f branches) (sizes_map f branches size)

pub hash_at_branch : (f : ℕ → Hash) (hashes : List Hash) (b : ℕ) → b < 16 → hashes ≡ map f branches
    → slice_index_or hashes b zero_hash ≡ f b
hash_at_branch f hashes b below e =
    ap (λ l. slice_index_or l b zero_hash) e ∙ get_or-map-range_with_len f 0 16 b b zero_hash below (omega arith)
