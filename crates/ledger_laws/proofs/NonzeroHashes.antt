-- How many of sixteen hashes aren't zero, and the forms of leaves: what the making of a tree's forms needs of each node.
use Rattle.std.proofs.Common.{◌≡◌, ℕ, zero, suc, ◌+◌, ◌<◌, ◌≤◌, ◌==◌, ◌||◌, ◌&&◌, if◌then◌else◌, not, cond, Bool}
use Rattle.std.proofs.Common.{true, false, IsTrue, List, [], ◌∷◌, ◌++◌, count_by}
use Rattle.std.proofs.Common.{length, map, get_or, None, Some, Contains, refl, sym, ap, ◌∙◌, arith, length-append}
use Rattle.std.proofs.lemmas.List.Recursion.{is_count_by}
use Rattle.std.proofs.lemmas.Bool.{eqb-true, false≢true}
use Rattle.std.proofs.lemmas.List.FromFn.{get_or-range_with_len}
use Rattle.std.specs.List.{AllByRecursion, flat_map, range_with_len}
use Rattle.std.specs.List.Sorted.{IsStrictlySortedBy}
use Rattle.std.specs.Ordering.{is_eq}
use Rattle.nib_path.specs.Paths.{lies_under}
use Rattle.ledger_spec.specs.Maps.{hash_cmp, IsMap}
use Rattle.ledger_spec.specs.declared.Kind.{Kind}
use Rattle.ledger_spec.specs.declared.Kind.TheVariants.{State, Tx, Set}
use Rattle.ledger_spec.specs.declared.ShapeFault.{ShapeFault}
use Rattle.ledger_spec.specs.Bytes.{Bytes, Hash, Half, Items, is_zero, is_nonzero, are_bytes, branches}
use Rattle.ledger_spec.specs.Forms.{leaf, IsHeld, IsItem, leaf_form, leaf_prefix}
use Rattle.ledger_spec.specs.Rules.{same_kind}
use Rattle.ledger_spec.specs.Findings.{Finding}
use Rattle.ledger_spec.specs.Tree.{Entry, part}
use Rattle.ledger_spec.proofs.shared.ByteForms.{bytes_join}
use Rattle.tree_laws.proofs.shared.Parts.{filter_all}
use Rattle.tree_laws.proofs.shared.Shapes.{key_size}
use Rattle.tree_laws.proofs.shared.Trees.{at_itself, under_whole}
use Rattle.ledger_laws.proofs.shared.SoundForms.{in_nothing}

-- two keys under a path of 64 nibbles don't rise
pub one_at_bottom : (path : List ℕ) (e : Entry) (others : Items) → length path ≡ 64 → IsMap hash_cmp (e ∷ others)
    → AllByRecursion (λ (x : Entry). length x.0 ≡ 32) (e ∷ others)
    → AllByRecursion (λ (x : Entry). lies_under path x.0 ≡ true) (e ∷ others) → others ≡ []
unfolding IsStrictlySortedBy
one_at_bottom path e [] deep sorted sizes under = refl
one_at_bottom path e (f ∷ others) deep sorted sizes under =
    let same : e.0 ≡ f.0 = under_whole path e.0 f.0 deep sizes.0 sizes.1.0 under.0 under.1.0 in
    let equal : is_eq (hash_cmp e.0 f.0) ≡ true = at_itself e.0 f.0 same in
    absurd (false≢true (sym (ap is_eq sorted.0.0) ∙ equal))

-- each entry's key has 32 bytes
pub key_sizes : (half : Half) (kind : Kind) (items : Items) → AllByRecursion (λ (e : Entry). IsHeld half (leaf kind e.0 e.1)) items
    → AllByRecursion (λ (e : Entry). length e.0 ≡ 32) items
key_sizes half kind [] all = tt
key_sizes half kind (e ∷ items) all = (key_size half kind e.0 e.1 all.0, key_sizes half kind items all.1)

-- a leaf's key and data are an item
item_held : (half : Half) (kind : Kind) (key bytes : Bytes) → IsHeld half (leaf kind key bytes) → IsItem key bytes
item_held half State key bytes h = h
item_held half Tx key bytes h = h
item_held half Set key bytes h = h.0

-- a leaf's form is bytes
pub leaf_bytes : (kind : Kind) (key bytes : Bytes) → IsTrue (are_bytes key) → IsTrue (are_bytes bytes)
    → IsTrue (are_bytes (leaf_form kind key bytes))
leaf_bytes State key bytes k b = bytes_join (leaf_prefix State) (bytes ++ key) refl (bytes_join bytes key b k)
leaf_bytes Tx key bytes k b = bytes_join (leaf_prefix Tx) (bytes ++ key) refl (bytes_join bytes key b k)
leaf_bytes Set key bytes k b = bytes_join (leaf_prefix Set) bytes refl b

pub kind_itself : (kind : Kind) → same_kind kind kind ≡ true
kind_itself State = refl
kind_itself Tx = refl
kind_itself Set = refl

-- a leaf of the map's kind on its way, below the root and not lone, breaks no rule
pub leaf_fits : (a b c d : Bool) (w r e l : ShapeFault) → a ≡ true → b ≡ false → c ≡ true → d ≡ false
    → (if not a then Some w else if b then Some r else if not c then Some e else if d then Some l else None) ≡ None
leaf_fits true false true false w r e l x y z u = refl
leaf_fits true false true true w r e l x y z u = cc
leaf_fits false b c d w r e l x y z u = cc
leaf_fits true true c d w r e l x y z u = cc
leaf_fits true false false d w r e l x y z u = cc

pub both_true : (a b : Bool) → (a && b) ≡ true → (a ≡ true) × (b ≡ true)
both_true true true e = (refl, refl)
both_true true false e = cc
both_true false b e = cc

-- how many of the hashes aren't zero
abbrev pub nonzeros : List Hash → ℕ
nonzeros [] = 0
nonzeros (h ∷ hs) = cond (is_nonzero h) (1 + nonzeros hs) (nonzeros hs)

pub nonzeros_by : (hs : List Hash) → nonzeros hs ≡ count_by is_nonzero hs
nonzeros_by = is_count_by nonzeros is_nonzero refl (λ x xs. refl)

-- where only branches with a hash have entries: none where no branch has a hash
none_counted : (f : ℕ → Hash) (k : ℕ → List Entry) (bs : List ℕ)
    → ((c : ℕ) → Contains bs c → is_nonzero (f c) ≡ false → k c ≡ []) → nonzeros (map f bs) ≡ 0
    → (flat_map k bs ≡ []) × ((c : ℕ) → Contains bs c → is_nonzero (f c) ≡ false)
none_counted f k [] each count = (refl, λ c there. absurd (in_nothing there))
none_counted f k (b ∷ bs) each count =
    by (is_nonzero (f b)) refl count
    (none_counted f k bs (λ c there. each c (suc there.0, omega (arith, there.1), there.2)))
  where
    Rest : Type 0
    Rest = nonzeros (map f bs) ≡ 0 → (flat_map k bs ≡ []) × ((c : ℕ) → Contains bs c → is_nonzero (f c) ≡ false)

    at : is_nonzero (f b) ≡ false → ((c : ℕ) → Contains bs c → is_nonzero (f c) ≡ false)
        → (c n : ℕ) → n < length (b ∷ bs) → get_or (b ∷ bs) n c ≡ c → is_nonzero (f c) ≡ false
    at is later c zero low is_b = ap (λ x. is_nonzero (f x)) (sym is_b) ∙ is
    at is later c (suc n) low is_c = later c (n, omega (arith, low), is_c)

    by : (t : Bool) → is_nonzero (f b) ≡ t → cond t (1 + nonzeros (map f bs)) (nonzeros (map f bs)) ≡ 0 → Rest
        → (flat_map k (b ∷ bs) ≡ []) × ((c : ℕ) → Contains (b ∷ bs) c → is_nonzero (f c) ≡ false)
    by true is none rest_of = absurd (omega (arith, none))
    by false is none rest_of =
        let rest = rest_of none in
        let first : k b ≡ [] = each b (0, omega arith, refl) is in
        ((λ i. first i ++ rest.0 i), λ c there. at is rest.1 c there.0 there.1 there.2)

-- and only those of the one branch where one has a hash
pub one_counted : (f : ℕ → Hash) (k : ℕ → List Entry) (bs : List ℕ)
    → ((c : ℕ) → Contains bs c → is_nonzero (f c) ≡ false → k c ≡ []) → nonzeros (map f bs) ≡ 1
    → (b : ℕ) → Contains bs b → is_nonzero (f b) ≡ true → length (flat_map k bs) ≡ length (k b)
one_counted f k [] each count b there some = absurd (in_nothing there)
one_counted f k (a ∷ bs) each count b there some =
    by (is_nonzero (f a)) refl count there.0 there.1 there.2 (λ one at. one_counted f k bs later one b at some)
  where
    later : (c : ℕ) → Contains bs c → is_nonzero (f c) ≡ false → k c ≡ []
    later c at = each c (suc at.0, omega (arith, at.1), at.2)

    by : (t : Bool) → is_nonzero (f a) ≡ t → cond t (1 + nonzeros (map f bs)) (nonzeros (map f bs)) ≡ 1
        → (n : ℕ) → n < length (a ∷ bs) → get_or (a ∷ bs) n b ≡ b
        → (nonzeros (map f bs) ≡ 1 → Contains bs b → length (flat_map k bs) ≡ length (k b))
        → length (flat_map k (a ∷ bs)) ≡ length (k b)
    by true is one zero low at deeper =
        let none = none_counted f k bs later (omega (arith, one)) in
        let all : flat_map k (a ∷ bs) ≡ k a ++ [] = ap (λ (l : List Entry). k a ++ l) none.0 in
        ap length all ∙ length-append (k a) [] ∙ omega arith ∙ ap (λ x. length (k x)) at
    by true is one (suc n) low at deeper =
        let none = none_counted f k bs later (omega (arith, one)) in
        absurd (false≢true (sym (none.1 b (n, omega (arith, low), at)) ∙ some))
    by false is one zero low at deeper = absurd (false≢true (sym is ∙ ap (λ x. is_nonzero (f x)) at ∙ some))
    by false is one (suc n) low at deeper =
        let first : k a ≡ [] = each a (0, omega arith, refl) is in
        ap (λ (l : List Entry). length (l ++ flat_map k bs)) first ∙ deeper one (n, omega (arith, low), at)

pub flat_none : (f : ℕ → List Finding) (n a : ℕ) → ((b : ℕ) → a ≤ b → b < a + n → f b ≡ []) → flat_map f (range_with_len a n) ≡ []
flat_none f zero a none_of = refl
flat_none f (suc n) a none_of =
    let rest : flat_map f (range_with_len (a + 1) n) ≡ [] =
    flat_none f n (a + 1) (λ b low high. none_of b (omega arith) (omega arith)) in
    ap (λ xs. xs ++ flat_map f (range_with_len (a + 1) n)) (none_of a (omega arith) (omega arith)) ∙ rest

pub not_zero : (n : ℕ) → 0 < n → (n == 0) ≡ false
not_zero n some = by (n == 0) refl
  where
    by : (t : Bool) → (n == 0) ≡ t → t ≡ false
    by true is = absurd (omega (arith, some, eqb-true n 0 is))
    by false is = refl

pub below_64 : (n : ℕ) → n < 64 → (n == 64) ≡ false
below_64 n low = by (n == 64) refl
  where
    by : (t : Bool) → (n == 64) ≡ t → t ≡ false
    by true is = absurd (omega (arith, eqb-true n 64 is))
    by false is = refl

-- a branch is one of sixteen
pub in_16 : (b : ℕ) → Contains branches b → b < 16
in_16 b c = at c.0 c.1 c.2
  where
    at : (k : ℕ) → k < 16 → get_or branches k b ≡ b → b < 16
    at k low is = omega (arith, low, is, get_or-range_with_len 0 16 k b low)

pub or_false : (a b : Bool) → (a || b) ≡ false → (a ≡ false) × (b ≡ false)
or_false false false e = (refl, refl)
or_false true b e = cc
or_false false true e = cc

pub nonzero_is : (h : Hash) → IsTrue (is_nonzero h) → is_zero h ≡ false
nonzero_is h e = by (is_zero h) refl
  where
    by : (t : Bool) → is_zero h ≡ t → t ≡ false
    by true is = let no : not true ≡ true = sym (ap not is) ∙ e in absurd (false≢true no)
    by false is = refl

-- all lies under the top
pub top_part : (items : Items) → part items [] ≡ items
top_part items = filter_all (λ (e : Entry). lies_under [] e.0) items (each_under items)
  where
    each_under : (l : Items) → AllByRecursion (λ (e : Entry). lies_under [] e.0 ≡ true) l
    each_under [] = tt
    each_under (e ∷ l) = (refl, each_under l)
