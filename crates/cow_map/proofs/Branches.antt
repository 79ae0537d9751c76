-- Sixteen branches, of which one changes what it holds.
use Rattle.std.proofs.Common.{◌≡◌, ◌≢◌, ℕ, zero, suc, ◌+◌, ◌-◌, ◌<◌, ◌==◌, true, false, if◌then◌else◌, List, [], ◌∷◌, ◌++◌, refl}
use Rattle.std.proofs.Common.{sym, ap, ◌∙◌, arith, append_assoc, IsTrue, nat_eq, cond, ◌&&◌}
use Rattle.std.specs.List.{flat_map, range_with_len, AllByRecursion, starts_with}
use Rattle.std.specs.declared.cmp.Ordering.TheVariants.{Less, Greater}
use Rattle.std.proofs.lemmas.Grind.{flat_map-append}
use Rattle.std.proofs.lemmas.Bool.Decides.{nat_tests}
use Rattle.std.proofs.lemmas.Bool.{and_parts}
use Rattle.nib_path.specs.Paths.{nibbles, lies_under}
use Rattle.ledger_spec.specs.Bytes.{Bytes, Hash, branches}
use Rattle.ledger_spec.specs.Maps.{hash_cmp, insert_in, get_in, remove_in}
use Rattle.ledger_spec.specs.Tree.{Entry}
pub use Rattle.tree_laws.proofs.shared.Orders.{all_append}
pub use Rattle.tree_laws.proofs.shared.Joins.{all_flat, all_range, flat_same}
use Rattle.cow_map.proofs.Orders.{branch_less}
use Rattle.cow_map.proofs.shared.Orders.{branch_greater}
use Rattle.cow_map.proofs.shared.Entries.{AllCompare}
use Rattle.cow_map.proofs.Entries.{insert_between, get_between, remove_between}

range_split : (n m a k c : ℕ) → k ≡ n + suc m → c ≡ a + n → range_with_len a k ≡ range_with_len a n ++ c ∷ range_with_len (c + 1) m
range_split zero m a k c e f =
    let size : k ≡ suc m = omega arith in
    let start : c ≡ a = omega arith in
    ap (range_with_len a) size ∙ ap (λ x. x ∷ range_with_len (x + 1) m) (sym start)
range_split (suc n) m a k c e f =
    let size : k ≡ suc (n + suc m) = omega arith in
    ap (range_with_len a) size ∙ ap (λ cs. a ∷ cs) (range_split n m (a + 1) (n + suc m) c refl (omega arith))

-- the branches before, at and behind one
split_at : (b : ℕ) → b < 16 → branches ≡ range_with_len 0 b ++ b ∷ range_with_len (b + 1) (15 - b)
split_at b h = range_split b (15 - b) 0 16 b (omega arith) (omega arith)

pub flat_split : {X : Type 0} (kids : ℕ → List X) (b : ℕ) → b < 16
    → flat_map kids branches ≡ flat_map kids (range_with_len 0 b) ++ kids b ++ flat_map kids (range_with_len (b + 1) (15 - b))
flat_split kids b h =
    ap (flat_map kids) (split_at b h) ∙ flat_map-append kids (range_with_len 0 b) (b ∷ range_with_len (b + 1) (15 - b))
    ∙ sym (append_assoc (flat_map kids (range_with_len 0 b)) (kids b) (flat_map kids (range_with_len (b + 1) (15 - b))))

-- with other entries at one branch
abbrev pub with_kid : ℕ → List Entry → (ℕ → List Entry) → ℕ → List Entry
with_kid b x kids c = if c == b then x else kids c

pub kid_same : (b : ℕ) (x : List Entry) (kids : ℕ → List Entry) → with_kid b x kids b ≡ x
kid_same b x kids = let same : (b == b) ≡ true = grind (arith, nat_tests) in ap (λ t. cond t x (kids b)) same

pub kid_other : (b c : ℕ) (x : List Entry) (kids : ℕ → List Entry) → c ≢ b → with_kid b x kids c ≡ kids c
kid_other b c x kids other = let apart : (c == b) ≡ false = grind (arith, nat_tests) in ap (λ t. cond t x (kids c)) apart

pub flat_with : (kids : ℕ → List Entry) (b : ℕ) (x : List Entry) → b < 16
    → flat_map (with_kid b x kids) branches ≡ flat_map kids (range_with_len 0 b) ++ x ++ flat_map kids (range_with_len (b + 1) (15 - b))
flat_with kids b x h =
    let front = flat_same (with_kid b x kids) kids (range_with_len 0 b)
    (all_range _ b 0 (λ c low high. kid_other b c x kids (omega arith))) in
    let back = flat_same (with_kid b x kids) kids (range_with_len (b + 1) (15 - b))
    (all_range _ (15 - b) (b + 1) (λ c low high. kid_other b c x kids (omega arith))) in
    flat_split (with_kid b x kids) b h ∙ (λ i. front i ++ kid_same b x kids i ++ back i)

flat_none : (cs : List ℕ) → flat_map {A = Entry} (λ c. []) cs ≡ []
flat_none [] = refl
flat_none (c ∷ cs) = flat_none cs

append_none : {X : Type 0} (xs : List X) → xs ++ [] ≡ xs
append_none [] = refl
append_none (x ∷ xs) = ap (λ ys. x ∷ ys) (append_none xs)

-- one branch alone
pub flat_one : (b : ℕ) (x : List Entry) → b < 16 → flat_map (with_kid b x (λ c. [])) branches ≡ x
flat_one b x h =
    flat_with (λ c. []) b x h ∙ (λ i. flat_none (range_with_len 0 b) i ++ x ++ flat_none (range_with_len (b + 1) (15 - b)) i)
    ∙ append_none x

-- entries whose keys lie below a place
abbrev pub AllUnder : List ℕ → List Entry → Type 0
AllUnder path items = AllByRecursion (λ (e : Entry). IsTrue (lies_under path e.0)) items

pub all_map : {X : Type 0} (P Q : X → Type 0) (xs : List X) → ((x : X) → P x → Q x) → AllByRecursion P xs → AllByRecursion Q xs
all_map P Q [] f h = tt
all_map P Q (x ∷ xs) f h = (f x h.0, all_map P Q xs f h.1)

module _ (path : List ℕ) (key : Hash) (b : ℕ) (kids : ℕ → List Entry) (h : b < 16) (at : IsTrue (lies_under (path ++ b ∷ []) key))
    (under : (c : ℕ) → c < 16 → AllUnder (path ++ c ∷ []) (kids c)) where
  front_compares : AllCompare Greater key (flat_map kids (range_with_len 0 b))
  front_compares = all_flat (λ (e : Entry). hash_cmp key e.0 ≡ Greater) kids (range_with_len 0 b) (all_range _ b 0 (λ c low high.
      all_map (λ (e : Entry). IsTrue (lies_under (path ++ c ∷ []) e.0)) (λ (e : Entry). hash_cmp key e.0 ≡ Greater) (kids c)
      (λ e in_c. branch_greater path b c key e.0 at in_c (omega arith)) (under c (omega arith))))

  back_compares : AllCompare Less key (flat_map kids (range_with_len (b + 1) (15 - b)))
  back_compares = all_flat (λ (e : Entry). hash_cmp key e.0 ≡ Less) kids (range_with_len (b + 1) (15 - b))
      (all_range _ (15 - b) (b + 1) (λ c low high.
      all_map (λ (e : Entry). IsTrue (lies_under (path ++ c ∷ []) e.0)) (λ (e : Entry). hash_cmp key e.0 ≡ Less) (kids c)
      (λ e in_c. branch_less path b c key e.0 at in_c (omega arith)) (under c (omega arith))))

  pub insert_kids : (value : Bytes)
      → insert_in hash_cmp (flat_map kids branches) key value ≡ flat_map (with_kid b (insert_in hash_cmp (kids b) key value) kids) branches
  insert_kids value =
      ap (λ es. insert_in hash_cmp es key value) (flat_split kids b h) ∙ insert_between key value _ (kids b) _ front_compares back_compares
      ∙ sym (flat_with kids b (insert_in hash_cmp (kids b) key value) h)

  pub get_kids : get_in hash_cmp (flat_map kids branches) key ≡ get_in hash_cmp (kids b) key
  get_kids = ap (λ es. get_in hash_cmp es key) (flat_split kids b h) ∙ get_between key _ (kids b) _ front_compares back_compares

  pub remove_kids : remove_in hash_cmp (flat_map kids branches) key ≡ flat_map (with_kid b (remove_in hash_cmp (kids b) key) kids) branches
  remove_kids =
      ap (λ es. remove_in hash_cmp es key) (flat_split kids b h) ∙ remove_between key _ (kids b) _ front_compares back_compares
      ∙ sym (flat_with kids b (remove_in hash_cmp (kids b) key) h)

pub under_front : (ns path : List ℕ) (b : ℕ) → starts_with nat_eq ns (path ++ b ∷ []) ≡ true → starts_with nat_eq ns path ≡ true
under_front ns [] b h = refl
under_front [] (p ∷ path) b h = cc
under_front (n ∷ ns) (p ∷ path) b h =
    let both = and_parts (nat_eq p n) (starts_with nat_eq ns (path ++ b ∷ [])) h in
    ap (λ t. t && starts_with nat_eq ns path) both.0 ∙ under_front ns path b both.1

-- what lies below a branch lies below the place
pub under_place : (path : List ℕ) (b : ℕ) (items : List Entry) → AllUnder (path ++ b ∷ []) items → AllUnder path items
under_place path b items h =
    all_map (λ (e : Entry). IsTrue (lies_under (path ++ b ∷ []) e.0)) (λ (e : Entry). IsTrue (lies_under path e.0)) items
    (λ e at. under_front (nibbles e.0) path b at) h
