-- What is found, and which leaves are met, over sixteen branches; how many of these lead anywhere.
use Rattle.std.proofs.Common.{◌≡◌, ◌≢◌, ℕ, zero, suc, ◌+◌, ◌<◌, ◌≤◌, ◌==◌, ◌||◌, Bool, true, false, cond}
use Rattle.std.proofs.Common.{not, if◌then◌else◌, List, [], ◌∷◌, ◌++◌, length, Option, None, Some, refl, sym, ap, ◌∙◌, subst, arith}
use Rattle.std.proofs.Common.{slice_index_or, count_by}
use Rattle.std.specs.List.{flat_map, filter_map, list_any, cons_option}
use Rattle.std.proofs.lemmas.List.Elements.{filter_map-append}
use Rattle.std.proofs.lemmas.List.Recursion.{is_count_by}
use Rattle.std.proofs.lemmas.Bool.{eqb-true, eqb-false, eq-eqb}
use Rattle.nib_path.specs.Paths.{lies_under}
use Rattle.ledger_spec.specs.declared.Kind.{Kind}
use Rattle.ledger_spec.specs.declared.Kind.TheVariants.{State, Tx, Set}
use Rattle.ledger_spec.specs.declared.ShapeFault.TheVariants.{WrongKind, LeafElsewhere, LeafAtRoot, LoneLeaf, InnerAtBottom}
use Rattle.ledger_spec.specs.Bytes.{Bytes, Hash, Half, zero_hash, is_zero, is_nonzero}
use Rattle.ledger_spec.specs.Forms as held
use Rattle.ledger_spec.specs.Forms.{Held, IsItem, IsHeld}
use Rattle.ledger_spec.specs.Rules.{fault_of, same_kind, is_lone}
use Rattle.ledger_spec.specs.Findings.{Sight, missing, broken, sound, Met, Finding, finding_at, item_at}
use Rattle.ledger_spec.specs.Tree.{Entry}

-- what is found in a part of the walk
abbrev pub found_in : List Met → List Finding
found_in ms = filter_map (λ m. finding_at m.place m.sight) ms

-- the leaves that it meets
abbrev pub leaves_in : List Met → List Entry
leaves_in ms = filter_map (λ m. item_at m.sight) ms

-- without the parent no rule is broken that isn't with it
pub without_parent : (n : Held) (parent : Option (List Hash)) (kind : Kind) (path : List ℕ) → fault_of n parent kind path ≡ None
    → fault_of n None kind path ≡ None
without_parent (held.header bytes) parent kind path e = e
without_parent (held.inner hashes) parent kind path e = e
without_parent (held.leaf own key bytes) parent kind path e =
    by (same_kind own kind) (length path == 0) (lies_under path key) (is_lone parent path) e
  where
    by : (a b c d : Bool)
        → (if not a then Some WrongKind else if b then Some LeafAtRoot else if not c then Some (LeafElsewhere key) else if d then Some
        LoneLeaf else None) ≡ None
        → (if not a then Some WrongKind else if b then Some LeafAtRoot else if not c then Some (LeafElsewhere key) else None) ≡ None
    by false b c d e = cc
    by true true c d e = cc
    by true false false d e = cc
    by true false true true e = cc
    by true false true false e = refl

-- a leaf below an inner node isn't its only branch
pub not_lone : (own kind : Kind) (key : Hash) (bytes : Bytes) (parent : Option (List Hash)) (path : List ℕ)
    → fault_of (held.leaf own key bytes) parent kind path ≡ None → (is_lone parent path ≡ false) × (lies_under path key ≡ true)
not_lone own kind key bytes parent path e = by (same_kind own kind) (length path == 0) (lies_under path key) (is_lone parent path) e
  where
    by : (a b c d : Bool)
        → (if not a then Some WrongKind else if b then Some LeafAtRoot else if not c then Some (LeafElsewhere key) else if d then Some
        LoneLeaf else None) ≡ None → (d ≡ false) × (c ≡ true)
    by false b c d e = cc
    by true true c d e = cc
    by true false false d e = cc
    by true false true true e = cc
    by true false true false e = (refl, refl)

-- a sight with no finding is sound
pub no_finding : (place : Rattle.ledger_spec.specs.declared.Place.Place) (s : Sight) (rest : List Finding)
    → cons_option (finding_at place s) rest ≡ [] → ((n : Held) × (s ≡ sound n)) × (rest ≡ [])
no_finding place missing rest e = cc
no_finding place (broken fault) rest e = cc
no_finding place (sound n) rest e = ((n, refl), e)

-- the parts of a list of findings
none_front : {X : Type 0} (xs ys : List X) → xs ++ ys ≡ [] → (xs ≡ []) × (ys ≡ [])
none_front [] ys e = (refl, e)
none_front (x ∷ xs) ys e = cc

pub flat_findings : (f : ℕ → List Met) (cs : List ℕ) → found_in (flat_map f cs) ≡ []
    → Rattle.std.specs.List.AllByRecursion (λ c. found_in (f c) ≡ []) cs
flat_findings f [] e = tt
flat_findings f (c ∷ cs) e =
    let both = none_front (found_in (f c)) (found_in (flat_map f cs))
    (sym (filter_map-append (λ m. finding_at m.place m.sight) (f c) (flat_map f cs)) ∙ e) in
    (both.0, flat_findings f cs both.1)

pub flat_leaves : (f : ℕ → List Met) (cs : List ℕ) → leaves_in (flat_map f cs) ≡ flat_map (λ c. leaves_in (f c)) cs
flat_leaves f [] = refl
flat_leaves f (c ∷ cs) = filter_map-append (λ m. item_at m.sight) (f c) (flat_map f cs)
    ∙ ap (λ es. leaves_in (f c) ++ es) (flat_leaves f cs)

pub all_at : (P : ℕ → Type 0) (n a c : ℕ) → Rattle.std.specs.List.AllByRecursion P (Rattle.std.specs.List.range_with_len a n) → a ≤ c
    → c < a + n → P c
all_at P zero a c all low high = absurd (omega arith)
all_at P (suc n) a c all low high = by (a == c) refl (λ later. all_at P n (a + 1) c all.1 later (omega arith))
  where
    by : (t : Bool) → (a == c) ≡ t → (a + 1 ≤ c → P c) → P c
    by true is rest = subst P (eqb-true a c is) all.0
    by false is rest = let other = eqb-false a c is in rest (omega (arith, other))

-- how many of some hashes aren't zero
unfoldable pub counts : List Hash → ℕ
counts [] = 0
counts (h ∷ hs) = cond (is_nonzero h) (1 + counts hs) (counts hs)

pub counts_by : (hs : List Hash) → counts hs ≡ count_by is_nonzero hs
unfolding counts
counts_by = is_count_by counts is_nonzero refl (λ h hs. refl)

pub data Sorted (hs : List Hash) : Type 0 where
  nowhere : counts hs ≡ 0 → list_any is_nonzero hs ≡ false → Sorted hs
  alone : (c : ℕ) → c < length hs → is_zero (slice_index_or hs c zero_hash) ≡ false → counts hs ≡ 1 → Sorted hs
  several : (c d : ℕ) → c < length hs → d < length hs → d ≢ c → is_zero (slice_index_or hs c zero_hash) ≡ false
      → is_zero (slice_index_or hs d zero_hash) ≡ false → Sorted hs

sorts_more : (h : Hash) (hs : List Hash) (t : Bool) → is_zero h ≡ t → Sorted hs → Sorted (h ∷ hs)
unfolding counts
sorts_more h hs true is (nowhere count any) =
    nowhere (ap (λ t. cond (not t) (1 + counts hs) (counts hs)) is ∙ count) (ap (λ t. not t || list_any is_nonzero hs) is ∙ any)
sorts_more h hs true is (alone c low some count) =
    alone (suc c) (omega arith) some (ap (λ t. cond (not t) (1 + counts hs) (counts hs)) is ∙ count)
sorts_more h hs true is (several c d low high apart first second) =
    several (suc c) (suc d) (omega arith) (omega arith) (λ e. apart (suc_same e)) first second
  where
    suc_same : suc d ≡ suc c → d ≡ c
    suc_same e = omega arith
sorts_more h hs false is (nowhere count any) =
    alone 0 (omega arith) is (ap (λ t. cond (not t) (1 + counts hs) (counts hs)) is ∙ ap (λ n. 1 + n) count)
sorts_more h hs false is (alone c low some count) = several 0 (suc c) (omega arith) (omega arith) (λ e. absurd (no_zero e)) is some
  where
    no_zero : suc c ≡ 0 → ⊥
    no_zero e = omega arith
sorts_more h hs false is (several c d low high apart first second) =
    several (suc c) (suc d) (omega arith) (omega arith) (λ e. apart (suc_same e)) first second
  where
    suc_same : suc d ≡ suc c → d ≡ c
    suc_same e = omega arith

pub sorts : (hs : List Hash) → Sorted hs
unfolding counts
sorts [] = nowhere refl refl
sorts (h ∷ hs) = sorts_more h hs (is_zero h) refl (sorts hs)

pub item_held : (half : Half) (own : Kind) (key : Hash) (bytes : Bytes) → IsHeld half (held.leaf own key bytes) → IsItem key bytes
item_held half State key bytes is = is
item_held half Tx key bytes is = is
item_held half Set key bytes is = is.0

pub at_bottom : (n : ℕ) → n ≡ 64 → (if n == 64 then Some InnerAtBottom else None) ≡ None → ⊥
at_bottom n e h = let is : (n == 64) ≡ true = eq-eqb n 64 e in bottom (n == 64) is h
  where
    bottom : (t : Bool) → t ≡ true → (if t then Some InnerAtBottom else None) ≡ None → ⊥
    bottom true is h = cc
    bottom false is h = cc
