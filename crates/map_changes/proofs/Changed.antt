-- Which nodes of a map another one doesn't hold at their places, told of their branches one by one.
use Rattle.std.specs.Prelude.{◌≡◌, ◌≢◌, ℕ, zero, suc, ◌+◌, ◌<◌, ◌≤◌, ◌⊎◌, not, ◌&&◌, ◌||◌, Bool, true, false, if◌then◌else◌}
use Rattle.std.specs.Prelude.{List, [], ◌∷◌, ◌++◌, refl}
use Rattle.std.proofs.Common.{sym, ap, ◌∙◌, inl, inr, arith, append_assoc, append-nil}
use Rattle.std.specs.List.{AllByRecursion, filter, flat_map, list_any, range_with_len}
use Rattle.std.proofs.lemmas.Bool.{and_parts, cases_order}
use Rattle.std.proofs.lemmas.List.Folds.{list_any-append}
use Rattle.std.proofs.lemmas.List.Elements.{filter-append}
use Rattle.std.proofs.lemmas.Slice.Eq.{bytes_eq-Decides}
use Rattle.std.specs.Cmp.Lexicographic.{same_text}
use Rattle.ledger_spec.specs.Bytes.{branches, same_bytes}
use Rattle.ledger_spec.specs.Forms.{form_of}
use Rattle.map_changes.specs.Placed.{Placed, is_same, changed}
use Rattle.map_changes.specs.Walks.{Under, AllUnder}

-- nodes at other places aren't the same
apart_step : (x y : Placed) (b : Bool) → is_same x y ≡ b → x.path ≢ y.path → is_same x y ≡ false
apart_step x y false e ne = e
apart_step x y true e ne = absurd (ne (same_text x.path y.path (sym (and_parts (same_bytes x.path y.path)
    (same_bytes (form_of x.node) (form_of y.node)) e).0)))

apart : (x y : Placed) → x.path ≢ y.path → is_same x y ≡ false
apart x y ne = apart_step x y (is_same x y) refl ne

-- what stands behind a path
cancel : (path a b : List ℕ) → path ++ a ≡ path ++ b → a ≡ b
cancel [] a b e = e
cancel (n ∷ path) a b e = let e2 : path ++ a ≡ path ++ b = cc in cancel path a b e2

-- nodes under different branches stand apart
branches_apart : (path : List ℕ) (b c : ℕ) (x y : Placed) → Under (path ++ b ∷ []) x → Under (path ++ c ∷ []) y → b ≢ c → x.path ≢ y.path
branches_apart path b c x y u v ne e =
    let e2 : path ++ (b ∷ u.rest) ≡ path ++ (c ∷ v.rest) = sym (append_assoc path (b ∷ []) u.rest) ∙ sym u.at ∙ e ∙ v.at
    ∙ append_assoc path (c ∷ []) v.rest in
    let e3 : b ∷ u.rest ≡ c ∷ v.rest = cancel path (b ∷ u.rest) (c ∷ v.rest) e2 in
    let e4 : b ≡ c = cc in
    ne e4

-- a node under a branch stands apart from the one above
root_apart : (path : List ℕ) (b : ℕ) (x root : Placed) → Under (path ++ b ∷ []) x → root.path ≡ path → x.path ≢ root.path
root_apart path b x root u at e =
    let e2 : path ++ (b ∷ u.rest) ≡ path ++ [] = sym (append_assoc path (b ∷ []) u.rest) ∙ sym u.at ∙ e ∙ at ∙ sym (append-nil path) in
    let e3 : b ∷ u.rest ≡ [] = cancel path (b ∷ u.rest) [] e2 in
    cc

none_under : (path : List ℕ) (b c : ℕ) (x : Placed) (ys : List Placed) → Under (path ++ b ∷ []) x → AllUnder (path ++ c ∷ []) ys → b ≢ c
    → list_any (is_same x) ys ≡ false
none_under path b c x [] u all ne = refl
none_under path b c x (y ∷ ys) u all ne =
    ap (λ z. z || list_any (is_same x) ys) (apart x y (branches_apart path b c x y u all.0 ne)) ∙ none_under path b c x ys u all.1 ne

-- the nodes of each branch stand under it
abbrev pub AreKids : List ℕ → (ℕ → List Placed) → Type 0
AreKids path kids = (b : ℕ) → AllUnder (path ++ b ∷ []) (kids b)

none_after : (path : List ℕ) (kids : ℕ → List Placed) (b a n : ℕ) (x : Placed) → AreKids path kids → Under (path ++ b ∷ []) x → b < a
    → list_any (is_same x) (flat_map kids (range_with_len a n)) ≡ false
none_after path kids b a zero x are u lt = refl
none_after path kids b a (suc n) x are u lt =
    let ne : b ≢ a = λ e. absurd (omega arith) in
    list_any-append (is_same x) (kids a) (flat_map kids (range_with_len (a + 1) n))
    ∙ ap (λ z. z || list_any (is_same x) (flat_map kids (range_with_len (a + 1) n))) (none_under path b a x (kids a) u (are a) ne)
    ∙ none_after path kids b (a + 1) n x are u (omega arith)

or_false : (z : Bool) → (z || false) ≡ z
or_false true = refl
or_false false = refl

at_or_above : (a b : ℕ) → a ≤ b → (b ≡ a) ⊎ (a < b)
at_or_above a b le = elim (cases_order a b) [ inl e ↦ inl (sym e) | inr o ↦ elim o [ inl l ↦ inr l | inr g ↦ absurd (omega arith) ] ]

found_step : (path : List ℕ) (kids : ℕ → List Placed) (b a n : ℕ) (x : Placed) → AreKids path kids → Under (path ++ b ∷ []) x
    → (b ≡ a) ⊎ (a < b)
    → (a < b → list_any (is_same x) (flat_map kids (range_with_len (a + 1) n)) ≡ list_any (is_same x) (kids b))
    → list_any (is_same x) (flat_map kids (range_with_len a (suc n))) ≡ list_any (is_same x) (kids b)
found_step path kids b a n x are u (inl e) more =
    list_any-append (is_same x) (kids a) (flat_map kids (range_with_len (a + 1) n))
    ∙ ap (λ z. list_any (is_same x) (kids a) || z) (none_after path kids b (a + 1) n x are u (omega arith))
    ∙ or_false (list_any (is_same x) (kids a)) ∙ ap (λ c. list_any (is_same x) (kids c)) (sym e)
found_step path kids b a n x are u (inr lt) more =
    let ne : b ≢ a = λ e. absurd (omega arith) in
    list_any-append (is_same x) (kids a) (flat_map kids (range_with_len (a + 1) n))
    ∙ ap (λ z. z || list_any (is_same x) (flat_map kids (range_with_len (a + 1) n))) (none_under path b a x (kids a) u (are a) ne)
    ∙ more lt

-- a node under a branch is looked for there alone
found_in : (path : List ℕ) (kids : ℕ → List Placed) (b a n : ℕ) (x : Placed) → AreKids path kids → Under (path ++ b ∷ []) x → a ≤ b
    → b < a + n
    → list_any (is_same x) (flat_map kids (range_with_len a n)) ≡ list_any (is_same x) (kids b)
found_in path kids b a zero x are u le lt = absurd (omega arith)
found_in path kids b a (suc n) x are u le lt =
    found_step path kids b a n x are u (at_or_above a b le) (λ l. found_in path kids b (a + 1) n x are u (omega arith) (omega arith))

-- filters that agree
filter_step : {X : Type 0} (x : X) (b c : Bool) (xs ys : List X) → b ≡ c → xs ≡ ys
    → (if b then x ∷ xs else xs) ≡ (if c then x ∷ ys else ys)
filter_step x b c xs ys e h = λ i. if e i then x ∷ h i else h i

filters_agree : {X : Type 0} (p q : X → Bool) (xs : List X) → AllByRecursion (λ x. p x ≡ q x) xs → filter p xs ≡ filter q xs
filters_agree p q [] all = refl
filters_agree p q (x ∷ xs) all = filter_step x (p x) (q x) (filter p xs) (filter q xs) all.0 (filters_agree p q xs all.1)

agree_under : (path : List ℕ) (kids : ℕ → List Placed) (root : Placed) (b : ℕ) (xs : List Placed) → AreKids path kids → root.path ≡ path
    → b < 16 → AllUnder (path ++ b ∷ []) xs
    → AllByRecursion (λ x. not (list_any (is_same x) (root ∷ flat_map kids branches)) ≡ not (list_any (is_same x) (kids b))) xs
agree_under path kids root b [] are at lt all = tt
agree_under path kids root b (x ∷ xs) are at lt all = (
  ap not (ap (λ z. z || list_any (is_same x) (flat_map kids branches)) (apart x root (root_apart path b x root all.0 at))
      ∙ found_in path kids b 0 16 x are all.0 (omega arith) (omega arith)),
  agree_under path kids root b xs are at lt all.1,
)

-- the changes below an inner node that stood there before are those of its branches
changed_from : (path : List ℕ) (root : Placed) (before kids : ℕ → List Placed) (a n : ℕ) → AreKids path before → AreKids path kids
    → root.path ≡ path → a + n ≤ 16
    → changed (root ∷ flat_map before branches) (flat_map kids (range_with_len a n))
    ≡ flat_map (λ b. changed (before b) (kids b)) (range_with_len a n)
changed_from path root before kids a zero are own at le = refl
changed_from path root before kids a (suc n) are own at le =
    let p : Placed → Bool = λ x. not (list_any (is_same x) (root ∷ flat_map before branches)) in
    filter-append p (kids a) (flat_map kids (range_with_len (a + 1) n))
    ∙ (λ i. filters_agree p (λ x. not (list_any (is_same x) (before a))) (kids a)
    (agree_under path before root a (kids a) are at (omega arith) (own a)) i
    ++ changed_from path root before kids (a + 1) n are own at (omega arith) i)

apart_above : (path : List ℕ) (c : ℕ) (x : Placed) (ys : List Placed) → x.path ≡ path → AllUnder (path ++ c ∷ []) ys
    → list_any (is_same x) ys ≡ false
apart_above path c x [] at all = refl
apart_above path c x (y ∷ ys) at all =
    ap (λ z. z || list_any (is_same x) ys) (apart x y (λ e. root_apart path c y x all.0 at (sym e))) ∙ apart_above path c x ys at all.1

-- the node above the branches isn't among theirs
not_below : (path : List ℕ) (kids : ℕ → List Placed) (x : Placed) (a n : ℕ) → AreKids path kids → x.path ≡ path
    → list_any (is_same x) (flat_map kids (range_with_len a n)) ≡ false
not_below path kids x a zero are at = refl
not_below path kids x a (suc n) are at =
    list_any-append (is_same x) (kids a) (flat_map kids (range_with_len (a + 1) n))
    ∙ ap (λ z. z || list_any (is_same x) (flat_map kids (range_with_len (a + 1) n))) (apart_above path a x (kids a) at (are a))
    ∙ not_below path kids x (a + 1) n are at

itself_step : (now : Placed) (s : Bool) (rest : List Placed) → (if not s then now ∷ rest else rest) ≡ (if s then [] else now ∷ []) ++ rest
itself_step now true rest = refl
itself_step now false rest = refl

-- An inner node where a node stood before: it has changed itself where its form is another one, and below it the changes are those of the
-- branches. Where a leaf stood before, its branches had no nodes.
pub changed_inner : (path : List ℕ) (root now : Placed) (before kids : ℕ → List Placed) → AreKids path before → AreKids path kids
    → root.path ≡ path → now.path ≡ path
    → changed (root ∷ flat_map before branches) (now ∷ flat_map kids branches)
    ≡ (if same_bytes (form_of now.node) (form_of root.node) then [] else now ∷ []) ++ flat_map (λ b. changed (before b) (kids b)) branches
changed_inner path root now before kids are own at here =
    let s : Bool = same_bytes (form_of now.node) (form_of root.node) in
    let paths : same_bytes now.path root.path ≡ true = (bytes_eq-Decides now.path root.path).1 (here ∙ sym at) in
    let found : list_any (is_same now) (root ∷ flat_map before branches) ≡ s =
    ap (λ z. is_same now root || z) (not_below path before now 0 16 are here) ∙ or_false (is_same now root) ∙ ap (λ z. z && s) paths in
    let rest : List Placed = changed (root ∷ flat_map before branches) (flat_map kids branches) in
    ap (λ z. if not z then now ∷ rest else rest) found ∙ itself_step now s rest
    ∙ ap (λ (x : List Placed). (if s then [] else now ∷ []) ++ x) (changed_from path root before kids 0 16 are own at (omega arith))

same_self : (x : Placed) → is_same x x ≡ true
same_self x = (λ i. (bytes_eq-Decides x.path x.path).1 refl i && (bytes_eq-Decides (form_of x.node) (form_of x.node)).1 refl i)

or_true : (z : Bool) → (z || true) ≡ true
or_true true = refl
or_true false = refl

found_self : (pre : List Placed) (x : Placed) (rest : List Placed) → list_any (is_same x) (pre ++ x ∷ rest) ≡ true
found_self pre x rest =
    list_any-append (is_same x) pre (x ∷ rest) ∙ ap (λ z. list_any (is_same x) pre || (z || list_any (is_same x) rest)) (same_self x)
    ∙ or_true (list_any (is_same x) pre)

none_changed : (pre xs : List Placed) → changed (pre ++ xs) xs ≡ []
none_changed pre [] = refl
none_changed pre (x ∷ xs) =
    ap (λ z. if not z then x ∷ changed (pre ++ x ∷ xs) xs else changed (pre ++ x ∷ xs) xs) (found_self pre x xs)
    ∙ ap (λ (all : List Placed). changed all xs) (sym (append_assoc pre (x ∷ []) xs)) ∙ none_changed (pre ++ x ∷ []) xs

-- the same nodes have no changes: a walk needn't go below a node that both maps share
pub changed_same : (nodes : List Placed) → changed nodes nodes ≡ []
changed_same nodes = none_changed [] nodes
