-- The next key comes: the way turns at the first nibble in which it differs from the last one.
use Rattle.std.proofs.Common.{◌≡◌, ◌≢◌, ◌⊎◌, inl, inr, ℕ, ◌+◌, ◌-◌, ◌<◌, ◌≤◌, ◌==◌, Bool, true, false, List, [], ◌∷◌, ◌++◌, length, take}
use Rattle.std.proofs.Common.{refl, sym, ap, ◌∙◌, subst, arith}
use Rattle.std.proofs.lemmas.Bool.{eqb-true, eqb-false, cases_order}
use Rattle.std.proofs.lemmas.List.{take-take, take_all, get_or-take}
use Rattle.std.specs.Prelude.{slice_index}
use Rattle.std.specs.Cmp.Lexicographic.{nat_list_cmp_total}
use Rattle.std.specs.Ordering.{ordering_reverse}
use Rattle.std.specs.declared.cmp.Ordering.TheVariants.{Less, Greater}
use Rattle.nib_path.specs.Paths.{nibbles, nibble_of, lies_under, length-nibbles, packed, packed-nibbles}
use Rattle.ledger_spec.specs.declared.Kind.{Kind}
use Rattle.ledger_spec.specs.Bytes.{Bytes, Hash, Half, Items}
use Rattle.ledger_spec.specs.Maps.{hash_cmp}
use Rattle.ledger_spec.specs.Tree.{Entry, part}
use Rattle.tree_laws.proofs.shared.Orders.{branch_less, all_append, all_weaker}
use Rattle.tree_laws.proofs.shared.Parts.{filter_none}
use Rattle.root_pass.specs.Rows.{way, hash_at, IsBehind, IsTold, IsOpen, IsFull, IsShared, IsFork}
use Rattle.root_pass.proofs.Ways.{way_more, on_way, part_on}

-- no key comes before itself
irreflexive : (k : Hash) → hash_cmp k k ≡ Less → ⊥
irreflexive k less = let e : Less ≡ Greater = sym less ∙ nat_list_cmp_total.antisymm k k ∙ ap ordering_reverse less in cc

asymmetric : (k l : Hash) → hash_cmp k l ≡ Less → hash_cmp l k ≡ Less → ⊥
asymmetric k l less more = irreflexive k (nat_list_cmp_total.trans k l k less more)

module _ (key next : Hash) (c : ℕ) (size : length key ≡ 32) (width : length next ≡ 32) (low : c < 64) (fork : IsFork key next c) where
  -- both lie under the place where they part
  key_under : lies_under (way next c ++ nibble_of key c ∷ []) key ≡ true
  key_under =
      ap (λ p. lies_under (p ++ nibble_of key c ∷ []) key) (sym fork.same) ∙ ap (λ p. lies_under p key) (sym (way_more key c size low))
      ∙ on_way key (c + 1) size (omega arith)

  next_under : lies_under (way next c ++ nibble_of next c ∷ []) next ≡ true
  next_under = ap (λ p. lies_under p next) (sym (way_more next c width low)) ∙ on_way next (c + 1) width (omega arith)

  -- the greater key takes the later branch
  rises : hash_cmp key next ≡ Less → nibble_of key c < nibble_of next c
  rises less = by (cases_order (nibble_of key c) (nibble_of next c))
    where
      by : (nibble_of key c ≡ nibble_of next c) ⊎ ((nibble_of key c < nibble_of next c) ⊎ (nibble_of next c < nibble_of key c))
          → nibble_of key c < nibble_of next c
      by (inl same) = absurd (fork.other low same)
      by (inr (inl lt)) = lt
      by (inr (inr gt)) =
          absurd (asymmetric key next less (branch_less (way next c) (nibble_of next c) (nibble_of key c) next key gt next_under key_under))

  -- a key that comes before the last one doesn't lie under the new branch
  beside : (k : Hash) → hash_cmp key next ≡ Less → hash_cmp k key ≡ Less → lies_under (way next (c + 1)) k ≡ false
  beside k less before = by (lies_under (way next (c + 1)) k) refl
    where
      by : (t : Bool) → lies_under (way next (c + 1)) k ≡ t → lies_under (way next (c + 1)) k ≡ false
      by false is = is
      by true is =
          let under : lies_under (way next c ++ nibble_of next c ∷ []) k ≡ true = ap (λ p. lies_under p k)
          (sym (way_more next c width low)) ∙ is in
          absurd (asymmetric k key before
          (branch_less (way next c) (nibble_of key c) (nibble_of next c) key k (rises less) key_under under))

  -- and the last one neither
  key_beside : hash_cmp key next ≡ Less → lies_under (way next (c + 1)) key ≡ false
  key_beside less = by (lies_under (way next (c + 1)) key) refl
    where
      by : (t : Bool) → lies_under (way next (c + 1)) key ≡ t → lies_under (way next (c + 1)) key ≡ false
      by false is = is
      by true is =
          let under : lies_under (way next c ++ nibble_of next c ∷ []) key ≡ true = ap (λ p. lies_under p key)
          (sym (way_more next c width low)) ∙ is in
          absurd (irreflexive key
          (branch_less (way next c) (nibble_of key c) (nibble_of next c) key key (rises less) key_under under))

  -- above the turn the ways are one
  same_way : (j : ℕ) → j ≤ c → way key j ≡ way next j
  same_way j within =
      sym (take-take j c (nibbles key) within) ∙ ap (take j) fork.same ∙ take-take j c (nibbles next) within

  same_nibble : (j : ℕ) → j < c → nibble_of key j ≡ nibble_of next j
  same_nibble j within =
      sym (get_or-take c (nibbles key) j 0 within) ∙ ap (λ (ns : List ℕ). slice_index ns j) fork.same ∙ get_or-take c
      (nibbles next) j 0 within

  module _ (half : Half) (kind : Kind) (front : Items) (bytes : Bytes) (cells : List Hash) where
    pub turned : hash_cmp key next ≡ Less → IsBehind front key → IsFull half kind (front ++ (key, bytes) ∷ []) key cells (c + 1)
        → IsOpen half kind (front ++ (key, bytes) ∷ []) next cells (c + 1)
    turned less behind full = record {
      rows = λ j b within below differ. by j b (j == c) refl within below differ;
      alone = filter_none (λ (e : Entry). lies_under (way next (c + 1)) e.0) (front ++ (key, bytes) ∷ [])
          (all_append (λ (e : Entry). lies_under (way next (c + 1)) e.0 ≡ false) front ((key, bytes) ∷ [])
          (all_weaker (λ (e : Entry). hash_cmp e.0 key ≡ Less) (λ (e : Entry). lies_under (way next (c + 1)) e.0 ≡ false)
          (λ e before. beside e.0 less before) front behind)
          (key_beside less, tt));
    }
      where
        by : (j b : ℕ) (t : Bool) → (j == c) ≡ t → j < c + 1 → b < 16 → b ≢ nibble_of next j
            → IsTold half kind (front ++ (key, bytes) ∷ []) next cells j b
        by j b true is within below differ =
            let here : j ≡ c = eqb-true j c is in
            full.lowest j b (omega arith) below ∙ ap (λ p. hash_at half kind (front ++ (key, bytes) ∷ []) (p ++ b ∷ []))
            (same_way j (omega arith))
        by j b false is within below differ =
            let other : j ≢ c = eqb-false j c is in
            let above : j < c = omega arith in
            full.rows j b within below (λ e. differ (e ∙ same_nibble j above))
            ∙ ap (λ p. hash_at half kind (front ++ (key, bytes) ∷ []) (p ++ b ∷ [])) (same_way j (omega arith))

  pub turn_shared : (front : Items) (bytes : Bytes) → IsShared (front ++ (key, bytes) ∷ []) next (c + 1)
  turn_shared front bytes deep none =
      let at : c + 1 - 1 ≡ c = omega arith in
      let on : lies_under (way next c) key ≡ true = ap (λ p. lies_under p key) (sym fork.same) ∙ on_way key c size (omega arith) in
      some (part front (way next c)) (sym (part_on front (key, bytes) (way next c) on) ∙ ap
      (λ n. part (front ++ (key, bytes) ∷ []) (way next n)) (sym at) ∙ none)
    where
      some : (es : Items) → es ++ (key, bytes) ∷ [] ≡ [] → ⊥
      some [] e = cc
      some (x ∷ es) e = cc

-- keys with all nibbles in common are one
pub common_all : (a b : Hash) → length a ≡ 32 → length b ≡ 32 → way a 64 ≡ way b 64 → a ≡ b
common_all a b size width same =
    sym (packed-nibbles a) ∙ ap packed (sym (take_all 64 (nibbles a) (omega (arith, length-nibbles a))) ∙ same ∙ take_all 64 (nibbles b)
    (omega (arith, length-nibbles b))) ∙ packed-nibbles b

-- a key that comes behind the last one comes behind all
pub all_behind : (front : Items) (key next : Hash) (bytes : Bytes) → IsBehind front key → hash_cmp key next ≡ Less
    → IsBehind (front ++ (key, bytes) ∷ []) next
all_behind front key next bytes behind less =
    all_append (λ (e : Entry). hash_cmp e.0 next ≡ Less) front ((key, bytes) ∷ [])
    (all_weaker (λ (e : Entry). hash_cmp e.0 key ≡ Less) (λ (e : Entry). hash_cmp e.0 next ≡ Less)
    (λ e before. nat_list_cmp_total.trans e.0 key next before less) front behind)
    (less, tt)

-- and the last of those that it comes behind
pub last_behind : (front : Items) (key next : Hash) (bytes : Bytes) → IsBehind (front ++ (key, bytes) ∷ []) next → hash_cmp key next ≡ Less
last_behind [] key next bytes all = all.0
last_behind (e ∷ front) key next bytes all = last_behind front key next bytes all.1

-- two keys of which one is less part above the bottom
pub parts_above : (a b : Hash) (c : ℕ) → length a ≡ 32 → length b ≡ 32 → c ≤ 64 → IsFork a b c → hash_cmp a b ≡ Less → c < 64
parts_above a b c size width few fork less = by (c == 64) refl
  where
    by : (t : Bool) → (c == 64) ≡ t → c < 64
    by false is = let other = eqb-false c 64 is in omega (arith, other, few)
    by true is =
        let all : way a 64 ≡ way b 64 = subst (λ (n : ℕ). way a n ≡ way b n) (eqb-true c 64 is) fork.same in
        let same : a ≡ b = common_all a b size width all in
        absurd (irreflexive b (subst (λ (k : Hash). hash_cmp k b ≡ Less) same less))
