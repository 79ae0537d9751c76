-- What a store keeps, through each of its calls.
use Rattle.std.proofs.Common.{◌≡◌, ◌⊎◌, inl, inr, ◌<◌, ◌++◌, ℕ, Bool, cond, List, [], ◌∷◌, Option, Some, None, IsTrue, refl, sym}
use Rattle.std.proofs.Common.{◌∙◌, ap, subst, arith}
use Rattle.std.specs.Option.{IsSome, option_or, option_map}
use Rattle.std.specs.Prelude.{Result, Ok, Err, OnOk, OnErr}
use Rattle.std.specs.Cmp.{eq_by_cmp_equiv}
use Rattle.std.specs.Ordering.{nat_cmp, is_eq}
use Rattle.std.specs.Cmp.Lexicographic.{slice_cmp, nat_list_cmp_total}
use Rattle.std.specs.declared.cmp.Ordering.TheVariants.{Less, Equal, Greater}
use Rattle.std.specs.FinMap as map
use Rattle.std.specs.FinMap.{get-insert, get_tied}
use Rattle.ledger_spec.specs.Bytes.{Bytes, Hash, Nodes}
use Rattle.node_backend.specs.Numbers.{is_among, exceeds, without}
use Rattle.node_backend.specs.Doubts.{Pair, FailedPut}
use Rattle.node_backend.proofs.shared.Lists.{exceeds_more, exceeds_append, below_among, among_append, among_last, among_without}
use Rattle.rotating_store.specs.declared.pair.Moved.{Moved}
use Rattle.rotating_store.specs.declared.pair.Moved.TheVariants as moved
use Rattle.rotating_store.specs.Stores.{Agree, merged}
use Rattle.rotating_store.specs.Moves.{Moves, Writes}
use Rattle.rotating_store.proofs.shared.Merging.{get-merged, forward_keeps, merged_empty}
use Rattle.rotating_store.specs.Keeps.{Numbered, Allows, Keeps}

no_none : {X : Type 0} (o : Option X) (x : X) → o ≡ None → o ≡ Some x → ⊥
no_none None x e f = cc
no_none (Some y) x e f = cc

same_some : {X : Type 0} (o : Option X) (x y : X) → o ≡ Some x → o ≡ Some y → x ≡ y
same_some o x y e f = cc

-- the numbers

pub numbered_as : (live undone : List ℕ) (a w a' w' : ℕ) (ready : Option ℕ) → Numbered live undone a w ready → a' ≡ a → w' ≡ w
    → Numbered live undone a' w' ready
numbered_as live undone a w a' w' ready n e f = subst (λ (x : ℕ). Numbered live undone x w' ready) (sym e)
    (subst (λ (x : ℕ). Numbered live undone a x ready) (sym f) n)

-- the first two numbers of a shelf
pub numbered_open : (live undone live1 undone1 live2 undone2 : List ℕ) (a w : ℕ) → IsTrue (exceeds a undone) → live1 ≡ live ++ a ∷ []
    → undone1 ≡ undone
    → IsTrue (exceeds w live1) → live2 ≡ live1 ++ w ∷ [] → undone2 ≡ undone1 → Numbered live2 undone2 a w None
numbered_open live undone live1 undone1 live2 undone2 a w above listed same higher listed2 same2 =
    let first : IsTrue (is_among live1 a) = subst (λ (xs : List ℕ). IsTrue (is_among xs a)) (sym listed) (among_last a live) in
    record {
      archive_live = subst (λ (xs : List ℕ). IsTrue (is_among xs a)) (sym listed2) (among_append w a live1 first);
      writable_live = subst (λ (xs : List ℕ). IsTrue (is_among xs w)) (sym listed2) (among_last w live1);
      ready_live = tt;
      above_undone = subst (λ (xs : List ℕ). IsTrue (exceeds a xs)) (sym (same2 ∙ same)) above;
      rises = below_among w a live1 higher first;
      ready_rises = tt;
    }

-- one more, which is ready
pub numbered_ready : (live undone live' undone' : List ℕ) (a w n : ℕ) (ready : Option ℕ) → Numbered live undone a w ready
    → IsTrue (exceeds n live)
    → live' ≡ live ++ n ∷ [] → undone' ≡ undone → Numbered live' undone' a w (Some n)
numbered_ready live undone live' undone' a w n ready k above listed same = record {
  archive_live = subst (λ (xs : List ℕ). IsTrue (is_among xs a)) (sym listed) (among_append n a live k.archive_live);
  writable_live = subst (λ (xs : List ℕ). IsTrue (is_among xs w)) (sym listed) (among_append n w live k.writable_live);
  ready_live = subst (λ (xs : List ℕ). IsTrue (is_among xs n)) (sym listed) (among_last n live);
  above_undone = subst (λ (xs : List ℕ). IsTrue (exceeds a xs)) (sym same) k.above_undone;
  rises = k.rises;
  ready_rises = below_among n w live above k.writable_live;
}

above_left : (undone undone' : List ℕ) (a w : ℕ) → IsTrue (exceeds a undone) → a < w → (undone' ≡ undone) ⊎ (undone' ≡ undone ++ a ∷ [])
    → IsTrue (exceeds w undone')
above_left undone undone' a w above rises (inl e) = subst (λ (xs : List ℕ). IsTrue (exceeds w xs)) (sym e)
    (exceeds_more a w undone (omega arith) above)
above_left undone undone' a w above rises (inr e) = subst (λ (xs : List ℕ). IsTrue (exceeds w xs)) (sym e)
    (exceeds_append w a undone (exceeds_more a w undone (omega arith) above) rises)

-- the archive's goes
pub numbered_swap : (live undone live' undone' : List ℕ) (a w n : ℕ) → Numbered live undone a w (Some n) → live' ≡ without live a
    → (undone' ≡ undone) ⊎ (undone' ≡ undone ++ a ∷ []) → Numbered live' undone' w n None
numbered_swap live undone live' undone' a w n k gone kept =
    let rises : a < w = k.rises in
    let more : w < n = k.ready_rises in
    record {
      archive_live = subst (λ (xs : List ℕ). IsTrue (is_among xs w)) (sym gone)
          (among_without a w live (λ e. absurd (omega arith)) k.writable_live);
      writable_live = subst (λ (xs : List ℕ). IsTrue (is_among xs n)) (sym gone)
          (among_without a n live (λ e. absurd (omega arith)) k.ready_live);
      ready_live = tt;
      above_undone = above_left undone undone' a w k.above_undone rises kept;
      rises = more;
      ready_rises = tt;
    }

-- the maps and the pairs in doubt

pub keeps_as : (w a w' a' : Nodes) (d e d' e' : Option Pair) (r : Option Nodes) (f : Option (Option Pair)) → Keeps w a d e r f → w' ≡ w
    → a' ≡ a → d' ≡ d → e' ≡ e → Keeps w' a' d' e' r f
keeps_as w a w' a' d e d' e' r f k p q s t =
    subst (λ (x : Nodes). Keeps x a' d' e' r f) (sym p) (subst (λ (x : Nodes). Keeps w x d' e' r f) (sym q)
    (subst (λ (x : Option Pair). Keeps w a x e' r f) (sym s) (subst (λ (x : Option Pair). Keeps w a d x r f) (sym t) k)))

agree_insert : (w a : Nodes) (h : Hash) (form : Bytes) → Agree w a → ((other : Bytes) → map.get a h ≡ Some other → form ≡ other)
    → Agree (map.insert w h form) a
agree_insert w a h form agree here q x y is at =
    elim (slice_cmp nat_cmp q h) as (λ r. slice_cmp nat_cmp q h ≡ r → cond (is_eq r) (Some form) (map.get w q) ≡ Some x → x ≡ y) [
      | Less ↦ λ e f. agree q x y f at
      | Equal ↦ λ e f. let ties : map.get a h ≡ map.get a q = get_tied nat_list_cmp_total a q h e in same_some (Some form) x form f refl
          ∙ here y (ties ∙ at)
      | Greater ↦ λ e f. agree q x y f at
    ] refl (sym (get-insert nat_list_cmp_total w h form q) ∙ is)

-- a put of what isn't held, or is in the archive alone
pub keeps_put : (w a w' : Nodes) (d e d' : Option Pair) (r : Option Nodes) (f : Option (Option Pair)) (h : Hash) (form : Bytes)
    → Keeps w a d e r f
    → map.get w h ≡ None → ((other : Bytes) → map.get a h ≡ Some other → form ≡ other) → FailedPut w d (h, form) w' d'
    → Keeps w' a d' e r f
keeps_put w a w' d e d' r f h form k none here (inl (same, inl sure)) =
    keeps_as w a w' a None e d' e r f (record {
      agree = k.agree;
      archive_own = k.archive_own;
      archive_allows = tt;
      writable_own = tt;
      ready_empty = k.ready_empty;
      ready_sure = k.ready_sure;
    }) same refl sure refl
keeps_put w a w' d e d' r f h form k none here (inl (same, inr (inl before))) = keeps_as w a w' a d e d' e r f k same refl before refl
keeps_put w a w' d e d' r f h form k none here (inl (same, inr (inr this))) =
    keeps_as w a w' a (Some (h, form)) e d' e r f (record {
      agree = k.agree;
      archive_own = k.archive_own;
      archive_allows = λ other is. sym (here other is);
      writable_own = λ other is. absurd (no_none (map.get w h) other none is);
      ready_empty = k.ready_empty;
      ready_sure = k.ready_sure;
    }) same refl this refl
keeps_put w a w' d e d' r f h form k none here (inr (set, sure)) =
    keeps_as (map.insert w h form) a w' a None e d' e r f (record {
      agree = agree_insert w a h form k.agree here;
      archive_own = k.archive_own;
      archive_allows = tt;
      writable_own = tt;
      ready_empty = k.ready_empty;
      ready_sure = k.ready_sure;
    }) set refl sure refl

-- a copy of what the archive alone has
pub keeps_copy : (w a w' : Nodes) (d e d' : Option Pair) (r : Option Nodes) (f : Option (Option Pair)) (h : Hash) → Keeps w a d e r f
    → Writes w a d h w' d' → Keeps w' a d' e r f
keeps_copy w a w' d e d' r f h k (inl (same, before)) = keeps_as w a w' a d e d' e r f k same refl before refl
keeps_copy w a w' d e d' r f h k (inr (form, old, put)) = keeps_put w a w' d e d' r f h form k old.0
    (λ other is. same_some (map.get a h) form other old.1 is) put

agree_empty : (w a : Nodes) → w ≡ map.empty → Agree w a
agree_empty w a e h x y is at = absurd (no_none (map.get w h) x (ap (λ (m : Nodes). map.get m h) e ∙ map.get-empty (slice_cmp nat_cmp) h)
    is)

allows_none : (m : Nodes) (d : Option Pair) → d ≡ None → Allows m d
allows_none m d e = subst (λ (x : Option Pair). Allows m x) (sym e) tt

pub keeps_open : (w a : Nodes) (d e : Option Pair) → w ≡ map.empty → d ≡ None → e ≡ None → Keeps w a d e None None
keeps_open w a d e empty sure sure2 = record {
  agree = agree_empty w a empty;
  archive_own = allows_none a e sure2;
  archive_allows = allows_none a d sure;
  writable_own = allows_none w d sure;
  ready_empty = tt;
  ready_sure = tt;
}

pub keeps_ready : (w a m : Nodes) (d e n : Option Pair) (r : Option Nodes) (f : Option (Option Pair)) → Keeps w a d e r f → m ≡ map.empty
    → n ≡ None → Keeps w a d e (Some m) (Some n)
keeps_ready w a m d e n r f k empty sure = record {
  agree = k.agree;
  archive_own = k.archive_own;
  archive_allows = k.archive_allows;
  writable_own = k.writable_own;
  ready_empty = empty;
  ready_sure = sure;
}

pub keeps_swap : (w a m : Nodes) (d e n : Option Pair) → Keeps w a d e (Some m) (Some n) → Keeps m w n d None None
keeps_swap w a m d e n k = record {
  agree = agree_empty m w k.ready_empty;
  archive_own = k.writable_own;
  archive_allows = allows_none w n k.ready_sure;
  writable_own = allows_none m n k.ready_sure;
  ready_empty = tt;
  ready_sure = tt;
}

or_none_first : (o p : Option Bytes) → option_or o p ≡ None → o ≡ None
or_none_first None p e = refl
or_none_first (Some x) p e = cc

or_none_second : (o p : Option Bytes) → option_or o p ≡ None → p ≡ None
or_none_second None p e = e
or_none_second (Some x) p e = cc

-- a put of what neither holds
pub keeps_new : (w a w1 a1 w2 : Nodes) (d e d1 e1 d2 : Option Pair) (r : Option Nodes) (f : Option (Option Pair)) (h : Hash)
    (form : Bytes) (o : Option Bytes) → Keeps w a d e r f
    → w1 ≡ w → a1 ≡ a → d1 ≡ d → e1 ≡ e → o ≡ map.get (merged w a) h → o ≡ None → FailedPut w1 d1 (h, form) w2 d2 → Keeps w2 a1 d2 e1 r f
keeps_new w a w1 a1 w2 d e d1 e1 d2 r f h form o k p q s t is none put =
    let gone : option_or (map.get w h) (map.get a h) ≡ None = sym (get-merged w a h) ∙ sym is ∙ none in
    let first : map.get w1 h ≡ None = ap (λ (m : Nodes). map.get m h) p ∙ or_none_first (map.get w h) (map.get a h) gone in
    let second : map.get a1 h ≡ None = ap (λ (m : Nodes). map.get m h) q ∙ or_none_second (map.get w h) (map.get a h) gone in
    keeps_put w1 a1 w2 d1 e1 d2 r f h form (keeps_as w a w1 a1 d e d1 e1 r f k p q s t) first
    (λ other at. absurd (no_none (map.get a1 h) other second at)) put

-- what a copy forward leaves

pub moved_keeps : {E : Type 0} (w a w' a' : Nodes) (h : Hash) (result : Result Moved E) → Moves w a h result w' → a' ≡ a
    → merged w' a' ≡ merged w a
moved_keeps w a w' a' h (Ok moved.Copied) (form, old, set) same =
    ap (λ (m : Nodes). merged w' m) same ∙ ap (λ (m : Nodes). merged m a) set ∙ forward_keeps w a h form old.0 old.1
moved_keeps w a w' a' h (Ok moved.There) (some, stays) same = ap (λ (m : Nodes). merged w' m) same ∙ ap (λ (m : Nodes). merged m a) stays
moved_keeps w a w' a' h (Ok moved.Nowhere) (first, second, stays) same =
    ap (λ (m : Nodes). merged w' m) same ∙ ap (λ (m : Nodes). merged m a) stays
moved_keeps w a w' a' h (Err e) (inl stays) same = ap (λ (m : Nodes). merged w' m) same ∙ ap (λ (m : Nodes). merged m a) stays
moved_keeps w a w' a' h (Err e) (inr (form, old, set)) same =
    ap (λ (m : Nodes). merged w' m) same ∙ ap (λ (m : Nodes). merged m a) set ∙ forward_keeps w a h form old.0 old.1

or_some : (o p : Option Bytes) → IsSome o → o ≡ option_or o p
or_some None p s = cc
or_some (Some x) p s = refl

or_nothing : (o p : Option Bytes) → o ≡ None → p ≡ option_or o p
or_nothing None p e = refl
or_nothing (Some x) p e = cc

pub moved_there : (E : Type 0) (w a w' : Nodes) (h : Hash) (m : Moved) → Moves {E = E} w a h (Ok m) w'
    → map.get w' h ≡ map.get (merged w a) h
moved_there E w a w' h moved.Copied (form, old, set) =
    ap (λ (m : Nodes). map.get m h) set ∙ get-insert nat_list_cmp_total w h form h
    ∙ ap (λ (b : Bool). cond b (Some form) (map.get w h)) ((eq_by_cmp_equiv nat_list_cmp_total).refl h)
    ∙ sym old.1 ∙ or_nothing (map.get w h) (map.get a h) old.0 ∙ sym (get-merged w a h)
moved_there E w a w' h moved.There (some, stays) = ap (λ (m : Nodes). map.get m h) stays ∙ or_some (map.get w h) (map.get a h) some
    ∙ sym (get-merged w a h)
moved_there E w a w' h moved.Nowhere (first, second, stays) =
    ap (λ (m : Nodes). map.get m h) stays ∙ first ∙ sym second ∙ or_nothing (map.get w h) (map.get a h) first ∙ sym (get-merged w a h)

-- a swap, of backends of any type
module _ {B : Type 0} (number : B → ℕ) (held : B → Nodes) (doubt : B → Option Pair) where
  pub ready_empty_of : (w a : Nodes) (d e : Option Pair) (ready : Option B) (fresh : B) (f : Option (Option Pair))
      → Keeps w a d e (option_map held ready) f → ready ≡ Some fresh → held fresh ≡ map.empty
  ready_empty_of w a d e ready fresh f k is =
      let k1 : Keeps w a d e (Some (held fresh)) f = subst (λ (o : Option B). Keeps w a d e (option_map held o) f) is k in k1.ready_empty

  -- what a swap leaves: the pairs of the backend that was written
  pub swapped_nodes : (writable archive fresh w' a' : B) (ready : Option B)
      → Keeps (held writable) (held archive) (doubt writable) (doubt archive) (option_map held ready) (option_map doubt ready)
      → ready ≡ Some fresh → w' ≡ fresh → a' ≡ writable → merged (held w') (held a') ≡ held writable
  swapped_nodes writable archive fresh w' a' ready k is p q =
      let none : held fresh ≡ map.empty =
      ready_empty_of (held writable) (held archive) (doubt writable) (doubt archive) ready fresh (option_map doubt ready) k is in
      let empty : held w' ≡ map.empty = ap held p ∙ none in
      ap (λ (m : Nodes). merged m (held a')) empty ∙ merged_empty (held a') ∙ ap held q

  pub swapped_numbers : (live undone live' undone' : List ℕ) (writable archive fresh old w' a' : B) (ready ready' : Option B)
      → Numbered live undone (number archive) (number writable) (option_map number ready)
      → ready ≡ Some fresh → ready' ≡ None → w' ≡ fresh → a' ≡ writable → old ≡ archive → live' ≡ without live (number old)
      → (undone' ≡ undone) ⊎ (undone' ≡ undone ++ number old ∷ [])
      → Numbered live' undone' (number a') (number w') (option_map number ready')
  swapped_numbers live undone live' undone' writable archive fresh old w' a' ready ready' k is none p q same gone kept =
      let k1 : Numbered live undone (number archive) (number writable) (Some (number fresh)) = subst
      (λ (o : Option B). Numbered live undone (number archive) (number writable) (option_map number o)) is k in
      let k2 : Numbered live undone (number old) (number writable) (Some (number fresh)) = numbered_as live undone (number archive)
      (number writable) (number old) (number writable) (Some (number fresh)) k1 (ap number same) refl in
      let k3 : Numbered live' undone' (number writable) (number fresh) None = numbered_swap live undone live' undone' (number old)
      (number writable) (number fresh) k2 gone kept in
      let k4 : Numbered live' undone' (number a') (number w') None = numbered_as live' undone' (number writable) (number fresh)
      (number a') (number w') None k3 (ap number q) (ap number p) in
      subst (λ (o : Option B). Numbered live' undone' (number a') (number w') (option_map number o)) (sym none) k4

  pub swapped_keeps : (writable archive fresh w' a' : B) (ready ready' : Option B)
      → Keeps (held writable) (held archive) (doubt writable) (doubt archive) (option_map held ready) (option_map doubt ready)
      → ready ≡ Some fresh → ready' ≡ None → w' ≡ fresh → a' ≡ writable
      → Keeps (held w') (held a') (doubt w') (doubt a') (option_map held ready') (option_map doubt ready')
  swapped_keeps writable archive fresh w' a' ready ready' k is none p q =
      let k1 : Keeps (held writable) (held archive) (doubt writable) (doubt archive) (Some (held fresh)) (Some (doubt fresh)) =
      subst (λ (o : Option B). Keeps (held writable) (held archive) (doubt writable) (doubt archive) (option_map held o)
      (option_map doubt o)) is k in
      let k2 : Keeps (held fresh) (held writable) (doubt fresh) (doubt writable) None None = keeps_swap (held writable) (held archive)
      (held fresh) (doubt writable) (doubt archive) (doubt fresh) k1 in
      let k3 : Keeps (held w') (held a') (doubt w') (doubt a') None None =
      keeps_as (held fresh) (held writable) (held w') (held a') (doubt fresh) (doubt writable) (doubt w') (doubt a') None None k2
      (ap held p) (ap held q) (ap doubt p) (ap doubt q) in
      subst (λ (o : Option B). Keeps (held w') (held a') (doubt w') (doubt a') (option_map held o) (option_map doubt o)) (sym none) k3

pub either_way : {E : Type 0} {P Q C : Type 0} (r : Result (Unit {0}) E) → OnOk r P → OnErr r (C → Q) → C → P ⊎ Q
either_way (Ok x) p q c = inl p
either_way (Err e) p q c = inr (q c)

pub numbered_live : {B : Type 0} (number : B → ℕ) (live undone : List ℕ) (archive old : B) (w : ℕ) (ready : Option ℕ)
    → Numbered live undone (number archive) w ready → old ≡ archive → IsTrue (is_among live (number old))
numbered_live {B} number live undone archive old w ready k same =
    subst (λ (b : B). IsTrue (is_among live (number b))) (sym same) k.archive_live
