-- The two sets of unchecked hashes, as a hash is added, removed, carried over or asked for, and as the backends turn; and the noted ones.
use Rattle.std.proofs.Common.{◌≡◌, ◌∙◌, ◌⊎◌, inl, inr, List, [], ◌∷◌, Bool, true, false, not, cond, ◌||◌, ◌&&◌, IsTrue}
use Rattle.std.proofs.Common.{Option, Some, None, refl, sym, ap, subst}
use Rattle.std.specs.Prelude.{nat_eq, is_some, length}
use Rattle.std.specs.List.{list_any}
use Rattle.std.specs.Option.{IsSome, option_or}
use Rattle.std.specs.Ordering.{eq_by_cmp}
use Rattle.std.specs.Cmp.{eq_by_cmp_equiv}
use Rattle.std.specs.Cmp.Lexicographic.{pointwise, nat_list_cmp_total, texts_ties}
use Rattle.std.specs.FinMap as map
use Rattle.std.specs.FinMap.{get-insert}
use Rattle.std.specs.FinSet as set
use Rattle.std.specs.FinSet.{contains-insert, contains-remove, contains-from_list, contains-union, contains-difference, contains-empty, same_set}
use Rattle.std.specs.HashSet.{HashSet, contains, Updates}
use Rattle.std.proofs.lemmas.Map.Lookups.{exact_bytes}
use Rattle.std.proofs.lemmas.Map.Views.{tells_apart}
use Rattle.ledger_spec.specs.Bytes.{Bytes, Hash, Nodes}
use Rattle.ledger_spec.specs.Maps.{SetOf, hash_cmp, hashes_in}
use Rattle.node_backend.specs.Doubts.{Pair, FailedPut}
use Rattle.node_backend.proofs.shared.Tables.{hashes_antisymmetric}
use Rattle.rotating_store.specs.Stores.{merged}
use Rattle.rotating_store.specs.Unchecked.{Unchecked, unchecked_of, with_hash, without_hash, noted_in, AreCarried}
use Rattle.rotating_store.specs.Moves.{Writes}
use Rattle.rotating_store.proofs.shared.Merging.{get-merged, merged-insert, merged_empty, contains_hashes}

any_ties : (q : Hash) (ks : List Hash) → list_any (pointwise nat_eq q) ks ≡ list_any (eq_by_cmp hash_cmp q) ks
any_ties q [] = refl
any_ties q (k ∷ ks) = ap (λ (b : Bool). b || list_any (pointwise nat_eq q) ks) (texts_ties q k)
    ∙ ap (λ (b : Bool). eq_by_cmp hash_cmp q k || b) (any_ties q ks)

-- a set of keys has what the list of them has
pub has_listed : (q : Hash) (ks : List Hash) → list_any (pointwise nat_eq q) ks ≡ set.contains (set.from_list {R = hash_cmp} ks) q
has_listed q ks = any_ties q ks ∙ sym (contains-from_list nat_list_cmp_total ks q)

-- of no keys
pub none_listed : (q : Hash) (ks : List Hash) → length ks ≡ 0 → false ≡ set.contains (set.from_list {R = hash_cmp} ks) q
none_listed q [] e = sym (contains-from_list nat_list_cmp_total [] q)
none_listed q (k ∷ ks) e = cc

or_cond : (a b c : Bool) → a ≡ c → cond a true b ≡ (c || b)
or_cond true b c e = ap (λ (x : Bool). x || b) e
or_cond false b c e = ap (λ (x : Bool). x || b) e

and_cond : (a b c : Bool) → a ≡ c → cond a false b ≡ (not c && b)
and_cond true b c e = ap (λ (x : Bool). not x && b) e
and_cond false b c e = ap (λ (x : Bool). not x && b) e

module _ {S : Type 0} (old new : HashSet Hash S) (h : Hash) where
  pub listed_then : Updates (pointwise nat_eq) old new h true
      → set.from_list {R = hash_cmp} new.keys ≡ set.insert (set.from_list old.keys) h
  listed_then sets = same_set nat_list_cmp_total hashes_antisymmetric _ _ (λ q.
      sym (has_listed q new.keys) ∙ sets.0 q
      ∙ or_cond (pointwise nat_eq h q) (contains (pointwise nat_eq) old q) (eq_by_cmp hash_cmp q h)
      (texts_ties h q ∙ (eq_by_cmp_equiv nat_list_cmp_total).symm h q)
      ∙ ap (λ (b : Bool). eq_by_cmp hash_cmp q h || b) (has_listed q old.keys)
      ∙ sym (contains-insert nat_list_cmp_total (set.from_list old.keys) h q))

-- the hashes of two sets of keys, of which one is another set
abbrev pub with_fresh : {S : Type 0} → HashSet Hash S → SetOf → Unchecked
with_fresh earlier s = record { fresh = s; earlier = set.from_list earlier.keys }

abbrev pub with_earlier : SetOf → SetOf → Unchecked
with_earlier fresh s = record { fresh = fresh; earlier = s }

-- without a key
module _ {S : Type 0} (old new : HashSet Hash S) (h : Hash) where
  pub listed_without : Updates (pointwise nat_eq) old new h false
      → set.from_list {R = hash_cmp} new.keys ≡ set.remove (set.from_list old.keys) h
  listed_without sets = same_set nat_list_cmp_total hashes_antisymmetric _ _ (λ q.
      sym (has_listed q new.keys) ∙ sets.0 q
      ∙ and_cond (pointwise nat_eq h q) (contains (pointwise nat_eq) old q) (eq_by_cmp hash_cmp q h)
      (texts_ties h q ∙ (eq_by_cmp_equiv nat_list_cmp_total).symm h q)
      ∙ ap (λ (b : Bool). not (eq_by_cmp hash_cmp q h) && b) (has_listed q old.keys)
      ∙ sym (contains-remove nat_list_cmp_total (set.from_list old.keys) h q))

and_left : (a b : Bool) → IsTrue (a && b) → IsTrue a
and_left true b h = refl
and_left false b h = cc

and_right : (a b : Bool) → IsTrue (a && b) → IsTrue b
and_right true b h = h
and_right false b h = cc

both : (a b : Bool) → IsTrue a → IsTrue b → IsTrue (a && b)
both true b h k = k
both false b h k = cc

true_or : (a b : Bool) → IsTrue (a || b) → IsTrue a ⊎ IsTrue b
true_or true b h = inl refl
true_or false b h = inr h

or_left : (a b : Bool) → IsTrue a → IsTrue (a || b)
or_left true b h = refl
or_left false b h = cc

or_right : (a b : Bool) → IsTrue b → IsTrue (a || b)
or_right true b h = refl
or_right false b h = h

pub in_either : (n : Unchecked) (q : Hash) → IsTrue (set.contains (unchecked_of n) q)
    → IsTrue (set.contains n.fresh q) ⊎ IsTrue (set.contains n.earlier q)
in_either n q has = true_or _ _ (sym (contains-union nat_list_cmp_total n.fresh n.earlier q) ∙ has)

pub in_fresh : (n : Unchecked) (q : Hash) → IsTrue (set.contains n.fresh q) → IsTrue (set.contains (unchecked_of n) q)
in_fresh n q has = contains-union nat_list_cmp_total n.fresh n.earlier q ∙ or_left _ _ has

pub in_old : (n : Unchecked) (q : Hash) → IsTrue (set.contains n.earlier q) → IsTrue (set.contains (unchecked_of n) q)
in_old n q has = contains-union nat_list_cmp_total n.fresh n.earlier q ∙ or_right _ _ has

-- what was inserted, or was there, is there
pub inserted_more : (s s' : SetOf) (h q : Hash) → s' ≡ set.insert s h → IsTrue (set.contains s q) → IsTrue (set.contains s' q)
inserted_more s s' h q e has = ap (λ (x : SetOf). set.contains x q) e ∙ contains-insert nat_list_cmp_total s h q ∙ or_right _ _ has

pub inserted_there : (s s' : SetOf) (h : Hash) → s' ≡ set.insert s h → IsTrue (set.contains s' h)
inserted_there s s' h e = ap (λ (x : SetOf). set.contains x h) e ∙ contains-insert nat_list_cmp_total s h h
    ∙ or_left _ _ ((eq_by_cmp_equiv nat_list_cmp_total).refl h)

no_true : false ≡ true → ⊥
no_true e = cc

same_or : (a b c : Bool) → (IsTrue a → IsTrue c) → ((a || b) || c) ≡ (b || c)
same_or true b true h = sym (or_right b true refl)
same_or true b false h = absurd (no_true (h refl))
same_or false b c h = refl

tied_there : (o : SetOf) (q h : Hash) → IsTrue (set.contains o h) → IsTrue (eq_by_cmp hash_cmp q h) → IsTrue (set.contains o q)
tied_there o q h there tied = subst (λ (x : Hash). IsTrue (set.contains o x)) (sym (tells_apart exact_bytes q h tied)) there

-- what an old note adds to the fresh ones is no new note
pub carried_same : (s s' o : SetOf) (h : Hash) → s' ≡ set.insert s h → IsTrue (set.contains o h) → set.union s' o ≡ set.union s o
carried_same s s' o h e there = same_set nat_list_cmp_total hashes_antisymmetric _ _ (λ q.
    contains-union nat_list_cmp_total s' o q
    ∙ ap (λ (x : SetOf). set.contains x q || set.contains o q) e
    ∙ ap (λ (b : Bool). b || set.contains o q) (contains-insert nat_list_cmp_total s h q)
    ∙ same_or (eq_by_cmp hash_cmp q h) (set.contains s q) (set.contains o q) (tied_there o q h there)
    ∙ sym (contains-union nat_list_cmp_total s o q))

-- what a store keeps of its notes

pub carried_none : (w : Nodes) (n : Unchecked) → n.earlier ≡ set.empty → AreCarried w n
carried_none w n none h has = absurd (no_true (sym (contains-empty hash_cmp h) ∙ sym (ap (λ (x : SetOf). set.contains x h) none) ∙ has))

pub carried_as : (w w' : Nodes) (n n' : Unchecked) → AreCarried w n → w' ≡ w → n' ≡ n → AreCarried w' n'
carried_as w w' n n' k e f = subst (λ (x : Nodes). AreCarried x n') (sym e) (subst (λ (x : Unchecked). AreCarried w x) (sym f) k)

-- with more fresh notes
pub carried_more : (w : Nodes) (n n' : Unchecked) → AreCarried w n → n'.earlier ≡ n.earlier
    → ((q : Hash) → IsTrue (set.contains n.fresh q) → IsTrue (set.contains n'.fresh q)) → AreCarried w n'
carried_more w n n' k same more h has held = more h (k h (subst (λ (x : SetOf). IsTrue (set.contains x h)) same has) held)

-- after a call that asks the backend, and a carry
pub carried_from : (w w' : Nodes) (n n' : Unchecked) → AreCarried w n → w' ≡ w → n'.earlier ≡ n.earlier
    → ((q : Hash) → IsTrue (set.contains n.fresh q) → IsTrue (set.contains n'.fresh q)) → AreCarried w' n'
carried_from w w' n n' k same earlier more = carried_as w w' n' n' (carried_more w n n' k earlier more) same refl

pub carried_here : (n n' : Unchecked) (h : Hash) → n'.earlier ≡ n.earlier
    → (IsTrue (set.contains n.earlier h) → IsTrue (set.contains n'.fresh h))
    → IsTrue (set.contains n'.earlier h) → IsTrue (set.contains n'.fresh h)
carried_here n n' h same carried has = carried (subst (λ (x : SetOf). IsTrue (set.contains x h)) same has)

-- without one of its hashes
removed_only : (s o : SetOf) (h q : Hash) → (IsTrue (set.contains s q) → IsTrue (set.contains o q))
    → IsTrue (set.contains (set.remove s h) q) → IsTrue (set.contains (set.remove o h) q)
removed_only s o h q more has =
    let now = sym (contains-remove nat_list_cmp_total s h q) ∙ has in
    contains-remove nat_list_cmp_total o h q
    ∙ both (not (eq_by_cmp hash_cmp q h)) (set.contains o q) (and_left (not (eq_by_cmp hash_cmp q h)) (set.contains s q) now)
    (more (and_right (not (eq_by_cmp hash_cmp q h)) (set.contains s q) now))

-- without a hash
pub carried_without : (w : Nodes) (n n' : Unchecked) (h : Hash) → AreCarried w n → n' ≡ without_hash n h → AreCarried w n'
carried_without w n n' h k e = carried_as w w (without_hash n h) n' (λ q has held.
    removed_only n.earlier n.fresh h q (λ there. k q there held) has) refl e

-- with a hash more
pub carried_with : (w w' : Nodes) (n n' : Unchecked) (h : Hash) → AreCarried w n → w' ≡ w → n' ≡ with_hash n h → AreCarried w' n'
carried_with w w' n n' h k same e = carried_as w w' (with_hash n h) n'
    (carried_more w n (with_hash n h) k refl (λ q has. inserted_more n.fresh (set.insert n.fresh h) h q refl has)) same e

pub there_with : (n n' : Unchecked) (h : Hash) → n' ≡ with_hash n h → IsTrue (set.contains n'.fresh h)
there_with n n' h e = inserted_there n.fresh n'.fresh h (ap (λ (x : Unchecked). x.fresh) e)

-- one pair more, of whose hash an old note was carried
carried_insert : (w : Nodes) (n : Unchecked) (h : Hash) (form : Bytes) → AreCarried w n
    → (IsTrue (set.contains n.earlier h) → IsTrue (set.contains n.fresh h)) → AreCarried (map.insert w h form) n
carried_insert w n h form k here q has held =
    elim (eq_by_cmp hash_cmp q h) as (λ b. eq_by_cmp hash_cmp q h ≡ b → IsSome (cond b (Some form) (map.get w q))
    → IsTrue (set.contains n.fresh q)) [
      | true ↦ λ tied _. subst (λ (x : Hash). IsTrue (set.contains n.fresh x)) (sym (tells_apart exact_bytes q h tied))
          (here (subst (λ (x : Hash). IsTrue (set.contains n.earlier x)) (tells_apart exact_bytes q h tied) has))
      | false ↦ λ _ there. k q has there
    ] refl (subst IsSome (get-insert nat_list_cmp_total w h form q) held)

pub carried_put : (w w' : Nodes) (d d' : Option Pair) (n : Unchecked) (h : Hash) (form : Bytes) → AreCarried w n
    → (IsTrue (set.contains n.earlier h) → IsTrue (set.contains n.fresh h)) → FailedPut w d (h, form) w' d' → AreCarried w' n
carried_put w w' d d' n h form k here (inl (same, doubt)) = carried_as w w' n n k same refl
carried_put w w' d d' n h form k here (inr (set', sure)) = carried_as (map.insert w h form) w' n n
    (carried_insert w n h form k here) set' refl

pub carried_copy : (w a w' : Nodes) (d d' : Option Pair) (n : Unchecked) (h : Hash) → AreCarried w n
    → (IsTrue (set.contains n.earlier h) → IsTrue (set.contains n.fresh h)) → Writes w a d h w' d' → AreCarried w' n
carried_copy w a w' d d' n h k here (inl (same, before)) = carried_as w w' n n k same refl
carried_copy w a w' d d' n h k here (inr (form, old, put)) = carried_put w w' d d' n h form k here put

-- a swap

pub turned_none : (w : Nodes) (n : Unchecked) → w ≡ map.empty → AreCarried w n
turned_none w n e h has held = absurd (no_true (sym (ap is_some (ap (λ (m : Nodes). map.get m h) e ∙ map.get-empty hash_cmp h)) ∙ held))

-- the noted hashes

and_false : (a : Bool) → (a && false) ≡ false
and_false true = refl
and_false false = refl

or_again : (a b c : Bool) → ((a || b) || c) ≡ (a || (b || c))
or_again true b c = refl
or_again false b c = refl

not_each : (b f e : Bool) → ((not b && f) || (not b && e)) ≡ (not b && (f || e))
not_each true f e = refl
not_each false f e = refl

pub is_not : (b : Bool) → IsTrue (not b) → b ≡ false
is_not true h = cc
is_not false h = refl

pub contains_noted : (m : Nodes) (n : Unchecked) (q : Hash)
    → set.contains (noted_in true m n) q ≡ (map.contains_key m q && not (set.contains (unchecked_of n) q))
contains_noted m n q = contains-difference nat_list_cmp_total _ _ q
    ∙ ap (λ (b : Bool). b && not (set.contains (unchecked_of n) q)) (contains_hashes m q)

-- with the same map and hashes
pub noted_as : (t : Bool) (m m' : Nodes) (n n' : Unchecked) → (IsTrue t → m' ≡ m) → unchecked_of n' ≡ unchecked_of n
    → noted_in t m' n' ≡ noted_in t m n
noted_as false m m' n n' e f = refl
noted_as true m m' n n' e f = ap (λ (x : Nodes). set.difference (hashes_in x) (unchecked_of n')) (e refl)
    ∙ ap (λ (x : SetOf). set.difference (hashes_in m) x) f

-- with the same two maps
pub noted_same : (t : Bool) (w a w' a' : Nodes) (n : Unchecked) → (IsTrue t → w' ≡ w) → (IsTrue t → a' ≡ a)
    → noted_in t (merged w' a') n ≡ noted_in t (merged w a) n
noted_same t w a w' a' n e f = noted_as t (merged w a) (merged w' a') n n
    (λ told. ap (λ (x : Nodes). merged x a') (e told) ∙ ap (λ (x : Nodes). merged w x) (f told)) refl

-- of no map, none
pub noted_open : (t : Bool) (w a : Nodes) (n : Unchecked) → (IsTrue t → w ≡ map.empty) → (IsTrue t → a ≡ map.empty)
    → noted_in t (merged w a) n ≡ set.empty
noted_open false w a n e f = refl
noted_open true w a n e f = same_set nat_list_cmp_total hashes_antisymmetric _ _ (λ q.
    contains_noted (merged w a) n q
    ∙ ap (λ (b : Bool). b && not (set.contains (unchecked_of n) q))
    (ap is_some (ap (λ (x : Nodes). map.get x q) (ap (λ (x : Nodes). merged x a) (e refl) ∙ merged_empty a ∙ f refl)
    ∙ map.get-empty hash_cmp q))
    ∙ sym (contains-empty hash_cmp q))

contains_with : (n : Unchecked) (h q : Hash)
    → set.contains (unchecked_of (with_hash n h)) q ≡ (eq_by_cmp hash_cmp q h || set.contains (unchecked_of n) q)
contains_with n h q = contains-union nat_list_cmp_total (set.insert n.fresh h) n.earlier q
    ∙ ap (λ (b : Bool). b || set.contains n.earlier q) (contains-insert nat_list_cmp_total n.fresh h q)
    ∙ or_again (eq_by_cmp hash_cmp q h) (set.contains n.fresh q) (set.contains n.earlier q)
    ∙ ap (λ (b : Bool). eq_by_cmp hash_cmp q h || b) (sym (contains-union nat_list_cmp_total n.fresh n.earlier q))

contains_without : (n : Unchecked) (h q : Hash)
    → set.contains (unchecked_of (without_hash n h)) q ≡ (not (eq_by_cmp hash_cmp q h) && set.contains (unchecked_of n) q)
contains_without n h q = contains-union nat_list_cmp_total (set.remove n.fresh h) (set.remove n.earlier h) q
    ∙ ap (λ (b : Bool). b || set.contains (set.remove n.earlier h) q) (contains-remove nat_list_cmp_total n.fresh h q)
    ∙ ap (λ (b : Bool). (not (eq_by_cmp hash_cmp q h) && set.contains n.fresh q) || b) (contains-remove nat_list_cmp_total n.earlier h q)
    ∙ not_each (eq_by_cmp hash_cmp q h) (set.contains n.fresh q) (set.contains n.earlier q)
    ∙ ap (λ (b : Bool). not (eq_by_cmp hash_cmp q h) && b) (sym (contains-union nat_list_cmp_total n.fresh n.earlier q))

-- a hash that wasn't held, and is unchecked, isn't noted
as_before : (b k k' u u' : Bool) → (b ≡ true → k ≡ false) → (b ≡ false → k' ≡ k) → u' ≡ (b || u) → (k' && not u') ≡ (k && not u)
as_before true k k' u u' none same e = ap (λ (x : Bool). k' && not x) e ∙ and_false k' ∙ sym (ap (λ (x : Bool). x && not u) (none refl))
as_before false k k' u u' none same e = ap (λ (x : Bool). k' && not x) e ∙ ap (λ (x : Bool). x && not u) (same refl)

module _ (w a w' a' : Nodes) (d d' : Option Pair) (n n' : Unchecked) (h : Hash) (form : Bytes) where
  key_after : (q : Hash) → FailedPut w d (h, form) w' d' → a' ≡ a → eq_by_cmp hash_cmp q h ≡ false
      → map.contains_key (merged w' a') q ≡ map.contains_key (merged w a) q
  key_after q (inl (same, doubt)) old other = ap (λ (x : Nodes). map.contains_key (merged w' x) q) old
      ∙ ap (λ (x : Nodes). map.contains_key (merged x a) q) same
  key_after q (inr (set', sure)) old other = ap (λ (x : Nodes). map.contains_key (merged w' x) q) old
      ∙ ap (λ (x : Nodes). map.contains_key (merged x a) q) set'
      ∙ ap is_some (ap (λ (x : Nodes). map.get x q) (merged-insert w a h form)
      ∙ get-insert nat_list_cmp_total (merged w a) h form q
      ∙ ap (λ (b : Bool). cond b (Some form) (map.get (merged w a) q)) other)

  pub noted_put : (t : Bool) → (IsTrue t → map.get (merged w a) h ≡ None) → (IsTrue t → FailedPut w d (h, form) w' d')
      → (IsTrue t → a' ≡ a) → n' ≡ with_hash n h → noted_in t (merged w' a') n' ≡ noted_in t (merged w a) n
  noted_put false none put old e = refl
  noted_put true none put old e = same_set nat_list_cmp_total hashes_antisymmetric _ _ (λ q.
      contains_noted (merged w' a') n' q
      ∙ as_before (eq_by_cmp hash_cmp q h) (map.contains_key (merged w a) q) (map.contains_key (merged w' a') q)
      (set.contains (unchecked_of n) q) (set.contains (unchecked_of n') q)
      (λ tied. ap (λ (x : Hash). map.contains_key (merged w a) x) (tells_apart exact_bytes q h tied) ∙ ap is_some (none refl))
      (key_after q (put refl) (old refl))
      (ap (λ (x : Unchecked). set.contains (unchecked_of x) q) e ∙ contains_with n h q)
      ∙ sym (contains_noted (merged w a) n q))

-- the same of a put of what neither map held, as calls tell it
pub noted_new : (t : Bool) (w a w1 a1 w2 : Nodes) (d d' : Option Pair) (n n' : Unchecked) (h : Hash) (form : Bytes) (o : Option Bytes)
    → (IsTrue t → w1 ≡ w) → (IsTrue t → a1 ≡ a) → (IsTrue t → o ≡ map.get (merged w a) h) → o ≡ None
    → (IsTrue t → FailedPut w1 d (h, form) w2 d') → n' ≡ with_hash n h → noted_in t (merged w2 a1) n' ≡ noted_in t (merged w a) n
noted_new t w a w1 a1 w2 d d' n n' h form o p q is none put e =
    noted_put w1 a1 w2 a1 d d' n n' h form t (λ told. ap (λ (x : Nodes). map.get (merged x a1) h) (p told)
    ∙ ap (λ (x : Nodes). map.get (merged w x) h) (q told) ∙ sym (is told) ∙ none) put (λ told. refl) e
    ∙ noted_same t w a w1 a1 n p q

-- what a note adds
pub noted_then : (t : Bool) (m : Nodes) (n n' : Unchecked) (h q : Hash) → n' ≡ without_hash n h
    → IsTrue (set.contains (noted_in t m n') q) → IsTrue (set.contains (noted_in t m n) q) ⊎ (q ≡ h)
noted_then false m n n' h q e has = inl has
noted_then true m n n' h q e has =
    elim (eq_by_cmp hash_cmp q h) as (λ b. eq_by_cmp hash_cmp q h ≡ b → IsTrue (set.contains (noted_in true m n) q) ⊎ (q ≡ h)) [
      | true ↦ λ tied. inr (tells_apart exact_bytes q h tied)
      | false ↦ λ other. inl (contains_noted m n q
          ∙ ap (λ (b : Bool). map.contains_key m q && not b) (ap (λ (b : Bool). not b && set.contains (unchecked_of n) q) (sym other)
          ∙ sym (contains_without n h q) ∙ ap (λ (x : Unchecked). set.contains (unchecked_of x) q) (sym e))
          ∙ sym (contains_noted m n' q) ∙ has)
    ] refl

-- what is held and isn't unchecked
pub noted_now : (t : Bool) (m : Nodes) (n : Unchecked) (h : Hash) → IsTrue t → set.contains (unchecked_of n) h ≡ false
    → IsSome (map.get m h) → IsTrue (set.contains (noted_in t m n) h)
noted_now false m n h told none held = cc
noted_now true m n h told none held = contains_noted m n h
    ∙ both (map.contains_key m h) (not (set.contains (unchecked_of n) h)) held (ap not none)

-- what a swap leaves

some_first : (o p : Option Bytes) → IsSome o → IsSome (option_or o p)
some_first None p h = cc
some_first (Some x) p h = refl

no_or : (a b : Bool) → a ≡ false → (IsTrue b → IsTrue a) → (a || b) ≡ false
no_or true b h k = absurd (no_true (sym h))
no_or false true h k = absurd (no_true (k refl))
no_or false false h k = refl

or_none : (a b : Bool) → (a || b) ≡ false → a ≡ false
or_none true b h = h
or_none false b h = refl

turned_has : (n : Unchecked) (h : Hash)
    → set.contains (unchecked_of (record { fresh = set.empty; earlier = n.fresh })) h ≡ set.contains n.fresh h
turned_has n h = contains-union nat_list_cmp_total set.empty n.fresh h
    ∙ ap (λ (b : Bool). b || set.contains n.fresh h) (contains-empty hash_cmp h)

pub turned_fewer : (t : Bool) (w a m' : Nodes) (n n' : Unchecked) (h : Hash) → (IsTrue t → AreCarried w n) → (IsTrue t → m' ≡ w)
    → n' ≡ record { fresh = set.empty; earlier = n.fresh }
    → IsTrue (set.contains (noted_in t m' n') h) → IsTrue (set.contains (noted_in t (merged w a) n) h)
turned_fewer false w a m' n n' h k same e has = has
turned_fewer true w a m' n n' h k same e has =
    let now = sym (contains_noted m' n' h) ∙ has in
    let held : IsSome (map.get w h) = subst (λ (x : Nodes). IsSome (map.get x h)) (same refl)
    (and_left (map.contains_key m' h) (not (set.contains (unchecked_of n') h)) now) in
    let none : set.contains n.fresh h ≡ false = sym (turned_has n h) ∙ ap (λ (x : Unchecked). set.contains (unchecked_of x) h) (sym e)
    ∙ is_not (set.contains (unchecked_of n') h) (and_right (map.contains_key m' h) (not (set.contains (unchecked_of n') h)) now) in
    contains_noted (merged w a) n h ∙ both (map.contains_key (merged w a) h) (not (set.contains (unchecked_of n) h))
    (ap is_some (get-merged w a h) ∙ some_first (map.get w h) (map.get a h) held)
    (ap not (contains-union nat_list_cmp_total n.fresh n.earlier h
    ∙ no_or (set.contains n.fresh h) (set.contains n.earlier h) none (λ there. k refl h there held)))

pub turned_kept : (t : Bool) (w a m' : Nodes) (n n' : Unchecked) (h : Hash) → IsTrue t
    → n' ≡ record { fresh = set.empty; earlier = n.fresh }
    → IsTrue (set.contains (noted_in t (merged w a) n) h) → IsSome (map.get m' h) → IsTrue (set.contains (noted_in t m' n') h)
turned_kept false w a m' n n' h told e has held = cc
turned_kept true w a m' n n' h told e has held =
    let now = sym (contains_noted (merged w a) n h) ∙ has in
    let none : set.contains (unchecked_of n) h ≡ false = is_not (set.contains (unchecked_of n) h)
    (and_right (map.contains_key (merged w a) h) (not (set.contains (unchecked_of n) h)) now) in
    noted_now true m' n' h refl (ap (λ (x : Unchecked). set.contains (unchecked_of x) h) e ∙ turned_has n h
    ∙ or_none (set.contains n.fresh h) (set.contains n.earlier h) (sym (contains-union nat_list_cmp_total n.fresh n.earlier h) ∙ none)) held

-- what one of two sets has, and what the second alone has
pub first_has : (f e : SetOf) (q : Hash) → IsTrue (set.contains f q) → IsTrue (set.contains (set.union f e) q)
first_has f e q has = contains-union nat_list_cmp_total f e q ∙ or_left _ _ has

pub second_has : (f e : SetOf) (q : Hash) → set.contains f q ≡ false → set.contains e q ≡ set.contains (set.union f e) q
second_has f e q none = ap (λ (b : Bool). b || set.contains e q) (sym none) ∙ sym (contains-union nat_list_cmp_total f e q)
