-- Whether a key comes behind those of all items, and how many there are. For proofs of other crates.
use Rattle.std.proofs.Common.{◌≡◌, ℕ, ◌+◌, ◌-◌, ◌^◌, Bool, true, false, is_some, [], ◌∷◌, ◌++◌, Option, None, Some}
use Rattle.std.proofs.Common.{refl, sym, ap, ◌∙◌, arith, length-append, min}
use Rattle.std.proofs.lemmas.Bool.{and_parts, and_from, false≢true}
use Rattle.std.specs.List.{AllByRecursion}
use Rattle.std.specs.List.Sorted.{IsStrictlySortedBy}
use Rattle.std.specs.Map.{keys_of}
use Rattle.std.specs.declared.cmp.Ordering.{Ordering}
use Rattle.std.specs.declared.cmp.Ordering.TheVariants.{Less, Equal, Greater}
use Rattle.ledger_spec.specs.Bytes.{Bytes, Hash, Items}
use Rattle.ledger_spec.specs.Maps.{hash_cmp, IsMap}
use Rattle.ledger_spec.specs.Tree.{Entry}
use Rattle.tree_laws.proofs.shared.Orders.{map_append, all_weaker}
use Rattle.root_pass.specs.Rows.{IsBehind}
use Rattle.root_pass.specs.Passed.{IsLast}
use Rattle.audit_core.specs.Said.{is_before, is_behind, last_key, items_or_none}
use Rattle.audit_core.specs.Verdicts.{counted}

less_from : (o : Ordering) → is_before o ≡ true → o ≡ Less
less_from Less is = refl
less_from Equal is = absurd (false≢true is)
less_from Greater is = absurd (false≢true is)

pub behind_true : (items : Items) (key : Hash) → IsBehind items key → is_behind items key ≡ true
behind_true [] key all = refl
behind_true (e ∷ items) key all =
    and_from (is_before (hash_cmp e.0 key)) (is_behind items key) (ap is_before all.0) (behind_true items key all.1)

pub behind_from : (items : Items) (key : Hash) → is_behind items key ≡ true → IsBehind items key
behind_from [] key is = tt
behind_from (e ∷ items) key is =
    let both = and_parts (is_before (hash_cmp e.0 key)) (is_behind items key) is in
    (less_from (hash_cmp e.0 key) both.0, behind_from items key both.1)

pub behind_false : (items : Items) (key : Hash) → (IsBehind items key → ⊥) → is_behind items key ≡ false
behind_false items key not_all = by (is_behind items key) refl
  where
    by : (b : Bool) → is_behind items key ≡ b → is_behind items key ≡ false
    by false is = is
    by true is = absurd (not_all (behind_from items key is))

last_key_append : (items : Items) (e : Entry) → last_key (items ++ e ∷ []) ≡ e.0
last_key_append [] e = refl
last_key_append (a ∷ []) e = refl
last_key_append (a ∷ b ∷ items) e = last_key_append (b ∷ items) e

-- the last item's key
pub last_key_is : (items : Items) (key : Hash) → IsLast items key → last_key items ≡ key
last_key_is items key is = ap last_key is.items_are ∙ last_key_append is.front (key, is.bytes)

pub counted_more : (items : Items) (e : Entry) (n m : ℕ) → n ≡ counted items → m ≡ min (n + 1) (2 ^ 64 - 1) → m ≡ counted (items ++ e ∷ [])
counted_more items e n m was is = omega (arith, was, is, length-append items (e ∷ []))

-- what is said of items that may not be given
pub none_given : (o : Option Items) → is_some o ≡ false → o ≡ None
none_given None is = refl
none_given (Some items) is = absurd (false≢true (sym is))

pub some_given : (o : Option Items) → is_some o ≡ true → o ≡ Some (items_or_none o)
some_given None is = absurd (false≢true is)
some_given (Some items) is = refl

-- a key behind all rises
pub rises_push : (items : Items) (e : Entry) → IsMap hash_cmp items → IsBehind items e.0 → IsMap hash_cmp (items ++ e ∷ [])
unfolding IsStrictlySortedBy
rises_push items e rising behind =
    map_append items (e ∷ []) rising (tt, tt)
    (all_weaker (λ (f : Entry). hash_cmp f.0 e.0 ≡ Less) (λ (f : Entry). AllByRecursion (λ (h : Entry). hash_cmp f.0 h.0 ≡ Less) (e ∷ []))
    (λ f less. (less, tt)) items behind)

pub none_rises : IsMap {X = Bytes} hash_cmp []
unfolding IsStrictlySortedBy
none_rises = tt

-- a key in a map that rises comes behind those before it
pub behind_in : (xs ys : Items) (e : Entry) → IsMap hash_cmp (xs ++ e ∷ ys) → IsBehind xs e.0
unfolding IsStrictlySortedBy
behind_in [] ys e rising = tt
behind_in (x ∷ xs) ys e rising = (at xs rising.0, behind_in xs ys e rising.1)
  where
    at : (zs : Items) → AllByRecursion (λ k. hash_cmp x.0 k ≡ Less) (keys_of (zs ++ e ∷ ys)) → hash_cmp x.0 e.0 ≡ Less
    at [] all = all.0
    at (z ∷ zs) all = at zs all.1
