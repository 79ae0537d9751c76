-- The entries of a map in order, of which the first is taken out.
use Rattle.std.proofs.Common.{◌≡◌, ◌∙◌, sym, ap, subst, Bool, true, false, ◌&&◌, List, [], ◌∷◌, map}
use Rattle.std.specs.Prelude.{T, Option, Some, None, IfSome, IfNone, IsSome, ◌↔◌, ◌<◌}
use Rattle.std.proofs.Common.{length, arith}
use Rattle.std.specs.BTreeMap.{BTreeMap, IsOrdered, keys, btree_map_len}
use Rattle.std.proofs.lemmas.List.Elements.{All-head, All-tail}
use Rattle.std.specs.List.{All, AllByRecursion}
use Rattle.std.specs.List.Sorted.{IsStrictlySortedBy}
use Rattle.std.specs.declared.cmp.Ordering.TheVariants.{Less}
use Rattle.std.specs.Ordering.{is_lt}
use Rattle.std.specs.Cmp.Lexicographic.{nat_list_cmp_total}
use Rattle.std.specs.FinMap as finite
use Rattle.std.specs.FinMap.{get-from_entries}
use Rattle.std.specs.FinMap.Entries.{below_all, is_sorted, same_entries}
use Rattle.ledger_spec.specs.Maps.{hash_cmp}
use Rattle.ledger_spec.specs.Bytes.{Hash, Bytes}
use Rattle.node_backend.proofs.shared.Tables.{hashes_antisymmetric}

both : (a b : Bool) → T a → T b → T (a && b)
both true b p q = q
both false b p q = absurd p

below : (h : Hash) (es : List (Hash × Bytes)) → AllByRecursion (λ q. hash_cmp h q ≡ Less) (map (λ e. e.0) es) → T (below_all hash_cmp h es)
below h [] all = tt
below h (e ∷ es) all =
    both (is_lt (hash_cmp h e.0)) (below_all hash_cmp h es) (subst (λ r. T (is_lt r)) (sym all.0) tt) (below h es all.1)

-- entries whose keys rise
pub sorted_entries : (es : List (Hash × Bytes)) → IsStrictlySortedBy hash_cmp (map (λ e. e.0) es) → T (is_sorted hash_cmp es)
unfolding IsStrictlySortedBy
sorted_entries [] rise = tt
sorted_entries (e ∷ es) rise = both (below_all hash_cmp e.0 es) (is_sorted hash_cmp es) (below e.0 es rise.0) (sorted_entries es rise.1)

below_each : (h : Hash) (es : List (Hash × Bytes)) → All (λ q. hash_cmp h q ≡ Less) (map (λ e. e.0) es) → T (below_all hash_cmp h es)
below_each h [] all = tt
below_each h (e ∷ es) all =
    both (is_lt (hash_cmp h e.0)) (below_all hash_cmp h es)
    (subst (λ r. T (is_lt r)) (sym (All-head (λ q. hash_cmp h q ≡ Less) e.0 (map (λ x. x.0) es) all)) tt)
    (below_each h es (All-tail (λ q. hash_cmp h q ≡ Less) e.0 (map (λ x. x.0) es) all))

-- entries whose keys rise are those of the map that they make
entries-from : (es : List (Hash × Bytes)) → T (is_sorted hash_cmp es) → finite.entries (finite.from_entries {R = hash_cmp} es) ≡ es
entries-from es rise =
    let made = finite.from_entries {R = hash_cmp} es in
    same_entries hash_cmp nat_list_cmp_total hashes_antisymmetric (finite.entries made) es (finite.entries_sorted made) rise
    (λ q. sym (finite.get-entries made q) ∙ get-from_entries nat_list_cmp_total es q)

-- the first entry was taken out
pub first_out : (old new : List (Hash × Bytes)) (e : Hash × Bytes) → old ≡ e ∷ new → All (λ q. hash_cmp e.0 q ≡ Less) (map (λ x. x.0) new)
    → IsStrictlySortedBy hash_cmp (map (λ x. x.0) new)
    → finite.entries (finite.from_entries {R = hash_cmp} old) ≡ e ∷ finite.entries (finite.from_entries {R = hash_cmp} new)
first_out old new e is above rise =
    let rest : T (is_sorted hash_cmp new) = sorted_entries new rise in
    ap (λ (es : List (Hash × Bytes)). finite.entries (finite.from_entries {R = hash_cmp} es)) is
    ∙ (entries-from (e ∷ new) (both (below_all hash_cmp e.0 new) (is_sorted hash_cmp new) (below_each e.0 new above) rest)
    ∙ ap (λ (es : List (Hash × Bytes)). e ∷ es) (sym (entries-from new rest)))

-- the same of the answer
pub popped : (r : Option (Hash × Bytes)) (old new : BTreeMap Hash Bytes) → IfSome r (λ e. old.entries ≡ e ∷ new.entries)
    → IfSome r (λ e. All (λ q. hash_cmp e.0 q ≡ Less) (keys new)) → IsOrdered hash_cmp new
    → IfSome r (λ e. finite.entries (finite.from_entries {R = hash_cmp} old.entries)
    ≡ e ∷ finite.entries (finite.from_entries {R = hash_cmp} new.entries))
popped None old new out above rise = tt
popped (Some e) old new out above rise = first_out old.entries new.entries e out above rise

none_there : IsSome {T = Hash × Bytes} None → ⊥
none_there e = cc

empty_made : (es : List (Hash × Bytes)) → (0 < length es → ⊥) → finite.entries (finite.from_entries {R = hash_cmp} es) ≡ []
empty_made [] none = entries-from [] tt
empty_made (e ∷ es) none = absurd (none (omega arith))

pub popped_none : (r : Option (Hash × Bytes)) (old : BTreeMap Hash Bytes) → IsSome r ↔ (0 < btree_map_len old)
    → IfNone r (finite.entries (finite.from_entries {R = hash_cmp} old.entries) ≡ [])
popped_none (Some e) old there = tt
popped_none None old there = empty_made old.entries (λ some. none_there (there.1 some))
