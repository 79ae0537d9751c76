-- Finite maps from hashes: what a map of entries answers, and a change that is taken back.
use Rattle.std.proofs.Common.{◌≡◌, ℕ, List, [], ◌∷◌, Bool, cond, Option, Some, None, Result, Ok, Err, OnOk, OnErr, refl, sym, subst}
use Rattle.std.proofs.Common.{◌∙◌, ap, rules}
use Rattle.std.specs.declared.cmp.Ordering.TheVariants.{Equal}
use Rattle.std.specs.Ordering.{nat_cmp, eq_by_cmp}
use Rattle.std.specs.Cmp.{eq_by_cmp_equiv}
use Rattle.std.specs.Cmp.Lexicographic.{slice_cmp, nat_list_cmp_total}
use Rattle.std.specs.Option.{IsSome}
use Rattle.std.specs.declared.ops.Bound.{Bound}
use Rattle.std.specs.declared.ops.Bound.TheVariants.{Excluded, Unbounded}
use Rattle.std.specs.BTreeMap.{BTreeMap, is_at}
use Rattle.std.specs.BTreeMap.Range.{IsInRange, IsFromStart, IsRangeOf}
use Rattle.std.specs.Map.{lookup}
use Rattle.std.specs.FinMap as map
use Rattle.std.specs.FinMap.{gets, get-remove, same_map}
use Rattle.ledger_spec.specs.Maps.{hash_cmp, MapOf}
use Rattle.ledger_spec.specs.Bytes.{Hash}
use Rattle.node_backend.specs.Order.{IsAfter, IsNext}
use Rattle.node_backend.proofs.shared.Tables.{get_entries, hashes_antisymmetric}

-- an entry that was taken out
pub remove_entries : {V : Type 0} (es ns : List (List ℕ × V)) (k : List ℕ)
    → ((q : List ℕ) → lookup (is_at (slice_cmp nat_cmp q)) ns
    ≡ cond (is_at (slice_cmp nat_cmp k) q) None (lookup (is_at (slice_cmp nat_cmp q)) es))
    → map.from_entries {R = slice_cmp nat_cmp} ns ≡ map.remove (map.from_entries es) k
remove_entries {V} es ns k h =
    same_map nat_list_cmp_total hashes_antisymmetric _ _ (λ q.
    get_entries ns q ∙ h q ∙ ap (λ (b : Bool). cond b None (lookup (is_at (slice_cmp nat_cmp q)) es))
    ((eq_by_cmp_equiv nat_list_cmp_total).symm k q)
    ∙ sym (get-remove nat_list_cmp_total (map.from_entries es) k q
    ∙ ap (cond (eq_by_cmp (slice_cmp nat_cmp) q k) None) (get_entries es q)))

-- hashes that compare alike are one
pub same_hash : (x y : List ℕ) → slice_cmp nat_cmp x y ≡ Equal → x ≡ y
same_hash x y h = hashes_antisymmetric x y h

-- a value that was set and set back
set_back : {V : Type 0} (m : MapOf V) (k q : Hash) (v w : V) → map.get m k ≡ Some v
    → map.get (map.insert (map.insert m k w) k v) q ≡ map.get m q
set_back m k q v w h = grind (gets, rules, h, same_hash)

pub insert-back : {V : Type 0} (m : MapOf V) (k : Hash) (v w : V) → map.get m k ≡ Some v → map.insert (map.insert m k w) k v ≡ m
insert-back m k v w h = same_map nat_list_cmp_total hashes_antisymmetric _ _ (λ q. set_back m k q v w h)

take_back : {V : Type 0} (m : MapOf V) (k q : Hash) (w : V) → map.get m k ≡ None
    → map.get (map.remove (map.insert m k w) k) q ≡ map.get m q
take_back m k q w h = grind (gets, rules, h, same_hash)

pub remove-back : {V : Type 0} (m : MapOf V) (k : Hash) (w : V) → map.get m k ≡ None → map.remove (map.insert m k w) k ≡ m
remove-back m k w h = same_map nat_list_cmp_total hashes_antisymmetric _ _ (λ q. take_back m k q w h)

-- where a range after a hash starts
abbrev pub start_after : Option Hash → Bound Hash
start_after None = Unbounded
start_after (Some last) = Excluded last

in_range : (after : Option Hash) (h : Hash) → IsAfter after h → IsInRange hash_cmp (start_after after) Unbounded h
in_range None h is = (tt, tt)
in_range (Some last) h is = (is, tt)

comes_after : (after : Option Hash) (h : Hash) → IsFromStart hash_cmp (start_after after) h → IsAfter after h
comes_after None h is = tt
comes_after (Some last) h is = is

is_held : {V : Type 0} (b : BTreeMap Hash V) (h : Hash) (v : V) → map.get (map.from_entries {R = hash_cmp} b.entries) h ≡ Some v
    → IsSome (map.get (map.from_entries {R = hash_cmp} b.entries) h)
is_held b h v is = subst IsSome (sym is) refl

pub none_next : {V : Type 0} (b : BTreeMap Hash V) (after : Option Hash) → IsRangeOf hash_cmp (start_after after) Unbounded b []
    → IsNext (map.from_entries b.entries) after None
none_next b after range h is = get_entries b.entries h ∙ range.5 refl h (in_range after h is)

pub first_next : {V : Type 0} (b : BTreeMap Hash V) (after : Option Hash) (e : Hash × V) (rest : List (Hash × V))
    → IsRangeOf hash_cmp (start_after after) Unbounded b (e ∷ rest)
    → IsNext (map.from_entries b.entries) after (Some e.0)
first_next b after e rest range = (
  comes_after after e.0 range.1.0.0,
  is_held b e.0 e.1 (get_entries b.entries e.0 ∙ range.1.1),
  λ h is some. range.2 h (in_range after h is) (subst IsSome (get_entries b.entries h) some),
)

-- a call that can't have failed
pub ok_facts : {T E P Q : Type 0} (r : Result T E) → OnOk r P → OnErr r Q → (Q → ⊥) → P
ok_facts (Ok x) p q n = p
ok_facts (Err e) p q n = absurd (n q)

-- what was set is there
pub get-set : {V : Type 0} (m : MapOf V) (k : Hash) (v : V) → map.get (map.insert m k v) k ≡ Some v
get-set m k v = grind (gets, rules)
