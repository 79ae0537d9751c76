-- A map of entries answers what the finite map of them does, also after an insertion. For proofs of other crates.
use Rattle.std.proofs.Common.{◌≡◌, ℕ, List, [], ◌∷◌, Bool, cond, Some, refl, sym, ◌∙◌, ap}
use Rattle.std.specs.Ordering.{nat_cmp, is_eq, eq_by_cmp}
use Rattle.std.specs.Cmp.{eq_by_cmp_equiv}
use Rattle.std.specs.Cmp.Lexicographic.{slice_cmp, nat_list_cmp_total}
use Rattle.std.specs.BTreeMap.{is_at}
use Rattle.std.specs.Map.{lookup}
use Rattle.std.specs.FinMap as map
use Rattle.std.specs.FinMap.{find, get-from_entries, get-insert, same_map, IsAntisymmetric, nat_cmp-IsAntisymmetric}
use Rattle.std.specs.FinMap.{slice_cmp-IsAntisymmetric}

pub hashes_antisymmetric : IsAntisymmetric (slice_cmp nat_cmp)
hashes_antisymmetric = slice_cmp-IsAntisymmetric nat_cmp-IsAntisymmetric

find_lookup : {V : Type 0} (es : List (List ℕ × V)) (k : List ℕ) → find (slice_cmp nat_cmp) k es ≡ lookup (is_at (slice_cmp nat_cmp k)) es
find_lookup [] k = refl
find_lookup (e ∷ es) k = ap (cond (is_eq (slice_cmp nat_cmp k e.0)) (Some e.1)) (find_lookup es k)

pub get_entries : {V : Type 0} (es : List (List ℕ × V)) (k : List ℕ)
    → map.get (map.from_entries {R = slice_cmp nat_cmp} es) k ≡ lookup (is_at (slice_cmp nat_cmp k)) es
get_entries es k = get-from_entries nat_list_cmp_total es k ∙ find_lookup es k

pub insert_entries : {V : Type 0} (es ns : List (List ℕ × V)) (k : List ℕ) (v : V)
    → ((q : List ℕ) → lookup (is_at (slice_cmp nat_cmp q)) ns
    ≡ cond (is_at (slice_cmp nat_cmp k) q) (Some v) (lookup (is_at (slice_cmp nat_cmp q)) es))
    → map.from_entries {R = slice_cmp nat_cmp} ns ≡ map.insert (map.from_entries es) k v
insert_entries {V} es ns k v h =
    same_map nat_list_cmp_total hashes_antisymmetric _ _ (λ q.
    get_entries ns q ∙ h q ∙ ap (λ (b : Bool). cond b (Some v) (lookup (is_at (slice_cmp nat_cmp q)) es))
    ((eq_by_cmp_equiv nat_list_cmp_total).symm k q)
    ∙ sym (get-insert nat_list_cmp_total (map.from_entries es) k v q
    ∙ ap (cond (eq_by_cmp (slice_cmp nat_cmp) q k) (Some v)) (get_entries es q)))
