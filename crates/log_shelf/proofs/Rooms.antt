-- The files of a room in memory, by their numbers.
use Rattle.std.proofs.Common.{◌≡◌, ◌≢◌, ◌⊎◌, inl, inr, ◌∙◌, sym, ap, refl, ℕ, List, [], ◌∷◌, Bool, true, false, cond, Some}
use Rattle.std.specs.declared.cmp.Ordering.{Ordering}
use Rattle.std.specs.declared.cmp.Ordering.TheVariants.{Less, Equal, Greater}
use Rattle.std.specs.Ordering.{nat_cmp, is_eq}
use Rattle.std.specs.Cmp.{nat_cmp_total}
use Rattle.std.specs.BTreeMap.{is_at}
use Rattle.std.specs.Map.{lookup}
use Rattle.std.specs.Cmp.{eq_by_cmp_equiv}
use Rattle.std.specs.Ordering.{eq_by_cmp}
use Rattle.std.specs.FinMap as map
use Rattle.std.specs.FinMap.{find, get-from_entries, nat_cmp-IsAntisymmetric, get-insert, same_map}
use Rattle.std.proofs.lemmas.Bool.{cases_Bool}
use Rattle.log_shelf.specs.Rooms.{file_in, files_of}

find_lookup : (es : List (ℕ × List ℕ)) (k : ℕ) → find nat_cmp k es ≡ lookup (is_at (nat_cmp k)) es
find_lookup [] k = refl
find_lookup (e ∷ es) k = ap (cond (is_eq (nat_cmp k e.0)) (Some e.1)) (find_lookup es k)

pub file-entries : (es : List (ℕ × List ℕ)) (k : ℕ) → file_in (files_of es) k ≡ lookup (is_at (nat_cmp k)) es
file-entries es k = get-from_entries nat_cmp_total es k ∙ find_lookup es k

is_equal : (r : Ordering) → is_eq r ≡ true → r ≡ Equal
is_equal Less e = absurd (cc)
is_equal Equal e = refl
is_equal Greater e = absurd (cc)

not_at : (k n : ℕ) → n ≢ k → (is_at (nat_cmp k) n ≡ true) ⊎ (is_at (nat_cmp k) n ≡ false) → is_at (nat_cmp k) n ≡ false
not_at k n other (inl e) = absurd (other (sym (nat_cmp-IsAntisymmetric k n (is_equal (nat_cmp k n) e))))
not_at k n other (inr e) = e

-- another number is not the one of the query
pub at_other : (k n : ℕ) → n ≢ k → is_at (nat_cmp k) n ≡ false
at_other k n other = not_at k n other (cases_Bool (is_at (nat_cmp k) n))

-- an entry that was set
pub insert-files : (es ns : List (ℕ × List ℕ)) (k : ℕ) (v : List ℕ)
    → ((q : ℕ) → lookup (is_at (nat_cmp q)) ns ≡ cond (is_at (nat_cmp k) q) (Some v) (lookup (is_at (nat_cmp q)) es))
    → files_of ns ≡ map.insert (files_of es) k v
insert-files es ns k v h =
    same_map nat_cmp_total nat_cmp-IsAntisymmetric _ _ (λ q.
    file-entries ns q ∙ h q ∙ ap (λ (b : Bool). cond b (Some v) (lookup (is_at (nat_cmp q)) es)) ((eq_by_cmp_equiv nat_cmp_total).symm k q)
    ∙ sym (get-insert nat_cmp_total (files_of es) k v q ∙ ap (cond (eq_by_cmp nat_cmp q k) (Some v)) (file-entries es q)))
