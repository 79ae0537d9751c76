-- The table of the machine's sessions, as that of drafts changes. For proofs of other crates.
use Rattle.std.proofs.Common.{◌≡◌, ℕ, suc, Bool, true, false, cond, [], ◌∷◌, length, map, is_some, Option, None, Some, Result, Ok, Err}
use Rattle.std.proofs.Common.{refl, sym, ap, ◌∙◌, arith}
use Rattle.std.specs.Prelude.{OnErr}
use Rattle.std.specs.List.{All}
use Rattle.std.specs.Option.{option_map}
use Rattle.std.specs.Map.{values_of, lookup, set_value, remove_entry}
use Rattle.std.specs.BTreeMap.{is_at}
use Rattle.std.specs.Ordering.{match_ordering}
use Rattle.std.specs.declared.cmp.Ordering.{Ordering}
use Rattle.std.specs.declared.cmp.Ordering.TheVariants.{Less, Equal, Greater}
use Rattle.ledger_spec.specs.Maps.{ForActor, numbered_cmp, get_in, has_in, insert_in, set_in, remove_in}

pub on_err : {A E : Type 0} {P : Type 0} (r : Result A E) → P → OnErr r P
on_err (Ok x) p = tt
on_err (Err e) p = p

-- what is there isn't absent
pub not_both : {A : Type 0} (o : Option A) (x : A) → o ≡ None → o ≡ Some x → ⊥
not_both o x none some = let both : None ≡ Some x = sym none ∙ some in cc

-- an entry that is set to what it is
set_found : {A : Type 0} (test : ℕ × ℕ → Bool) (m : ForActor A) (d : A) → lookup test m ≡ Some d → set_value test m d ≡ m
set_found test [] d e = refl
set_found {A} test (e ∷ m) d is = by (test e.0) (set_found test m d) is
  where
    by : (b : Bool) → (lookup test m ≡ Some d → set_value test m d ≡ m) → cond b (Some e.1) (lookup test m) ≡ Some d
        → cond b ((e.0, d) ∷ m) (e ∷ set_value test m d) ≡ e ∷ m
    by true rest same = let at : d ≡ e.1 = cc in λ i. (e.0, at i) ∷ m
    by false rest same = λ i. e ∷ rest same i

pub set_same : {A : Type 0} (x : ℕ × ℕ) (m : ForActor A) (d d' : A) → get_in numbered_cmp m x ≡ Some d → d' ≡ d
    → set_in numbered_cmp m x d' ≡ m
set_same x m d d' is same = ap (λ e. set_in numbered_cmp m x e) same ∙ set_found (is_at (numbered_cmp x)) m d is

module _ {A B : Type 0} (f : A → B) where
  -- each value's image under its key
  abbrev pub over : ForActor A → ForActor B
  over m = map (λ e. (e.0, f e.1)) m

  over_lookup : (test : ℕ × ℕ → Bool) (m : ForActor A) → lookup test (over m) ≡ option_map f (lookup test m)
  over_lookup test [] = refl
  over_lookup test (e ∷ m) = by (test e.0) (over_lookup test m)
    where
      by : (b : Bool) → lookup test (over m) ≡ option_map f (lookup test m)
          → cond b (Some (f e.1)) (lookup test (over m)) ≡ option_map f (cond b (Some e.1) (lookup test m))
      by true rest = refl
      by false rest = rest

  pub over_get : (m : ForActor A) (x : ℕ × ℕ) → get_in numbered_cmp (over m) x ≡ option_map f (get_in numbered_cmp m x)
  over_get m x = over_lookup (is_at (numbered_cmp x)) m

  pub over_has : (m : ForActor A) (x : ℕ × ℕ) → has_in numbered_cmp (over m) x ≡ has_in numbered_cmp m x
  over_has m x = ap is_some (over_get m x) ∙ same (get_in numbered_cmp m x)
    where
      same : (o : Option A) → is_some (option_map f o) ≡ is_some o
      same None = refl
      same (Some a) = refl

  pub over_length : (m : ForActor A) → length (over m) ≡ length m
  over_length [] = refl
  over_length (e ∷ m) = ap suc (over_length m)

  pub over_insert : (m : ForActor A) (x : ℕ × ℕ) (a : A) → over (insert_in numbered_cmp m x a) ≡ insert_in numbered_cmp (over m) x (f a)
  over_insert [] x a = refl
  over_insert (e ∷ m) x a = by (numbered_cmp x e.0) (over_insert m x a)
    where
      by : (r : Ordering) → over (insert_in numbered_cmp m x a) ≡ insert_in numbered_cmp (over m) x (f a)
          → over (match_ordering r ((x, a) ∷ e ∷ m) ((e.0, a) ∷ m) (e ∷ insert_in numbered_cmp m x a))
          ≡ match_ordering r ((x, f a) ∷ (e.0, f e.1) ∷ over m) ((e.0, f a) ∷ over m)
          ((e.0, f e.1) ∷ insert_in numbered_cmp (over m) x (f a))
      by Less rest = refl
      by Equal rest = refl
      by Greater rest = λ i. (e.0, f e.1) ∷ rest i

  over_set_value : (test : ℕ × ℕ → Bool) (m : ForActor A) (a : A) → over (set_value test m a) ≡ set_value test (over m) (f a)
  over_set_value test [] a = refl
  over_set_value test (e ∷ m) a = by (test e.0) (over_set_value test m a)
    where
      by : (b : Bool) → over (set_value test m a) ≡ set_value test (over m) (f a)
          → over (cond b ((e.0, a) ∷ m) (e ∷ set_value test m a))
          ≡ cond b ((e.0, f a) ∷ over m) ((e.0, f e.1) ∷ set_value test (over m) (f a))
      by true rest = refl
      by false rest = λ i. (e.0, f e.1) ∷ rest i

  pub over_set : (m : ForActor A) (x : ℕ × ℕ) (a : A) → over (set_in numbered_cmp m x a) ≡ set_in numbered_cmp (over m) x (f a)
  over_set m x a = over_set_value (is_at (numbered_cmp x)) m a

  over_remove_entry : (test : ℕ × ℕ → Bool) (m : ForActor A) → over (remove_entry test m) ≡ remove_entry test (over m)
  over_remove_entry test [] = refl
  over_remove_entry test (e ∷ m) = by (test e.0) (over_remove_entry test m)
    where
      by : (b : Bool) → over (remove_entry test m) ≡ remove_entry test (over m)
          → over (cond b m (e ∷ remove_entry test m)) ≡ cond b (over m) ((e.0, f e.1) ∷ remove_entry test (over m))
      by true rest = refl
      by false rest = λ i. (e.0, f e.1) ∷ rest i

  pub over_remove : (m : ForActor A) (x : ℕ × ℕ) → over (remove_in numbered_cmp m x) ≡ remove_in numbered_cmp (over m) x
  over_remove m x = over_remove_entry (is_at (numbered_cmp x)) m

  pub over_values : (m : ForActor A) → values_of (over m) ≡ map f (values_of m)
  over_values [] = refl
  over_values (e ∷ m) = λ i. f e.1 ∷ over_values m i

-- images that agree on the values
pub over_same : {A B : Type 0} (f g : A → B) (m : ForActor A) → All (λ a. f a ≡ g a) (values_of m) → over f m ≡ over g m
over_same f g [] all = refl
over_same f g (e ∷ m) all =
    let first : f e.1 ≡ g e.1 = all 0 e.1 (omega arith) in
    let rest = over_same f g m (λ k d lt. all (suc k) d (omega (arith, lt))) in
    λ i. (e.0, first i) ∷ rest i
