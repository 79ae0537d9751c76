-- What is reached in a list of entries, and that an entry found in a part of a list is found in the list.
use Rattle.std.specs.Prelude.{◌≡◌, Bool, true, false, ◌&&◌, ◌||◌, List, [], ◌∷◌, map, Option, None, Some, cond, refl}
use Rattle.std.specs.List.{list_all, list_any, Contains, AllByRecursion}
use Rattle.std.proofs.lemmas.Map.Lookups.{exact_bytes}
use Rattle.std.specs.Ordering.{eq_by_cmp, is_eq}
use Rattle.std.specs.declared.cmp.Ordering.{Ordering}
use Rattle.std.specs.declared.cmp.Ordering.TheVariants.{Less, Equal, Greater}
use Rattle.std.proofs.Common.{ap, sym, ◌∙◌, subst, true≢false}
use Rattle.ledger_spec.specs.Maps.{hash_cmp}
use Rattle.ledger_spec.specs.Bytes.{Bytes, Hash, Lookup}
use Rattle.ledger_spec.specs.Reach.{Reach, root, kid, kids}
use Rattle.std.proofs.lemmas.Map.Views.{Contains-from_any}
use Rattle.ledger_spec.proofs.shared.ReachLaws.{reach_joins}
use Rattle.ledger_machine.proofs.RowSteps.{Entries, in_list}
use Rattle.std.proofs.lemmas.List.Sums.{AllPass-from_list_all}
use Rattle.std.proofs.lemmas.List.Elements.{All-contains}

-- the hash is one of these
abbrev pub among : List Hash → Hash → Bool
among all h = list_any (eq_by_cmp hash_cmp h) all

pub first_passes : (a b : Bool) → (a && b) ≡ true → a ≡ true
first_passes true b e = refl
first_passes false b e = e

pub rest_pass : (a b : Bool) → (a && b) ≡ true → b ≡ true
rest_pass true b e = e
rest_pass false b e = absurd (true≢false (sym e))

-- what all of them pass, one of them passes
pub one_passes : (p : Hash → Bool) (q : Hash) (all : List Hash) → list_all p all ≡ true → among all q ≡ true → p q ≡ true
one_passes p q [] pass one = absurd (true≢false (sym one))
one_passes p q (x ∷ rest) pass one = by (hash_cmp q x) refl one (one_passes p q rest (rest_pass (p x) (list_all p rest) pass))
  where
    by : (o : Ordering) → hash_cmp q x ≡ o → (is_eq o || among rest q) ≡ true → (among rest q ≡ true → p q ≡ true) → p q ≡ true
    by Less is one later = later one
    by Equal is one later = ap p (exact_bytes q x is) ∙ first_passes (p x) (list_all p rest) pass
    by Greater is one later = later one

pub contained_passes : {X : Type 0} (p : X → Bool) (xs : List X) (x : X) → list_all p xs ≡ true → Contains xs x → p x ≡ true
contained_passes p xs x pass c = All-contains (λ y. p y ≡ true) xs x (AllPass-from_list_all p xs pass) c

-- the hashes that the form under a hash names
abbrev pub kids_under : Option Bytes → List Hash
kids_under None = []
kids_under (Some form) = kids form

-- nothing leads out of these hashes
abbrev pub is_closed : Lookup → List Hash → Bool
is_closed nodes all = list_all (λ h. list_all (among all) (kids_under (nodes h))) all

pub reach_within : (nodes : Lookup) (roots all : List Hash) {h : Hash} → list_all (among all) roots ≡ true
    → is_closed nodes all ≡ true → Reach nodes roots h → among all h ≡ true
reach_within nodes roots all {h = h} start closed (root named stored) = contained_passes (among all) roots h start named
reach_within nodes roots all {h = k} start closed (kid {h = h} {form = form} reached is named stored) =
    let inside : list_all (among all) (kids_under (nodes h)) ≡ true = one_passes (λ g. list_all (among all) (kids_under (nodes g)))
    h all closed (reach_within nodes roots all start closed reached) in
    contained_passes (among all) (kids form) k (subst (λ o. list_all (among all) (kids_under o) ≡ true) is inside) named

-- an entry that is found in a part of a list is found in the list
pub found_in_part : (part all : Entries) → AllByRecursion (λ e. in_list all e.0 ≡ Some e.1) part → (h : Hash) (form : Bytes)
    → in_list part h ≡ Some form → in_list all h ≡ Some form
found_in_part [] all are h form is = absurd cc
found_in_part (e ∷ part) all are h form is = by (hash_cmp h e.0) refl is (found_in_part part all are.1 h form)
  where
    by : (o : Ordering) → hash_cmp h e.0 ≡ o → cond (is_eq o) (Some e.1) (in_list part h) ≡ Some form
        → (in_list part h ≡ Some form → in_list all h ≡ Some form) → in_list all h ≡ Some form
    by Less same found later = later found
    by Equal same found later = ap (in_list all) (exact_bytes h e.0 same) ∙ are.0 ∙ found
    by Greater same found later = later found

-- where an entry is found, its hash is one of the entries'
pub found_among : (es : Entries) (h : Hash) (form : Bytes) → in_list es h ≡ Some form → among (map (λ e. e.0) es) h ≡ true
found_among [] h form is = absurd cc
found_among (e ∷ es) h form is = by (hash_cmp h e.0) is (found_among es h form)
  where
    by : (o : Ordering) → cond (is_eq o) (Some e.1) (in_list es h) ≡ Some form
        → (in_list es h ≡ Some form → among (map (λ e. e.0) es) h ≡ true) → (is_eq o || among (map (λ e. e.0) es) h) ≡ true
    by Less found later = later found
    by Equal found later = refl
    by Greater found later = later found

-- what holds of each of these hashes holds of one of them
pub at_one : (P : Hash → Type 0) (q : Hash) (all : List Hash) → AllByRecursion P all → among all q ≡ true → P q
at_one P q [] each one = absurd (true≢false (sym one))
at_one P q (x ∷ rest) each one = by (hash_cmp q x) refl one (at_one P q rest each.1)
  where
    by : (o : Ordering) → hash_cmp q x ≡ o → (is_eq o || among rest q) ≡ true → (among rest q ≡ true → P q) → P q
    by Less is one later = later one
    by Equal is one later = subst P (sym (exact_bytes q x is)) each.0
    by Greater is one later = later one

same_of : (x y : Hash) → eq_by_cmp hash_cmp x y ≡ true → x ≡ y
same_of x y e = by (hash_cmp x y) refl e
  where
    by : (o : Ordering) → hash_cmp x y ≡ o → is_eq o ≡ true → x ≡ y
    by Less is e = absurd (true≢false (sym e))
    by Equal is e = exact_bytes x y is
    by Greater is e = absurd (true≢false (sym e))

-- a hash that is found among these is one of them
pub in_these : (all : List Hash) (h : Hash) → among all h ≡ true → Contains all h
in_these all h one = Contains-from_any same_of h all one

-- and so is one of some that are all found among them
pub one_of : (some all : List Hash) → list_all (among all) some ≡ true → (h : Hash) → Contains some h → Contains all h
one_of some all are h c = in_these all h (contained_passes (among all) some h are c)

-- one of these that is stored is reached from them
pub reach_start : {nodes : Lookup} (from : List Hash) (h : Hash) (form : Bytes) → among from h ≡ true → nodes h ≡ Some form
    → Reach nodes from h
reach_start from h form one is = root (Contains-from_any same_of h from one) (form, is)

pub reach_kid : {nodes : Lookup} {from : List Hash} {h : Hash} (k : Hash) (form kid_form : Bytes) → Reach nodes from h
    → nodes h ≡ Some form → among (kids form) k ≡ true → nodes k ≡ Some kid_form → Reach nodes from k
reach_kid k form kid_form reached is one there = kid reached is (Contains-from_any same_of k (kids form) one) (kid_form, there)

-- what is reached from some of these is reached from all of them
pub reach_more : {nodes : Lookup} {h : Hash} (some all : List Hash) → list_all (among all) some ≡ true → Reach nodes some h
    → Reach nodes all h
reach_more some all are reached = reach_joins (λ r named stored. reach_start all r stored.0
    (contained_passes (among all) some r are named) stored.1) reached
