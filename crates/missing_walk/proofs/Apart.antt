-- Places that stand apart, as one of them gives way to those below it.
use Rattle.std.proofs.Common.{◌≡◌, ℕ, List, [], ◌∷◌, ◌++◌, refl, ap, ◌∙◌}
use Rattle.std.specs.List.{AllByRecursion}
use Rattle.std.proofs.lemmas.List.{append_assoc}
use Rattle.missing_walk.specs.Pending.{Pending, Part, Apart, AreApart}

pub all_join : {X : Type 0} (P : X → Type 0) (xs ys : List X) → AllByRecursion P xs → AllByRecursion P ys → AllByRecursion P (xs ++ ys)
all_join P [] ys a b = b
all_join P (x ∷ xs) ys a b = (a.0, all_join P xs ys a.1 b)

pub all_first : {X : Type 0} (P : X → Type 0) (xs ys : List X) → AllByRecursion P (xs ++ ys) → AllByRecursion P xs
all_first P [] ys a = tt
all_first P (x ∷ xs) ys a = (a.0, all_first P xs ys a.1)

pub all_second : {X : Type 0} (P : X → Type 0) (xs ys : List X) → AllByRecursion P (xs ++ ys) → AllByRecursion P ys
all_second P [] ys a = a
all_second P (x ∷ xs) ys a = all_second P xs ys a.1

-- one of the list gives way to others
pub met_step : (P : Pending → Type 0) (ms : List Pending) (p : Pending) (ks ps : List Pending) → AllByRecursion P (ms ++ p ∷ ps)
    → (P p → AllByRecursion P ks) → AllByRecursion P (ms ++ (ks ++ ps))
met_step P [] p ks ps all below = all_join P ks ps (below all.0) all.1
met_step P (m ∷ ms) p ks ps all below = (all.0, met_step P ms p ks ps all.1 below)

-- what is apart from each of two lists
cross : (ks ps : List Pending) → AllByRecursion (λ q. AllByRecursion (λ k. Apart k q) ks) ps
    → AllByRecursion (λ k. AllByRecursion (Apart k) ps) ks
cross [] ps a = tt
cross (k ∷ ks) ps a = (heads ps a, cross ks ps (tails ps a))
  where
    heads : (qs : List Pending) → AllByRecursion (λ q. AllByRecursion (λ j. Apart j q) (k ∷ ks)) qs → AllByRecursion (Apart k) qs
    heads [] b = tt
    heads (q ∷ qs) b = (b.0.0, heads qs b.1)

    tails : (qs : List Pending) → AllByRecursion (λ q. AllByRecursion (λ j. Apart j q) (k ∷ ks)) qs
        → AllByRecursion (λ q. AllByRecursion (λ j. Apart j q) ks) qs
    tails [] b = tt
    tails (q ∷ qs) b = (b.0.1, tails qs b.1)

joined : (ks ps : List Pending) → AreApart ks → AllByRecursion (λ k. AllByRecursion (Apart k) ps) ks → AreApart ps → AreApart (ks ++ ps)
joined [] ps a c b = b
joined (k ∷ ks) ps a c b = (all_join (Apart k) ks ps a.0 c.0, joined ks ps a.1 c.1 b)

each : (p : Pending) (ks ps : List Pending) → ((q : Pending) → Apart p q → AllByRecursion (λ k. Apart k q) ks)
    → AllByRecursion (Apart p) ps → AllByRecursion (λ q. AllByRecursion (λ k. Apart k q) ks) ps
each p ks [] first a = tt
each p ks (q ∷ qs) first a = (first q a.0, each p ks qs first a.1)

pub apart_step : (ms : List Pending) (p : Pending) (ks ps : List Pending)
    → ((q : Pending) → Apart p q → AllByRecursion (λ k. Apart k q) ks)
    → ((q : Pending) → Apart q p → AllByRecursion (Apart q) ks)
    → AreApart ks → AreApart (ms ++ p ∷ ps) → AreApart (ms ++ (ks ++ ps))
apart_step [] p ks ps first second own all = joined ks ps own (cross ks ps (each p ks ps first all.0)) all.1
apart_step (m ∷ ms) p ks ps first second own all =
    (met_step (Apart m) ms p ks ps all.0 (second m), apart_step ms p ks ps first second own all.1)

-- a path that parts from another still does so further below
pub part_below : (p q : List ℕ) (c : ℕ) → Part p q → Part (p ++ c ∷ []) q
part_below p q c d = record {
  front = d.front;
  a = d.a;
  b = d.b;
  rest = d.rest ++ c ∷ [];
  other = d.other;
  differ = d.differ;
  first = ap (λ l. l ++ c ∷ []) d.first ∙ append_assoc d.front (d.a ∷ d.rest) (c ∷ []);
  second = d.second;
}

pub part_below_second : (p q : List ℕ) (c : ℕ) → Part p q → Part p (q ++ c ∷ [])
part_below_second p q c d = record {
  front = d.front;
  a = d.a;
  b = d.b;
  rest = d.rest;
  other = d.other ++ c ∷ [];
  differ = d.differ;
  first = d.first;
  second = ap (λ l. l ++ c ∷ []) d.second ∙ append_assoc d.front (d.b ∷ d.other) (c ∷ []);
}

pub part_kids : (path : List ℕ) (a b : ℕ) → (a ≡ b → ⊥) → Part (path ++ a ∷ []) (path ++ b ∷ [])
part_kids path a b differ =
    record { front = path; a = a; b = b; rest = []; other = []; differ = differ; first = refl; second = refl }
