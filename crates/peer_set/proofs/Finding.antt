-- What an index finds through a change.
use Rattle.std.proofs.Common.{◌≡◌, ◌∙◌, ◌<◌, ◌≤◌, ◌+◌, ◌-◌, ◌&&◌, ℕ, List, [], ◌∷◌, ◌++◌, length, take, drop, get_or, Bool}
use Rattle.std.proofs.Common.{true, false, cond, nat_lt, Option, Some, None, refl, sym, ap, subst, inl, inr, arith}
use Rattle.std.specs.List.{All, Contains, list_any}
use Rattle.std.specs.BTreeMap.{is_at}
use Rattle.std.specs.Cmp.{eq_by_cmp_equiv}
use Rattle.std.specs.Cmp.Lexicographic.{nat_list_cmp_total}
use Rattle.std.specs.Ordering.{eq_by_cmp}
use Rattle.std.proofs.lemmas.Bool.{and_parts, and_from, ltb-true, ltb-false, lt-ltb, le-ltb, cases_Bool}
use Rattle.std.proofs.lemmas.Bool.Decides.{same_from_decides}
use Rattle.std.proofs.lemmas.List.{take_more, take-take, take-append-drop, length-append, get_or_append_left}
use Rattle.std.proofs.lemmas.List.{get_or-append_right, get_or_read}
use Rattle.std.proofs.lemmas.List.Elements.{All-push, All-take, All-contains, Contains-append_left, Contains-push_cases}
use Rattle.std.proofs.lemmas.Map.Lookups.{exact_bytes}
use Rattle.std.proofs.lemmas.Map.Views.{tells_apart, Contains-from_any, list_any-from_Contains}
use Rattle.ledger_spec.specs.declared.Place.{Place}
use Rattle.ledger_spec.specs.Maps.{ForHash, hash_cmp, get_in}
use Rattle.ledger_spec.specs.Bytes.{Bytes}
use Rattle.ledger_spec.specs.Peers.{same_place}
use Rattle.peer_set.specs.Keys.{key_of, IsPlace}
use Rattle.peer_set.specs.Finding.{stands_at, Finds}
use Rattle.peer_set.proofs.Keys.{place_exact, place_refl, places_equiv, key_exact}

-- a place that stands somewhere is among all
among : (all : List Place) (p : Place) (at : Option ℕ) → stands_at all p at ≡ true → Contains all p
among all p None e = absurd (cc)
among all p (Some i) e =
    let parts = and_parts (nat_lt i (length all)) (same_place p (get_or all i p)) e in
    (i, ltb-true i (length all) parts.0, sym (place_exact p (get_or all i p) parts.1))

stands : (all : List Place) (p : Place) (i : ℕ) → i < length all → get_or all i p ≡ p → stands_at all p (Some i) ≡ true
stands all p i lt is =
    and_from (nat_lt i (length all)) (same_place p (get_or all i p)) (lt-ltb i (length all) lt)
    (subst (λ (q : Place). same_place p q ≡ true) (sym is) (place_refl p))

-- looking a place up tells whether it is among all
pub looked_up : (index : ForHash ℕ) (all : List Place) (p : Place) → Finds index all all
    → stands_at all p (get_in hash_cmp index (key_of p)) ≡ list_any (same_place p) all
looked_up index all p finds =
    same_from_decides (stands_at all p (get_in hash_cmp index (key_of p))) (list_any (same_place p) all)
    (among all p (get_in hash_cmp index (key_of p)), finds.found p)
    (Contains-from_any place_exact p all, list_any-from_Contains places_equiv p all)

-- what the code finds: a position in range, one past the end, none
module _ (index : ForHash ℕ) (all : List Place) (p : Place) (finds : Finds index all all) where
  pub found_there : (at : ℕ) (x : Place) (r : Bool) → get_in hash_cmp index (key_of p) ≡ Some at → at < length all → x ≡ get_or all at x
      → r ≡ same_place p x → r ≡ list_any (same_place p) all
  found_there at x r held lt is e =
      let here : stands_at all p (Some at) ≡ r =
      ap (λ (b : Bool). b && same_place p (get_or all at p)) (lt-ltb at (length all) lt)
      ∙ ap (same_place p) (sym (get_or_read all at x lt is p)) ∙ sym e in
      sym here ∙ ap (stands_at all p) (sym held) ∙ looked_up index all p finds

  pub found_past : (at : ℕ) → get_in hash_cmp index (key_of p) ≡ Some at → length all ≤ at → false ≡ list_any (same_place p) all
  found_past at held le =
      let past : false ≡ stands_at all p (Some at) =
      ap (λ (b : Bool). b && same_place p (get_or all at p)) (sym (le-ltb at (length all) le)) in
      past ∙ ap (stands_at all p) (sym held) ∙ looked_up index all p finds

  pub found_none : get_in hash_cmp index (key_of p) ≡ None → false ≡ list_any (same_place p) all
  found_none none = ap (stands_at all p) (sym none) ∙ looked_up index all p finds

-- ---- fewer of the places
fewer : (index : ForHash ℕ) (all some few : List Place) → Finds index all some → ((p : Place) → Contains few p → Contains some p)
    → All IsPlace few → Finds index all few
fewer index all some few finds within are = record { found = λ p is. finds.found p (within p is); places = are }

pub first_ones : (index : ForHash ℕ) (all : List Place) (n i : ℕ) → n ≤ i → Finds index all (take i all) → Finds index all (take n all)
first_ones index all n i le finds =
    let cut : take n (take i all) ≡ take n all = take-take n i all le in
    let F : List Place → Type 0 = λ few. Finds index all few in
    subst F cut (fewer index all (take i all) (take n (take i all)) finds
    (λ p is. subst (λ (ps : List Place). Contains ps p) (take-append-drop n (take i all))
    (Contains-append_left (take n (take i all)) (drop n (take i all)) p is))
    (All-take IsPlace n (take i all) finds.places))

-- ---- more places behind them
in_front : (all more : List Place) (p : Place) (at : Option ℕ) → stands_at all p at ≡ true → stands_at (all ++ more) p at ≡ true
in_front all more p None e = absurd (cc)
in_front all more p (Some i) e =
    let parts = and_parts (nat_lt i (length all)) (same_place p (get_or all i p)) e in
    let lt : i < length all = ltb-true i (length all) parts.0 in
    stands (all ++ more) p i (omega (arith, lt, length-append all more))
    (get_or_append_left all more p i lt ∙ sym (place_exact p (get_or all i p) parts.1))

pub widened : (index : ForHash ℕ) (all more : List Place) → Finds index all all → Finds index (all ++ more) all
widened index all more finds = record {
  found = λ p is. in_front all more p (get_in hash_cmp index (key_of p)) (finds.found p is);
  places = finds.places;
}

-- places that were not there before are not where these stand
behind : (all more : List Place) (p : Place) → All (λ q. list_any (same_place q) all ≡ false) more → Contains all p → (at : Option ℕ)
    → stands_at (all ++ more) p at ≡ true → stands_at all p at ≡ true
behind all more p new is None e = absurd (cc)
behind all more p new is (Some i) e =
    let parts = and_parts (nat_lt i (length (all ++ more))) (same_place p (get_or (all ++ more) i p)) e in
    let lt : i < length (all ++ more) = ltb-true i (length (all ++ more)) parts.0 in
    let at : get_or (all ++ more) i p ≡ p = sym (place_exact p (get_or (all ++ more) i p) parts.1) in
    elim (cases_Bool (nat_lt i (length all))) [
      | inl inside ↦
          let front : i < length all = ltb-true i (length all) inside in
          stands all p i front (sym (get_or_append_left all more p i front) ∙ at)
      | inr outside ↦
          let past : length all ≤ i = ltb-false i (length all) outside in
          let among_new : Contains more p =
          (i - length all, omega (arith, lt, length-append all more), sym (get_or-append_right all more (length all) i p refl past) ∙ at) in
          let old : list_any (same_place p) all ≡ true = list_any-from_Contains places_equiv p all is in
          let unasked : list_any (same_place p) all ≡ false =
          All-contains (λ q. list_any (same_place q) all ≡ false) more p new among_new in
          absurd (cc)
    ]

pub narrowed : (index : ForHash ℕ) (all more : List Place) → All (λ q. list_any (same_place q) all ≡ false) more
    → Finds index (all ++ more) all → Finds index all all
narrowed index all more new finds = record {
  found = λ p is. behind all more p new is (get_in hash_cmp index (key_of p)) (finds.found p is);
  places = finds.places;
}

-- ---- one place more
abbrev equal : Bytes → Bytes → Bool
equal = eq_by_cmp hash_cmp

-- what an index finds where one entry was set
after_set : (all : List Place) (i : ℕ) (p q : Place) (old : Option ℕ) → i < length all → get_or all i p ≡ p → IsPlace p → IsPlace q
    → stands_at all q old ≡ true → (b : Bool) → equal (key_of p) (key_of q) ≡ b → stands_at all q (cond b (Some i) old) ≡ true
after_set all i p q old lt is h k held true e =
    let one : p ≡ q = key_exact p q h k (tells_apart exact_bytes (key_of p) (key_of q) e) in
    subst (λ (r : Place). stands_at all r (Some i) ≡ true) one (stands all p i lt is)
after_set all i p q old lt is h k held false e = held

pub one_more : (index new : ForHash ℕ) (all : List Place) (i : ℕ) (p : Place) → i < length all → p ≡ get_or all i p → IsPlace p
    → ((q : Bytes) → get_in hash_cmp new q ≡ cond (is_at (hash_cmp (key_of p)) q) (Some i) (get_in hash_cmp index q))
    → Finds index all (take i all) → Finds new all (take (i + 1) all)
one_more index new all i p lt is place sets finds =
    let more : take (i + 1) all ≡ take i all ++ p ∷ [] =
    take_more all i p lt ∙ ap (λ (q : Place). take i all ++ q ∷ []) (sym is) in
    let F : List Place → Type 0 = λ some. Finds new all some in
    subst F (sym more) (record {
      found = λ q one. elim (Contains-push_cases (take i all) p q one) [
        | inl before ↦
            let held = finds.found q before in
            subst (λ (o : Option ℕ). stands_at all q o ≡ true) (sym (sets (key_of q)))
            (after_set all i p q (get_in hash_cmp index (key_of q)) lt (sym is) place
            (All-contains IsPlace (take i all) q finds.places before) held (equal (key_of p) (key_of q)) refl)
        | inr same ↦
            let here : get_in hash_cmp new (key_of p) ≡ Some i =
            sets (key_of p) ∙ ap (λ (b : Bool). cond b (Some i) (get_in hash_cmp index (key_of p)))
            ((eq_by_cmp_equiv nat_list_cmp_total).refl (key_of p)) in
            subst (λ (r : Place). stands_at all r (get_in hash_cmp new (key_of r)) ≡ true) same
            (subst (λ (o : Option ℕ). stands_at all p o ≡ true) (sym here) (stands all p i lt (sym is)))
      ];
      places = All-push IsPlace (take i all) p finds.places place;
    })
