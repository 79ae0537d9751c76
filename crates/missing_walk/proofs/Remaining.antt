-- What is left of a search as it begins, goes on and is left for another slice.
use Rattle.std.proofs.Common.{◌≡◌, ℕ, suc, ◌+◌, ◌<◌, ◌≤◌, ◌==◌, ◌||◌, ◌&&◌, Bool, true, false, is_some, nat_le, if◌then◌else◌}
use Rattle.std.proofs.Common.{List, [], ◌∷◌, ◌++◌, length, Option, None, Some, IfSome, refl, sym, ap, ◌∙◌, subst, arith, length-append}
use Rattle.std.specs.List.{AllByRecursion}
use Rattle.std.proofs.lemmas.Bool.Decides.{nat_tests}
use Rattle.ledger_spec.specs.declared.Kind.{Kind}
use Rattle.ledger_spec.specs.declared.Kind.TheVariants.{State, Tx}
use Rattle.ledger_spec.specs.Bytes.{Bytes, Hash, Half, Lookup, is_zero}
use Rattle.ledger_spec.specs.Header.{header_bytes, state_root_of, tx_root_of}
use Rattle.ledger_spec.specs.Spots.{header_in}
use Rattle.ledger_spec.specs.Findings.{walk_map, walk_ledger, maps_of}
use Rattle.ledger_header.specs.declared.Header.{Header}
use Rattle.ledger_header.specs.Fields.{fields}
use Rattle.tree_laws.proofs.shared.Steps.{walk_empty}
use Rattle.missing_walk.specs.declared.search.Search.{Search}
use Rattle.missing_walk.specs.declared.search.Slice.{Slice}
use Rattle.missing_walk.specs.declared.search.Slice.TheVariants as slice
use Rattle.missing_walk.specs.Sees.{IsHeaderOf, most_missing}
use Rattle.missing_walk.specs.Pending.{Pending, stacked, noted_places, IsMet}
use Rattle.missing_walk.specs.Begins.{Begins, root_place}
use Rattle.missing_walk.specs.Moves.{has_ended}
use Rattle.missing_walk.specs.Searching.{Kept, OnMore, Renews}
use Rattle.missing_walk.specs.Rests.{weight, stored_weight, most_below, most_from, most_again, load, left_in, rest_by, rest}
use Rattle.missing_walk.specs.Rests.{bound_by, bound, GoesOn}
use Rattle.missing_walk.proofs.Finishing.{header_there}
use Rattle.missing_walk.proofs.Stacking.{length_stacked}
use Rattle.missing_walk.proofs.Meetings.{meets_nonzero}
use Rattle.missing_walk.proofs.Weights.{load_join, weight_some}
use Rattle.missing_walk.proofs.Roots.{not_some}
use Rattle.missing_walk.proofs.Loads.{first_met}

-- what follows of a search that is left for another slice
pub on_more : {A B : Type 0} (s : Slice) → (A → B) → OnMore s A → OnMore s B
on_more (slice.Done found) f a = tt
on_more slice.More f a = f a
on_more (slice.Stale seen now) f a = tt

pub on_all_more : {A B C D : Type 0} (s : Slice) → (A → B → C → D) → OnMore s A → OnMore s B → OnMore s C → OnMore s D
on_all_more (slice.Done found) f a b c = tt
on_all_more slice.More f a b c = f a b c
on_all_more (slice.Stale seen now) f a b c = tt

begins_so : (f g : Pending → ℕ) (s s' : Search) (h : Header) → Begins h s s'
    → left_in f g s' ≡ load f (root_place State h.state_root) + load f (root_place Tx h.tx_root)
begins_so f g s s' h b =
    let places = ap (load f) b.places ∙ load_join f (root_place State h.state_root) (root_place Tx h.tx_root) in
    let none : load g (noted_places s'.missing.items) ≡ 0 = ap (λ l. load g (noted_places l)) b.missing in
    omega (arith, places, none)

module _ (half : Half) (nodes : Lookup) where
  root_by : (kind : Kind) (h : Hash) (z : Bool) → is_zero h ≡ z
      → load (weight half nodes) (if z then [] else record { kind = kind; path = []; hash = h; parent = None } ∷ [])
      ≡ length (walk_map half nodes kind h)
  unfolding walk_map
  root_by kind h true e = sym (ap length (walk_empty half nodes kind 64 None [] h e))
  root_by kind h false e = omega arith

  ledger_by : (t : Hash) (bytes : Bytes) → Some bytes ≡ header_in nodes t
      → length (walk_ledger half nodes t)
      ≡ suc (length (walk_map half nodes State (state_root_of bytes)) + length (walk_map half nodes Tx (tx_root_of bytes)))
  unfolding walk_ledger
  ledger_by t bytes there =
      ap (λ s. suc (length (maps_of half nodes s))) (header_there half nodes bytes (nodes t) there)
      ∙ ap suc (length-append (walk_map half nodes State (state_root_of bytes)) (walk_map half nodes Tx (tx_root_of bytes)))

  -- below the header that was read fewer places are met than from it on
  begins_rest : (s s' : Search) (o : Option Header) → is_some o ≡ true → IsHeaderOf nodes s.target o → IfSome o (λ h. Begins h s s')
      → left_in (weight half nodes) (stored_weight half nodes) s' ≤ length (walk_ledger half nodes s.target)
  begins_rest s s' None there head b = cc
  begins_rest s s' (Some h) there head b =
      let bytes : Bytes = header_bytes (fields h) in
      let state = root_by State h.state_root (is_zero h.state_root) refl
      ∙ ap (λ r. length (walk_map half nodes State r)) (sym head.reads.state_root) in
      let tx = root_by Tx h.tx_root (is_zero h.tx_root) refl ∙ ap (λ r. length (walk_map half nodes Tx r)) (sym head.reads.tx_root) in
      omega (arith, begins_so (weight half nodes) (stored_weight half nodes) s s' h b, state, tx, ledger_by s.target bytes head.bytes)

  enters_by : (s s' : Search) (z : Bool) → is_some s.header ≡ z → (is_some s.header ≡ true → s' ≡ s)
      → (s.header ≡ None → IfSome s'.header (λ h. Begins h s s')) → is_some s'.header ≡ true → s'.target ≡ s.target
      → IsHeaderOf nodes s'.target s'.header
      → left_in (weight half nodes) (stored_weight half nodes) s' ≤ rest_by z half nodes s
  enters_by s s' true is stays begun there target head =
      subst (λ (x : Search). left_in (weight half nodes) (stored_weight half nodes) x
      ≤ left_in (weight half nodes) (stored_weight half nodes) s) (sym (stays is)) (omega arith)
  enters_by s s' false is stays begun there target head =
      begins_rest s s' s'.header there (subst (λ t. IsHeaderOf nodes t s'.header) target head) (begun (not_some s.header is))

  -- a search that has read its header has no more left than before
  pub enters_rest : (s s' : Search) → (is_some s.header ≡ true → s' ≡ s)
      → (s.header ≡ None → IfSome s'.header (λ h. Begins h s s')) → is_some s'.header ≡ true → s'.target ≡ s.target
      → IsHeaderOf nodes s'.target s'.header
      → left_in (weight half nodes) (stored_weight half nodes) s' ≤ rest_by (is_some s.header) half nodes s
  enters_rest s s' stays begun there target head = enters_by s s' (is_some s.header) refl stays begun there target head

  parts : (a b c : Bool) → ((a || b) || c) ≡ false → c ≡ false
  parts a b true e = absurd (never a b e)
    where
      never : (a b : Bool) → ((a || b) || true) ≡ false → ⊥
      never true b e = cc
      never false true e = cc
      never false false e = cc
  parts a b false e = refl

  no_length : (n : ℕ) → n ≡ 0 → (n == 0) ≡ false → ⊥
  no_length n e is = grind (arith, nat_tests)

  some_by : (s : Search) (ps : List Pending) → stacked s.stack.items ≡ ps → (length s.stack.items == 0) ≡ false → Kept half nodes s
      → 0 < left_in (weight half nodes) (stored_weight half nodes) s
  some_by s [] is e k = absurd (no_length (length s.stack.items) (sym (length_stacked s.stack.items) ∙ ap length is) e)
  some_by s (p ∷ ps) is e k =
      let m : IsMet half nodes s.target p = first_met half nodes s.target (noted_places s.missing.items) p ps
      (subst (λ l. AllByRecursion (IsMet half nodes s.target) (noted_places s.missing.items ++ l)) is k.covers.met) in
      let one = weight_some half nodes p (meets_nonzero half nodes p.kind _ m.meets) in
      let all : load (weight half nodes) (stacked s.stack.items) ≡ weight half nodes p + load (weight half nodes) ps =
      ap (load (weight half nodes)) is in
      omega (arith, one, all)

  -- where a search isn't over, something is left
  pub left_some : (s : Search) → has_ended s ≡ false → Kept half nodes s → 0 < left_in (weight half nodes) (stored_weight half nodes) s
  left_some s e k =
      some_by s (stacked s.stack.items) refl
      (parts (is_some s.broken) (nat_le most_missing (length s.missing.items)) (length s.stack.items == 0) e) k

  renewed_by : (now : ℕ) (s s' : Search) (z : Bool) → is_some s'.header ≡ z → Renews now s s'
      → rest_by z half nodes s' ≡ rest_by z half nodes s
  renewed_by now s s' true is r = ap (left_in (weight half nodes) (stored_weight half nodes)) (r.same is).0
  renewed_by now s s' false is r = ap (λ t. length (walk_ledger half nodes t)) r.target

  -- a search that begins anew has its ledger left
  pub renewed_rest : (now : ℕ) (s s' : Search) → Renews now s s' → rest_by (is_some s'.header) half nodes s' ≡ rest half nodes s
  renewed_rest now s s' r =
      renewed_by now s s' (is_some s'.header) refl r ∙ ap (λ z. rest_by z half nodes s) r.begun

  begun_rest : (s : Search) (now : ℕ) → s.generation ≡ Some now → is_some s.header ≡ true
      → rest half nodes s ≡ left_in (weight half nodes) (stored_weight half nodes) s
  begun_rest s now generation there =
      ap (λ g. rest_by (is_some g && is_some s.header) half nodes s) generation ∙ ap (λ z. rest_by z half nodes s) there

  -- a slice that left the search for another one
  pub goes_on : (now n : ℕ) (s r s' : Search) → Renews now s r → s'.generation ≡ Some now → is_some s'.header ≡ true
      → rest_by (is_some s'.header) half nodes s' + n ≤ rest_by (is_some r.header) half nodes r → has_ended s' ≡ false
      → Kept half nodes s' → GoesOn half nodes n s s'
  goes_on now n s r s' renews generation there fewer e k =
      let here = begun_rest s' now generation there in
      let same = ap (λ z. rest_by z half nodes s') there in
      record {
        fewer = omega (arith, fewer, here, same, renewed_rest now s r renews);
        some = omega (arith, here, left_some s' e k);
      }

root_most : (kind : Kind) (h : Hash) (z : Bool)
    → load most_from (if z then [] else record { kind = kind; path = []; hash = h; parent = None } ∷ []) ≤ most_below 64
root_most kind h true = omega arith
root_most kind h false = omega arith

begins_bound : (s s' : Search) (o : Option Header) → is_some o ≡ true → IfSome o (λ h. Begins h s s')
    → left_in most_from most_again s' ≤ most_below 64 + most_below 64
begins_bound s s' None there b = cc
begins_bound s s' (Some h) there b =
    omega (
      arith,
      begins_so most_from most_again s s' h b,
      root_most State h.state_root (is_zero h.state_root),
      root_most Tx h.tx_root (is_zero h.tx_root),
    )

bound_enters_by : (s s' : Search) (z : Bool) → is_some s.header ≡ z → (is_some s.header ≡ true → s' ≡ s)
    → (s.header ≡ None → IfSome s'.header (λ h. Begins h s s')) → is_some s'.header ≡ true
    → left_in most_from most_again s' ≤ bound_by z s
bound_enters_by s s' true is stays begun there =
    subst (λ (x : Search). left_in most_from most_again x ≤ left_in most_from most_again s) (sym (stays is)) (omega arith)
bound_enters_by s s' false is stays begun there = begins_bound s s' s'.header there (begun (not_some s.header is))

pub enters_bound : (s s' : Search) → (is_some s.header ≡ true → s' ≡ s)
    → (s.header ≡ None → IfSome s'.header (λ h. Begins h s s')) → is_some s'.header ≡ true
    → left_in most_from most_again s' ≤ bound_by (is_some s.header) s
enters_bound s s' stays begun there = bound_enters_by s s' (is_some s.header) refl stays begun there

few_begun : (s s' : Search) (o : Option Header) → is_some o ≡ true → IfSome o (λ h. Begins h s s') → length s'.missing.items ≤ 256
few_begun s s' None there b = cc
few_begun s s' (Some h) there b = subst (λ ms. length ms ≤ 256) (sym b.missing) (omega arith)

few_by : (s s' : Search) (z : Bool) → is_some s.header ≡ z → (is_some s.header ≡ true → s' ≡ s)
    → (s.header ≡ None → IfSome s'.header (λ h. Begins h s s')) → is_some s'.header ≡ true → length s.missing.items ≤ 256
    → length s'.missing.items ≤ 256
few_by s s' true is stays begun there few = subst (λ (x : Search). length x.missing.items ≤ 256) (sym (stays is)) few
few_by s s' false is stays begun there few = few_begun s s' s'.header there (begun (not_some s.header is))

pub enters_few : (s s' : Search) → (is_some s.header ≡ true → s' ≡ s)
    → (s.header ≡ None → IfSome s'.header (λ h. Begins h s s')) → is_some s'.header ≡ true → length s.missing.items ≤ 256
    → length s'.missing.items ≤ 256
enters_few s s' stays begun there few = few_by s s' (is_some s.header) refl stays begun there few

bound_renewed_by : (now : ℕ) (s s' : Search) (z : Bool) → is_some s'.header ≡ z → Renews now s s' → bound_by z s' ≡ bound_by z s
bound_renewed_by now s s' true is r = ap (left_in most_from most_again) (r.same is).0
bound_renewed_by now s s' false is r = refl

pub renewed_bound : (now : ℕ) (s s' : Search) → Renews now s s' → bound_by (is_some s'.header) s' ≡ bound s
renewed_bound now s s' r = bound_renewed_by now s s' (is_some s'.header) refl r ∙ ap (λ z. bound_by z s) r.begun

pub begun_bound : (s : Search) (now : ℕ) → s.generation ≡ Some now → bound s ≡ bound_by (is_some s.header) s
begun_bound s now generation = ap (λ g. bound_by (is_some g && is_some s.header) s) generation
