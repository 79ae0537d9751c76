-- What is wanted at a place of a ledger is named by what its target reaches. For proofs of other crates.
use Rattle.std.proofs.Common.{◌≡◌, ℕ, zero, suc, Bool, true, false, cond, not, if◌then◌else◌, ◌==◌, ◌&&◌, List, [], ◌∷◌, ◌++◌, length}
use Rattle.std.proofs.Common.{drop, Option, None, Some, All, Contains, filter, slice_index_or, nat_eq, refl, sym, ap, ◌∙◌, subst, arith}
use Rattle.std.proofs.Common.{IsTrue}
use Rattle.std.specs.Option.{option_and_then, option_map_or}
use Rattle.std.specs.List.{starts_with}
use Rattle.std.proofs.lemmas.Bool.{eqb-true}
use Rattle.std.proofs.lemmas.List.Elements.{All-nil, All-cons, All-weaker, All-contains}
use Rattle.ledger_spec.specs.declared.Kind.{Kind}
use Rattle.ledger_spec.specs.declared.Kind.TheVariants.{State, Tx, Set}
use Rattle.ledger_spec.specs.Bytes.{Bytes, Hash, Lookup, zero_hash, is_zero, is_nonzero}
use Rattle.ledger_spec.specs.Header.{state_root_of, tx_root_of}
use Rattle.ledger_spec.specs.Forms.{inner_of, header_of, header_prefix}
use Rattle.ledger_spec.specs.Reach.{Reach, root, kid, Stored, named_by, kids}
use Rattle.ledger_spec.specs.Spots.{Spot, empty_branch, under_leaf, wanted, header_root, into, spot_from, spot_below, spot_of}
use Rattle.ledger_spec.proofs.shared.OfferLaws.{wanted_same, empty_wanted, no_parent_wanted, under_wanted, no_base_wanted}
use Rattle.ledger_spec.proofs.shared.ReachLaws.{Grows, reach_grows}
use Rattle.ledger_spec.proofs.shared.Inners.{not_inner_length}
use Rattle.ledger_laws.proofs.shared.SoundForms.{in_head, in_tail}

-- what passes a test is in what passes it
in_filter : {A : Type 0} (p : A → Bool) (xs : List A) → All (λ y. p y ≡ true → Contains (filter p xs) y) xs
in_filter p [] = All-nil (λ y. p y ≡ true → Contains [] y)
in_filter {A} p (x ∷ xs) =
    All-cons (λ y. p y ≡ true → Contains (filter p (x ∷ xs)) y) x xs
    (λ yes. subst (λ b. Contains (cond b (x ∷ filter p xs) (filter p xs)) x) (sym yes) (in_head x (filter p xs)))
    (All-weaker (λ y. p y ≡ true → Contains (filter p xs) y) (λ y. p y ≡ true → Contains (filter p (x ∷ xs)) y)
    (λ y at yes. more (p x) y (at yes)) xs (in_filter p xs))
  where
    more : (b : Bool) (y : A) → Contains (filter p xs) y → Contains (cond b (x ∷ filter p xs) (filter p xs)) y
    more true y c = in_tail x y (filter p xs) c
    more false y c = c

-- a kid that isn't zero is among a form's kids
in_kids : (form : Bytes) (hashes : List Hash) (h : Hash) → named_by (inner_of form) (header_of form) ≡ hashes → Contains hashes h
    → IsTrue (is_nonzero h) → Contains (kids form) h
in_kids form hashes h e at nonzero =
    subst (λ hs. Contains (filter is_nonzero hs) h) (sym e)
    (All-contains (λ y. is_nonzero y ≡ true → Contains (filter is_nonzero hashes) y) hashes h (in_filter is_nonzero hashes) at nonzero)

-- false isn't true
no_true : false ≡ true → ⊥
no_true e = cc

-- what is read of a list and isn't zero is in it
read_in : (hashes : List Hash) (n : ℕ) → IsTrue (is_nonzero (slice_index_or hashes n zero_hash))
    → Contains hashes (slice_index_or hashes n zero_hash)
read_in [] n nonzero = absurd (no_true nonzero)
read_in (h ∷ hashes) zero nonzero = in_head h hashes
read_in (h ∷ hashes) (suc n) nonzero = in_tail h (slice_index_or hashes n zero_hash) hashes (read_in hashes n nonzero)

-- something that the target reaches names the hash
pub record IsNamed (nodes : Lookup) (t h : Hash) : Type 0 where
  pub by : Hash
  pub form : Bytes
  pub reached : Reach nodes (t ∷ []) by
  pub stored : nodes by ≡ Some form
  pub named : Contains (kids form) h

-- what is named and stored is reached, also in a larger store
pub named_reached : (m n : Lookup) (t h : Hash) → Grows m n → IsNamed m t h → Stored n h → Reach n (t ∷ []) h
named_reached m n t h up name stored = kid (reach_grows up name.reached) (up name.by name.form name.stored) name.named stored

-- the way goes on where the branch isn't empty
goes_on : (z : Bool) (path : List ℕ) (s : Spot) (g : Hash) (q : Option (List Hash)) → (if z then empty_branch path else s) ≡ wanted g q
    → (z ≡ false) × (s ≡ wanted g q)
goes_on true path s g q e = absurd (empty_wanted e)
goes_on false path s g q e = (refl, e)

-- it goes on below an inner node
goes_into : (path : List ℕ) (on : List Hash → Spot) (o : Option Bytes) (g : Hash) (q : Option (List Hash)) → into path on o ≡ wanted g q
    → (form : Bytes) × (hashes : List Hash) × (o ≡ Some form) × (inner_of form ≡ Some hashes) × (on hashes ≡ wanted g q)
goes_into path on None g q e = absurd (no_parent_wanted e)
goes_into path on (Some form) g q e = at (inner_of form) refl e
  where
    at : (i : Option (List Hash)) → inner_of form ≡ i → option_map_or on i (under_leaf path) ≡ wanted g q
        → (f : Bytes) × (hashes : List Hash) × (Some form ≡ Some f) × (inner_of f ≡ Some hashes) × (on hashes ≡ wanted g q)
    at None is e = absurd (under_wanted e)
    at (Some hashes) is e = (form, hashes, refl, is, e)

-- a branch of an inner node that is named and stored is named
pub branch_named : (nodes : Lookup) (t h : Hash) (form : Bytes) (hashes : List Hash) (n : ℕ) → IsNamed nodes t h → nodes h ≡ Some form
    → inner_of form ≡ Some hashes
    → IsTrue (is_nonzero (slice_index_or hashes n zero_hash)) → IsNamed nodes t (slice_index_or hashes n zero_hash)
branch_named nodes t h form hashes n name stored is nonzero = record {
  by = h;
  form = form;
  reached = kid name.reached name.stored name.named (form, stored);
  stored = stored;
  named =
      in_kids form hashes (slice_index_or hashes n zero_hash) (ap (λ i. named_by i (header_of form)) is) (read_in hashes n nonzero) nonzero;
}

-- what is wanted further down is named, where the hash here is
way_named : (nodes : Lookup) (t : Hash) (path : List ℕ) (parent : Option (List Hash)) (h : Hash) (rest : List ℕ) (g : Hash)
    (q : Option (List Hash))
    → (IsTrue (is_nonzero h) → IsNamed nodes t h) → spot_from nodes path parent h rest ≡ wanted g q → IsNamed nodes t g
way_named nodes t path parent h [] g q name e =
    let on : (is_zero h ≡ false) × (wanted h parent ≡ wanted g q) = goes_on (is_zero h) path (wanted h parent) g q e in
    subst (IsNamed nodes t) (wanted_same on.1) (name (ap not on.0))
way_named nodes t path parent h (n ∷ rest) g q name e =
    let below : List Hash → Spot = λ hashes. spot_from nodes (path ++ n ∷ []) (Some hashes) (slice_index_or hashes n zero_hash) rest in
    let on : (is_zero h ≡ false) × (into path below (nodes h) ≡ wanted g q) = goes_on (is_zero h) path (into path below (nodes h)) g q e in
    let here : IsNamed nodes t h = name (ap not on.0) in
    let next : (form : Bytes) × (hashes : List Hash) × (nodes h ≡ Some form) × (inner_of form ≡ Some hashes)
    × (below hashes ≡ wanted g q) = goes_into path below (nodes h) g q on.1 in
    way_named nodes t (path ++ n ∷ []) (Some next.1) (slice_index_or next.1 n zero_hash) rest g q
    (branch_named nodes t h next.0 next.1 n here next.2 next.3) next.4

-- a header's form isn't an inner node's
pub header_no_inner : (form bytes : Bytes) → header_of form ≡ Some bytes → inner_of form ≡ None
unfolding header_of
header_no_inner form bytes e = not_inner_length form
    (λ long. other long (tested (length form == 122) (starts_with nat_eq form header_prefix) (drop 4 form) e))
  where
    tested : (a b : Bool) (h : Bytes) → (if a && b then Some h else None) ≡ Some bytes → a ≡ true
    tested true b h e = refl
    tested false b h e = cc

    other : length form ≡ 516 → (length form == 122) ≡ true → ⊥
    other long is = let short : length form ≡ 122 = eqb-true (length form) 122 is in omega (arith, long, short)

-- a map's root that isn't zero is one of its header's two
root_in : (kind : Kind) (bytes : Bytes) → IsTrue (is_nonzero (header_root kind bytes))
    → Contains (state_root_of bytes ∷ tx_root_of bytes ∷ []) (header_root kind bytes)
root_in State bytes nonzero = in_head (state_root_of bytes) (tx_root_of bytes ∷ [])
root_in Tx bytes nonzero = in_tail (state_root_of bytes) (tx_root_of bytes) (tx_root_of bytes ∷ []) (in_head (tx_root_of bytes) [])
root_in Set bytes nonzero = absurd (no_true nonzero)

-- what a header names
pub header_names : (form bytes : Bytes) → header_of form ≡ Some bytes
    → named_by (inner_of form) (header_of form) ≡ state_root_of bytes ∷ tx_root_of bytes ∷ []
header_names form bytes is = ap (λ i. named_by i (header_of form)) (header_no_inner form bytes is) ∙ ap (named_by None) is

-- a map's root that isn't zero is named by its header
pub root_named : (nodes : Lookup) (t : Hash) (form bytes : Bytes) (kind : Kind) → nodes t ≡ Some form → header_of form ≡ Some bytes
    → IsTrue (is_nonzero (header_root kind bytes))
    → IsNamed nodes t (header_root kind bytes)
root_named nodes t form bytes kind stored is nonzero = record {
  by = t;
  form = form;
  reached = root (in_head t []) (form, stored);
  stored = stored;
  named = in_kids form (state_root_of bytes ∷ tx_root_of bytes ∷ []) (header_root kind bytes) (header_names form bytes is)
      (root_in kind bytes nonzero) nonzero;
}

-- what is stored under the target is a header where the way begins
begins : (nodes : Lookup) (kind : Kind) (path : List ℕ) (o : Option Bytes) (g : Hash) (q : Option (List Hash))
    → spot_below nodes kind path (option_and_then header_of o) ≡ wanted g q
    → (form : Bytes) × (bytes : Bytes) × (o ≡ Some form) × (header_of form ≡ Some bytes)
    × (spot_from nodes [] None (header_root kind bytes) path ≡ wanted g q)
begins nodes kind path None g q e = absurd (no_base_wanted e)
begins nodes kind path (Some form) g q e = at (header_of form) refl e
  where
    at : (h : Option Bytes) → header_of form ≡ h → spot_below nodes kind path h ≡ wanted g q
        → (f : Bytes) × (bytes : Bytes) × (Some form ≡ Some f) × (header_of f ≡ Some bytes)
        × (spot_from nodes [] None (header_root kind bytes) path ≡ wanted g q)
    at None is e = absurd (no_base_wanted e)
    at (Some bytes) is e = (form, bytes, refl, is, e)

-- what is wanted at a place of a ledger is named by what its target reaches
pub wanted_named : (nodes : Lookup) (t : Hash) (kind : Kind) (path : List ℕ) (g : Hash) (q : Option (List Hash))
    → spot_of nodes t kind path ≡ wanted g q → IsNamed nodes t g
wanted_named nodes t kind path g q e =
    let first : (form : Bytes) × (bytes : Bytes) × (nodes t ≡ Some form) × (header_of form ≡ Some bytes)
    × (spot_from nodes [] None (header_root kind bytes) path ≡ wanted g q) =
    begins nodes kind path (nodes t) g q e in
    way_named nodes t [] None (header_root kind first.1) path g q (root_named nodes t first.0 first.1 kind first.2 first.3) first.4
