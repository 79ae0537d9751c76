-- Hashes that are known with all below them.
use Rattle.std.proofs.Common.{◌≡◌, ℕ, zero, suc, ◌<◌, ◌≤◌, List, [], ◌∷◌, ◌++◌, length, Option, None, Some, refl, sym, ap, ◌∙◌, subst}
use Rattle.std.proofs.Common.{arith, ◌+◌, ◌⊎◌, inl, inr, slice_index_or, map, take, Result, Ok, Err}
use Rattle.std.specs.Prelude.{OnOk}
use Rattle.std.specs.List.{slice_get, All}
use Rattle.std.proofs.lemmas.List.Elements.{All-weaker}
use Rattle.std.proofs.lemmas.List.{get_or_past, map-append, take_more}
use Rattle.ledger_spec.specs.Bytes.{Hash}
use Rattle.cow_map.specs.declared.link.Link.{Link}
use Rattle.cow_map.specs.declared.link.Link.TheVariants.{Empty, Own}
use Rattle.cow_map.specs.Bodies.{Body, leaf, inner}
use Rattle.cow_map.specs.Gathered.{branch_in}
use Rattle.cow_map.proofs.shared.Leading.{get_within}
use Rattle.map_changes.specs.Tracking.{place_of, IsKnown, KnowsKids, AreClosed, KnowsAll}

-- the hash to whose place a link leads
pub known_there : (hashes : List (Option Hash)) (link : Link) (at i : ℕ) (h : Hash) → link ≡ Own at
    → slice_get hashes at ≡ Some (Some h) → place_of link ≡ Some i → IsKnown hashes i
known_there hashes link at i h is known leads =
    let both : Some at ≡ Some i = sym (ap place_of is) ∙ leads in
    let same : at ≡ i = cc in
    (h, ap (slice_get hashes) (sym same) ∙ known)

-- the links of an inner node lead to its kids
kids_in : (hashes : List (Option Hash)) (links : List Link) → length links ≡ 16
    → ((b : ℕ) → b < 16 → (i : ℕ) → place_of (slice_index_or links b Empty) ≡ Some i → IsKnown hashes i)
    → (b j : ℕ) → place_of (slice_index_or links b Empty) ≡ Some j → IsKnown hashes j
kids_in hashes links wide known b j is = at (below_or b 16)
  where
    below_or : (b n : ℕ) → (b < n) ⊎ (n ≤ b)
    below_or b zero = inr (omega arith)
    below_or zero (suc n) = inl (omega arith)
    below_or (suc b) (suc n) = elim (below_or b n) [ inl l ↦ inl (omega arith) | inr r ↦ inr (omega arith) ]

    at : (b < 16) ⊎ (16 ≤ b) → IsKnown hashes j
    at (inl low) = known b low j is
    at (inr past) =
        let none : None ≡ Some j = sym (ap place_of (get_or_past links b Empty (omega arith))) ∙ is in
        cc

pub inner_kids : (nodes : List Body) (hashes : List (Option Hash)) (at : ℕ) (links : List Link) → length links ≡ 16
    → slice_get nodes at ≡ Some (inner links)
    → ((b : ℕ) → b < 16 → (i : ℕ) → place_of (slice_index_or links b Empty) ≡ Some i → IsKnown hashes i)
    → KnowsKids nodes hashes at
inner_kids nodes hashes at links wide is known b j leads =
    kids_in hashes links wide known b j (sym (ap (λ o. place_of (branch_in b o)) is) ∙ leads)

-- a leaf has no kids, and neither has no node
pub leaf_kids : (nodes : List Body) (hashes : List (Option Hash)) (at : ℕ) (key bytes : List ℕ) → slice_get nodes at ≡ Some (leaf key bytes)
    → KnowsKids nodes hashes at
leaf_kids nodes hashes at key bytes is b j leads =
    let none : None ≡ Some j = sym (ap (λ o. place_of (branch_in b o)) is) ∙ leads in cc

pub no_kids : (nodes : List Body) (hashes : List (Option Hash)) (at : ℕ) → slice_get nodes at ≡ None → KnowsKids nodes hashes at
no_kids nodes hashes at is b j leads =
    let none : None ≡ Some j = sym (ap (λ o. place_of (branch_in b o)) is) ∙ leads in cc

-- no hashes
pub none_closed : (nodes : List Body) → AreClosed nodes []
none_closed nodes = record { kids = λ i h is. absurd (none [] i h refl is) }
  where
    none : (hashes : List (Option Hash)) (i : ℕ) (h : Hash) → hashes ≡ [] → slice_get hashes i ≡ Some (Some h) → ⊥
    none [] zero h e is = cc
    none [] (suc i) h e is = cc
    none (x ∷ hashes) i h e is = cc

-- more nodes
pub closed_more : (nodes more : List Body) (hashes : List (Option Hash))
    → ((i : ℕ) (h : Hash) → slice_get hashes i ≡ Some (Some h) → i < length nodes) → AreClosed nodes hashes
    → AreClosed (nodes ++ more) hashes
closed_more nodes more hashes within closed = record {
  kids = λ i h is b j leads.
      closed.kids i h is b j (ap (λ o. place_of (branch_in b o)) (sym (get_within nodes more i (within i h is))) ∙ leads);
}

-- all below a link whose own hash is known
pub knows_all : (nodes : List Body) (hashes : List (Option Hash)) → AreClosed nodes hashes → (steps : ℕ) (link : Link)
    → ((i : ℕ) → place_of link ≡ Some i → IsKnown hashes i) → KnowsAll nodes hashes steps link
unfolding KnowsAll
knows_all nodes hashes closed zero link own = tt
knows_all nodes hashes closed (suc steps) link own = λ i is. (
  own i is,
  λ b. knows_all nodes hashes closed steps (branch_in b (slice_get nodes i)) (closed.kids i (own i is).0 (own i is).1 b),
)

-- all below each of these links
pub know_all : (nodes : List Body) (hashes : List (Option Hash)) → AreClosed nodes hashes → (tops : List Link) (same : List (Option Hash))
    → same ≡ hashes → All (λ top. (i : ℕ) → place_of top ≡ Some i → IsKnown same i) tops
    → All (λ top. (steps : ℕ) → KnowsAll nodes hashes steps top) tops
know_all nodes hashes closed tops same is all =
    All-weaker (λ (top : Link). (i : ℕ) → place_of top ≡ Some i → IsKnown same i)
    (λ (top : Link). (steps : ℕ) → KnowsAll nodes hashes steps top)
    (λ top own steps. knows_all nodes hashes closed steps top
    (subst (λ (hs : List (Option Hash)). (i : ℕ) → place_of top ≡ Some i → IsKnown hs i) is own)) tops all

-- the hashes of the links up to the next one
pub hashes_more : (f : Link → Hash) (links : List Link) (b : ℕ) (before after : List Hash) (h : Hash) → b < length links
    → before ≡ map f (take b links) → h ≡ f (slice_index_or links b Empty) → after ≡ before ++ h ∷ [] → after ≡ map f (take (b + 1) links)
hashes_more f links b before after h low so_far is next =
    next ∙ (λ i. so_far i ++ is i ∷ []) ∙ sym (ap (map f) (take_more links b Empty low)
    ∙ map-append f (take b links) (slice_index_or links b Empty ∷ []))

-- what follows from an answer that is no refusal
pub then_ok : {A E P Q : Type 0} (r : Result A E) → (P → Q) → OnOk r P → OnOk r Q
then_ok (Ok x) f p = f p
then_ok (Err e) f p = tt
