-- A place for a hash more, and a hash that is set at a place.
use Rattle.std.proofs.Common.{◌≡◌, ℕ, zero, suc, ◌<◌, List, [], ◌∷◌, ◌++◌, length, Option, None, Some, refl}
use Rattle.std.proofs.Common.{sym, ap, ◌∙◌, subst, ◌⊎◌, inl, inr}
use Rattle.std.proofs.Math.ListN.{set}
use Rattle.std.specs.List.{slice_get}
use Rattle.ledger_spec.specs.declared.Kind.{Kind}
use Rattle.ledger_spec.specs.Bytes.{Half, Hash}
use Rattle.ledger_spec.specs.Forms.{form_of}
use Rattle.cow_map.specs.declared.link.Link.TheVariants.{Own}
use Rattle.cow_map.specs.Bodies.{Body, AreBodies}
use Rattle.map_changes.specs.Tracking.{link_hash, node_at, kid_at, IsKnown, KnowsKids, AreHashes, AreClosed}
use Rattle.map_changes.proofs.Telling.{known_hash}

-- in a place more no hash is known
known_before : (hashes : List (Option Hash)) (i : ℕ) (h : Hash) → slice_get (hashes ++ None ∷ []) i ≡ Some (Some h)
    → slice_get hashes i ≡ Some (Some h)
known_before [] zero h is = cc
known_before [] (suc i) h is = cc
known_before (x ∷ hashes) zero h is = is
known_before (x ∷ hashes) (suc i) h is = known_before hashes i h is

known_after : (hashes : List (Option Hash)) (i : ℕ) (h : Hash) → slice_get hashes i ≡ Some (Some h)
    → slice_get (hashes ++ None ∷ []) i ≡ Some (Some h)
known_after [] zero h is = cc
known_after [] (suc i) h is = cc
known_after (x ∷ hashes) zero h is = is
known_after (x ∷ hashes) (suc i) h is = known_after hashes i h is

pub place_hashes : (half : Half) (kind : Kind) (nodes : List Body) (hashes : List (Option Hash)) → AreHashes half kind nodes hashes
    → AreHashes half kind nodes (hashes ++ None ∷ [])
place_hashes half kind nodes hashes are = record {
  within = λ i h is. are.within i h (known_before hashes i h is);
  each = λ i h is. are.each i h (known_before hashes i h is);
}

pub place_closed : (nodes : List Body) (hashes : List (Option Hash)) → AreClosed nodes hashes → AreClosed nodes (hashes ++ None ∷ [])
place_closed nodes hashes closed = record {
  kids = λ i h is b j leads.
      let was = closed.kids i h (known_before hashes i h is) b j leads in (was.0, known_after hashes j was.0 was.1);
}

-- what is known then was known, or it is the hash that was set
set_before : (hashes : List (Option Hash)) (at i : ℕ) (v h : Hash) → slice_get (set hashes at (Some v)) i ≡ Some (Some h)
    → (slice_get hashes i ≡ Some (Some h)) ⊎ ((i ≡ at) × (h ≡ v))
set_before [] at i v h is = inl is
set_before (x ∷ hashes) zero zero v h is = inr (refl, cc)
set_before (x ∷ hashes) zero (suc i) v h is = inl is
set_before (x ∷ hashes) (suc at) zero v h is = inl is
set_before (x ∷ hashes) (suc at) (suc i) v h is = elim (set_before hashes at i v h is) [ inl l ↦ inl l | inr r ↦ inr (ap suc r.0, r.1) ]

-- what was known is known
set_known : (hashes : List (Option Hash)) (at i : ℕ) (v h : Hash) → slice_get hashes i ≡ Some (Some h)
    → IsKnown (set hashes at (Some v)) i
set_known [] at i v h is = (h, is)
set_known (x ∷ hashes) zero zero v h is = (v, refl)
set_known (x ∷ hashes) zero (suc i) v h is = (h, is)
set_known (x ∷ hashes) (suc at) zero v h is = (h, is)
set_known (x ∷ hashes) (suc at) (suc i) v h is = set_known hashes at i v h is

-- the hashes are right, where that of the node at the place is set
pub set_hashes : (half : Half) (kind : Kind) (nodes : List Body) → AreBodies nodes → (hashes : List (Option Hash)) (at : ℕ) (v : Hash)
    → at < length nodes → v ≡ half (form_of (node_at half kind nodes at)) → AreHashes half kind nodes hashes
    → AreHashes half kind nodes (set hashes at (Some v))
set_hashes half kind nodes bodies hashes at v low is are = record {
  within = λ i h e. elim (set_before hashes at i v h e) [
    | inl l ↦ are.within i h l
    | inr r ↦ subst (λ n. n < length nodes) (sym r.0) low
  ];
  each = λ i h e. elim (set_before hashes at i v h e) [
    | inl l ↦ are.each i h l
    | inr r ↦ r.1 ∙ is ∙ sym (known_hash half kind nodes bodies at low) ∙ ap (λ n. link_hash half kind nodes (Own n)) (sym r.0)
  ];
}

-- they are known with all below them, where those of its kids are
pub set_closed : (nodes : List Body) (hashes : List (Option Hash)) (at : ℕ) (v : Hash) → KnowsKids nodes hashes at → AreClosed nodes hashes
    → AreClosed nodes (set hashes at (Some v))
set_closed nodes hashes at v kids closed = record {
  kids = λ i h e b j leads.
      let was : IsKnown hashes j = elim (set_before hashes at i v h e) [
        | inl l ↦ closed.kids i h l b j leads
        | inr r ↦ kids b j (ap (λ n. kid_at nodes n b) (sym r.0) ∙ leads)
      ] in
      set_known hashes at j v was.0 was.1;
}
