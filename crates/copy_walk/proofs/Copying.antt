-- What a copy forward does to the two backends.
use Rattle.std.proofs.Common.{◌≡◌, ◌⊎◌, inl, inr, cond, Some, None, Result, Ok, Err, refl, sym, ap, ◌∙◌}
use Rattle.std.specs.Ordering.{nat_cmp, is_eq}
use Rattle.std.specs.Cmp.Lexicographic.{slice_cmp, nat_list_cmp_total}
use Rattle.std.specs.declared.cmp.Ordering.{Ordering}
use Rattle.std.specs.declared.cmp.Ordering.TheVariants.{Less, Equal, Greater}
use Rattle.std.specs.FinMap as finite
use Rattle.std.specs.FinMap.{get-insert}
use Rattle.node_backend.proofs.shared.Tables.{hashes_antisymmetric}
use Rattle.ledger_spec.specs.Bytes.{Bytes, Hash, Nodes}
use Rattle.rotating_store.specs.Stores.{Store, nodes_of}
use Rattle.rotating_store.specs.Moves.{Moves, IsOld}
use Rattle.rotating_store.specs.declared.pair.Moved.{Moved}
use Rattle.rotating_store.specs.declared.pair.Moved.TheVariants as moved
use Rattle.rotating_store.proofs.shared.Merging.{get-merged}
use Rattle.copy_walk.specs.Slices.{CopiesOne}
use Rattle.copy_walk.proofs.shared.Striding.{some_not_none, one_form}

-- what is got after an insertion was there before, or is what was inserted
inserted : (w : Nodes) (h : Hash) (form : Bytes) (q : Hash) (f : Bytes) → finite.get (finite.insert w h form) q ≡ Some f
    → (finite.get w q ≡ Some f) ⊎ ((q ≡ h) × (form ≡ f))
inserted w h form q f e = at (slice_cmp nat_cmp q h) refl (sym (get-insert nat_list_cmp_total w h form q) ∙ e)
  where
    at : (r : Ordering) → slice_cmp nat_cmp q h ≡ r → cond (is_eq r) (Some form) (finite.get w q) ≡ Some f
        → (finite.get w q ≡ Some f) ⊎ ((q ≡ h) × (form ≡ f))
    at Less is g = inl g
    at Equal is g = inr (hashes_antisymmetric q h is, one_form (Some form) form f refl g)
    at Greater is g = inl g

-- and what was there stays, where the hash is new
kept_inserted : (w : Nodes) (h : Hash) (form : Bytes) → finite.get w h ≡ None → (q : Hash) (f : Bytes) → finite.get w q ≡ Some f
    → finite.get (finite.insert w h form) q ≡ Some f
kept_inserted w h form none q f e =
    get-insert nat_list_cmp_total w h form q ∙ at (slice_cmp nat_cmp q h) refl
  where
    at : (r : Ordering) → slice_cmp nat_cmp q h ≡ r → cond (is_eq r) (Some form) (finite.get w q) ≡ Some f
    at Less is = e
    at Equal is = some_not_none (finite.get w q) f e (ap (finite.get w) (hashes_antisymmetric q h is) ∙ none)
    at Greater is = e

-- nothing was copied
unmoved : (h : Hash) (s s1 : Store) → nodes_of s1 ≡ nodes_of s → s1.archive ≡ s.archive → s1.writable ≡ s.writable → CopiesOne h s s1
unmoved h s s1 nodes archive same = record {
  nodes = nodes;
  archive = archive;
  copies = record {
    kept = λ q form e. ap (λ (w : Nodes). finite.get w q) same ∙ e;
    only = λ q form e. inl (ap (λ (w : Nodes). finite.get w q) (sym same) ∙ e);
  };
}

-- the archive's form was copied, under a hash that the writable backend lacked
moved_one : (h : Hash) (s s1 : Store) (form : Bytes) → nodes_of s1 ≡ nodes_of s → s1.archive ≡ s.archive
    → IsOld s.writable s.archive h form → s1.writable ≡ finite.insert s.writable h form → CopiesOne h s s1
moved_one h s s1 form nodes archive old put = record {
  nodes = nodes;
  archive = archive;
  copies = record {
    kept = λ q f e. ap (λ (w : Nodes). finite.get w q) put ∙ kept_inserted s.writable h form old.0 q f e;
    only = λ q f e. go q f (inserted s.writable h form q f (ap (λ (w : Nodes). finite.get w q) (sym put) ∙ e));
  };
}
  where
    there : finite.get (nodes_of s) h ≡ Some form
    there = get-merged s.writable s.archive h ∙ rw old.0 old.1

    go : (q : Hash) (f : Bytes) → (finite.get s.writable q ≡ Some f) ⊎ ((q ≡ h) × (form ≡ f))
        → (finite.get s.writable q ≡ Some f) ⊎ ((q ≡ h) × (finite.get (nodes_of s) q ≡ Some f))
    go q f found = elim found [
      | inl before ↦ inl before
      | inr is ↦ inr (is.0, ap (finite.get (nodes_of s)) is.0 ∙ there ∙ ap Some is.1)
    ]

-- a copy forward
pub copied_one : {E : Type 0} (h : Hash) (s s1 : Store) (r : Result Moved E) → nodes_of s1 ≡ nodes_of s → s1.archive ≡ s.archive
    → Moves s.writable s.archive h r s1.writable → CopiesOne h s s1
copied_one h s s1 (Ok moved.Copied) nodes archive is = moved_one h s s1 is.0 nodes archive is.1 is.2
copied_one h s s1 (Ok moved.There) nodes archive is = unmoved h s s1 nodes archive is.1
copied_one h s s1 (Ok moved.Nowhere) nodes archive is = unmoved h s s1 nodes archive is.2
copied_one h s s1 (Err e) nodes archive is = elim is [
  | inl same ↦ unmoved h s s1 nodes archive same
  | inr put ↦ moved_one h s s1 put.0 nodes archive put.1 put.2
]
