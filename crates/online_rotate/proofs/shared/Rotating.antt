-- What a walk keeps, by what the two backends hold. For proofs of other crates.
use Rattle.std.proofs.Common.{◌≡◌, ◌≢◌, inl, inr, List, Option}
use Rattle.std.proofs.Common.{Some, None}
use Rattle.std.proofs.Common.{sym, ap, ◌∙◌, subst, refl}
use Rattle.std.specs.FinMap as finite
use Rattle.ledger_spec.specs.Bytes.{Bytes, Hash, Nodes}
use Rattle.ledger_spec.specs.Reach.{Reach, Stored}
use Rattle.rotating_store.specs.Stores.{Store, merged, nodes_of}
use Rattle.copy_walk.specs.Walks.{Walk}
use Rattle.copy_walk.specs.Walks as walks
use Rattle.online_rotate.specs.Copying.{IsWalking, CopiesSome, IsFit}

pub some_no_none : (o : Option Bytes) (form : Bytes) → o ≡ Some form → o ≢ None
some_no_none None form e n = cc
some_no_none (Some x) form e n = cc

-- both backends still have nothing in common but what is reached
pub fit_on : (shaded : List Hash) (s t : Store) → IsFit shaded s → CopiesSome shaded s t → IsFit shaded t
fit_on shaded s t fit some h written old = at (finite.get t.writable h) refl
  where
    over : Reach (finite.get (nodes_of s)) shaded h → Reach (finite.get (nodes_of t)) shaded h
    over r = subst (λ (n : Nodes). Reach (finite.get n) shaded h) (sym some.nodes) r

    archived : finite.get s.archive h ≢ None
    archived none = old (ap (λ (a : Nodes). finite.get a h) some.archive ∙ none)

    at : (o : Option Bytes) → finite.get t.writable h ≡ o → Reach (finite.get (nodes_of t)) shaded h
    at None e = absurd (written e)
    at (Some form) e = elim (some.only h form e) [
      | inl before ↦ over (fit h (some_no_none (finite.get s.writable h) form before) archived)
      | inr new ↦ over new.0
    ]

pub walking_alike : (told : List Hash) (w : Walk) (t u : Store) → IsWalking told w t → u.writable ≡ t.writable → u.archive ≡ t.archive
    → IsWalking told w u
walking_alike told w t u k p q =
    let nodes : nodes_of u ≡ nodes_of t = (λ i. merged (p i) (q i)) in
    record {
      colours = subst (λ (x : Nodes × Nodes). walks.Colours (finite.get x.0) (finite.get x.1) w) (λ i. (sym nodes i, sym p i)) k.colours;
      told = λ h c stored. k.told h c (subst (λ (n : Nodes). Stored (finite.get n) h) nodes stored);
      kept = λ h c stored. subst (λ (n : Nodes). Reach (finite.get n) told h) (sym nodes)
          (k.kept h c (subst (λ (n : Nodes). Stored (finite.get n) h) nodes stored));
    }
