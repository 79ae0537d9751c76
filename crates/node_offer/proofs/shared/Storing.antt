-- Forms that are stored behind a call that only counts. For proofs of other crates.
use Rattle.std.proofs.Common.{◌≡◌, ℕ, true, false, is_some, if◌then◌else◌, List, [], ◌∷◌}
use Rattle.std.proofs.Common.{refl, ap, ◌∙◌}
use Rattle.std.specs.FinMap as map
use Rattle.ledger_spec.specs.Bytes.{Bytes, Half}
use Rattle.ledger_spec.specs.Maps.{SetOf}
use Rattle.rotating_store.specs.Stores.{Store, nodes_of, Counted, with_pair}
use Rattle.node_offer.specs.declared.fault.OfferFault.TheVariants as faults
use Rattle.node_offer.specs.Stored.{with_forms, HasForms}

-- what is stored doesn't hang on the counts
with_counts : (half : Half) (s : Store) (f g : ℕ) (n : SetOf) (forms : List Bytes)
    → with_forms half (record s { faults = f; gets = g; noted = n }) forms
    ≡ record (with_forms half s forms) { faults = f; gets = g; noted = n }
with_counts half s f g n [] = refl
with_counts half s f g n (form ∷ forms) =
    elim (is_some (map.get (nodes_of s) (half form))) as
    (λ b. with_forms half
    (if b then record s { faults = f; gets = g; noted = n }
    else with_pair (record s { faults = f; gets = g; noted = n }) (half form) form) forms
    ≡ record (with_forms half (if b then s else with_pair s (half form) form) forms) { faults = f; gets = g; noted = n }) [
      | true ↦ with_counts half s f g n forms
      | false ↦ with_counts half (with_pair s (half form) form) f g n forms
    ]

pub counted_forms : (half : Half) (s0 s1 s2 : Store) (forms : List Bytes) → Counted s0 s1 → HasForms half forms s1 s2
    → HasForms half forms s0 s2
counted_forms half s0 s1 s2 forms read has =
    has ∙ ap (λ (x : Store). record x { faults = s2.faults; gets = s2.gets; noted = s2.noted })
    (ap (λ x. with_forms half x forms) read ∙ with_counts half s0 s1.faults s1.gets s1.noted forms)
