-- A store that was only read tells the same. For proofs of other crates.
use Rattle.std.proofs.Common.{Bool}
use Rattle.std.proofs.Common.{ap, ◌∙◌}
use Rattle.std.specs.FinMap as map
use Rattle.ledger_spec.specs.Bytes.{Half, Lookup}
use Rattle.ledger_spec.specs.Own.{own_forms}
use Rattle.rotating_store.specs.Stores.{Store}
use Rattle.rotating_store.specs.Reading.{WasRead}
use Rattle.rotating_store.proofs.shared.Reading.{same_nodes}
use Rattle.missing_walk.specs.Views.{Tells}

-- a store that was only read tells the same
pub tells_after : (tells : Bool) (half : Half) (s s' : Store) (nodes : Lookup) → WasRead tells half s s' → Tells tells half s nodes
    → Tells tells half s' nodes
tells_after tells half s s' nodes read t = record {
  readable = read.notes t.readable;
  same = ap (λ n. own_forms half (map.get n)) (same_nodes s s' (read.same t.readable.0)) ∙ t.same;
}
