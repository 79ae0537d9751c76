use Rattle.std.proofs.Common.{sym, ap, refl, ◌∙◌}
use Rattle.ledger_spec.specs.Bytes.{Nodes}
use Rattle.rotating_store.specs.Stores.{merged}
use Rattle.log_recovery.proofs.Keeping.{loses_no_form, on_shelf}
use Rattle.log_recovery.proofs.parts.a_stop_loses_no_form.Goals as goal

pub returns : goal.returns
returns g c =
    let parts = c.parts-parts.ensures in
    let store = c.args.store.now in
    let shelf = c.parts-parts.result.shelf.now in
    record {
      on = on_shelf shelf c.parts-parts.result.archive.now c.parts-parts.result.writable.now c.parts-parts.result.ready (λ b. b.now)
          parts.numbers;
      kept = loses_no_form g.H.NodeHash.half c.known_half.ensures.size shelf c.parts-parts.result.archive.now
          c.parts-parts.result.writable.now c.parts-parts.result.ready (λ b. b.now) _ c.a_stop_loses_no_pair.ensures parts.numbers
          (parts.keeps refl)
          (ap (λ (m : Nodes). merged m store.archive) (sym (parts.maps refl).0) ∙ ap (merged _) (sym (parts.maps refl).1));
      maps = parts.maps refl;
    }
