use Rattle.std.proofs.Common.{◌≡◌, ℕ, false, refl, sym, ap, ◌∙◌}
use Rattle.std.specs.Prelude.{is_some}
use Rattle.rotating_store.specs.Stores.{sum_of}
use Rattle.rotating_store.proofs.Spares.{spare_ready, spare_unready, none_counted}
use Rattle.rotating_store.proofs.Keeping.{numbered_ready, keeps_ready}
use Rattle.rotating_store.proofs.store.RotStore.prepare.Goals as goal

pub invariant_of-self-2 : goal.invariant_of-self-2
invariant_of-self-2 g c = (
  numbered_ready _ _ _ _ _ _ _ _ c.self.invariant.0 c.in_ok-fresh.ensures.above.0 c.in_ok-fresh.ensures.lists.listed
      c.fresh.ensures.lists.others,
  λ tells. keeps_ready _ _ _ _ _ _ _ _ (c.self.invariant.1 tells) (c.in_ok-fresh.ensures.backend.empty tells)
      c.in_ok-fresh.ensures.backend.sure,
  c.self.invariant.2,
)

-- the new number is above all that are in use, and is the store's own
pub returns-clause-rest : goal.returns-clause-rest
returns-clause-rest g c = rw (← c.self.view_is) (
    let none : is_some c.self.inside.ready ≡ false = sym c.is_some.ensures ∙ c.if-is_some.false in (
      (
        refl,
        refl,
        refl,
        spare_ready (g.Sh.Shelf.live c.self.inside.shelf) _ _ _ _ c.in_ok-fresh.ensures.above.0 c.self.invariant.0.archive_live
            c.self.invariant.0.writable_live c.in_ok-fresh.ensures.lists.listed
            ∙ spare_unready g.Sh.B.Backend.number (g.Sh.Shelf.live c.self.inside.shelf) _ _ c.self.inside.ready none,
        c.fresh.ensures.lists.others,
      ),
      ap (λ (x : ℕ). sum_of c.self.inside.past_gets (g.Sh.B.Backend.gets c.self.inside.writable)
          (g.Sh.B.Backend.gets c.self.inside.archive) x)
          (c.in_ok-fresh.ensures.backend.uncounted.1 ∙ sym (none_counted g.Sh.B.Backend.gets c.self.inside.ready none)),
      refl,
    ))
