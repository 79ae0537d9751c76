-- the rotation ends with all that it was told to keep copied, or goes on
use Rattle.std.proofs.Common.{rules}
use Rattle.std.proofs.Common.{◌≡◌, true, [], sym, ◌∙◌, subst}
use Rattle.core_machine.specs.Desks.{Desk}
use Rattle.core_machine.proofs.shared.Sections.{finish_still}
use Rattle.core_machine.proofs.Turns.{finish_keeps, finish_swaps, finish_stays, finish_grows, finish_fault, finish_plain}
use Rattle.core_machine.proofs.tables.Tables.swap.Goals as goal

pub invariant_of-self : goal.invariant_of-self
invariant_of-self g c =
    let k = c.self.invariant.1 in
    let turning : c.self.inside.rotator.turning ≡ true = sym c.busy.ensures ∙ c.if-not-busy.false in (
      c.self.invariant.0,
      finish_keeps g.Sh.B.Backend.tells c.self.inside.book c.self.inside.rotator c.self.inside.store k turning
          c.finish-ended.result c.finish-ended.new.book c.finish-ended.new.self c.finish-ended.new.store c.finish-ended.ensures.after
          (λ told. c.finish-ended.ensures.ends.nodes told (k.walks told))
          (λ told. c.finish-ended.ensures.ends.fit told (k.walks told) (k.fit told))
          (λ told. c.finish-ended.ensures.ends.walks told (k.walks told)),
    )

pub swap_told-requires : goal.swap_told-requires
swap_told-requires g c =
    finish_plain c.finish-ended.result c.self.inside.store c.finish-ended.new.store c.finish-ended.ensures.ends.counts.cause

pub returns : goal.returns
returns g c = record {
  swaps = λ told.
      let k = c.self.invariant.1 in
      rw c.swap_told.ensures (rw (← c.self.view_is) (finish_swaps c.self.inside.wanted.entries c.self.inside.views.entries
      c.self.inside.book
      c.finish-ended.new.book c.self.inside.rotator c.finish-ended.new.self c.self.inside.store c.finish-ended.new.store
      c.finish-ended.result c.finish-ended.ensures.after (c.finish-ended.ensures.ends.nodes told (k.walks told))
      (c.finish-ended.ensures.ends.fit told (k.walks told) (k.fit told))
      (sym k.step ∙ sym c.busy.ensures ∙ c.if-not-busy.false)));
  err = λ told.
      rw c.swap_told.ensures (rw (← c.self.view_is) (finish_stays c.self.inside.wanted.entries c.self.inside.views.entries
      c.self.inside.book
      c.finish-ended.new.book c.self.inside.rotator c.finish-ended.new.self c.self.inside.store c.finish-ended.new.store
      c.finish-ended.result c.finish-ended.ensures.after (c.finish-ended.ensures.ends.nodes told (c.self.invariant.1.walks told))));
  kept = search rules;
  grows =
      rw (← c.self.view_is) (finish_grows c.self.inside.wanted.entries c.self.inside.views.entries c.self.inside.book
      c.finish-ended.new.book c.self.inside.rotator c.finish-ended.new.self c.self.inside.store c.finish-ended.new.store
      c.finish-ended.result c.finish-ended.ensures.after c.finish-ended.ensures.ends.counts.later);
  slices = search rules;
  -- nothing is grey, so nothing is copied before the swap
  still = λ told none.
      rw (← c.self.view_is) (finish_still c.self.inside.wanted.entries c.self.inside.views.entries c.self.inside.book
      c.finish-ended.new.book c.self.inside.rotator c.finish-ended.new.self c.self.inside.store c.finish-ended.new.store
      c.finish-ended.result c.finish-ended.ensures.after
      (c.finish-ended.ensures.ends.still told (subst (λ (d : Desk). d.grey ≡ []) (sym c.self.view_is) none)));
  fault =
      rw c.swap_told.ensures (rw (← c.self.view_is) (finish_fault c.finish-ended.result c.self.inside.store c.finish-ended.new.store
      c.finish-ended.ensures.ends.counts.cause));
}
