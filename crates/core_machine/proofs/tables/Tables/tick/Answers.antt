-- the acquisition that is lent is open, so it had fewer than seven ticks; one that is given up is open no more
use Rattle.std.proofs.Common.{sym, ◌∙◌, ap, subst}
use Rattle.ledger_spec.specs.Maps.{ForHash, hash_cmp, set_in, remove_in}
use Rattle.ledger_spec.specs.Acquiring.{Acquiring}
use Rattle.ledger_spec.specs.Peers.{after_tick}
use Rattle.core_machine.specs.Wanting.{AreOpen}
use Rattle.core_machine.proofs.Opens.{set_open, found_open, remove_open, remove_set, ticked_open, removed_desk}
use Rattle.core_machine.proofs.tables.Tables.tick.Goals as goal

pub tick-requires : goal.tick-requires
tick-requires g c =
    (found_open c.args.target.now c.self.inside.wanted.entries c.in-Some.acquire.now c.self.invariant.0
    (sym c.in-Some.ensures.value)).awaited

-- it isn't the seventh tick, so there were fewer than six before
pub invariant_of-self-in-Timeout : goal.invariant_of-self-in-Timeout
invariant_of-self-in-Timeout g c =
    let wanted : ForHash Acquiring = c.self.inside.wanted.entries in
    let a : Acquiring = c.in-Some.acquire.now in
    let after : Acquiring = record a { peers = after_tick a.peers } in
    let is = (c.get_mut.follows.holds c.tick.new.self).0 ∙ ap (set_in hash_cmp wanted c.args.target.now) c.in-Timeout.ensures.after in (
      subst AreOpen (sym is)
          (set_open c.args.target.now wanted after c.self.invariant.0
          (ticked_open c.args.target.now a c.in-Timeout.number (sym c.in-Timeout.ensures.answer)
          (found_open c.args.target.now wanted a c.self.invariant.0 (sym c.in-Some.ensures.value)))),
      c.self.invariant.1,
    )

-- the others stay open
pub invariant_of-self-in-GaveUp : goal.invariant_of-self-in-GaveUp
invariant_of-self-in-GaveUp g c =
    let wanted : ForHash Acquiring = c.self.inside.wanted.entries in
    let is = c.remove.ensures.entries
    ∙ ap (λ (m : ForHash Acquiring). remove_in hash_cmp m c.args.target.now) (c.get_mut.follows.holds c.tick.new.self).0
    ∙ remove_set _ wanted c.tick.new.self in
    (subst AreOpen (sym is) (remove_open c.args.target.now wanted c.self.invariant.0), c.self.invariant.1)

-- what is taken out is the acquisition that was open, whatever the tick made of it
pub returns-in-GaveUp-clause-after : goal.returns-in-GaveUp-clause-after
returns-in-GaveUp-clause-after g c =
    let wanted : ForHash Acquiring = c.self.inside.wanted.entries in
    removed_desk c.args.target.now _ _ c.self.view_is _
    (c.remove.ensures.entries
    ∙ ap (λ (m : ForHash Acquiring). remove_in hash_cmp m c.args.target.now) (c.get_mut.follows.holds c.tick.new.self).0
    ∙ remove_set _ wanted c.tick.new.self)
