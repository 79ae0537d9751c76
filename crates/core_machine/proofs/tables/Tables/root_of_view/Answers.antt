-- the header of the pinned ledger names the root
use Rattle.std.proofs.Common.{◌≡◌, refl, sym, ap, ◌∙◌, Some}
use Rattle.ledger_spec.specs.Maps.{numbered_cmp, get_in}
use Rattle.ledger_machine.specs.State.{State}
use Rattle.rotating_store.proofs.shared.Reading.{stored_notes}
use Rattle.core_machine.specs.Desks.{Desk}
use Rattle.core_machine.proofs.shared.Entries.{IsOver, filed_over}
use Rattle.core_machine.proofs.Turns.{keeps_was_read}
use Rattle.core_machine.proofs.Viewing.{root_found, no_root, only_reads}
use Rattle.core_machine.proofs.tables.Tables.root_of_view.Goals as goal

pub returns-in-Some-clause-root : goal.returns-in-Some-clause-root
returns-in-Some-clause-root g c told =
    let half = g.H.NodeHash.half in
    let s : State = c.args.self.now.state in
    let is : IsOver c.self.inside.store s = rw (← c.self.view_is) (record { nodes = refl; born = refl; epoch = refl }) in
    let viewed : get_in numbered_cmp s.views (c.args.actor, c.args.view) ≡ Some c.in-Some.target =
    rw (← c.self.view_is) (sym c.get.ensures.value ∙ sym c.copied.ensures ∙ c.in-Some.is) in
    root_found half c.self.inside.store s (c.args.actor, c.args.view) c.in-Some.target c.args.kind c.root_in.result is (c.requires told)
    viewed
    (c.root_in.ensures.root (told, stored_notes half c.self.inside.store (filed_over half c.self.inside.store s is (c.requires told))))

pub returns-in-None-clause-root : goal.returns-in-None-clause-root
returns-in-None-clause-root g c told =
    let s : State = c.args.self.now.state in
    no_root s (c.args.actor, c.args.view) c.args.kind
    (rw (← c.self.view_is) (sym c.get.ensures.value ∙ sym c.copied.ensures ∙ c.in-None.is))

-- the store was only read
pub returns-in-Some-clause-reads : goal.returns-in-Some-clause-reads
returns-in-Some-clause-reads g c =
    let d : Desk = c.args.self.now in
    let is : IsOver c.self.inside.store d.state = rw (← c.self.view_is) (record { nodes = refl; born = refl; epoch = refl }) in
    only_reads _ _ _ _ c.self.inside.store c.root_in.new.store c.self.view_is refl is (ap (λ (x : Desk). x.faults) c.self.view_is)
    c.root_in.ensures.read

pub invariant_of-self : goal.invariant_of-self
invariant_of-self g c = (
  c.self.invariant.0,
  keeps_was_read g.Sh.B.Backend.tells c.self.inside.book c.self.inside.rotator c.self.inside.store c.self.invariant.1
      g.H.NodeHash.half c.root_in.new.store c.root_in.ensures.read,
)
