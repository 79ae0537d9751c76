-- the machine begins the rotation, which is told of the ledgers that are edited
use Rattle.std.proofs.Common.{sym, ◌∙◌, rules}
use Rattle.std.proofs.lemmas.Grind.{common_steps}
use Rattle.core_machine.proofs.Besides.{begin_keeps, begins_after, begins_told}
use Rattle.core_machine.proofs.Rotations.{bases_open}
use Rattle.core_machine.proofs.machine.Machine.begin.Goals as goal

pub invariant_of-self : goal.invariant_of-self
invariant_of-self g c =
    begin_keeps g.H.NodeHash.half g.Sh.B.Backend.tells c.self.inside.tables c.begin.new.self c.self.inside.sessions c.begin.result
    c.begin.ensures.after c.begin.ensures.err c.self.invariant

pub returns : goal.returns
returns g c = record {
  reply = search (rules, common_steps);
  after =
      rw (← c.self.view_is) (begins_after g.H.NodeHash.half g.Sh.B.Backend.tells c.self.inside.tables c.begin.new.self
      c.self.inside.sessions c.begin.result c.begin.ensures.after);
  told =
      let half = g.H.NodeHash.half in
      let tells = g.Sh.B.Backend.tells in
      let drafts = c.self.inside.sessions in
      rw (← c.self.view_is) (begins_told half tells c.self.inside.tables c.begin.new.self drafts _ c.begin.result
      (c.deref.ensures.value ∙ c.in_ok-bases.ensures ∙ sym (bases_open half tells c.self.inside.tables.state drafts)) c.begin.ensures.told);
  err = search (rules, common_steps);
  grows = search (rules, common_steps);
  slices = search (rules, common_steps);
  copies = λ told. rw (← c.self.view_is) (c.begin.ensures.copies told);
}
