-- a sound state's listed ledgers are a finite map, so the rotation was told exactly the roots that are left
use Rattle.std.proofs.Common.{rules}
use Rattle.std.proofs.Common.{ap}
use Rattle.ledger_machine.specs.declared.commands.Command.TheVariants as command
use Rattle.ledger_machine.specs.declared.commands.Reply.TheVariants as says
use Rattle.core_machine.specs.Desks.{Desk}
use Rattle.core_machine.proofs.Rotations.{begun_does, begun_told, same_told}
use Rattle.core_machine.proofs.shared.States.{does_memory}
use Rattle.core_machine.proofs.machine.Machine.answer_begin.Goals as goal

pub returns-in-Ok-clause-acts : goal.returns-in-Ok-clause-acts
returns-in-Ok-clause-acts g c = record {
  does = λ told.
      begun_does g.H.NodeHash.half c.args.self.now.state c.begin.new.self.state c.args.actor (c.requires.may.sound told).tables.listed
      c.in-Ok.reply c.in-Ok.ensures.reply c.in-Ok.ensures.after c.in-Ok.ensures.told;
  leaves = search rules;
  copies = search rules;
  asks = tt;
}

pub returns-in-Ok-clause-carries : goal.returns-in-Ok-clause-carries
returns-in-Ok-clause-carries g c told =
    begun_told g.H.NodeHash.half c.args.self.now.state c.begin.new.self.state c.args.actor (c.requires.may.sound told).tables.listed
    c.in-Ok.reply c.in-Ok.ensures.reply c.in-Ok.ensures.after c.in-Ok.ensures.told (c.requires.may.told told)

pub returns-in-Err-clause-acts : goal.returns-in-Err-clause-acts
returns-in-Err-clause-acts g c = record {
  does = λ told.
      does_memory g.H.NodeHash.half c.args.self.now.state c.begin.new.self.state c.args.actor command.Begin tt
      (ap (λ (d : Desk). d.state) c.in-Err.ensures.err);
  leaves = search rules;
  copies = search rules;
  asks = tt;
}

pub returns-in-Err-clause-carries : goal.returns-in-Err-clause-carries
returns-in-Err-clause-carries g c told =
    same_told g.H.NodeHash.half c.args.self.now.state c.begin.new.self.state c.args.actor command.Begin says.Memory
    (ap (λ (d : Desk). d.state) c.in-Err.ensures.err) (c.requires.may.told told)
