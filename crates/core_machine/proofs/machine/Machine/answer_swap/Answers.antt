-- each root was told to the rotation, so all that they reach stays
use Rattle.std.proofs.Common.{rules}
use Rattle.ledger_machine.specs.declared.commands.Command.TheVariants as command
use Rattle.core_machine.proofs.Rotations.{swap_does, swap_told_on, does_unread, same_told}
use Rattle.core_machine.proofs.machine.Machine.answer_swap.Goals as goal

pub swap-requires-clause-filed : goal.swap-requires-clause-filed
swap-requires-clause-filed g c κs within = λ told. (c.requires.may.sound told).forms

pub returns-in-Ok-clause-acts : goal.returns-in-Ok-clause-acts
returns-in-Ok-clause-acts g c = record {
  does = λ told.
      swap_does g.H.NodeHash.half c.args.self.now.state c.swap.new.self.state c.args.actor c.in-Ok.reply (c.in-Ok.ensures.swaps told)
      (c.requires.may.told told);
  leaves = search rules;
  copies = search rules;
  asks = tt;
}

pub returns-in-Ok-clause-carries : goal.returns-in-Ok-clause-carries
returns-in-Ok-clause-carries g c told =
    swap_told_on g.H.NodeHash.half c.args.self.now.state c.swap.new.self.state c.args.actor c.in-Ok.reply (c.in-Ok.ensures.swaps told)
    (c.requires.may.told told)

pub returns-in-Err-clause-acts : goal.returns-in-Err-clause-acts
returns-in-Err-clause-acts g c = record {
  does = λ told.
      rw c.unread.ensures (does_unread g.H.NodeHash.half c.args.self.now.state c.swap.new.self.state c.args.actor command.Swap
      c.in-Err.fault tt (c.in-Err.ensures.err told));
  leaves = search rules;
  copies = search rules;
  asks = tt;
}

pub returns-in-Err-clause-carries : goal.returns-in-Err-clause-carries
returns-in-Err-clause-carries g c told =
    same_told g.H.NodeHash.half c.args.self.now.state c.swap.new.self.state c.args.actor command.Swap c.unread.result
    (c.in-Err.ensures.err told)
    (c.requires.may.told told)
