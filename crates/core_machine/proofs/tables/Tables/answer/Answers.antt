-- what is got is what the machine gets, and what isn't is a refusal that leaves the state
use Rattle.std.proofs.Common.{rules}
use Rattle.std.proofs.Common.{ap}
use Rattle.path_proof.specs.Paths.{held_nodes}
use Rattle.core_machine.proofs.Viewing.{does_got, does_ungot}
use Rattle.core_machine.proofs.tables.Tables.answer.Goals as goal

pub returns-in-Ok-clause-acts : goal.returns-in-Ok-clause-acts
returns-in-Ok-clause-acts g c = record {
  does = λ told. rw c.in-Get.is
      (does_got g.H.NodeHash.half c.args.self.now.state c.get.new.self.state c.args.actor c.in-Get.view c.in-Get.kind c.in-Get.key
      c.in-Ok.got (c.in-Ok.ensures.got told));
  leaves = search rules;
  copies = search rules;
  asks = rw c.in-Get.is tt;
}

pub returns-in-Err-clause-acts : goal.returns-in-Err-clause-acts
returns-in-Err-clause-acts g c = record {
  does = λ told. rw (c.in-Get.is, c.unread.ensures)
      (does_ungot g.H.NodeHash.half c.args.self.now.state c.get.new.self.state c.args.actor c.in-Get.view c.in-Get.kind c.in-Get.key
      c.in-Err.fault _ (c.in-Err.ensures.reads.state told) (ap held_nodes c.new.ensures.items));
  leaves = search rules;
  copies = search rules;
  asks = rw c.in-Get.is tt;
}
