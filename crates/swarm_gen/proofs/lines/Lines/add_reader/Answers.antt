use Rattle.swarm_gen.proofs.Adds.{reader_is}
use Rattle.swarm_gen.proofs.lines.Lines.add_reader.Goals as goal

pub returns : goal.returns
returns c = reader_is c.args.keys.now c.args.target c.args.last c.args.self.now _ _ _ c.in_ok-push.ensures.line c.in_ok-add_gets.ensures
    c.in_ok-say.ensures
