use Rattle.cow_map.proofs.Getting.{same_key, other_key}
use Rattle.cow_map.proofs.get.if_same.Goals as goal

pub returns-then-equals : goal.returns-then-equals
returns-then-equals c = same_key c.args.own c.args.key.now c.args.bytes c.if-equals.ensures

pub returns-else-equals : goal.returns-else-equals
returns-else-equals c = other_key c.args.own c.args.key.now c.args.bytes c.if-equals.ensures
