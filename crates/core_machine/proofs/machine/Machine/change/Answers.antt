-- a sound state has only forms under their own hashes
use Rattle.core_machine.proofs.machine.Machine.change.Goals as goal

pub put-requires-after_bounds : goal.put-requires-after_bounds
put-requires-after_bounds g c κs within = λ told. (c.requires.may.sound told).forms

pub del-requires-after_bounds : goal.del-requires-after_bounds
del-requires-after_bounds g c κs within = λ told. (c.requires.may.sound told).forms

pub tx-requires-after_bounds : goal.tx-requires-after_bounds
tx-requires-after_bounds g c κs within = λ told. (c.requires.may.sound told).forms
