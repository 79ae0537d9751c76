-- a sound state has only forms under their own hashes
use Rattle.core_machine.proofs.machine.Machine.close.Goals as goal

pub publish-requires-clause-filed : goal.publish-requires-clause-filed
publish-requires-clause-filed g c κs within = λ told. (c.requires.may.sound told).forms
