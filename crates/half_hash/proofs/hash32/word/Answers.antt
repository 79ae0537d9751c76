use Rattle.half_hash.proofs.Words.{word_is}
use Rattle.half_hash.proofs.hash32.word.Goals as goal

pub returns : goal.returns
returns c = word_is c.args.bytes.now c.args.at c.from_be_bytes.result c.from_be_bytes.ensures
