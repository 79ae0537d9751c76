use Rattle.std.proofs.Common.{refl}
use Rattle.log_shelf.specs.Entries.{number_bytes}
use Rattle.log_shelf.proofs.shelf.number_entry.Goals as goal

pub returns : goal.returns
unfolding number_bytes
returns c = rw c.to_be_bytes-b.ensures refl
