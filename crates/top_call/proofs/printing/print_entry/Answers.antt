use Rattle.std.proofs.Common.{refl, []}
use Rattle.top_call.proofs.printing.print_entry.Goals as goal
use Rattle.run_io.proofs.shared.Bytes.{wrote_front, wrote_nothing}

pub returns-in_default-line-clause-part : goal.returns-in_default-line-clause-part
returns-in_default-line-clause-part g c = wrote_front _ _ [] _ (wrote_nothing _) (_, refl)
