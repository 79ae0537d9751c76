-- nothing is open, and nothing was told
use Rattle.std.proofs.Common.{rules}
use Rattle.core_machine.proofs.Turns.{new_keeps}
use Rattle.core_machine.proofs.tables.Tables.new.Goals as goal

pub invariant_of-result : goal.invariant_of-result
invariant_of-result g c =
    (search rules, new_keeps g.Sh.B.Backend.tells c.args.interval _ _ c.args.store c.new-3.ensures c.new-4.ensures c.requires.new)
