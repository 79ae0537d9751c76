-- an actor with fewer entries than lines would leave fewer of them in all
use Rattle.std.proofs.Common.{length, ap, arith}
use Rattle.actor_pool.proofs.Order.{counted_full}
use Rattle.actor_pool.proofs.pool.has_fewer_entries.Goals as goal

pub returns : goal.returns
returns g c = λ none.
    counted_full c.args.core.now.lines c.args.core.now.journal c.script.ensures.servable c.journal-entries.ensures.kept.projects
    c.journal-entries.ensures.kept.known
    (omega (
      arith,
      c.if-entries-len.false,
      c.len.ensures,
      c.script.result.now.lines.ok.0,
      ap length c.script.ensures.lines,
      ap length c.journal-entries.ensures.journal,
    ))
