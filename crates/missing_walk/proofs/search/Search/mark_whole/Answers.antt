use Rattle.std.proofs.Common.{sym}
use Rattle.missing_walk.proofs.Finishing.{roots_marked, either_root}
use Rattle.missing_walk.proofs.search.Search.mark_whole.Goals as goal

pub returns-clause-marks : goal.returns-clause-marks
returns-clause-marks c half nodes cache going over =
    roots_marked half nodes c.args.self.now cache c.args.marks.now c.mark_roots.new.marks going over (sym c.if-not-is_whole.ensures)
    (either_root c.mark_roots.result c.args.self.now.header c.args.marks.now c.mark_roots.new.marks c.mark_roots.ensures.ok
    c.mark_roots.ensures.err)
