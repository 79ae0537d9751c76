use Rattle.std.proofs.Common.{sym, ap, ◌∙◌}
use Rattle.std.specs.Option.{option_map}
use Rattle.log_shelf.proofs.Parsing.{none-at}
use Rattle.log_shelf.proofs.recover.file_of.Goals as goal

pub returns-in_default-clause-found : goal.returns-in_default-clause-found
returns-in_default-clause-found g c told =
    none-at (g.R.Room.files c.args.room.now) c.args.number c.new.result.items c.new.ensures.items
    (sym (ap (option_map g.R.D.Disk.seen) c.in_default.is) ∙ c.in-Ok.ensures.found told)
