use Rattle.std.proofs.Common.{◌∙◌, ap, sym, length}
use Rattle.cow_map.proofs.Places.{length_from}
use Rattle.cow_map.proofs.link.Links.known.Goals as goal

pub returns : goal.returns
returns c = ap length (sym c.self.view_is) ∙ length_from c.self.inside.table 0 c.self.inside.places ∙ c.self.invariant
