use Rattle.std.proofs.Common.{◌∙◌, ap, sym, ◌==◌}
use Rattle.cow_map.specs.Ways.{is_only}
use Rattle.cow_map.proofs.Places.{count_from}
use Rattle.cow_map.proofs.link.Links.is_only.Goals as goal

pub returns : goal.returns
returns c =
    ap (λ n. n == 1) (c.leading.ensures ∙ sym (count_from c.self.inside.table 0 c.self.inside.places)) ∙ ap is_only c.self.view_is
