-- what was collected, one behind the other
use Rattle.std.proofs.Common.{◌++◌, ap, ◌∙◌}
use Rattle.std.specs.Map.{keys_of}
use Rattle.core_machine.proofs.tables.Tables.targets.Goals as goal

pub returns : goal.returns
returns g c =
    rw (← c.self.view_is) (c.in_ok-extend_from_slice-2.ensures.items
    ∙ ap (λ hs. hs ++ c.args.bases.now) (c.in_ok-extend_from_slice.ensures.items
    ∙ ap (λ hs. c.in_ok-hashes.hashes.items ++ hs) (c.deref.ensures.value ∙ c.in_ok-wanted.ensures)
    ∙ ap (λ hs. hs ++ keys_of c.self.inside.wanted.entries) c.in_ok-hashes.ensures))
