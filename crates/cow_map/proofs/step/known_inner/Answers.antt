use Rattle.cow_map.proofs.shared.Keys.{differ_above}
use Rattle.cow_map.proofs.step.known_inner.Goals as goal

pub returns : goal.returns
returns c = differ_above _ _ _ c.known-2.ensures c.known-3.ensures c.requires.first c.requires.second c.requires.differ
    c.known.ensures.short
