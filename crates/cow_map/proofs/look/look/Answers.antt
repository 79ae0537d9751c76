use Rattle.cow_map.proofs.look.look.Goals as goal

pub returns-clause-seen : goal.returns-clause-seen
returns-clause-seen g c tells = c.alone.ensures.seen _ (c.in_ok-seen.ensures.seen tells)
