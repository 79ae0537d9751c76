use Rattle.std.proofs.Common.{inl, refl}
use Rattle.copy_walk.proofs.walk.CopyWalk.shade.Goals as goal

-- a black hash needn't be taken
pub returns-then-contains-clause-ok : goal.returns-then-contains-clause-ok
returns-then-contains-clause-ok c = record {
  black = refl;
  grey = inl (refl, rw (← c.self.view_is) (c.contains.ensures c.if-contains.true));
}
