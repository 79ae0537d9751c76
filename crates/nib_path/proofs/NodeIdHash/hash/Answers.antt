use Rattle.std.proofs.Common.{refl}
use Rattle.nib_path.specs.Paths.{length_of_view, id_of_view}
use Rattle.nib_path.proofs.NodeIdHash.hash.Goals as goal

-- what is hashed, the first eight bytes and the depth, is of the ID and the length of the path
pub returns : goal.returns
returns g c = rw (
  id_of_view c.self.inside _ c.self.invariant c.self.view_is,
  length_of_view c.self.inside _ c.self.invariant c.self.view_is,
  c.write-2.ensures,
  c.write.ensures,
)
    refl
