use Rattle.std.proofs.Common.{ℕ, List, subst, arith}
use Rattle.nib_path.specs.Paths.{IsPath, path_of, length-path_of, nibbles}
use Rattle.nib_path.proofs.shared.Nibbles.{list_all-take}
use Rattle.nib_path.proofs.NodeId.known.Goals as goal

-- the path is the first nibbles of 32 bytes, at most 64, and each nibble is a half of a byte
pub returns : goal.returns
returns c =
    let own : IsPath (path_of c.self.inside) = record {
      short = omega (arith, length-path_of c.self.inside c.self.invariant, c.self.invariant.shallow);
      nibbles_below = list_all-take _ c.self.inside.depth (nibbles c.self.inside.id) c.known_small.ensures;
    } in
    subst (λ (p : List ℕ). IsPath p) c.self.view_is own
