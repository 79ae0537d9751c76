use Rattle.std.proofs.Common.{◌≡◌, ◌<◌, ℕ, Some}
use Rattle.std.specs.List.{slice_get}
use Rattle.nib_path.specs.Paths.{nibble_of}
use Rattle.shamap_node.specs.declared.parts.Item.{Item}
use Rattle.cow_build.proofs.cut.front_len.Given as goal

abbrev pub invariant-loop-at : goal.invariant-loop-at
invariant-loop-at l = (i : ℕ) (item : Item) → i < l.at → slice_get l.items i ≡ Some item → nibble_of item.key 0 ≡ l.b
