use Rattle.std.proofs.Common.{◌≡◌, ◌*◌}
use Rattle.nib_path.specs.Paths.{nibbles, first_set_from}
use Rattle.nib_path.proofs.digits.first_set_byte.Given as goal

-- the bytes so far are zero
abbrev pub invariant-loop-at : goal.invariant-loop-at
invariant-loop-at l = first_set_from (2 * l.initial.at) (nibbles l.id) ≡ first_set_from (2 * l.at) (nibbles l.id)
