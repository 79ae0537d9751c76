use Rattle.std.proofs.Common.{◌≡◌, ◌*◌, ◌/◌, suc, sym, ap, ◌∙◌, arith}
use Rattle.std.specs.Prelude.{slice_index}
use Rattle.nib_path.specs.Paths.{nibbles}
use Rattle.nib_path.proofs.Nibbles.{nibbles-high, nibbles-low}
use Rattle.nib_path.proofs.digits.nibble.Goals as goal

-- each byte has two nibbles, the high one first, so an even one is the high half of byte i / 2
pub returns-then-i-eq0-clause-value : goal.returns-then-i-eq0-clause-value
returns-then-i-eq0-clause-value c =
    let e : c.args.i ≡ 2 * (c.args.i / 2) = omega arith in
    let f : slice_index (nibbles c.args.key.now) c.args.i ≡ slice_index (nibbles c.args.key.now) (2 * (c.args.i / 2)) =
    ap (slice_index (nibbles c.args.key.now)) e in
    sym (f ∙ nibbles-high c.args.key.now (c.args.i / 2))

-- each byte has two nibbles, the high one first, so an odd one is the low half of byte i / 2
pub returns-else-i-eq0-clause-value : goal.returns-else-i-eq0-clause-value
returns-else-i-eq0-clause-value c =
    let e : c.args.i ≡ suc (2 * (c.args.i / 2)) = omega arith in
    let f : slice_index (nibbles c.args.key.now) c.args.i ≡ slice_index (nibbles c.args.key.now) (suc (2 * (c.args.i / 2))) =
    ap (slice_index (nibbles c.args.key.now)) e in
    sym (f ∙ nibbles-low c.args.key.now (c.args.i / 2))
