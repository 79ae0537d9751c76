use Rattle.std.proofs.Common.{◌≡◌, ◌*◌, ◌/◌, suc, ap, ◌∙◌, arith}
use Rattle.std.specs.Prelude.{slice_set}
use Rattle.nib_path.specs.Paths.{nibbles}
use Rattle.nib_path.proofs.Nibbles.{nibbles-set_high, nibbles-set_low}
use Rattle.nib_path.proofs.digits.set_nibble.Goals as goal
use Rattle.nib_path.proofs.digits.set_nibble.Goals.{then-i-eq0, else-i-eq0}

-- an even nibble is the high half of its byte and an odd one the low half, and the other half stays as it is
pub returns : goal.returns
returns c =
    elim c.if-i-eq0.branch [
      | then-i-eq0 w ↦
          let e : 2 * (c.args.i / 2) ≡ c.args.i = omega (arith, w.if-i-eq0) in
          rw w.id-is (nibbles-set_high c.args.id.now (c.args.i / 2) c.args.n ∙ ap (λ k. slice_set (nibbles c.args.id.now) k c.args.n) e)
      | else-i-eq0 w ↦
          let e : suc (2 * (c.args.i / 2)) ≡ c.args.i = omega (arith, w.if-i-eq0) in
          rw w.id-is (nibbles-set_low c.args.id.now (c.args.i / 2) c.args.n c.requires.small
          ∙ ap (λ k. slice_set (nibbles c.args.id.now) k c.args.n) e)
    ]
