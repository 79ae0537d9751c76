use Rattle.std.proofs.Common.{◌≡◌, ◌∙◌, sym, ap, arith}
use Rattle.std.proofs.lemmas.List.{take_more_same}
use Rattle.nib_path.specs.Paths.{nibbles, nibble_of, length-nibbles}
use Rattle.root_pass.proofs.pass.common.Goals as goal

pub loop-i-preserved : goal.loop-i-preserved
loop-i-preserved c =
    let one : nibble_of c.args.a.now c.loop-i.i ≡ nibble_of c.args.b.now c.loop-i.i =
    let same : c.nibble.result ≡ c.nibble-in-loop-i.result = omega arith in
    ap (λ k. nibble_of k c.loop-i.i) (sym c.a.view_is) ∙ sym c.nibble.ensures.value ∙ same ∙ c.nibble-in-loop-i.ensures.value
    ∙ ap (λ k. nibble_of k c.loop-i.i) c.b.view_is in
    take_more_same (nibbles c.args.a.now) (nibbles c.args.b.now) c.loop-i.i 0 (omega (arith, length-nibbles c.args.a.now))
    (omega (arith, length-nibbles c.args.b.now)) c.loop-i.invariant one
