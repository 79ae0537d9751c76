use Rattle.std.proofs.Common.{arith, refl, ◌≡◌, ◌≤◌, ◌+◌, ◌-◌, ◌*◌, ◌∙◌, length, drop, length-take, length-drop}
use Rattle.ledger_spec.proofs.shared.Hashes.{write_step, write_all, write_size}
use Rattle.shamap_node.proofs.forms.body_of.Goals as goal

-- a hash has 32 bytes, so the next one is written just where the hashes before it end
pub loop-b-preserved : goal.loop-b-preserved
loop-b-preserved c =
    let count : length c.args.inner.now.hashes ≡ 16 = omega arith in
    let at : c.loop-b.b * 32 + 32 ≤ length c.loop-b.body = omega arith in
    let wide : c.loop-b.b * 32 + 32 - c.loop-b.b * 32 ≡ 32 = omega arith in
    let size : length c.copy_from_slice-in-loop-b.new.self ≡ 32 =
    omega (
      arith,
      c.copy_from_slice-in-loop-b.ensures.len,
      length-take (c.loop-b.b * 32 + 32 - c.loop-b.b * 32)
          (drop (c.loop-b.b * 32) c.loop-b.body),
      length-drop (c.loop-b.b * 32) c.loop-b.body,
    ) in
    record {
      size = write_size c.loop-b.body c.copy_from_slice-in-loop-b.new.self (c.loop-b.b * 32) _ wide at size ∙ c.loop-b.invariant.size;
      written = write_step c.loop-b.body c.copy_from_slice-in-loop-b.new.self c.args.inner.now.hashes c.loop-b.b
          (c.loop-b.b * 32) _ refl wide (omega arith) size (omega arith)
          (c.copy_from_slice-in-loop-b.ensures.after ∙ c.copy_from_slice.view_is ∙ c.branch-inner.ensures) c.loop-b.invariant.written;
    }

pub returns : goal.returns
returns c =
    let end : c.loop-b.b ≡ 16 = omega arith in
    let count : length c.args.inner.now.hashes ≡ 16 = omega arith in
    write_all c.loop-b.body c.args.inner.now.hashes 16 c.loop-b.b count c.loop-b.invariant.size end c.loop-b.invariant.written
