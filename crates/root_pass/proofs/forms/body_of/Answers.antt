use Rattle.std.proofs.Common.{arith, refl, ◌≡◌, ◌≤◌, ◌<◌, ◌+◌, ◌-◌, ◌*◌, ◌∙◌, length, drop, length-take, length-drop}
use Rattle.std.proofs.lemmas.List.{get_or_default}
use Rattle.ledger_spec.specs.Bytes.{zero_hash}
use Rattle.ledger_spec.proofs.shared.Hashes.{write_step, write_all, write_size}
use Rattle.root_pass.proofs.forms.body_of.Goals as goal

-- a hash has 32 bytes, so the next one is written just where the hashes before it end
pub loop-b-preserved : goal.loop-b-preserved
loop-b-preserved c =
    let below : c.loop-b.b < length c.args.branches.now = omega arith in
    let at : c.loop-b.b * 32 + 32 ≤ length c.loop-b.body = omega arith in
    let wide : c.loop-b.b * 32 + 32 - c.loop-b.b * 32 ≡ 32 = omega arith in
    let size : length c.copy_from_slice.new.self ≡ 32 =
    omega (
      arith,
      c.copy_from_slice.ensures.len,
      length-take (c.loop-b.b * 32 + 32 - c.loop-b.b * 32) (drop (c.loop-b.b * 32) c.loop-b.body),
      length-drop (c.loop-b.b * 32) c.loop-b.body,
    ) in
    record {
      size = write_size c.loop-b.body c.copy_from_slice.new.self (c.loop-b.b * 32) _ wide at size ∙ c.loop-b.invariant.size;
      written = write_step c.loop-b.body c.copy_from_slice.new.self c.args.branches.now c.loop-b.b
          (c.loop-b.b * 32) _ refl wide (omega arith) size below
          (c.copy_from_slice.ensures.after ∙ c.hash.view_is ∙ c.index-branches-b.is
          ∙ get_or_default c.args.branches.now c.loop-b.b c.index-branches-b.result zero_hash below) c.loop-b.invariant.written;
    }

pub returns : goal.returns
returns c =
    let end : c.loop-b.b ≡ 16 = omega arith in
    write_all c.loop-b.body c.args.branches.now 16 c.loop-b.b c.requires c.loop-b.invariant.size end c.loop-b.invariant.written
