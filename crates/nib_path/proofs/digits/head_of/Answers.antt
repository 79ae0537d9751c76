use Rattle.std.proofs.Common.{◌≤◌, ◌/◌, arith}
use Rattle.nib_path.proofs.Places.{head-start, head-odd, head-even}
use Rattle.nib_path.proofs.digits.head_of.Goals as goal

-- an odd depth ends within a byte, so the last nibble is set behind those of the whole bytes
pub returns-then-depth-eq1 : goal.returns-then-depth-eq1
returns-then-depth-eq1 c =
    let within : c.args.depth / 2 ≤ 32 = omega arith in
    let start = head-start c.args.key.now c.copy_from_slice.new.self (c.args.depth / 2) within c.copy_from_slice.ensures.after in
    head-odd c.args.key.now _ c.set_nibble.new.id c.args.depth c.nibble.result c.if-depth-eq1.true c.requires c.told-key start
    c.nibble.ensures.value c.set_nibble.ensures

pub returns-else-depth-eq1 : goal.returns-else-depth-eq1
returns-else-depth-eq1 c =
    let within : c.args.depth / 2 ≤ 32 = omega arith in
    let start = head-start c.args.key.now c.copy_from_slice.new.self (c.args.depth / 2) within c.copy_from_slice.ensures.after in
    head-even c.args.key.now _ c.args.depth c.if-depth-eq1.false start
