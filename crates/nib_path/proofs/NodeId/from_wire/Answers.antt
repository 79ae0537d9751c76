use Rattle.std.proofs.Common.{◌≡◌, length, ap, ◌∙◌, arith, length-take}
use Rattle.nib_path.specs.Wire.{read_wire_id}
use Rattle.nib_path.proofs.Reading.{read_wire_id-IfOk, read_wire_id-whole}
use Rattle.nib_path.proofs.shared.Reading.{length-id_wire, read_wire_id-id_wire}
use Rattle.nib_path.proofs.NodeId.from_wire.Goals as goal

pub returns-then-bytes-ne33-clause-back : goal.returns-then-bytes-ne33-clause-back
returns-then-bytes-ne33-clause-back c = λ path h e. absurd (c.if-bytes-ne33.true (ap length e ∙ length-id_wire path h))

pub slice_bounds-copy_from_slice-end-2 : goal.slice_bounds-copy_from_slice-end-2
slice_bounds-copy_from_slice-end-2 c = omega (arith, length-take 32 c.args.bytes.now)

pub copy_from_slice-requires : goal.copy_from_slice-requires
copy_from_slice-requires c = omega (arith, length-take 32 c.args.bytes.now)

-- a path is read only where the nibbles behind its depth are zero, so its 32 bytes and its depth are those that were sent
pub returns-clause-ok : goal.returns-clause-ok
returns-clause-ok c =
    let exact : c.of_parts.result ≡ read_wire_id c.args.bytes.now =
    read_wire_id-whole _ c.copy_from_slice.new.self c.of_parts.result c.if-bytes-ne33.false c.copy_from_slice.ensures.after
    c.of_parts.ensures in
    read_wire_id-IfOk c.args.bytes.now c.of_parts.result exact

-- a path's wire form has 33 bytes, a depth of at most 64 and zeros behind it, so the path is read back from it
pub returns-clause-back : goal.returns-clause-back
returns-clause-back c =
    let exact : c.of_parts.result ≡ read_wire_id c.args.bytes.now =
    read_wire_id-whole _ c.copy_from_slice.new.self c.of_parts.result c.if-bytes-ne33.false c.copy_from_slice.ensures.after
    c.of_parts.ensures in
    λ path h e. exact ∙ ap read_wire_id e ∙ read_wire_id-id_wire path h
