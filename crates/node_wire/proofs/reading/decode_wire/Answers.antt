-- bytes that aren't empty are a front and a type byte, which tells how the front is read
use Rattle.std.proofs.Common.{Ok, Err, ap, get_or, refl, sym, ◌∙◌}
use Rattle.std.proofs.lemmas.Result.{err_from_is_err_and}
use Rattle.ledger_spec.specs.Forms.{inner}
use Rattle.shamap_node.specs.declared.Node.TheVariants as nodes
use Rattle.node_wire.specs.Chunks.{leaf_or_inner}
use Rattle.node_wire.specs.declared.fault.WireFault.TheVariants as faults
use Rattle.node_wire.proofs.WireLaws.{decoded_back, decoded_form}
use Rattle.node_wire.proofs.Wires.{inner_is, inner_none, last_is, read_empty, read_is}
use Rattle.node_wire.proofs.reading.decode_wire.Goals as goal

pub returns-then-is_empty-clause-cause : goal.returns-then-is_empty-clause-cause
returns-then-is_empty-clause-cause g c =
    λ other. read_empty g.H.NodeHash.half c.args.bytes.now (sym c.is_empty.ensures ∙ c.if-is_empty.true)

-- what is wrong with the front is what is wrong with the bytes
pub returns-in_err-leaf-clause-cause : goal.returns-in_err-leaf-clause-cause
returns-in_err-leaf-clause-cause g c =
    let p = err_from_is_err_and c.from_residual.result c.from_residual.ensures.1 in
    let read = read_is g.H.NodeHash.half c.args.bytes.now c.split_at.result.0.now (get_or c.split_at.result.1.now 0 0)
    (sym c.is_empty.ensures ∙ c.if-is_empty.false) c.split_at.ensures.front (last_is c.args.bytes.now _ _ c.split_at.ensures.back refl)
    in
    rw (p.1, p.2) (λ other. read ∙ c.in_err-leaf.ensures.cause other)

pub returns-in_err-leaf-clause-back : goal.returns-in_err-leaf-clause-back
returns-in_err-leaf-clause-back g c =
    let p = err_from_is_err_and c.from_residual.result c.from_residual.ensures.1 in
    let read = read_is g.H.NodeHash.half c.args.bytes.now c.split_at.result.0.now (get_or c.split_at.result.1.now 0 0)
    (sym c.is_empty.ensures ∙ c.if-is_empty.false) c.split_at.ensures.front (last_is c.args.bytes.now _ _ c.split_at.ensures.back refl)
    in
    rw (p.1, p.2)
    (decoded_back g.H.NodeHash.half (Err c.in_err-leaf.field-0.0) c.args.bytes.now tt (λ other. read ∙ c.in_err-leaf.ensures.cause other))

-- a leaf is what the front is read as
pub returns-in-Some-clause-node : goal.returns-in-Some-clause-node
returns-in-Some-clause-node g c =
    read_is g.H.NodeHash.half c.args.bytes.now c.split_at.result.0.now (get_or c.split_at.result.1.now 0 0)
    (sym c.is_empty.ensures ∙ c.if-is_empty.false) c.split_at.ensures.front (last_is c.args.bytes.now _ _ c.split_at.ensures.back refl)
    ∙ c.in_ok-leaf.ensures.read ∙ ap (λ l. leaf_or_inner l c.typed_leaf.new.hashes) c.in-Some.is

pub returns-in-Some-clause-form : goal.returns-in-Some-clause-form
returns-in-Some-clause-form g c =
    decoded_form g.H.NodeHash.half c.known_half.ensures.size (Ok (nodes.Leaf c.in-Some.leaf)) c.args.bytes.now
    (returns-in-Some-clause-node g c)

pub returns-in-Some-clause-back : goal.returns-in-Some-clause-back
returns-in-Some-clause-back g c =
    decoded_back g.H.NodeHash.half (Ok (nodes.Leaf c.in-Some.leaf)) c.args.bytes.now
    (returns-in-Some-clause-node g c) tt

-- else the inner node of the branches is, where one of them isn't empty
pub returns-in-Some-new-clause-node : goal.returns-in-Some-new-clause-node
returns-in-Some-new-clause-node g c =
    read_is g.H.NodeHash.half c.args.bytes.now c.split_at.result.0.now (get_or c.split_at.result.1.now 0 0)
    (sym c.is_empty.ensures ∙ c.if-is_empty.false) c.split_at.ensures.front (last_is c.args.bytes.now _ _ c.split_at.ensures.back refl)
    ∙ c.in_ok-leaf.ensures.read ∙ ap (λ l. leaf_or_inner l c.typed_leaf.new.hashes) c.in-None.is
    ∙ inner_is c.typed_leaf.new.hashes c.in-Some-new.ensures.1 ∙ ap (λ hs. Ok (inner hs)) (sym c.in-Some-new.ensures.0)

pub returns-in-Some-new-clause-form : goal.returns-in-Some-new-clause-form
returns-in-Some-new-clause-form g c =
    decoded_form g.H.NodeHash.half c.known_half.ensures.size (Ok (nodes.Inner c.in-Some-new.inner)) c.args.bytes.now
    (returns-in-Some-new-clause-node g c)

pub returns-in-Some-new-clause-back : goal.returns-in-Some-new-clause-back
returns-in-Some-new-clause-back g c =
    decoded_back g.H.NodeHash.half (Ok (nodes.Inner c.in-Some-new.inner)) c.args.bytes.now
    (returns-in-Some-new-clause-node g c) tt

pub returns-in-None-new-clause-cause : goal.returns-in-None-new-clause-cause
returns-in-None-new-clause-cause g c =
    λ other. read_is g.H.NodeHash.half c.args.bytes.now c.split_at.result.0.now (get_or c.split_at.result.1.now 0 0)
    (sym c.is_empty.ensures ∙ c.if-is_empty.false) c.split_at.ensures.front (last_is c.args.bytes.now _ _ c.split_at.ensures.back refl)
    ∙ c.in_ok-leaf.ensures.read ∙ ap (λ l. leaf_or_inner l c.typed_leaf.new.hashes) c.in-None.is
    ∙ inner_none c.typed_leaf.new.hashes c.in-None-new.ensures

pub returns-in-None-new-clause-back : goal.returns-in-None-new-clause-back
returns-in-None-new-clause-back g c =
    decoded_back g.H.NodeHash.half (Err faults.EmptyInner) c.args.bytes.now tt (returns-in-None-new-clause-cause g c)
