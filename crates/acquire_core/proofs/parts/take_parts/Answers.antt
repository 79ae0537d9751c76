-- all parts have an outcome, or one that has none stands behind parts that have one
use Rattle.std.specs.Option.{option_copied}
use Rattle.acquire_core.proofs.Judging.{handed_parts, header_ends, state_ends, tx_ends, all_judged}
use Rattle.acquire_core.proofs.parts.take_parts.Goals as goal

-- the first part ends the reply: its clash is that of the whole, and of the forms at most the header's is stored
pub returns-in_err-header-clause-answer : goal.returns-in_err-header-clause-answer
returns-in_err-header-clause-answer g c tells all =
    handed_parts g.H.NodeHash.half _ _ c.args.store.now c.take_header.new.store c.from_residual.result c.in_err-header.field-0.0
    c.from_residual.ensures.1
    (header_ends g.H.NodeHash.half c.args.store.now c.args.target.now c.args.header.now (option_copied c.args.state) (option_copied
    c.args.tx)
    c.in_err-header.field-0.0 c.take_header.new.store (c.in_err-header.ensures.answer tells))

-- behind a header with an outcome the state root ends the reply, over the store that the header left
pub returns-in_err-state-clause-answer : goal.returns-in_err-state-clause-answer
returns-in_err-state-clause-answer g c tells all =
    handed_parts g.H.NodeHash.half _ _ c.args.store.now c.take_root.new.store c.from_residual-in_err-state.result c.in_err-state.field-0.0
    c.from_residual-in_err-state.ensures.1
    (state_ends g.H.NodeHash.half c.args.store.now c.args.target.now c.args.header.now (option_copied c.args.state) (option_copied
    c.args.tx)
    c.in_ok-header.header c.take_header.new.store (c.in_ok-header.ensures.answer tells)
    c.in_err-state.field-0.0 c.take_root.new.store (c.in_err-state.ensures.answer tells (c.in_ok-header.ensures.kept tells all)))

-- behind two parts with an outcome the last one ends the reply, and what those two store is stored already
pub returns-in_err-tx-clause-answer : goal.returns-in_err-tx-clause-answer
returns-in_err-tx-clause-answer g c tells all =
    let filed = c.in_ok-header.ensures.kept tells all in
    handed_parts g.H.NodeHash.half _ _ c.args.store.now c.take_root-2.new.store c.from_residual-in_err-tx.result c.in_err-tx.field-0.0
    c.from_residual-in_err-tx.ensures.1
    (tx_ends g.H.NodeHash.half c.args.store.now c.args.target.now c.args.header.now (option_copied c.args.state) (option_copied c.args.tx)
    c.in_ok-header.header c.take_header.new.store (c.in_ok-header.ensures.answer tells)
    c.in_ok-state.state c.take_root.new.store (c.in_ok-state.ensures.answer tells filed)
    c.in_err-tx.field-0.0 c.take_root-2.new.store (c.in_err-tx.ensures.answer tells (c.in_ok-state.ensures.kept tells filed)))

-- each part was judged over what those before it left, so the outcomes are the reply's and its forms are stored in order
pub returns-clause-answer : goal.returns-clause-answer
returns-clause-answer g c tells all =
    let filed = c.in_ok-header.ensures.kept tells all in
    all_judged g.H.NodeHash.half c.args.store.now c.args.target.now c.args.header.now (option_copied c.args.state) (option_copied c.args.tx)
    c.in_ok-header.header c.take_header.new.store (c.in_ok-header.ensures.answer tells)
    c.in_ok-state.state c.take_root.new.store (c.in_ok-state.ensures.answer tells filed)
    c.in_ok-tx.tx c.take_root-2.new.store (c.in_ok-tx.ensures.answer tells (c.in_ok-state.ensures.kept tells filed))
