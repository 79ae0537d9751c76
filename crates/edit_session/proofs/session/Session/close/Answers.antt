-- each exit names the first zero of the forms up to there; the end has the header over both roots
use Rattle.std.proofs.Common.{◌∙◌, ap, Err}
use Rattle.std.proofs.lemmas.Result.{err_from_is_err_and}
use Rattle.cow_map.specs.declared.seal.Sealed.{Sealed}
use Rattle.edit_session.proofs.Ending.{state_ends, txs_end, header_ends, closed, ok_map}
use Rattle.edit_session.proofs.session.Session.close.Goals as goal

-- the account state's forms come before all others, so the first zero hash among them is the first of all
pub returns-in_err-state-clause-zero : goal.returns-in_err-state-clause-zero
returns-in_err-state-clause-zero g c stored accounts txs own edits =
    let p = err_from_is_err_and c.from_residual.result c.from_residual.ensures.1 in
    state_ends g.H.NodeHash.half c.known_half.ensures.size c.the_forms_made_are_the_trees.ensures stored own _ _ c.self.view_is
    c.self.invariant.state c.self.invariant.txs c.args.fields.now accounts txs edits Sealed _ _ (p.1 ∙ ap Err p.2)
    (c.in_err-state.ensures.zero stored)

-- no form of the account state has the zero hash, so the first among the transactions' is the first of all
pub returns-in_err-txs-clause-zero : goal.returns-in_err-txs-clause-zero
returns-in_err-txs-clause-zero g c stored accounts txs own edits =
    let p = err_from_is_err_and c.from_residual-in_err-txs.result c.from_residual-in_err-txs.ensures.1 in
    txs_end g.H.NodeHash.half c.known_half.ensures.size c.the_forms_made_are_the_trees.ensures stored own _ _ c.self.view_is
    c.self.invariant.state c.self.invariant.txs c.args.fields.now accounts txs edits Sealed _ _ (p.1 ∙ ap Err p.2)
    (c.in_ok-state.ensures.zero stored) (c.in_err-txs.ensures.zero stored)

-- no form of either map has the zero hash, so only the header's form, the last one, can have it
pub returns-clause-zero : goal.returns-clause-zero
returns-clause-zero g c stored accounts txs own edits =
    header_ends g.H.NodeHash.half c.known_half.ensures.size c.the_forms_made_are_the_trees.ensures stored own _ _ c.self.view_is
    c.self.invariant.state c.self.invariant.txs c.args.fields.now accounts txs edits c.header-header.result _ _
    c.header-header.ensures (c.in_ok-state.ensures.seals.root stored) (c.in_ok-txs.ensures.seals.root stored) c.closed_with.result
    (c.in_ok-state.ensures.zero stored) (c.in_ok-txs.ensures.zero stored) c.closed_with.ensures.zero

-- the two seals give both maps' roots and forms, and the header over these roots adds its own form at the end
pub returns-clause-closes : goal.returns-clause-closes
returns-clause-closes g c =
    ok_map c.closed_with.result _ _ c.closed_with.ensures.ends (λ k ends stored accounts txs own edits.
    closed g.H.NodeHash.half c.known_half.ensures.size c.the_forms_made_are_the_trees.ensures stored own _ _ c.self.view_is
    c.self.invariant.state c.self.invariant.txs c.args.fields.now accounts txs edits c.header-header.result _ _
    c.header-header.ensures (c.in_ok-state.ensures.seals.root stored) (c.in_ok-txs.ensures.seals.root stored) k _ _ c.requires
    (c.in_ok-state.ensures.zero stored) ends.header (c.in_ok-state.ensures.seals.forms stored)
    (c.in_ok-txs.ensures.seals.forms stored) ends.forms)
