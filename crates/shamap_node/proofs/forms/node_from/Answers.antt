use Rattle.std.proofs.Common.{sym, ap, ◌∙◌, Some}
use Rattle.std.proofs.lemmas.Result.{err_from_is_err_and}
use Rattle.shamap_node.specs.declared.forms.FormFault.TheVariants.{Prefix}
use Rattle.shamap_node.proofs.Reading.{cause_short, cause_min, cause_mln, cause_snd, cause_txn, cause_prefix}
use Rattle.shamap_node.proofs.forms.node_from.Goals as goal

pub returns-then-bytes-lt4-clause-cause : goal.returns-then-bytes-lt4-clause-cause
returns-then-bytes-lt4-clause-cause g c = λ other. cause_short g.H.NodeHash.half c.args.bytes.now c.if-bytes-lt4.true

pub returns-in_err-inner_behind-clause-cause : goal.returns-in_err-inner_behind-clause-cause
returns-in_err-inner_behind-clause-cause g c =
    let p = err_from_is_err_and c.from_residual.result c.from_residual.ensures.1 in
    rw (p.1, p.2) (λ other. cause_min g.H.NodeHash.half c.args.bytes.now c.if-bytes-lt4.false (sym c.begins.ensures ∙ c.if-begins.true)
    ∙ c.in_err-inner_behind.ensures.cause)

-- the bytes begin with an account state's prefix, so the cause is what is wrong with its data and key
pub returns-in_err-item-clause-cause : goal.returns-in_err-item-clause-cause
returns-in_err-item-clause-cause g c =
    let p = err_from_is_err_and c.from_residual-in_err-item.result c.from_residual-in_err-item.ensures.1 in
    rw (p.1, p.2) (λ other. cause_mln g.H.NodeHash.half c.args.bytes.now c.if-bytes-lt4.false (sym c.begins.ensures ∙ c.if-begins.false)
    (sym c.begins-2.ensures ∙ c.if-begins-2.true)
    ∙ c.in_err-item.ensures.cause other)

-- the bytes begin with the prefix of a transaction with metadata, so the cause is what is wrong with its data and key
pub returns-in_err-item-2-clause-cause : goal.returns-in_err-item-2-clause-cause
returns-in_err-item-2-clause-cause g c =
    let p = err_from_is_err_and c.from_residual-in_err-item-2.result c.from_residual-in_err-item-2.ensures.1 in
    rw (p.1, p.2) (λ other. cause_snd g.H.NodeHash.half c.args.bytes.now c.if-bytes-lt4.false (sym c.begins.ensures ∙ c.if-begins.false)
    (sym c.begins-2.ensures ∙ c.if-begins-2.false)
    (sym c.begins-3.ensures ∙ c.if-begins-3.true) ∙ c.in_err-item-2.ensures.cause other)

-- the bytes begin with a bare transaction's prefix, so the cause is what is wrong with its data, or its hash as key
pub returns-in_err-item-3-clause-cause : goal.returns-in_err-item-3-clause-cause
returns-in_err-item-3-clause-cause g c =
    let p = err_from_is_err_and c.from_residual-in_err-item-3.result c.from_residual-in_err-item-3.ensures.1 in
    rw (p.1, p.2) (λ other. cause_txn g.H.NodeHash.half c.args.bytes.now c.if-bytes-lt4.false (sym c.begins.ensures ∙ c.if-begins.false)
    (sym c.begins-2.ensures ∙ c.if-begins-2.false)
    (sym c.begins-3.ensures ∙ c.if-begins-3.false) (sym c.begins-4.ensures ∙ c.if-begins-4.true) ∙ c.in_err-item-3.ensures.cause other)

-- none of the four prefixes stands there, so the cause is the first four bytes, read as a number
pub returns-clause-cause : goal.returns-clause-cause
returns-clause-cause g c = λ other.
    cause_prefix g.H.NodeHash.half c.args.bytes.now c.if-bytes-lt4.false (sym c.begins.ensures ∙ c.if-begins.false)
    (sym c.begins-2.ensures ∙ c.if-begins-2.false)
    (sym c.begins-3.ensures ∙ c.if-begins-3.false) (sym c.begins-4.ensures ∙ c.if-begins-4.false)
    ∙ ap (λ w. Some (Prefix w)) (sym c.first_word.ensures)
