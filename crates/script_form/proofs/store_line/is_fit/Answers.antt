use Rattle.std.proofs.Common.{ap, sym, ◌∙◌}
use Rattle.script_form.proofs.Fitting.{fits, is_own, not_zero}
use Rattle.script_form.proofs.store_line.is_fit.Goals as goal

-- the hash is the form's own and not zero, so all that is left to ask is whether the bytes are a form
pub returns : goal.returns
returns g c =
    fits g.H.NodeHash.half c.args.one.now c.is_form.result
    (is_own c.args.one.now.hash c.half.result _ c.equals.result c.if-not-equals.false c.equals.ensures
    (c.half.ensures ∙ ap g.H.NodeHash.half c.bytes-form.ensures))
    (not_zero c.args.one.now.hash (sym c.is_zero.ensures ∙ c.if-is_zero.false)) (rw c.bytes-form.ensures at c.is_form.ensures)
