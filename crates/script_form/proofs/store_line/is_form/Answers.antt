use Rattle.std.proofs.Common.{sym, ◌∙◌}
use Rattle.shamap_node.specs.Nodes.{held}
use Rattle.script_form.proofs.Fitting.{header_is_form, no_form}
use Rattle.script_form.proofs.store_line.is_form.Goals as goal
use Rattle.script_form.proofs.store_line.is_form.Goals.{in-Ok, in-Err+in-Memory, in-Err+in_default}

pub returns-then-is_some : goal.returns-then-is_some
returns-then-is_some g c =
    header_is_form g.H.NodeHash.half c.one_form.ensures.held c.known_half.ensures.size c.args.form.now c.from_form.result _
    (sym c.is_some.ensures ∙ c.if-is_some.true) c.from_form.ensures.exact

-- no header has this form, so it is a form exactly where a node is read from it
pub returns : goal.returns
returns g c =
    elim c.match-decode_form.branch [
      | in-Ok w ↦ rw w.result-is (held w.in-Ok.field-0, w.in-Ok.ensures.form)
      | in-Err+in-Memory w ↦ rw w.result-is tt
      | in-Err+in_default w ↦
          rw w.result-is
          (no_form g.H.NodeHash.half c.one_form.ensures.held c.known_half.ensures.size c.args.form.now c.from_form.result _
          (sym c.is_some.ensures ∙ c.if-is_some.false) c.from_form.ensures.exact (w.in-Err.ensures.held.none w.in_default.not-Memory))
    ]
