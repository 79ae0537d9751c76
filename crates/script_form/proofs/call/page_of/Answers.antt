use Rattle.std.proofs.Common.{refl, arith}
use Rattle.script_form.specs.declared.forms.Form.TheVariants as form
use Rattle.script_form.proofs.Calls.{four_words, no_count, says_as}
use Rattle.script_form.proofs.call.page_of.Goals as goal

pub returns-in_default-count : goal.returns-in_default-count
returns-in_default-count c =
    no_count c.args.arguments.now _ (omega (arith, c.in-len4.len_at_least, c.in-len4.len_below))
    (rw c.in_default-count.is at c.count.ensures)

pub returns : goal.returns
returns c =
    says_as form.Page _ _ (c.in_ok-view.view, (c.in_ok-kind.kind, (c.in_ok-after.after, (c.in-Some.n, tt)))) _
    (four_words c.args.arguments.now _ _ _ _ (omega (arith, c.in-len4.len_at_least, c.in-len4.len_below)))
    (c.in_ok-view.ensures, (c.in_ok-kind.ensures, (c.in_ok-after.ensures, (rw c.in-Some.is at c.count.ensures, tt))))
    refl
