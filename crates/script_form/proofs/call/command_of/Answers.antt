use Rattle.std.proofs.Common.{◌∙◌}
use Rattle.std.proofs.lemmas.List.{length-map}
use Rattle.script_form.proofs.Calls.{by_form, first_word, texts}
use Rattle.script_form.proofs.call.command_of.Goals as goal

pub returns-in-Some : goal.returns-in-Some
returns-in-Some c =
    first_word c.args.call.now _ c.said_by.result c.in-len1-up.len_at_least
    (by_form c.in-Some.form _ (texts _) c.in-Some.ensures.0 (length-map _ _ ∙ c.in-Some.ensures.1) c.said_by.result c.said_by.ensures)
