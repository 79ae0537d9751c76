use Rattle.script_form.proofs.Calls.{call_wrong}
use Rattle.script_form.proofs.trying.call_has.Goals as goal

-- it is none of the causes of the word and of the count, so it stands where a word is wrong in its place
pub returns-in-Some : goal.returns-in-Some
returns-in-Some c =
    call_wrong c.args.cause c.args.call.now _ c.in-Some.form c.arguments.result.now c.has_wrong.result c.in-len1-up.len_at_least
    c.in_default-cause.not-UnknownCommand c.in_default-cause.not-ArgumentCount c.in-Some.ensures.0 c.in-Some.ensures.1
    c.arguments.ensures c.has_wrong.ensures
