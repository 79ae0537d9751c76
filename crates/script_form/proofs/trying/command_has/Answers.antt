use Rattle.std.proofs.Common.{sym, ◌∙◌}
use Rattle.script_form.proofs.Said.{bad_after, other_cause}
use Rattle.script_form.proofs.trying.command_has.Goals as goal

pub returns-in-BadAfter : goal.returns-in-BadAfter
returns-in-BadAfter c =
    bad_after c.args.earlier.now c.args.words.now c.args.cause c.names_no_line.result c.in-len1-up.len_at_least
    (sym c.is_command_line.ensures ∙ c.if-not-is_command_line.false) c.in-BadAfter.is c.names_no_line.ensures

-- it is none of the causes of the actor, the waiting or the count, so it stands where the command's words have it
pub returns-in_default-cause : goal.returns-in_default-cause
returns-in_default-cause c =
    let other = c.in_default-cause in
    other_cause c.args.earlier.now c.args.words.now c.args.cause _ c.call_has.result c.in-len1-up.len_at_least
    (sym c.is_command_line.ensures ∙ c.if-not-is_command_line.false)
    other.not-NoActor other.not-BadAfter other.not-TooManyCommands c.call_of.ensures c.call_has.ensures
