use Rattle.std.proofs.Common.{sym, ◌∙◌}
use Rattle.script_form.specs.declared.cause.Cause.TheVariants as cause
use Rattle.script_form.proofs.Said.{too_many, says_line, says_nothing, command_words}
use Rattle.script_form.proofs.judging.said.Goals as goal
use Rattle.script_form.proofs.judging.said.Goals.{then-not-is_printable-via-then-not-is_printable}
use Rattle.script_form.proofs.judging.said.Goals.{then-not-is_printable-via-else-not-is_printable+then-text-gt-MOST_TEXT}

-- either a byte isn't printable or the text is too long, and each of these is a cause
pub returns-then-not-is_printable : goal.returns-then-not-is_printable
returns-then-not-is_printable c fine =
    elim c.then-not-is_printable.branch [
      | then-not-is_printable-via-then-not-is_printable w ↦ fine cause.NotPrintable
          (sym c.is_printable.ensures ∙ w.if-not-is_printable.true)
      | then-not-is_printable-via-else-not-is_printable+then-text-gt-MOST_TEXT w ↦ fine cause.LineTooLong w.if-text-gt-MOST_TEXT.true
    ]

pub returns-then-earlier-ge-MOST_COMMANDS : goal.returns-then-earlier-ge-MOST_COMMANDS
returns-then-earlier-ge-MOST_COMMANDS c fine =
    fine cause.TooManyCommands (too_many c.args.earlier.now _ c.args.text.now c.requires.words
    (command_words _ c.args.text.now c.requires.words (sym c.is_skipped.ensures ∙ c.if-is_skipped.false) c.requires.command)
    c.if-earlier-ge-MOST_COMMANDS.true)

-- the words say a line, and the text is printable, not too long and not one command too many, so it has no cause
pub returns-in-Some : goal.returns-in-Some
returns-in-Some c =
    says_line c.args.earlier.now _ c.args.text.now c.args.n c.in-Some.line
    (sym c.is_printable.ensures ∙ c.if-not-is_printable.false) c.if-text-gt-MOST_TEXT.false c.if-earlier-ge-MOST_COMMANDS.false
    c.requires.words
    (command_words _ c.args.text.now c.requires.words (sym c.is_skipped.ensures ∙ c.if-is_skipped.false) c.requires.command)
    (rw c.in-Some.is at c.in_ok-line.ensures.numbered) (rw c.in-Some.is at c.in_ok-line.ensures.says)

pub returns-in-None : goal.returns-in-None
returns-in-None c =
    says_nothing c.args.earlier.now _ c.args.text.now c.requires.words
    (command_words _ c.args.text.now c.requires.words (sym c.is_skipped.ensures ∙ c.if-is_skipped.false) c.requires.command)
    (rw c.in-None.is at c.in_ok-line.ensures.none)
