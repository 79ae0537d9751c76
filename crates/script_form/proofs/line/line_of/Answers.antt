use Rattle.script_form.proofs.Said.{no_name}
use Rattle.script_form.proofs.line.line_of.Goals as goal

pub returns-in_default-after_of-clause-none : goal.returns-in_default-after_of-clause-none
returns-in_default-after_of-clause-none c l says =
    no_name c.args.earlier.now c.args.words.now l c.in-len1-up.len_at_least c.in_default-after_of.ensures says
