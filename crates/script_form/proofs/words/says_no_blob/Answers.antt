use Rattle.script_form.specs.declared.forms.Argument.TheVariants as argument
use Rattle.script_form.proofs.Shapes.{nothing_read}
use Rattle.script_form.proofs.words.says_no_blob.Goals as goal

pub returns : goal.returns
returns c = nothing_read argument.Blob c.args.word.now c.in_ok-bytes.bytes c.is_none.result c.is_none.ensures c.in_ok-bytes.ensures
