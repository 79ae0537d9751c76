use Rattle.script_form.proofs.Waits.{first_store}
use Rattle.script_form.proofs.trying.is_store.Goals as goal

pub returns-in-len1-up : goal.returns-in-len1-up
returns-in-len1-up c = first_store c.args.words.now _ _ c.in-len1-up.len_at_least c.is_store_word.ensures
