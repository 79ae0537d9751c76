use Rattle.script_form.proofs.words.data_word.Goals as goal

pub returns-in_default : goal.returns-in_default
returns-in_default c bytes says = let none = rw c.in_default.is at c.in_ok-blob.ensures in none bytes says.digits
