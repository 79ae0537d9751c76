use Rattle.std.proofs.Common.{Some, None, sym, ◌∙◌, arith}
use Rattle.std.proofs.lemmas.Str.Pattern.{split_once_first}
use Rattle.run_words.proofs.Reading.{cut_found, cut_not_found}
use Rattle.run_words.proofs.options.cut.Goals as goal

pub returns-in-Some : goal.returns-in-Some
returns-in-Some c =
    let f = split_once_first 61 c.args.word.now (Some (c.in-Some.name, c.in-Some.digits)) c.in-Some.ensures.cases (omega arith) in
    cut_found c.args.word.now f.0 ∙ (λ i. (sym f.1 i, Some (sym f.2 i)))

pub returns-in-None : goal.returns-in-None
returns-in-None c =
    let f = split_once_first 61 c.args.word.now None c.in-None.ensures.cases (omega arith) in
    cut_not_found c.args.word.now f
