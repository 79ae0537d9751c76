-- the rotation was told of the ledger, and then its forms were kept
use Rattle.std.proofs.Common.{rules}
use Rattle.core_machine.proofs.Publishing.{kept_after, hears_more, hears_front}
use Rattle.core_machine.proofs.tables.Tables.keep_ledger.Goals as goal

pub returns-then-is_err-clause-forms : goal.returns-then-is_err-clause-forms
returns-then-is_err-clause-forms g c = record {
  keeps = search rules;
  hears = hears_front _ _ c.args.target.now _ c.shade.ensures.hears;
  rest = search rules;
  stays = search rules;
  fault = search rules;
}

pub returns-clause-forms : goal.returns-clause-forms
returns-clause-forms g c = record {
  keeps = λ told. kept_after g.H.NodeHash.half c.args.self.now.state c.shade.new.self.state c.keep_all.new.self.state _ c.keep_all.result
      c.shade.ensures.after (c.keep_all.ensures.keeps told);
  hears = hears_more _ _ _ c.args.target.now _ c.shade.ensures.hears c.keep_all.ensures.hears;
  rest = search rules;
  stays = search rules;
  fault = search rules;
}
