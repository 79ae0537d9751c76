use Rattle.std.proofs.Common.{rules, sym, ap, ◌∙◌}
use Rattle.ledger_spec.specs.Bytes.{Lookup}
use Rattle.missing_walk.proofs.Roots.{found_none, found_foreign, not_some, begun}
use Rattle.missing_walk.proofs.search.Search.enter.Goals as goal

pub returns-in_default-clause-answers : goal.returns-in_default-clause-answers
returns-in_default-clause-answers g c =
    record {
      found = λ nodes t. let target = c.args.self.now.target in
          found_none g.H.NodeHash.half nodes target c.in_ok-without_header.field-0
          (sym c.in_default.is ∙ c.in_ok-form.ensures.form t.readable ∙ ap (λ (n : Lookup). n target) t.same)
          c.in_ok-without_header.ensures.seen c.in_ok-without_header.ensures.header;
      known = search rules;
      unclean = search rules;
    }

pub begin-requires : goal.begin-requires
begin-requires g c = not_some c.args.self.now.header (sym c.if-is_some.ensures)

-- below the header that is stored, all that is found is found at its two roots
pub returns-in-Some-from_form-clause-enters : goal.returns-in-Some-from_form-clause-enters
returns-in-Some-from_form-clause-enters g c =
    record {
      kept = λ nodes t before there. let target = c.args.self.now.target in
          begun g.H.NodeHash.half nodes c.in-Some-from_form.header c.args.self.now c.begin.new.self c.in-Some.form c.bytes.result.now
          c.begin.ensures.whole.target c.in_ok-begin-in-Some-from_form.ensures.ok
          (sym c.in-Some.is ∙ c.in_ok-form.ensures.form t.readable ∙ ap (λ (n : Lookup). n target) t.same)
          c.bytes.ensures c.in-Some-from_form.ensures.exact c.in-Some-from_form.ensures.reads;
      stays = search rules;
      entered = search rules;
      begun = search rules;
    }

-- what is stored is no header
pub returns-clause-answers : goal.returns-clause-answers
returns-clause-answers g c =
    record {
      found = λ nodes t. let target = c.args.self.now.target in
          found_foreign g.H.NodeHash.half nodes target c.foreign_header.result c.in-Some.form c.bytes.result.now
          (sym c.in-Some.is ∙ c.in_ok-form.ensures.form t.readable ∙ ap (λ (n : Lookup). n target) t.same)
          c.bytes.ensures c.in-None.ensures.exact c.foreign_header.ensures.seen c.foreign_header.ensures.header;
      known = search rules;
      unclean = search rules;
    }
