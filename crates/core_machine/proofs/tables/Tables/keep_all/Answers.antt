-- each form is stored behind those before it, or its clash is the first of all
use Rattle.std.proofs.Common.{rules}
use Rattle.std.proofs.Common.{◌<◌, length, map, drop, ◌+◌, ◌∙◌, arith, subst, List}
use Rattle.ledger_spec.specs.Bytes.{Bytes}
use Rattle.core_machine.proofs.KeepingAll.{AreKept, next_form, form_among, one_kept, failed_kept}
use Rattle.core_machine.proofs.Turns.{hears_on}
use Rattle.core_machine.proofs.Refusing.{rest_on}
use Rattle.core_machine.proofs.tables.Tables.keep_all.Goals as goal

pub loop-form-preserved : goal.loop-form-preserved
loop-form-preserved g c =
    let half = g.H.NodeHash.half in
    let lt : c.loop-form.form-index < length c.args.forms.now = omega (arith, c.loop-form-test.true) in
    record {
      kept = λ told. one_kept half (Unit {0}) c.in-Ok.field-0 c.args.self.now.state c.loop-form.self.state c.keep.new.self.state _
          (map (λ f. f.form) (drop (c.loop-form.form-index + 1) c.args.forms.now)) c.form-item.result.form
          (subst (λ (fs : List Bytes). AreKept half c.args.self.now.state (map (λ f. f.form) c.args.forms.now) fs c.loop-form.self.state)
          (next_form c.args.forms.now c.loop-form.form-index c.form-item.result lt c.form-item.is) (c.loop-form.invariant.kept told))
          (rw c.in-Ok.is at (c.keep.ensures.keeps told));
      hears = hears_on _ (map (λ f. f.hash) c.args.forms.now) _ _ c.form-item.result.hash c.loop-form.invariant.hears c.keep.ensures.hears
          (form_among c.args.forms.now c.loop-form.form-index c.form-item.result lt c.form-item.is);
      rest = rest_on c.args.self.now.state c.loop-form.self.state c.keep.new.self.state c.loop-form.invariant.rest
          c.keep.ensures.rest;
      stays = record {
        later = omega (arith, c.loop-form.invariant.stays.later, c.keep.ensures.stays.later);
        listed = c.keep.ensures.stays.listed ∙ c.loop-form.invariant.stays.listed;
        epoch = c.keep.ensures.stays.epoch ∙ c.loop-form.invariant.stays.epoch;
        slices = omega (arith, c.loop-form.invariant.stays.slices, c.keep.ensures.stays.slices);
        copies = λ told. c.keep.ensures.stays.copies told ∙ c.loop-form.invariant.stays.copies told;
      };
    }

pub returns-in-Err : goal.returns-in-Err
returns-in-Err g c = record {
  keeps = λ told.
      let half = g.H.NodeHash.half in
      let lt : c.loop-form.form-index < length c.args.forms.now = omega (arith, c.loop-form-test.true) in
      failed_kept half (Unit {0}) (Unit {0}) c.args.self.now.state c.loop-form.self.state c.keep.new.self.state _
      (map (λ f. f.form) (drop (c.loop-form.form-index + 1) c.args.forms.now)) c.form-item.result.form c.in-Err.fault
      (subst (λ (fs : List Bytes). AreKept half c.args.self.now.state (map (λ f. f.form) c.args.forms.now) fs c.loop-form.self.state)
      (next_form c.args.forms.now c.loop-form.form-index c.form-item.result lt c.form-item.is) (c.loop-form.invariant.kept told))
      (rw c.in-Err.is at (c.keep.ensures.keeps told));
  hears =
      let lt : c.loop-form.form-index < length c.args.forms.now = omega (arith, c.loop-form-test.true) in
      hears_on _ (map (λ f. f.hash) c.args.forms.now) _ _ c.form-item.result.hash c.loop-form.invariant.hears c.keep.ensures.hears
      (form_among c.args.forms.now c.loop-form.form-index c.form-item.result lt c.form-item.is);
  rest = search rules;
  stays = search rules;
  fault = search rules;
}
