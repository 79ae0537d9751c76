use Rattle.std.proofs.Common.{refl}
use Rattle.core_machine.proofs.shared.Sections.{none_copied}
use Rattle.store_core.proofs.core_calls.Core.form_at.Goals as goal

pub form_at-requires-after_bounds : goal.form_at-requires-after_bounds
form_at-requires-after_bounds g c κs within = λ t. (c.self.invariant.0.sound t).forms

-- ---- what is read is all that is done
pub returns-in-Ok-clause-lists : goal.returns-in-Ok-clause-lists
returns-in-Ok-clause-lists g c = rw (← c.self.view_is) (record {
  records = refl;
  lines = refl;
  interval = refl;
  opened = refl;
  journal = refl;
  later = c.form_at.ensures.form.reads.later;
  state = c.form_at.ensures.form.reads.state;
  tables = c.form_at.ensures.form.reads.tables;
  views = c.form_at.ensures.views;
  marks = refl;
  hunts = refl;
  copies = λ told. none_copied c.self.inside.hall.desk c.form_at.new.self.desk c.known.ensures.nodes (c.form_at.ensures.form.reads.copies
      told);
  slices = c.form_at.ensures.form.reads.slices;
})

pub returns-in-Err-clause-lists : goal.returns-in-Err-clause-lists
returns-in-Err-clause-lists g c = rw (← c.self.view_is) (record {
  records = refl;
  lines = refl;
  interval = refl;
  opened = refl;
  journal = refl;
  later = c.form_at.ensures.form.reads.later;
  state = c.form_at.ensures.form.reads.state;
  tables = c.form_at.ensures.form.reads.tables;
  views = c.form_at.ensures.views;
  marks = refl;
  hunts = refl;
  copies = λ told. none_copied c.self.inside.hall.desk c.form_at.new.self.desk c.known.ensures.nodes (c.form_at.ensures.form.reads.copies
      told);
  slices = c.form_at.ensures.form.reads.slices;
})
