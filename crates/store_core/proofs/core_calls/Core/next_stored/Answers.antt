use Rattle.std.proofs.Common.{refl}
use Rattle.core_machine.proofs.shared.Sections.{none_copied}
use Rattle.store_core.proofs.core_calls.Core.next_stored.Goals as goal

pub next_stored-requires-after_bounds : goal.next_stored-requires-after_bounds
next_stored-requires-after_bounds g c κs within = λ t. (c.self.invariant.0.sound t).forms

-- ---- what is read is all that is done
pub returns-in-Ok-clause-lists : goal.returns-in-Ok-clause-lists
returns-in-Ok-clause-lists g c = rw (← c.self.view_is) (record {
  records = refl;
  lines = refl;
  interval = refl;
  opened = refl;
  journal = refl;
  later = c.next_stored.ensures.next.reads.later;
  state = c.next_stored.ensures.next.reads.state;
  tables = c.next_stored.ensures.next.reads.tables;
  views = c.next_stored.ensures.views;
  marks = refl;
  hunts = refl;
  copies = λ told. none_copied c.self.inside.hall.desk c.next_stored.new.self.desk c.known.ensures.nodes
      (c.next_stored.ensures.next.reads.copies told);
  slices = c.next_stored.ensures.next.reads.slices;
})

pub returns-in-Err-Fault-clause-lists : goal.returns-in-Err-Fault-clause-lists
returns-in-Err-Fault-clause-lists g c = rw (← c.self.view_is) (record {
  records = refl;
  lines = refl;
  interval = refl;
  opened = refl;
  journal = refl;
  later = c.next_stored.ensures.next.reads.later;
  state = c.next_stored.ensures.next.reads.state;
  tables = c.next_stored.ensures.next.reads.tables;
  views = c.next_stored.ensures.views;
  marks = refl;
  hunts = refl;
  copies = λ told. none_copied c.self.inside.hall.desk c.next_stored.new.self.desk c.known.ensures.nodes
      (c.next_stored.ensures.next.reads.copies told);
  slices = c.next_stored.ensures.next.reads.slices;
})

pub returns-in-Err-Memory-clause-lists : goal.returns-in-Err-Memory-clause-lists
returns-in-Err-Memory-clause-lists g c = rw (← c.self.view_is) (record {
  records = refl;
  lines = refl;
  interval = refl;
  opened = refl;
  journal = refl;
  later = c.next_stored.ensures.next.reads.later;
  state = c.next_stored.ensures.next.reads.state;
  tables = c.next_stored.ensures.next.reads.tables;
  views = c.next_stored.ensures.views;
  marks = refl;
  hunts = refl;
  copies = λ told. none_copied c.self.inside.hall.desk c.next_stored.new.self.desk c.known.ensures.nodes
      (c.next_stored.ensures.next.reads.copies told);
  slices = c.next_stored.ensures.next.reads.slices;
})
