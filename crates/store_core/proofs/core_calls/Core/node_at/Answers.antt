use Rattle.std.proofs.Common.{refl}
use Rattle.core_machine.proofs.shared.Sections.{none_copied}
use Rattle.store_core.proofs.core_calls.Core.node_at.Goals as goal

pub node_at-requires-after_bounds : goal.node_at-requires-after_bounds
node_at-requires-after_bounds g c κs within = λ t. (c.self.invariant.0.sound t).forms

-- ---- what is read is all that is done
pub returns-in-Ok-clause-lists : goal.returns-in-Ok-clause-lists
returns-in-Ok-clause-lists g c = rw (← c.self.view_is) (record {
  records = refl;
  lines = refl;
  interval = refl;
  opened = refl;
  journal = refl;
  later = c.node_at.ensures.node.reads.later;
  state = c.node_at.ensures.node.reads.state;
  tables = c.node_at.ensures.node.reads.tables;
  views = c.node_at.ensures.views;
  marks = refl;
  hunts = refl;
  copies = λ told. none_copied c.self.inside.hall.desk c.node_at.new.self.desk c.known.ensures.nodes (c.node_at.ensures.node.reads.copies
      told);
  slices = c.node_at.ensures.node.reads.slices;
})

pub returns-in-Err-clause-lists : goal.returns-in-Err-clause-lists
returns-in-Err-clause-lists g c = rw (← c.self.view_is) (record {
  records = refl;
  lines = refl;
  interval = refl;
  opened = refl;
  journal = refl;
  later = c.node_at.ensures.node.reads.later;
  state = c.node_at.ensures.node.reads.state;
  tables = c.node_at.ensures.node.reads.tables;
  views = c.node_at.ensures.views;
  marks = refl;
  hunts = refl;
  copies = λ told. none_copied c.self.inside.hall.desk c.node_at.new.self.desk c.known.ensures.nodes (c.node_at.ensures.node.reads.copies
      told);
  slices = c.node_at.ensures.node.reads.slices;
})
