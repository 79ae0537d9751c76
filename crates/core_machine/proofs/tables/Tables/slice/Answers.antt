-- the walk strides on, over the same map
use Rattle.std.proofs.Common.{rules}
use Rattle.std.proofs.Common.{◌∙◌, sym, ap}
use Rattle.core_machine.proofs.shared.Sections.{slice_few, slice_done}
use Rattle.core_machine.specs.Desks.{Desk}
use Rattle.core_machine.proofs.Turns.{sliced_as, slice_stays}
use Rattle.core_machine.proofs.tables.Tables.slice.Goals as goal

pub returns-clause-slices : goal.returns-clause-slices
returns-clause-slices g c = record {
  keeps = record {
    same = λ told.
        let by = sliced_as c.self.inside.rotator c.slice-sliced.new.self c.slice-sliced.result c.slice-sliced.ensures.turns.counts in
        slice_stays g.Sh.B.Backend.tells c.self.inside.book c.self.inside.rotator c.slice-sliced.new.self c.self.inside.store
        c.slice-sliced.new.store c.self.invariant.1 by.0 by.1 c.self.inside.wanted.entries c.self.inside.views.entries
        (c.slice-sliced.ensures.turns.walks told (c.self.invariant.1.walks told)).0 c.slice-sliced.ensures.store.past.0
        ∙ ap (λ (d : Desk). d.state) c.self.view_is;
    rest = search rules;
    later = search rules;
  };
  counts = search rules;
  few = λ told.
      rw (← c.self.view_is) (slice_few c.args.n c.self.inside.rotator.walk c.slice-sliced.new.self.walk c.self.inside.store
      c.slice-sliced.new.store c.slice-sliced.result (c.slice-sliced.ensures.slices.ok told) (c.slice-sliced.ensures.slices.err told));
  done = λ is.
      slice_done c.args.n c.self.inside.rotator.walk c.slice-sliced.new.self.walk c.self.inside.store c.slice-sliced.new.store
      c.slice-sliced.result c.slice-sliced.ensures.slices.left (sym c.slice_told.ensures ∙ is);
  fault = search rules;
}
