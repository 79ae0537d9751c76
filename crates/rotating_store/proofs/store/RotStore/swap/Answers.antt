use Rattle.std.proofs.Common.{sym, ◌∙◌, ap, rules, arith}
use Rattle.std.proofs.lemmas.Grind.{common_steps}
use Rattle.rotating_store.proofs.Keeping.{swapped_numbers, swapped_keeps, swapped_nodes, either_way, numbered_live, ready_empty_of}
use Rattle.rotating_store.proofs.Checking.{turned_none, turned_kept, turned_fewer}
use Rattle.rotating_store.proofs.store.RotStore.swap.Goals as goal

-- the ready backend is empty and has the greatest number, so as each moves down one place the numbers rise and the maps agree
pub invariant_of-self-2 : goal.invariant_of-self-2
invariant_of-self-2 g c = (
  swapped_numbers g.Sh.B.Backend.number g.Sh.B.Backend.held g.Sh.B.Backend.doubt _ _ _ _ c.self.inside.writable c.self.inside.archive
      c.in-Some.fresh c.replace-old.result c.replace-full.new.dest c.replace-old.new.dest
      c.self.inside.ready c.take.new.self c.self.invariant.0 (sym c.take.ensures.value ∙ c.in-Some.is) c.take.ensures.after
      c.replace-full.ensures.after (c.replace-old.ensures.after ∙ c.replace-full.ensures.value)
      c.replace-old.ensures.value c.discard.ensures.taken.gone
      (either_way c.discard.result c.discard.ensures.taken.done c.discard.ensures.taken.kept
      (numbered_live g.Sh.B.Backend.number _ _ c.self.inside.archive c.replace-old.result _ _ c.self.invariant.0
      c.replace-old.ensures.value)),
  λ tells. swapped_keeps g.Sh.B.Backend.number g.Sh.B.Backend.held g.Sh.B.Backend.doubt c.self.inside.writable c.self.inside.archive
      c.in-Some.fresh c.replace-full.new.dest c.replace-old.new.dest
      c.self.inside.ready c.take.new.self (c.self.invariant.1 tells) (sym c.take.ensures.value ∙ c.in-Some.is) c.take.ensures.after
      c.replace-full.ensures.after (c.replace-old.ensures.after ∙ c.replace-full.ensures.value),
  λ tells. turned_none _ _ (ap g.Sh.B.Backend.held c.replace-full.ensures.after
      ∙ ready_empty_of g.Sh.B.Backend.number g.Sh.B.Backend.held g.Sh.B.Backend.doubt _ _ _ _ c.self.inside.ready c.in-Some.fresh _
      (c.self.invariant.1 tells) (sym c.take.ensures.value ∙ c.in-Some.is)),
)

-- the new writable backend is empty, so all that is held is what the old writable one held
pub returns-clause-maps : goal.returns-clause-maps
returns-clause-maps g c = record {
  nodes = λ tells. rw (← c.self.view_is) (
      swapped_nodes g.Sh.B.Backend.number g.Sh.B.Backend.held g.Sh.B.Backend.doubt c.self.inside.writable c.self.inside.archive
      c.in-Some.fresh c.replace-full.new.dest c.replace-old.new.dest c.self.inside.ready (c.self.invariant.1 tells)
      (sym c.take.ensures.value ∙ c.in-Some.is) c.replace-full.ensures.after
      (c.replace-old.ensures.after ∙ c.replace-full.ensures.value)
      );
  archive = first_of (search rules, grind (arith, common_steps));
  writable = first_of (search rules, grind (arith, common_steps));
}

-- what the old writable backend holds had its unchecked hashes carried, and they are the earlier ones now
pub returns-clause-notes : goal.returns-clause-notes
returns-clause-notes g c = record {
  kept = λ tells. rw (← c.self.view_is) (λ h has held. turned_kept g.Sh.B.Backend.tells
      (g.Sh.B.Backend.held c.self.inside.writable) (g.Sh.B.Backend.held c.self.inside.archive) _
      c.self.inside.unchecked c.turn.new.self h tells c.turn.ensures has held);
  no_more = rw (← c.self.view_is) (λ h has. turned_fewer g.Sh.B.Backend.tells
      (g.Sh.B.Backend.held c.self.inside.writable) (g.Sh.B.Backend.held c.self.inside.archive) _
      c.self.inside.unchecked c.turn.new.self h c.self.invariant.2
      (λ tells. swapped_nodes g.Sh.B.Backend.number g.Sh.B.Backend.held g.Sh.B.Backend.doubt
      c.self.inside.writable c.self.inside.archive
      c.in-Some.fresh c.replace-full.new.dest c.replace-old.new.dest c.self.inside.ready (c.self.invariant.1 tells)
      (sym c.take.ensures.value ∙ c.in-Some.is) c.replace-full.ensures.after
      (c.replace-old.ensures.after ∙ c.replace-full.ensures.value)) c.turn.ensures has);
}
