-- the search reads what the store holds, which are own forms
use Rattle.std.proofs.Common.{rules}
use Rattle.std.proofs.Common.{IsTrue, refl, sym, ap, ◌∙◌, arith}
use Rattle.ledger_machine.specs.State.{State, form_in}
use Rattle.ledger_searches.specs.Hunting.{hunt_of}
use Rattle.missing_walk.specs.Views.{Tells}
use Rattle.core_machine.specs.Checking.{IsOpen}
use Rattle.core_machine.specs.Desks.{Desk, state_of}
use Rattle.core_machine.proofs.shared.Checks.{found_on, leaves_on, look_shares, slice_shares, sought_on, tells_over}
use Rattle.core_machine.proofs.shared.Entries.{IsOver, same_over}
use Rattle.core_machine.proofs.Turns.{keeps_was_read}
use Rattle.core_machine.proofs.tables.Tables.seek.Goals as goal

pub invariant_of-self-in-Slice : goal.invariant_of-self-in-Slice
invariant_of-self-in-Slice g c = (
  c.self.invariant.0,
  keeps_was_read g.Sh.B.Backend.tells c.self.inside.book c.self.inside.rotator c.self.inside.store
      c.self.invariant.1 g.H.NodeHash.half c.slice.new.store c.slice.ensures.leaves.read,
)

pub returns-in_err-found-in-Slice : goal.returns-in_err-found-in-Slice
returns-in_err-found-in-Slice g c =
    let half = g.H.NodeHash.half in
    let tells = g.Sh.B.Backend.tells in
    let s : State = c.args.self.now.state in
    let st = c.self.inside.store in
    let is : IsOver st s = rw (← c.self.view_is) (record { nodes = refl; born = refl; epoch = refl }) in
    let forms : IsTrue tells → Tells tells half st (form_in s) = λ told. tells_over tells half st s told is (c.requires.filed told) in
    record {
      found = search rules;
      leaves = search rules;
      first = λ told unbegun marked. omega (
        arith,
        (c.slice.ensures.asks.first (form_in s) (forms told) unbegun marked).1,
        ap (λ (d : Desk).
            d.gets) c.self.view_is,
      );
      shares = slice_shares half tells s c.args.actor c.args.target.now c.args.part c.args.searches.now st.gets c.args.self.now.gets
          c.slice.new.self
          c.slice.new.store.gets (ap (λ (d : Desk). d.gets) c.self.view_is) c.slice.ensures.leaves.paired
          c.slice.ensures.leaves.generation
          (λ told. c.slice.ensures.leaves.keeps (form_in s) (forms told) (c.requires.searches.rule told)) c.slice.ensures.hunts.others
          c.slice.ensures.asks.few;
      reads = search rules;
      fault = search rules;
    }

pub returns-in_ok-found-in-Slice : goal.returns-in_ok-found-in-Slice
returns-in_ok-found-in-Slice g c =
    let half = g.H.NodeHash.half in
    let tells = g.Sh.B.Backend.tells in
    let s : State = c.args.self.now.state in
    let st = c.self.inside.store in
    let is : IsOver st s = rw (← c.self.view_is) (record { nodes = refl; born = refl; epoch = refl }) in
    let forms : IsTrue tells → Tells tells half st (form_in s) = λ told. tells_over tells half st s told is (c.requires.filed told) in
    record {
      found = rw c.slice_sought.ensures
          (sought_on half tells s (state_of c.slice.new.store c.self.inside.wanted.entries c.self.inside.views.entries c.self.inside.book
          c.self.inside.rotator)
          c.args.target.now
          (λ told. ap (λ (x : State). form_in x) (same_over st c.slice.new.store s is (c.slice.ensures.leaves.read.same told)))
          c.args.part c.in_ok-found-in-Slice.found c.in-Slice.is c.in_ok-found-in-Slice.ensures.finds.known
          (λ told. c.in_ok-found-in-Slice.ensures.finds.found (form_in s) (forms told) (c.requires.searches.rule told)));
      leaves = λ told. let opened : IsOpen s c.args.target.now = rw (← c.self.view_is) (sym c.contains_key.ensures ∙
          c.if-not-contains_key.false) in
          rw c.slice_sought.ensures
          (leaves_on half s c.args.target.now (hunt_of c.args.searches.now.hunts.items c.args.actor) c.args.searches.now.marks
          (hunt_of c.slice.new.self.hunts.items c.args.actor) c.slice.new.self.marks c.in_ok-found-in-Slice.found opened
          (c.in_ok-found-in-Slice.ensures.finds.roots (form_in s) (forms told) (c.requires.searches.rule told))
          (c.in_ok-found-in-Slice.ensures.hunts.more (form_in s) (forms told) (c.requires.searches.rule told))
          (λ unbegun marked. (c.in_ok-found-in-Slice.ensures.asks.first (form_in s) (forms told) unbegun marked).0));
      first = λ told unbegun marked. omega (
        arith,
        (c.slice.ensures.asks.first (form_in s) (forms told) unbegun marked).1,
        ap (λ (d : Desk).
            d.gets) c.self.view_is,
      );
      shares = slice_shares half tells s c.args.actor c.args.target.now c.args.part c.args.searches.now st.gets c.args.self.now.gets
          c.slice.new.self
          c.slice.new.store.gets (ap (λ (d : Desk). d.gets) c.self.view_is) c.slice.ensures.leaves.paired
          c.slice.ensures.leaves.generation
          (λ told. c.slice.ensures.leaves.keeps (form_in s) (forms told) (c.requires.searches.rule told)) c.slice.ensures.hunts.others
          c.slice.ensures.asks.few;
      reads = search rules;
      fault = search rules;
    }

pub returns-in_err-found-in-Whole : goal.returns-in_err-found-in-Whole
returns-in_err-found-in-Whole g c =
    let half = g.H.NodeHash.half in
    let tells = g.Sh.B.Backend.tells in
    let s : State = c.args.self.now.state in
    let st = c.self.inside.store in
    let is : IsOver st s = rw (← c.self.view_is) (record { nodes = refl; born = refl; epoch = refl }) in
    let forms : IsTrue tells → Tells tells half st (form_in s) = λ told. tells_over tells half st s told is (c.requires.filed told) in
    record {
      found = search rules;
      leaves = search rules;
      first = λ told unbegun marked. omega (
        arith,
        c.look.ensures.few (form_in s) (forms told) marked,
        ap (λ (d : Desk). d.gets)
            c.self.view_is,
      );
      shares = look_shares half tells s c.args.actor c.args.target.now c.args.part c.args.searches.now st.gets c.args.self.now.gets
          c.look.new.self
          c.look.new.store.gets (ap (λ (d : Desk). d.gets) c.self.view_is) c.look.ensures.leaves.paired c.look.ensures.leaves.generation
          (λ told. c.look.ensures.leaves.keeps (form_in s) (forms told) (c.requires.searches.rule told)) c.in-Whole.is
          c.look.ensures.hunts;
      reads = search rules;
      fault = search rules;
    }

pub returns-in_ok-found-in-Whole : goal.returns-in_ok-found-in-Whole
returns-in_ok-found-in-Whole g c =
    let half = g.H.NodeHash.half in
    let tells = g.Sh.B.Backend.tells in
    let s : State = c.args.self.now.state in
    let st = c.self.inside.store in
    let is : IsOver st s = rw (← c.self.view_is) (record { nodes = refl; born = refl; epoch = refl }) in
    let forms : IsTrue tells → Tells tells half st (form_in s) = λ told. tells_over tells half st s told is (c.requires.filed told) in
    record {
      found = found_on half tells s (state_of c.look.new.store c.self.inside.wanted.entries c.self.inside.views.entries c.self.inside.book
          c.self.inside.rotator)
          c.args.target.now
          (λ told. ap (λ (x : State). form_in x) (same_over st c.look.new.store s is (c.look.ensures.leaves.read.same told)))
          c.in_ok-found-in-Whole.found c.in_ok-found-in-Whole.ensures.finds.known
          (λ told. c.in_ok-found-in-Whole.ensures.finds.found (form_in s) (forms told) (c.requires.searches.rule told));
      leaves = λ told. c.in_ok-found-in-Whole.ensures.finds.roots (form_in s) (forms told) (c.requires.searches.rule told);
      first = λ told unbegun marked. omega (
        arith,
        c.look.ensures.few (form_in s) (forms told) marked,
        ap (λ (d : Desk). d.gets)
            c.self.view_is,
      );
      shares = look_shares half tells s c.args.actor c.args.target.now c.args.part c.args.searches.now st.gets c.args.self.now.gets
          c.look.new.self
          c.look.new.store.gets (ap (λ (d : Desk). d.gets) c.self.view_is) c.look.ensures.leaves.paired c.look.ensures.leaves.generation
          (λ told. c.look.ensures.leaves.keeps (form_in s) (forms told) (c.requires.searches.rule told)) c.in-Whole.is
          c.look.ensures.hunts;
      reads = search rules;
      fault = search rules;
    }
