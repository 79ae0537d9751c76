use Rattle.std.proofs.Common.{refl, subst, length, rules, arith}
use Rattle.std.proofs.lemmas.Grind.{common_steps}
use Rattle.missing_walk.specs.Pending.{pending_of}
use Rattle.missing_walk.specs.Views.{Views, HasLevels}
use Rattle.missing_walk.specs.Rests.{Weighs}
use Rattle.missing_walk.proofs.Loads.{lighter_note, lighter_below, lighter_skip, never_none}
use Rattle.missing_walk.proofs.Heeding.{heeds_nothing, heeds_below, shallow}
use Rattle.missing_walk.proofs.search.Search.heed.Goals as goal

pub go_below-requires-clause-levels : goal.go_below-requires-clause-levels
go_below-requires-clause-levels c rest top is =
    shallow top (subst (HasLevels (length top.at.id)) c.in-Below.is (c.requires.top rest top is).0) (c.requires.top rest top is).1

-- fewer are left, by what was seen
pub returns-in_ok-note-in-Missing-clause-goes : goal.returns-in_ok-note-in-Missing-clause-goes
returns-in_ok-note-in-Missing-clause-goes c =
    record {
      nothing = first_of (search rules, grind (arith, common_steps));
      heeds = first_of (search rules, grind (arith, common_steps));
      lighter = λ f g rest top is weighs.
          let noted = c.in_ok-note-in-Missing.ensures.ok rest top is in
          lighter_note f g c.args.self.now _ rest top is noted.0 noted.1 (subst (Weighs f g (pending_of top)) c.in-Missing.is weighs);
    }

-- the places below the node stand in its place
pub returns-in_ok-go_below-in-Below-clause-goes : goal.returns-in_ok-go_below-in-Below-clause-goes
returns-in_ok-go_below-in-Below-clause-goes c =
    record {
      nothing = first_of (search rules, grind (arith, common_steps));
      heeds = λ half nodes rest top is place views.
          heeds_below half nodes c.args.self.now _ rest top c.in-Below.node.value refl refl refl is
          (c.in_ok-go_below-in-Below.ensures.ok rest top is)
          (subst (Views half nodes (pending_of top)) c.in-Below.is views);
      lighter = λ f g rest top is weighs.
          lighter_below f g c.args.self.now _ rest top c.in-Below.node.value _ _ is (c.in_ok-go_below-in-Below.ensures.ok rest top is) refl
          (subst (Weighs f g (pending_of top)) c.in-Below.is weighs);
    }

-- nothing is found there and below, whatever the store grows to
pub returns-in-Nothing-clause-goes : goal.returns-in-Nothing-clause-goes
returns-in-Nothing-clause-goes c =
    record {
      nothing = first_of (search rules, grind (arith, common_steps));
      heeds = λ half nodes rest top is place views.
          heeds_nothing half nodes c.args.self.now _ rest top refl refl refl refl is (c.skip.ensures rest top is)
          (subst (Views half nodes (pending_of top)) c.in-Nothing.is views);
      lighter = λ f g rest top is weighs.
          lighter_skip f g c.args.self.now _ rest top is (c.skip.ensures rest top is) refl
          (subst (Weighs f g (pending_of top)) c.in-Nothing.is weighs);
    }

-- the place is the broken one
pub returns-in-Broken-clause-goes : goal.returns-in-Broken-clause-goes
returns-in-Broken-clause-goes c =
    record {
      nothing = first_of (search rules, grind (arith, common_steps));
      heeds = first_of (search rules, grind (arith, common_steps));
      lighter = λ f g rest top is weighs.
          record { fewer = λ none. never_none _ (c.args.place, c.in-Broken.fault) refl none };
    }
