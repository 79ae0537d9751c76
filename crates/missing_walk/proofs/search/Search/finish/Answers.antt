use Rattle.std.proofs.Common.{rules}
use Rattle.missing_walk.proofs.search.Search.finish.Goals as goal

-- the places stay as they are
pub returns-clause-going : goal.returns-clause-going
returns-clause-going c =
    record {
      kept = λ half nodes cache going. let kept = c.conclude-found.ensures.going.kept half nodes cache going in
          record { head = kept.head; covers = kept.covers; around = kept.around; few = kept.few };
      marks = search rules;
    }
