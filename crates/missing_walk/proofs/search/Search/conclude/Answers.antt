use Rattle.std.proofs.Common.{rules, ◌≡◌, length, arith}
use Rattle.std.specs.Prelude.{reverse}
use Rattle.std.proofs.lemmas.Grind.{common_steps}
use Rattle.missing_walk.specs.Pending.{stacked}
use Rattle.missing_walk.proofs.Stacking.{length_stacked}
use Rattle.missing_walk.proofs.Heeding.{within_around}
use Rattle.missing_walk.proofs.Finishing.{ended_ok}
use Rattle.missing_walk.proofs.RootMarks.{roots_ok}
use Rattle.missing_walk.proofs.search.Search.conclude.Goals as goal

-- what is noted, and the broken place, are what is seen of the ledger
pub returns-clause-found : goal.returns-clause-found
returns-clause-found c =
    record {
      found = λ half nodes cache going. ended_ok half nodes c.args.self.now cache c.args.marks.now c.found.result going c.requires.few
          c.found.ensures.header c.found.ensures.broken c.found.ensures.missing c.requires.over;
      roots = roots_ok c.found.result c.args.self.now c.settle.new.marks c.mark_whole.new.marks c.found.ensures.header
          c.found.ensures.broken
          c.found.ensures.missing c.in_ok-mark_whole.ensures.roots;
      size = grind (arith, common_steps);
      header = search rules;
    }

pub returns-clause-going : goal.returns-clause-going
returns-clause-going c =
    record {
      kept = λ half nodes cache going. let s = c.args.self.now in
          let len : length (stacked s.stack.items) ≡ c.len.result = omega
          (arith, length_stacked s.stack.items, c.len.ensures, s.stack.ok.0) in
          record {
            head = going.kept.head;
            covers = going.kept.covers;
            around = within_around half nodes (reverse c.settle.new.opened.items) (stacked s.stack.items)
                (c.settle.ensures.within half nodes (stacked s.stack.items) len going.kept.around);
            few = going.kept.few;
          };
      marks = λ half nodes cache going. let s = c.args.self.now in
          let len : length (stacked s.stack.items) ≡ c.len.result = omega
          (arith, length_stacked s.stack.items, c.len.ensures, s.stack.ok.0) in
          c.mark_whole.ensures.marks half nodes cache (record {
            kept = record {
              head = going.kept.head;
              covers = going.kept.covers;
              around = within_around half nodes (reverse c.settle.new.opened.items) (stacked s.stack.items)
                  (c.settle.ensures.within half nodes (stacked s.stack.items) len going.kept.around);
              few = going.kept.few;
            };
            marks = c.settle.ensures.marks half nodes (stacked s.stack.items) len going.kept.around going.marks;
            cache = going.cache;
            tested = going.tested;
            broke = going.broke;
          }) c.requires.over;
    }

pub returns-in_err-mark_whole-clause-going : goal.returns-in_err-mark_whole-clause-going
returns-in_err-mark_whole-clause-going c =
    record {
      marks = λ half nodes cache going. let s = c.args.self.now in
          let len : length (stacked s.stack.items) ≡ c.len.result = omega
          (arith, length_stacked s.stack.items, c.len.ensures, s.stack.ok.0) in
          c.mark_whole.ensures.marks half nodes cache (record {
            kept = record {
              head = going.kept.head;
              covers = going.kept.covers;
              around = within_around half nodes (reverse c.settle.new.opened.items) (stacked s.stack.items)
                  (c.settle.ensures.within half nodes (stacked s.stack.items) len going.kept.around);
              few = going.kept.few;
            };
            marks = c.settle.ensures.marks half nodes (stacked s.stack.items) len going.kept.around going.marks;
            cache = going.cache;
            tested = going.tested;
            broke = going.broke;
          }) c.requires.over;
      kept = λ half nodes cache going. let s = c.args.self.now in
          let len : length (stacked s.stack.items) ≡ c.len.result = omega
          (arith, length_stacked s.stack.items, c.len.ensures, s.stack.ok.0) in
          record {
            head = going.kept.head;
            covers = going.kept.covers;
            around = within_around half nodes (reverse c.settle.new.opened.items) (stacked s.stack.items)
                (c.settle.ensures.within half nodes (stacked s.stack.items) len going.kept.around);
            few = going.kept.few;
          };
    }
