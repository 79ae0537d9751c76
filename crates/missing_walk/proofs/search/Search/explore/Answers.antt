use Rattle.std.proofs.Common.{◌∙◌, subst, sym}
use Rattle.ledger_spec.specs.Bytes.{Hash}
use Rattle.missing_walk.specs.Sees.{Finds}
use Rattle.missing_walk.proofs.Sliced.{going_from}
use Rattle.std.proofs.Common.{arith}
use Rattle.std.proofs.lemmas.Result.{err_from_is_err_and}
use Rattle.missing_walk.proofs.Passing.{idle_from, none_done}
use Rattle.std.proofs.Common.{◌≡◌, ◌≤◌, false, length, rules}
use Rattle.missing_walk.specs.Rests.{weight, stored_weight, most_from, most_again}
use Rattle.missing_walk.proofs.shared.Heeding.{goes_on}
use Rattle.missing_walk.proofs.Weights.{stored_again, noted_again}
use Rattle.missing_walk.proofs.Loads.{fewer_left}
use Rattle.missing_walk.proofs.search.Search.explore.Goals as goal

pub returns-in_err-found-clause-holds : goal.returns-in_err-found-clause-holds
returns-in_err-found-clause-holds g c =
    record {
      holding = λ nodes t h. let half = g.H.NodeHash.half in
          let going = c.run_both.ensures.lighter.going nodes t
          (going_from half nodes c.take_up.new.self c.args.cache.now c.args.marks.now
          (c.take_up.ensures.kept half nodes (h.search c.requires))
          c.in_ok-take_up.ensures.none c.take_up.ensures.stays.unbroken h.marks h.cache) in
          record {
            marks = c.finish.ensures.going.marks half nodes c.run_both.new.cache going;
            cache = going.cache;
            search = λ there. c.finish.ensures.going.kept half nodes c.run_both.new.cache going;
          };
      fresh = search rules;
    }

-- what is found is of the same ledger, over the store of this slice
pub returns-clause-answers : goal.returns-clause-answers
returns-clause-answers g c =
    record {
      done = λ nodes t h. let half = g.H.NodeHash.half in
          let going = c.run_both.ensures.lighter.going nodes t
          (going_from half nodes c.take_up.new.self c.args.cache.now c.args.marks.now
          (c.take_up.ensures.kept half nodes (h.search c.requires))
          c.in_ok-take_up.ensures.none c.take_up.ensures.stays.unbroken h.marks h.cache) in
          subst (λ (target : Hash). Finds half nodes target c.in_ok-found.found)
          (c.run_both.ensures.runs.same.target ∙ c.take_up.ensures.stays.same.target)
          (c.in_ok-found.ensures.found.found half nodes c.run_both.new.cache going);
      known = search rules;
      roots = search rules;
      more = search rules;
      rest = search rules;
      bound = search rules;
    }

pub returns-clause-holds : goal.returns-clause-holds
returns-clause-holds g c =
    record {
      holding = λ nodes t h. let half = g.H.NodeHash.half in
          let going = c.run_both.ensures.lighter.going nodes t
          (going_from half nodes c.take_up.new.self c.args.cache.now c.args.marks.now
          (c.take_up.ensures.kept half nodes (h.search c.requires))
          c.in_ok-take_up.ensures.none c.take_up.ensures.stays.unbroken h.marks h.cache) in
          record {
            marks = c.finish.ensures.going.marks half nodes c.run_both.new.cache going;
            cache = (c.let_go.ensures.stays half nodes).entries going.cache;
            search = λ there. c.finish.ensures.going.kept half nodes c.run_both.new.cache going;
          };
      fresh = search rules;
    }

-- roots that are marked are passed
pub returns-clause-passes : goal.returns-clause-passes
returns-clause-passes g c ready two =
    let put = (c.in_ok-take_up.ensures.idle ready.missing).1 in
    let idle = idle_from c.args.self.now c.take_up.new.self c.args.marks.now ready put c.take_up.ensures.stays.unbroken in
    (tt, (c.run_both.ensures.passes idle.0 (omega (arith, idle.1, two))).1)

pub returns-in_err-found-clause-passes : goal.returns-in_err-found-clause-passes
returns-in_err-found-clause-passes g c ready two =
    let put = (c.in_ok-take_up.ensures.idle ready.missing).1 in
    let idle = idle_from c.args.self.now c.take_up.new.self c.args.marks.now ready put c.take_up.ensures.stays.unbroken in
    let exit = err_from_is_err_and c.from_residual-in_err-found.result c.from_residual-in_err-found.ensures.1 in
    (none_done c.from_residual-in_err-found.result exit.0 exit.1, (c.run_both.ensures.passes idle.0 (omega (arith, idle.1, two))).1)

-- as many places as were noted were looked at again, and then n
pub returns-then-not-over-clause-answers : goal.returns-then-not-over-clause-answers
returns-then-not-over-clause-answers g c =
    record {
      rest = λ nodes t h. let half = g.H.NodeHash.half in
          let kept = h.search c.requires in
          let few : length c.args.self.now.missing.items ≤ 256 = kept.few in
          let again : c.min-again.result ≡ length c.args.self.now.missing.items = grind (arith, c.min-again.ensures, c.len.ensures, few)
          in
          let going = going_from half nodes c.take_up.new.self c.args.cache.now c.args.marks.now (c.take_up.ensures.kept half nodes kept)
          c.in_ok-take_up.ensures.none c.take_up.ensures.stays.unbroken h.marks h.cache in
          let over : c.in_ok-over.over ≡ false = search rules in
          let more = goes_on c.run_both.new.self (sym c.in_ok-over.ensures.runs.over ∙ over) in
          fewer_left (weight half nodes) (stored_weight half nodes) c.args.self.now c.take_up.new.self c.run_both.new.self
          c.min-again.result
          c.args.n (c.in_ok-take_up.ensures.loads (weight half nodes) (stored_weight half nodes) (stored_again half nodes)) again
          (c.in_ok-over.ensures.lighter.rests nodes t going over) more.0;
      bound = λ few. let again : c.min-again.result ≡ length c.args.self.now.missing.items = grind
          (arith, c.min-again.ensures, c.len.ensures, few) in
          let over : c.in_ok-over.over ≡ false = search rules in
          let more = goes_on c.run_both.new.self (sym c.in_ok-over.ensures.runs.over ∙ over) in
          fewer_left most_from most_again c.args.self.now c.take_up.new.self c.run_both.new.self c.min-again.result c.args.n
          (c.in_ok-take_up.ensures.loads most_from most_again noted_again) again (c.in_ok-over.ensures.lighter.bounds over) more.0;
      done = search rules;
      known = search rules;
      roots = search rules;
      more = search rules;
    }
