use Rattle.std.proofs.Common.{rules, IfSome, Option, subst}
use Rattle.missing_walk.specs.declared.Found.{Found}
use Rattle.missing_walk.specs.Sees.{Finds}
use Rattle.missing_walk.proofs.shared.Seeing.{tells_after}
use Rattle.std.proofs.Common.{◌≡◌, true, is_some, sym, arith}
use Rattle.std.proofs.lemmas.Result.{err_from_is_err_and}
use Rattle.ledger_spec.specs.Bytes.{Hash}
use Rattle.missing_walk.specs.Passes.{HasMarkedRoots, IsReady}
use Rattle.missing_walk.proofs.Passing.{ready, none_done, no_some}
use Rattle.std.proofs.Common.{◌≤◌, ◌+◌, ap, ◌∙◌}
use Rattle.missing_walk.specs.Rests.{rest_by, bound_by}
use Rattle.missing_walk.proofs.Remaining.{on_more, enters_rest, enters_bound, enters_few}
use Rattle.missing_walk.proofs.search.Search.go_on.Goals as goal

pub returns-in_err-found-clause-holds : goal.returns-in_err-found-clause-holds
returns-in_err-found-clause-holds g c =
    record {
      holding = λ nodes t h. record { marks = h.marks; cache = h.cache; search = c.enter.ensures.enters.kept nodes t h.search };
      fresh = search rules;
    }

pub returns-in_err-explore-in-None-clause-holds : goal.returns-in_err-explore-in-None-clause-holds
returns-in_err-explore-in-None-clause-holds g c =
    record {
      holding = λ nodes t h. c.explore.ensures.holds.holding nodes
          (tells_after g.Sh.B.Backend.tells g.H.NodeHash.half c.args.store.now c.enter.new.store nodes c.enter.ensures.asks.read t)
          (record { marks = h.marks; cache = h.cache; search = c.enter.ensures.enters.kept nodes t h.search });
      fresh = search rules;
    }

-- no header is stored
pub returns-in-Some-clause-answers : goal.returns-in-Some-clause-answers
returns-in-Some-clause-answers g c =
    record {
      done = λ nodes t h. subst (λ (o : Option Found). IfSome o (Finds g.H.NodeHash.half nodes c.args.self.now.target)) c.in-Some.is
          (c.in_ok-found.ensures.answers.found nodes t);
      known = search rules;
      roots = search rules;
      more = search rules;
      rest = search rules;
      bound = search rules;
    }

pub returns-in-Some-clause-holds : goal.returns-in-Some-clause-holds
returns-in-Some-clause-holds g c =
    record {
      holding = λ nodes t h. record { marks = h.marks; cache = h.cache; search = c.enter.ensures.enters.kept nodes t h.search };
      fresh = search rules;
    }

pub returns-in_ok-explore-in-None-clause-holds : goal.returns-in_ok-explore-in-None-clause-holds
returns-in_ok-explore-in-None-clause-holds g c =
    record {
      holding = λ nodes t h. c.explore.ensures.holds.holding nodes
          (tells_after g.Sh.B.Backend.tells g.H.NodeHash.half c.args.store.now c.enter.new.store nodes c.enter.ensures.asks.read t)
          (record { marks = h.marks; cache = h.cache; search = c.enter.ensures.enters.kept nodes t h.search });
      fresh = search rules;
    }

pub returns-in_err-explore-in-None-clause-enters : goal.returns-in_err-explore-in-None-clause-enters
returns-in_err-explore-in-None-clause-enters g c =
    record {
      entered = search rules;
      first = λ nodes t none roots two.
          let exit = err_from_is_err_and c.from_residual-in_err-explore-in-None.result c.from_residual-in_err-explore-in-None.ensures.1 in
          let t_after = tells_after g.Sh.B.Backend.tells g.H.NodeHash.half c.args.store.now c.enter.new.store nodes
          c.enter.ensures.asks.read
          t in
          let there : is_some c.enter.new.self.header ≡ true = c.in_ok-found.ensures.enters.entered c.in-None.is in
          let never : is_some c.args.self.now.header ≡ true → ⊥ = λ e. no_some c.args.self.now.header none e in
          let kept = c.enter.ensures.enters.kept nodes t (λ e. absurd (never e)) there in
          let r : IsReady c.enter.new.self c.args.marks.now = ready nodes c.args.marks.now c.args.self.now c.enter.new.self
          c.enter.new.self.header there
          kept.head (c.in_ok-found.ensures.enters.begun none c.in-None.is)
          (subst (λ (target : Hash). HasMarkedRoots nodes target c.args.marks.now) (sym c.enter.ensures.stays.target) roots) in
          let passed = c.explore.ensures.passes r two in
          (none_done c.from_residual-in_err-explore-in-None.result exit.0 exit.1, omega (arith, passed.1, c.enter.ensures.asks.gets));
    }

-- the roots that the header names are marked, so the slice ends here
pub returns-in_ok-explore-in-None-clause-enters : goal.returns-in_ok-explore-in-None-clause-enters
returns-in_ok-explore-in-None-clause-enters g c =
    record {
      entered = search rules;
      first = λ nodes t none roots two.
          let t_after = tells_after g.Sh.B.Backend.tells g.H.NodeHash.half c.args.store.now c.enter.new.store nodes
          c.enter.ensures.asks.read
          t in
          let there : is_some c.enter.new.self.header ≡ true = c.in_ok-found.ensures.enters.entered c.in-None.is in
          let never : is_some c.args.self.now.header ≡ true → ⊥ = λ e. no_some c.args.self.now.header none e in
          let kept = c.enter.ensures.enters.kept nodes t (λ e. absurd (never e)) there in
          let r : IsReady c.enter.new.self c.args.marks.now = ready nodes c.args.marks.now c.args.self.now c.enter.new.self
          c.enter.new.self.header there
          kept.head (c.in_ok-found.ensures.enters.begun none c.in-None.is)
          (subst (λ (target : Hash). HasMarkedRoots nodes target c.args.marks.now) (sym c.enter.ensures.stays.target) roots) in
          let passed = c.in_ok-explore-in-None.ensures.passes r two in
          (passed.0, omega (arith, passed.1, c.enter.ensures.asks.gets));
    }

-- the header was read, if it wasn't, and at least n places below it
pub returns-in_ok-explore-in-None-clause-answers : goal.returns-in_ok-explore-in-None-clause-answers
returns-in_ok-explore-in-None-clause-answers g c =
    record {
      rest = λ nodes t h. let half = g.H.NodeHash.half in
          let t_after = tells_after g.Sh.B.Backend.tells half c.args.store.now c.enter.new.store nodes c.enter.ensures.asks.read t in
          let there : is_some c.enter.new.self.header ≡ true = c.in_ok-found.ensures.enters.entered c.in-None.is in
          let kept = c.enter.ensures.enters.kept nodes t h.search in
          let fewer = enters_rest half nodes c.args.self.now c.enter.new.self c.enter.ensures.enters.stays
          (λ none. c.in_ok-found.ensures.enters.begun none c.in-None.is) there c.enter.ensures.stays.target (kept there).head in
          let after : is_some c.explore.new.self.header ≡ true = ap is_some c.explore.ensures.stays.same.header ∙ there in
          on_more c.in_ok-explore-in-None.field-0
          (λ less. subst (λ z. rest_by z half nodes c.explore.new.self + c.args.n ≤ rest_by (is_some c.args.self.now.header) half nodes
          c.args.self.now) (sym after) (omega (arith, less, fewer)))
          (c.in_ok-explore-in-None.ensures.answers.rest nodes t_after (record { marks = h.marks; cache = h.cache; search = kept }));
      bound = λ few. let there : is_some c.enter.new.self.header ≡ true = c.in_ok-found.ensures.enters.entered c.in-None.is in
          let fewer = enters_bound c.args.self.now c.enter.new.self c.enter.ensures.enters.stays
          (λ none. c.in_ok-found.ensures.enters.begun none c.in-None.is) there in
          let after : is_some c.explore.new.self.header ≡ true = ap is_some c.explore.ensures.stays.same.header ∙ there in
          on_more c.in_ok-explore-in-None.field-0
          (λ less. subst (λ z. bound_by z c.explore.new.self + c.args.n ≤ bound_by (is_some c.args.self.now.header) c.args.self.now)
          (sym after)
          (omega (arith, less, fewer)))
          (c.in_ok-explore-in-None.ensures.answers.bound (enters_few c.args.self.now c.enter.new.self c.enter.ensures.enters.stays
          (λ none. c.in_ok-found.ensures.enters.begun none c.in-None.is) there few));
      done = search rules;
      known = search rules;
      roots = search rules;
      more = search rules;
    }
