use Rattle.std.proofs.Common.{rules, Some, sym, ap, ◌∙◌}
use Rattle.missing_walk.proofs.Sliced.{rule_holds, holds_rule}
use Rattle.std.proofs.Common.{◌≤◌, length, subst, arith}
use Rattle.missing_walk.proofs.Remaining.{on_more, on_all_more, goes_on, renewed_bound, begun_bound}
use Rattle.missing_walk.proofs.search.Search.slice.Goals as goal

-- within its generation a slice keeps the rule
pub returns-in_err-go_on-clause-keeps : goal.returns-in_err-go_on-clause-keeps
returns-in_err-go_on-clause-keeps g c =
    record {
      rule = λ nodes t rule. holds_rule g.H.NodeHash.half nodes c.go_on.new.self c.go_on.new.cache c.go_on.new.marks
          (c.go_on.ensures.stays.generation ∙ c.renew.ensures.generation ∙ ap Some
          (c.generation-now.ensures ∙ sym c.go_on.ensures.leaves.marks))
          (c.go_on.ensures.stays.unbroken (c.renew.ensures.broken ∙ rule.unbroken))
          (c.go_on.ensures.holds.holding nodes t
          (rule_holds g.H.NodeHash.half nodes c.args.self.now c.renew.new.self c.args.cache.now c.args.marks.now c.generation-now.result
          c.generation-now.ensures c.renew.ensures rule));
      target = search rules;
      generation = search rules;
      stale = search rules;
    }

pub returns-clause-keeps : goal.returns-clause-keeps
returns-clause-keeps g c =
    record {
      rule = λ nodes t rule. holds_rule g.H.NodeHash.half nodes c.go_on.new.self c.go_on.new.cache c.go_on.new.marks
          (c.go_on.ensures.stays.generation ∙ c.renew.ensures.generation ∙ ap Some
          (c.generation-now.ensures ∙ sym c.go_on.ensures.leaves.marks))
          (c.go_on.ensures.stays.unbroken (c.renew.ensures.broken ∙ rule.unbroken))
          (c.go_on.ensures.holds.holding nodes t
          (rule_holds g.H.NodeHash.half nodes c.args.self.now c.renew.new.self c.args.cache.now c.args.marks.now c.generation-now.result
          c.generation-now.ensures c.renew.ensures rule));
      target = search rules;
      generation = search rules;
      stale = search rules;
    }

-- so many places of the rest are gone, and one is left at least
pub returns-clause-answers : goal.returns-clause-answers
returns-clause-answers g c =
    record {
      rest = λ nodes t rule. let half = g.H.NodeHash.half in
          let holding = rule_holds half nodes c.args.self.now c.renew.new.self c.args.cache.now c.args.marks.now c.generation-now.result
          c.generation-now.ensures c.renew.ensures rule in
          let after = c.go_on.ensures.holds.holding nodes t holding in
          on_all_more c.in_ok-go_on.field-0
          (λ fewer more there. goes_on half nodes c.generation-now.result c.args.n c.args.self.now c.renew.new.self c.go_on.new.self
          c.renew.ensures (c.go_on.ensures.stays.generation ∙ c.renew.ensures.generation) there fewer more (after.search there))
          (c.in_ok-go_on.ensures.answers.rest nodes t holding) c.in_ok-go_on.ensures.answers.more c.in_ok-go_on.ensures.enters.entered;
      bound = λ few. let before = renewed_bound c.generation-now.result c.args.self.now c.renew.new.self c.renew.ensures in
          let after = begun_bound c.go_on.new.self c.generation-now.result
          (c.go_on.ensures.stays.generation ∙ c.renew.ensures.generation) in
          on_more c.in_ok-go_on.field-0 (λ less. omega (arith, less, before, after))
          (c.in_ok-go_on.ensures.answers.bound (subst (λ ms. length ms ≤ 256) (sym c.renew.ensures.missing) few));
      done = search rules;
      known = search rules;
      roots = search rules;
      more = search rules;
    }
