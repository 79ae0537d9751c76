use Rattle.std.proofs.Common.{rules, sym, subst, ◌∙◌}
use Rattle.ledger_spec.specs.Findings.{seen_as}
use Rattle.ledger_spec.specs.Rules.{fault_of}
use Rattle.shamap_node.specs.Nodes.{held}
use Rattle.missing_walk.specs.Views.{ShowsAs}
use Rattle.missing_walk.specs.Pending.{pending_of, above}
use Rattle.missing_walk.proofs.Seeing.{zero_found, views_marked, views_cached, views_from, use_keeps, same_keeps, get_keeps}
use Rattle.missing_walk.proofs.Passing.{use_still}
use Rattle.missing_walk.proofs.Weights.{weight_some, weighs_seen, weighs_cached, true_false}
use Rattle.missing_walk.proofs.view.see.Goals as goal

pub returns-then-is_zero-clause-seen : goal.returns-then-is_zero-clause-seen
returns-then-is_zero-clause-seen g c =
    record {
      view = λ nodes t marked cached. zero_found g.H.NodeHash.half nodes (pending_of c.args.todo.now) (sym c.if-is_zero.ensures);
      weighs = λ nodes t marked cached nonzero. absurd (true_false (c.if-is_zero.ensures ∙ nonzero));
      levels = search rules;
      short = search rules;
    }

-- a marked place stands for none
pub returns-then-is_full-clause-seen : goal.returns-then-is_full-clause-seen
returns-then-is_full-clause-seen g c =
    record {
      view = λ nodes t marked cached. views_marked g.H.NodeHash.half nodes c.args.marks.now c.args.todo.now.at
          (above c.args.todo.now.parent) marked
          (sym c.if-is_full.ensures.full);
      weighs = λ nodes t marked cached nonzero. weight_some g.H.NodeHash.half nodes (pending_of c.args.todo.now) nonzero;
      levels = search rules;
      short = search rules;
    }

pub returns-then-is_full-clause-marks : goal.returns-then-is_full-clause-marks
returns-then-is_full-clause-marks g c = use_keeps c.args.marks.now c.is_full.new.self c.args.todo.now.at c.is_full.ensures.used

pub returns-in_err-node-clause-cached : goal.returns-in_err-node-clause-cached
returns-in_err-node-clause-cached g c =
    record {
      entries = λ nodes t. same_keeps g.H.NodeHash.half nodes c.args.cache.now c.cached.new.cache c.in_err-node.ensures.err;
      generation = search rules;
    }

pub returns-in_err-node-clause-marks : goal.returns-in_err-node-clause-marks
returns-in_err-node-clause-marks g c = use_keeps c.args.marks.now c.is_full.new.self c.args.todo.now.at c.is_full.ensures.used

pub returns-in_err-fetch-in-None-clause-cached : goal.returns-in_err-fetch-in-None-clause-cached
returns-in_err-fetch-in-None-clause-cached g c =
    record {
      entries = λ nodes t. get_keeps g.H.NodeHash.half nodes c.args.cache.now c.cached.new.cache c.args.todo.now.at.hash _
          c.in_ok-node.ensures.used;
      generation = search rules;
    }

pub returns-in_err-fetch-in-None-clause-marks : goal.returns-in_err-fetch-in-None-clause-marks
returns-in_err-fetch-in-None-clause-marks g c = use_keeps c.args.marks.now c.is_full.new.self c.args.todo.now.at c.is_full.ensures.used

-- a cached node is held, so what is seen of it is what is seen in the store
pub returns-in-Some-clause-seen : goal.returns-in-Some-clause-seen
returns-in-Some-clause-seen g c =
    record {
      view = λ nodes t marked cached. views_cached g.H.NodeHash.half nodes c.args.cache.now (pending_of c.args.todo.now)
          c.in_ok-node.field-0 c.in-Some.node c.judge_node.result
          cached c.in_ok-node.ensures.value c.in-Some.is (sym c.if-is_zero.ensures) c.known.ensures.short
          (subst (λ p. ShowsAs c.judge_node.result
          (seen_as (held c.in-Some.node.value) (fault_of (held c.in-Some.node.value) p c.args.todo.now.at.kind c.args.todo.now.at.id)))
          c.inner_above.ensures c.judge_node.ensures.shows);
      weighs = λ nodes t marked cached nonzero. weighs_cached g.H.NodeHash.half nodes c.args.cache.now (pending_of c.args.todo.now)
          c.in_ok-node.field-0 c.in-Some.node c.judge_node.result
          cached c.in_ok-node.ensures.value c.in-Some.is nonzero c.known.ensures.short (subst (λ p. ShowsAs c.judge_node.result
          (seen_as (held c.in-Some.node.value) (fault_of (held c.in-Some.node.value) p c.args.todo.now.at.kind c.args.todo.now.at.id)))
          c.inner_above.ensures c.judge_node.ensures.shows);
      levels = search rules;
      short = search rules;
    }

pub returns-in-Some-clause-cached : goal.returns-in-Some-clause-cached
returns-in-Some-clause-cached g c =
    record {
      entries = λ nodes t. get_keeps g.H.NodeHash.half nodes c.args.cache.now c.cached.new.cache c.args.todo.now.at.hash _
          c.in_ok-node.ensures.used;
      generation = search rules;
    }

pub returns-in-Some-clause-marks : goal.returns-in-Some-clause-marks
returns-in-Some-clause-marks g c = use_keeps c.args.marks.now c.is_full.new.self c.args.todo.now.at c.is_full.ensures.used

pub returns-in_ok-fetch-in-None-clause-seen : goal.returns-in_ok-fetch-in-None-clause-seen
returns-in_ok-fetch-in-None-clause-seen g c =
    record {
      view = λ nodes t marked cached. views_from g.H.NodeHash.half nodes (pending_of c.args.todo.now) c.in_ok-fetch-in-None.field-0
          (sym c.if-is_zero.ensures)
          c.known.ensures.short (c.in_ok-fetch-in-None.ensures.shows nodes t);
      weighs = λ nodes t marked cached nonzero. weighs_seen g.H.NodeHash.half nodes (pending_of c.args.todo.now)
          c.in_ok-fetch-in-None.field-0 nonzero
          c.known.ensures.short (c.in_ok-fetch-in-None.ensures.shows nodes t);
      levels = search rules;
      short = search rules;
    }

pub returns-in_ok-fetch-in-None-clause-cached : goal.returns-in_ok-fetch-in-None-clause-cached
returns-in_ok-fetch-in-None-clause-cached g c =
    record {
      entries = λ nodes t. get_keeps g.H.NodeHash.half nodes c.args.cache.now c.cached.new.cache c.args.todo.now.at.hash _
          c.in_ok-node.ensures.used;
      generation = search rules;
    }

pub returns-in_ok-fetch-in-None-clause-marks : goal.returns-in_ok-fetch-in-None-clause-marks
returns-in_ok-fetch-in-None-clause-marks g c = use_keeps c.args.marks.now c.is_full.new.self c.args.todo.now.at c.is_full.ensures.used

pub returns-then-is_full-clause-passes : goal.returns-then-is_full-clause-passes
returns-then-is_full-clause-passes g c =
    record {
      still = λ marked. use_still c.args.marks.now c.is_full.new.self c.args.todo.now.at c.is_full.ensures.used;
      nothing = search rules;
      unasked = search rules;
    }
