use Rattle.std.proofs.Common.{◌<◌, ◌+◌, List, true, false, refl, sym, ap, ◌∙◌, subst, arith}
use Rattle.ledger_machine.specs.declared.commands.Line.{Line}
use Rattle.swarm_gen.specs.Ledgers.{are_nonzero}
use Rattle.swarm_gen.specs.Standing.{IsLeft}
use Rattle.swarm_gen.proofs.Standing.{left_start, left_more, left_stop, added_as, before_next}
use Rattle.swarm_gen.proofs.ledgers.lines_over.Goals as goal

-- before ledger 1 there are no nodes, no hash and no lines
pub loop-j-init : goal.loop-j-init
loop-j-init g c =
    let half = g.H.NodeHash.half in
    let plan = c.args.plan.now in
    record {
      nonzero = refl;
      parent = c.zero.ensures;
      left = subst (λ (x : List Line). IsLeft half plan 0 x 0) (sym c.new-lines.ensures) (left_start half plan);
      earlier = omega arith;
    }

-- the next ledger is made, so its lines come next in the script, and those of the ledgers behind it are left
pub loop-j-preserved : goal.loop-j-preserved
loop-j-preserved g c =
    let half = g.H.NodeHash.half in
    let plan = c.args.plan.now in
    let j = c.loop-j.j in
    let i = c.loop-j.invariant in
    let lt : j < plan.ledgers = c.loop-j-test.true in
    let keys = c.deref.ensures.value ∙ c.in_ok-keys.ensures.keys in
    let made = sym c.in_ok-more.ensures.made ∙ c.if-not-more.false in
    let added = added_as half plan _ (j + 1) _ true _ _ _ _ c.if-not-more.false c.in_ok-more.ensures.lines in
    record {
      nonzero = ap (are_nonzero half) (before_next half plan (j + 1) (omega arith)) ∙ c.in_ok-more.ensures.nonzero c.if-not-more.false;
      parent = c.in_ok-more.ensures.parent c.if-not-more.false;
      left = left_more half plan j _ c.loop-j.lines _ c.loop-j.behind.waits _ lt keys made added i.left;
      earlier = c.in_ok-more.ensures.earlier;
    }

-- a script ends before the first ledger that isn't made, so with this one nothing is left to add
pub returns-then-not-more : goal.returns-then-not-more
returns-then-not-more g c =
    let half = g.H.NodeHash.half in
    let plan = c.args.plan.now in
    let j = c.loop-j.j in
    let lt : j < plan.ledgers = c.loop-j-test.true in
    let made = sym c.in_ok-more.ensures.made ∙ c.if-not-more.true in
    left_stop half plan j c.loop-j.lines _ c.loop-j.behind.waits lt made
    (added_as half plan _ (j + 1) _ false _ _ _ _ c.if-not-more.true c.in_ok-more.ensures.lines) c.loop-j.invariant.left
