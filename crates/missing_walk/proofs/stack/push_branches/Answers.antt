use Rattle.std.proofs.Common.{◌≡◌, ◌-◌, ◌+◌, refl, sym, subst, arith}
use Rattle.missing_walk.specs.Pending.{kid, kids_from}
use Rattle.missing_walk.specs.Stacks.{Pushes}
use Rattle.missing_walk.proofs.Stacking.{pushes_none, pushes_then, kids_none, kids_more}
use Rattle.missing_walk.proofs.stack.push_branches.Goals as goal

pub loop-i-init : goal.loop-i-init
loop-i-init c =
    let at = c.args.at.now in
    subst (Pushes c.args.stack.now.items c.args.stack.now.items) (sym (kids_none at.kind at.id c.args.inner.now.hashes 16))
    (pushes_none c.args.stack.now.items)

-- the next branch stands on top of the higher ones
pub loop-i-preserved : goal.loop-i-preserved
loop-i-preserved c =
    let at = c.args.at.now in
    let hashes = c.args.inner.now.hashes in
    subst (Pushes c.args.stack.now.items c.push_branch.new.stack.items)
    (kids_more at.kind at.id hashes c.loop-i.i (15 - c.loop-i.i) (16 - c.loop-i.i) (16 - (c.loop-i.i + 1))
    (c.loop-i.i + 1) refl refl refl refl
    (omega arith))
    (pushes_then c.args.stack.now.items c.loop-i.stack.items c.push_branch.new.stack.items
    (kids_from at.kind at.id hashes (16 - c.loop-i.i) c.loop-i.i) (kid at.kind at.id hashes (15 - c.loop-i.i))
    c.loop-i.invariant c.in_ok-push_branch.ensures.ok)

pub returns-clause-ok : goal.returns-clause-ok
returns-clause-ok c =
    let at = c.args.at.now in
    let all : c.loop-i.i ≡ 16 = omega arith in
    subst (λ i. Pushes c.args.stack.now.items c.loop-i.stack.items (kids_from at.kind at.id c.args.inner.now.hashes (16 - i) i)) all
    c.loop-i.invariant
