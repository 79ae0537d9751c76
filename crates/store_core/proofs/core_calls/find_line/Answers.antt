use Rattle.std.proofs.Common.{◌<◌, ℕ, length, subst, arith}
use Rattle.store_core.specs.Journal.{AllBefore}
use Rattle.store_core.proofs.Finding.{line_there, line_nowhere, line_past}
use Rattle.store_core.proofs.core_calls.find_line.Goals as goal

pub returns-then-at-lines : goal.returns-then-at-lines
returns-then-at-lines c =
    let P : ℕ → Type 0 = λ n. AllBefore c.args.lines.now n c.args.number in
    line_past c.args.lines.now c.args.number (subst P c.if-at-lines.true c.first_from-at.ensures.below)

pub returns-then-line-number : goal.returns-then-line-number
returns-then-line-number c =
    let at = c.first_from-at.ensures in
    let lt : c.first_from-at.result < length c.args.lines.now = grind (arith, at.within, c.if-at-lines.false) in
    line_there c.args.lines.now c.first_from-at.result c.args.number _ lt at.below c.index-lines-at.is c.if-line-number.true

-- lines before it are lower, this one has another number, and those behind it are higher still, so none has the number
pub returns-else-line-number : goal.returns-else-line-number
returns-else-line-number c =
    let at = c.first_from-at.ensures in
    let lt : c.first_from-at.result < length c.args.lines.now = grind (arith, at.within, c.if-at-lines.false) in
    line_nowhere c.args.lines.now c.requires c.first_from-at.result c.args.number _ lt at.below at.above c.index-lines-at.is
    c.if-line-number.false
