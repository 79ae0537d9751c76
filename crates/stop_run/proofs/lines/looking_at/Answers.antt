-- the lines of this ledger stand behind those so far
use Rattle.std.proofs.Common.{◌≡◌, ◌+◌, ◌<◌, ◌++◌, List, [], ◌∷◌, length, drop, sym, ap, ◌∙◌, subst, arith}
use Rattle.ledger_machine.specs.declared.commands.Line.{Line}
use Rattle.stop_run.specs.Looking.{lines_behind, lines_for}
use Rattle.stop_run.proofs.Looks.{lines_more}
use Rattle.stop_run.proofs.lines.looking_at.Goals as goal

pub loop-hash-preserved : goal.loop-hash-preserved
loop-hash-preserved c =
    let i = c.loop-hash.hash-index in
    let ts = c.args.hashes.now in
    let n = c.loop-hash.number in
    let lt : i < length ts = omega (arith, c.loop-hash-test.true) in
    record {
      number = omega (arith, c.loop-hash.invariant.number);
      lines = subst (λ (ls : List Line). ls ++ lines_behind (n + 2) (drop (i + 1) ts) ≡ lines_for ts)
          (sym (c.in_ok-push-2.ensures.items ∙ ap (λ (ls : List Line). ls ++ c.checking.result ∷ []) c.in_ok-push.ensures.items))
          (lines_more ts i n c.hash-item.result c.loop-hash.lines.items c.wanting.result c.checking.result lt c.hash-item.is c.wanting.ensures
          c.checking.ensures c.loop-hash.invariant.lines);
    }
