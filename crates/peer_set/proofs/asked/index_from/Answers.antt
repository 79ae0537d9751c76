use Rattle.std.proofs.Common.{◌≡◌, ◌∙◌, ◌≤◌, cond, Some, ap, arith}
use Rattle.std.specs.BTreeMap.{is_at}
use Rattle.std.proofs.lemmas.Result.{err_from_is_err_and}
use Rattle.ledger_spec.specs.Maps.{hash_cmp, get_in}
use Rattle.ledger_spec.specs.Bytes.{Bytes}
use Rattle.peer_set.specs.Keys.{key_of}
use Rattle.peer_set.proofs.Finding.{first_ones, one_more}
use Rattle.peer_set.proofs.asked.index_from.Goals as goal

-- a refused insertion leaves the index, which finds all places up to here, so those before the first one too
pub returns-in_err-insert-clause-err : goal.returns-in_err-insert-clause-err
returns-in_err-insert-clause-err c =
    let exit = err_from_is_err_and c.from_residual.result c.from_residual.ensures.1 in
    let le : c.args.first ≤ c.loop-at.at = omega arith in
    rw (exit.1, c.in_err-insert.ensures.err)
    (first_ones c.loop-at.index.entries c.args.places.now c.args.first c.loop-at.at le c.loop-at.invariant)

-- the new entry tells where this place stands, and a place of another key is found as before
pub loop-at-preserved : goal.loop-at-preserved
loop-at-preserved c =
    let p = c.index-places-at.result in
    let sets : (q : Bytes) → get_in hash_cmp c.insert.new.self.entries q
    ≡ cond (is_at (hash_cmp (key_of p)) q) (Some c.loop-at.at) (get_in hash_cmp c.loop-at.index.entries q) =
    λ q. c.in_ok-insert.ensures.updates.0 q
    ∙ ap (λ (k : Bytes). cond (is_at (hash_cmp k) q) (Some c.loop-at.at) (get_in hash_cmp c.loop-at.index.entries q)) c.of.ensures.key in
    one_more c.loop-at.index.entries c.insert.new.self.entries c.args.places.now c.loop-at.at p (omega arith)
    c.index-places-at.is c.of.ensures.place sets c.loop-at.invariant
