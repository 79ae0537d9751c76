use Rattle.std.proofs.Common.{ℕ, ◌+◌, [], map, ap, sym, ◌∙◌}
use Rattle.std.specs.Prelude.{if◌then◌else◌}
use Rattle.std.specs.List.{range_with_len}
use Rattle.ledger_spec.specs.Bytes.{Hash, is_zero}
use Rattle.ledger_spec.specs.Maps.{hash_cmp, insert_in}
use Rattle.swarm_gen.specs.Ledgers.{key, map_from}
use Rattle.swarm_gen.proofs.Adds.{mapped_more_from}
use Rattle.swarm_gen.proofs.Making.{map_from_more}
use Rattle.swarm_gen.proofs.state.owners.Goals as goal

-- one item more takes its key over from any item before it, and one with a zero key is left out
pub loop-i-preserved : goal.loop-i-preserved
loop-i-preserved g c =
    let half = g.H.NodeHash.half in
    let i = c.loop-i.i in
    let f : ℕ → Hash × ℕ = λ n. (key half c.args.plan.now n, n) in
    let k = c.key.ensures ∙ ap (λ n. key half c.args.plan.now (n + 1)) c.from.ensures in
    c.in_ok-add_owner.ensures
    ∙ (λ j. if is_zero (k j) then c.loop-i.invariant j else insert_in hash_cmp (c.loop-i.invariant j) (k j) (i + 1))
    ∙ sym (map_from_more [] (map f (range_with_len 1 i)) (f (i + 1))) ∙ ap (map_from []) (mapped_more_from f i)
