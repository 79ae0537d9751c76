use Rattle.std.proofs.Common.{◌≡◌, ℕ, ◌+◌, ◌*◌, map, [], ◌∷◌, ◌++◌, ap, sym, ◌∙◌, arith}
use Rattle.std.specs.Prelude.{if◌then◌else◌}
use Rattle.std.specs.List.{range_with_len}
use Rattle.ledger_spec.specs.Bytes.{is_zero}
use Rattle.ledger_spec.specs.Tree.{Entry}
use Rattle.ledger_spec.specs.Maps.{hash_cmp, insert_in}
use Rattle.swarm_gen.specs.Ledgers.{key, eight, map_from}
use Rattle.swarm_gen.proofs.Adds.{mapped_more}
use Rattle.swarm_gen.proofs.Making.{map_from_more}
use Rattle.swarm_gen.proofs.next.txs.Goals as goal

-- one transaction more is set in the map of those before, and one with a zero key is left out
pub loop-m-preserved : goal.loop-m-preserved
loop-m-preserved g c =
    let i = c.loop-m.invariant in
    let s = c.in_ok-set_number.ensures in
    let half = g.H.NodeHash.half in
    let m = c.loop-m.m in
    let f : ℕ → Entry = λ n. (key half c.args.plan.now (4294967296 + 16 * c.args.seq + n), eight n) in
    let k = c.key-key.ensures ∙ ap (λ x. key half c.args.plan.now (4294967296 + 16 * x + m)) c.from.ensures in
    record {
      leaves = s.rest.leaves ∙ i.leaves;
      items = s.items ∙ (λ j. if is_zero (k j) then i.items j else insert_in hash_cmp (i.items j) (k j) (eight m))
          ∙ sym (map_from_more [] (map f (range_with_len 0 m)) (f m)) ∙ ap (map_from []) (mapped_more f m);
      versions = s.rest.versions ∙ i.versions;
    }

-- all four are set, and what the map is then is kept
pub returns : goal.returns
returns g c =
    let i = c.loop-m.invariant in
    let k = c.in_ok-keep.ensures in
    let half = g.H.NodeHash.half in
    let f : ℕ → Entry = λ n. (key half c.args.plan.now (4294967296 + 16 * c.args.seq + n), eight n) in
    let end : c.loop-m.m ≡ 4 = omega arith in
    let all = i.items ∙ ap (λ n. map_from [] (map f (range_with_len 0 n))) end in
    (k.kind ∙ i.leaves, k.versions ∙ (λ j. i.versions j ++ all j ∷ []))
