use Rattle.std.proofs.Common.{◌≡◌, ◌+◌, ◌++◌, ◌∷◌, [], sym, ◌∙◌, arith}
use Rattle.std.specs.Prelude.{if◌then◌else◌}
use Rattle.std.proofs.lemmas.List.FromFn.{filter_of_map_range_with_len_more}
use Rattle.ledger_spec.specs.Bytes.{is_nonzero}
use Rattle.swarm_gen.specs.Ledgers.{key}
use Rattle.std.specs.Prelude.{List, ℕ, IsTrue, map}
use Rattle.std.specs.List.{filter, range_with_len}
use Rattle.std.proofs.lemmas.List.Elements.{All-same}
use Rattle.swarm_gen.proofs.Servings.{all_pass}
use Rattle.swarm_gen.proofs.state.read_keys.Goals as goal

-- one key more comes behind the others just where it isn't zero
pub loop-i-preserved : goal.loop-i-preserved
loop-i-preserved g c =
    let half = g.H.NodeHash.half in
    let i = c.loop-i.i in
    let n : 1 + i ≡ i + 1 = omega arith in
    c.in_ok-push_nonzero.ensures ∙ (λ j. c.loop-i.invariant j ++ (if is_nonzero (c.key.ensures j) then c.key.ensures j ∷ [] else []))
    ∙ sym (filter_of_map_range_with_len_more is_nonzero (key half c.args.plan.now) 1 i (i + 1) n)

pub returns-clause-nonzero : goal.returns-clause-nonzero
returns-clause-nonzero g c =
    let read = map (key g.H.NodeHash.half c.args.plan.now) (range_with_len 1 c.loop-i.i) in
    All-same (λ (k : List ℕ). IsTrue (is_nonzero k)) _ (filter is_nonzero read) c.loop-i.invariant (all_pass is_nonzero read)
