use Rattle.std.proofs.Common.{ℕ, ◌++◌, ◌∷◌, List, [], map, ap, sym, ◌∙◌, subst}
use Rattle.std.specs.Map.Iter.{deref_pair}
use Rattle.std.proofs.lemmas.List.{map-append}
use Rattle.ledger_spec.specs.Bytes.{Hash}
use Rattle.ledger_spec.specs.Maps.{hash_cmp, IsMap}
use Rattle.swarm_gen.proofs.Owners.{split_more, split_on, split_end}
use Rattle.swarm_gen.proofs.state.listed.Goals as goal

-- one owner more stands behind those before
pub loop-key-preserved : goal.loop-key-preserved
loop-key-preserved c =
    let i = c.loop-key.invariant in
    let ys : List (Hash × ℕ) = map deref_pair c.loop-key.yielded in
    let rest : List (Hash × ℕ) = c.next.new.self in
    let e : Hash × ℕ = (c.in-Some.key.now, c.in-Some.item.now) in
    let more = map-append deref_pair c.loop-key.yielded ((c.in-Some.key, c.in-Some.item) ∷ []) in
    let split = split_more c.args.owners.now.entries ys c.loop-key.key-iterator rest e i.split c.in-Some.ensures.steps in
    record {
      items = c.in_ok-push.ensures.items ∙ ap (λ (x : List (Hash × ℕ)). x ++ e ∷ []) i.items ∙ sym more;
      split = ap (λ (x : List (Hash × ℕ)). x ++ rest) more ∙ split_on c.args.owners.now.entries ys rest e split;
    }

-- no owner is left
pub returns-clause-items : goal.returns-clause-items
returns-clause-items c =
    let i = c.loop-key.invariant in
    i.items
    ∙ split_end c.args.owners.now.entries (map deref_pair c.loop-key.yielded) c.loop-key.key-iterator i.split c.in-None.ensures.steps.0

pub returns-clause-sorted : goal.returns-clause-sorted
returns-clause-sorted c =
    let i = c.loop-key.invariant in
    let all = i.items
    ∙ split_end c.args.owners.now.entries (map deref_pair c.loop-key.yielded) c.loop-key.key-iterator i.split c.in-None.ensures.steps.0 in
    subst (λ (x : List (Hash × ℕ)). IsMap hash_cmp x) (sym all) c.into_iter-key-iterator.ensures.into_iter_gives.5
