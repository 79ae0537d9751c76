use Rattle.std.proofs.Common.{◌≡◌, ◌<◌, ◌≤◌, ℕ, ◌+◌, ◌++◌, ◌∷◌, ◌-◌, List, [], length, drop, map, take, ap, sym, ◌∙◌, subst, refl, arith}
use Rattle.std.proofs.Common.{append-nil, take-append-drop}
use Rattle.std.proofs.lemmas.List.{drop_all, drop_more, take_all, take_more}
use Rattle.ledger_spec.specs.Bytes.{Hash}
use Rattle.ledger_spec.specs.Maps.{hash_cmp, IsMap}
use Rattle.swarm_gen.specs.Ledgers.{owners_of}
use Rattle.swarm_gen.proofs.Owners.{on, data_in, state_is, advance_step}
use Rattle.swarm_gen.proofs.state.advance.Goals as goal

-- no owner was visited yet, so all have the data that they had in the ledger before
pub loop-key-init : goal.loop-key-init
loop-key-init g c =
    let half = g.H.NodeHash.half in
    let plan = c.args.plan.now in
    let seq = c.args.seq in
    record {
      leaves = refl;
      items = c.requires.items ∙ state_is half plan (seq - 1) ∙ ap (map (on (data_in (seq - 1)))) (sym c.requires.owners);
      versions = refl;
    }

-- one owner more is brought to this ledger, at its own place behind those visited and before the others
pub loop-key-preserved : goal.loop-key-preserved
loop-key-preserved g c =
    let half = g.H.NodeHash.half in
    let plan = c.args.plan.now in
    let seq = c.args.seq in
    let all : List (Hash × ℕ) = c.args.owners.now in
    let k = c.loop-key.key-index in
    let i = c.loop-key.invariant in
    let s = c.in_ok-set_where_due.ensures in
    let lt : k < length all = c.loop-key-test.true in
    let ys : List (Hash × ℕ) = take k all in
    let rest : List (Hash × ℕ) = drop (k + 1) all in
    let e : Hash × ℕ = c.loop-key-item.result in
    let from : drop k all ≡ e ∷ rest = drop_more all k e lt ∙ ap (λ (x : Hash × ℕ). x ∷ rest) (sym c.loop-key-item.is) in
    let more : take (k + 1) all ≡ ys ++ e ∷ [] = take_more all k e lt ∙ ap (λ (x : Hash × ℕ). ys ++ x ∷ []) (sym c.loop-key-item.is) in
    let split : all ≡ ys ++ e ∷ rest = sym (take-append-drop k all) ∙ ap (λ (x : List (Hash × ℕ)). ys ++ x) from in
    let sorted : IsMap hash_cmp (owners_of half plan) = subst (λ (x : List (Hash × ℕ)). IsMap hash_cmp x) c.requires.owners
    c.requires.sorted in
    let before = i.items ∙ ap (λ (x : List (Hash × ℕ)). map (on (data_in seq)) ys ++ map (on (data_in (seq - 1))) x) from in
    record {
      leaves = s.rest.leaves ∙ i.leaves;
      items = advance_step half plan seq ys rest e.0 e.1 _ _ c.requires.seq (sym c.requires.owners ∙ split) sorted before s.items
          ∙ ap (λ (x : List (Hash × ℕ)). map (on (data_in seq)) x ++ map (on (data_in (seq - 1))) rest) (sym more);
      versions = s.rest.versions ∙ i.versions;
    }

-- no owner is left, so all have this ledger's data, and an account state is just the owners with their data
pub returns-clause-items : goal.returns-clause-items
returns-clause-items g c =
    let half = g.H.NodeHash.half in
    let plan = c.args.plan.now in
    let seq = c.args.seq in
    let all : List (Hash × ℕ) = c.args.owners.now in
    let k = c.loop-key.key-index in
    let end : length all ≤ k = omega (arith, c.loop-key-test.false) in
    c.loop-key.invariant.items
    ∙ (λ j. map (on (data_in seq)) (take_all k all end j) ++ map (on (data_in (seq - 1))) (drop_all k all end j))
    ∙ append-nil (map (on (data_in seq)) all) ∙ ap (map (on (data_in seq))) c.requires.owners ∙ sym (state_is half plan seq)
