use Rattle.std.proofs.Common.{◌≡◌, ℕ, ◌++◌, ◌∷◌, List, [], map, ap, sym, ◌∙◌, subst, IfOk, Result, Ok, Err}
use Rattle.std.specs.Prelude.{if◌then◌else◌}
use Rattle.std.specs.Map.Iter.{deref_pair}
use Rattle.std.proofs.lemmas.List.{map-append}
use Rattle.ledger_spec.specs.declared.Kind.TheVariants.{State}
use Rattle.ledger_spec.specs.Bytes.{Bytes, Half, Hash, is_nonzero}
use Rattle.ledger_spec.specs.Maps.{hash_cmp, IsMap}
use Rattle.ledger_spec.specs.Tree.{Entry}
use Rattle.cow_map.specs.Gathered.{entries_of}
use Rattle.map_changes.specs.Tracking.{Tracking, leaves_in, items_in, versions_in}
use Rattle.swarm_gen.specs.declared.plan.Plan.{Plan}
use Rattle.swarm_gen.specs.Standing.{IsState}
use Rattle.swarm_gen.specs.Ledgers.{eight, state_of}
use Rattle.swarm_gen.proofs.Owners.{on, data_in, state_is, first_step, sorted_mapped, split_more, split_on, split_end}
use Rattle.swarm_gen.proofs.state.first_state.Goals as goal

-- one owner more has ledger 1's data, behind those before
pub loop-key-preserved : goal.loop-key-preserved
unfolding eight
loop-key-preserved g c =
    let half = g.H.NodeHash.half in
    let plan = c.args.plan.now in
    let i = c.loop-key.invariant in
    let ys : List (Hash × ℕ) = map deref_pair c.loop-key.yielded in
    let rest : List (Hash × ℕ) = c.next.new.self in
    let k = c.in-Some.key.now in
    let e : Hash × ℕ = (k, c.in-Some.field-0-1.now) in
    let more = map-append deref_pair c.loop-key.yielded ((c.in-Some.key, c.in-Some.field-0-1) ∷ []) in
    let split = split_more c.args.owners.now.entries ys c.loop-key.key-iterator rest e i.split c.in-Some.ensures.steps in
    let data_is : c.in_ok-data.data ≡ eight 1 = c.in_ok-data.ensures ∙ c.to_be_bytes.ensures in
    let pushed = c.in_ok-push_item.ensures ∙ ap (λ (v : Bytes). entries_of c.loop-key.items.items
    ++ (if is_nonzero k then (k, v) ∷ [] else [])) data_is in
    record {
      items = first_step half plan ys rest k c.in-Some.field-0-1.now (entries_of c.loop-key.items.items)
          (entries_of c.push_item.new.items.items) (sym c.requires ∙ split) i.items pushed
          ∙ ap (map (on (data_in 1))) (sym more);
      split = ap (λ (x : List (Hash × ℕ)). x ++ rest) more ∙ split_on c.args.owners.now.entries ys rest e split;
    }

-- the owners' keys rise, and so do those of the items
pub from_sorted-requires-after_bounds : goal.from_sorted-requires-after_bounds
from_sorted-requires-after_bounds g c alive here =
    let i = c.loop-key.invariant in
    let all = split_end c.args.owners.now.entries (map deref_pair c.loop-key.yielded) c.loop-key.key-iterator i.split
    c.in-None.ensures.steps.0 in
    subst (λ (es : List Entry). IsMap hash_cmp es) (sym (i.items ∙ ap (map (on (data_in 1))) all))
    (sorted_mapped (data_in 1) c.args.owners.now.entries c.into_iter-key-iterator.ensures.into_iter_gives.5)

first : {E : Type 0} (half : Half) (plan : Plan) (r : Result Tracking E) (entries : List Entry) → entries ≡ state_of half plan 1
    → IfOk r (λ m. leaves_in m ≡ State) → IfOk r (λ m. items_in m ≡ entries) → IfOk r (λ m. versions_in m ≡ [] ∷ [])
    → IfOk r (λ m. IsState half plan 1 (leaves_in m) (items_in m) (versions_in m))
first half plan (Ok m) entries is leaves items versions = record { leaves = leaves; is_state = items ∙ is; before = versions }
first half plan (Err e) entries is leaves items versions = tt

-- no owner is left, so each has ledger 1's data, and an account state is just the owners with their data
pub returns : goal.returns
returns g c =
    let half = g.H.NodeHash.half in
    let plan = c.args.plan.now in
    let i = c.loop-key.invariant in
    let all = split_end c.args.owners.now.entries (map deref_pair c.loop-key.yielded) c.loop-key.key-iterator i.split
    c.in-None.ensures.steps.0 in
    let is : entries_of c.loop-key.items.items ≡ state_of half plan 1 =
    i.items ∙ ap (map (on (data_in 1))) (all ∙ c.requires) ∙ sym (state_is half plan 1) in
    first half plan c.from_sorted.result (entries_of c.loop-key.items.items) is c.from_sorted.ensures.kind c.from_sorted.ensures.items
    c.from_sorted.ensures.versions
