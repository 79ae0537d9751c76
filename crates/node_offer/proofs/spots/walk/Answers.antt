use Rattle.std.proofs.Common.{◌≡◌, ◌∙◌, ap, arith, ◌<◌, length, [], None, Ok, Err}
use Rattle.std.specs.Option.{option_and_then, option_map}
use Rattle.std.specs.List.{slice_index_or}
use Rattle.ledger_spec.specs.Bytes.{zero_hash}
use Rattle.ledger_spec.specs.Forms.{inner_of}
use Rattle.ledger_spec.specs.Spots.{spot_from}
use Rattle.std.specs.FinMap as map
use Rattle.ledger_spec.specs.Own.{own_forms}
use Rattle.rotating_store.specs.Stores.{nodes_of}
use Rattle.rotating_store.proofs.shared.Reading.{same_nodes, read_then}
use Rattle.node_backend.specs.Filling.{filled}
use Rattle.node_offer.specs.Ways.{way_on}
use Rattle.node_offer.proofs.Walking.{goes_on, ends, step_at}
use Rattle.node_offer.proofs.spots.walk.Goals as goal

-- the way so far leads to this place, and what stands in the way there is what the whole way comes to
pub returns-in-Some-clause-spot : goal.returns-in-Some-clause-spot
returns-in-Some-clause-spot g c tells =
    let lt : c.loop-depth.depth < length c.args.id.now = omega arith in
    let same : nodes_of c.loop-depth.store ≡ nodes_of c.args.store.now =
    same_nodes c.args.store.now c.loop-depth.store (c.loop-depth.invariant.0.same tells.0) in
    ends (own_forms g.H.NodeHash.half (map.get (nodes_of c.args.store.now))) c.args.id.now c.id-key.result c.loop-depth.depth
    (option_and_then inner_of (filled c.loop-depth.below c.loop-depth.room.items)) c.loop-depth.hash c.of_key-at.result c.in-Some.block
    (spot_from (own_forms g.H.NodeHash.half (map.get (nodes_of c.args.store.now))) [] None c.args.root c.args.id.now)
    c.known.ensures lt c.id-key.ensures c.of_key-at.ensures
    (step_at g.H.NodeHash.half (nodes_of c.args.store.now)
    (nodes_of c.loop-depth.store) c.of_key-at.result c.loop-depth.hash (way_on c.in_ok-stop.stop c.step.new.room.items)
    (Err c.in-Some.block) same (ap (λ s. way_on s c.step.new.room.items) c.in-Some.is)
    (c.in_ok-stop.ensures.step
    (c.loop-depth.invariant.0.notes tells)))
    (c.loop-depth.invariant.1 tells)

-- the inner node at this depth names the hash of the next place by the key's nibble, and the way goes on from there
pub loop-depth-preserved : goal.loop-depth-preserved
loop-depth-preserved g c = (
  read_then _ _ _ _ _ c.loop-depth.invariant.0 c.step.ensures.read,
  λ tells.
      let lt : c.loop-depth.depth < length c.args.id.now = omega arith in
      let same : nodes_of c.loop-depth.store ≡ nodes_of c.args.store.now =
      same_nodes c.args.store.now c.loop-depth.store (c.loop-depth.invariant.0.same tells.0) in
      goes_on (own_forms g.H.NodeHash.half (map.get (nodes_of c.args.store.now))) c.args.id.now c.id-key.result c.loop-depth.depth
      c.nibble.result (option_and_then inner_of (filled c.loop-depth.below c.loop-depth.room.items)) c.loop-depth.hash
      c.inner_branch-hash.result c.of_key-at.result c.step.new.room.items
      (spot_from (own_forms g.H.NodeHash.half (map.get (nodes_of c.args.store.now))) [] None c.args.root c.args.id.now)
      c.known.ensures lt c.id-key.ensures c.of_key-at.ensures c.nibble.ensures.value
      (c.inner_branch-hash.ensures ∙ ap (λ x. option_map (λ hashes. slice_index_or hashes c.nibble.result zero_hash) (inner_of x))
      c.deref.ensures.value)
      (step_at g.H.NodeHash.half (nodes_of c.args.store.now)
      (nodes_of c.loop-depth.store) c.of_key-at.result c.loop-depth.hash (way_on c.in_ok-stop.stop c.step.new.room.items)
      (Ok c.step.new.room.items) same (ap (λ s. way_on s c.step.new.room.items) c.in-None.is)
      (c.in_ok-stop.ensures.step
      (c.loop-depth.invariant.0.notes tells)))
      (c.loop-depth.invariant.1 tells),
  omega (arith, c.loop-depth.invariant.2, c.in_ok-stop.ensures.few),
)
