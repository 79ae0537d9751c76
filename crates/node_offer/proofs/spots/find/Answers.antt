use Rattle.std.proofs.Common.{◌≡◌, ℕ, List, [], None, Some, Option, refl, sym, ap, ◌∙◌}
use Rattle.std.specs.FinMap as map
use Rattle.std.specs.Option.{option_map, option_map_or}
use Rattle.ledger_spec.specs.Bytes.{Bytes, Hash, Lookup, Nodes}
use Rattle.ledger_spec.specs.declared.Kind.{Kind}
use Rattle.ledger_spec.specs.Own.{own_forms}
use Rattle.ledger_spec.specs.Spots as way
use Rattle.ledger_spec.specs.Spots.{spot_from, header_in, header_root}
use Rattle.rotating_store.specs.Stores.{nodes_of}
use Rattle.rotating_store.proofs.shared.Reading.{same_nodes}
use Rattle.node_offer.proofs.spots.find.Goals as goal

below_is : (nodes : Lookup) (kind : Kind) (path : List ℕ) (o : Option Bytes)
    → option_map_or (λ root. spot_from nodes [] None root path)
    (option_map (header_root kind) o) way.no_base ≡ way.spot_below nodes kind path o
below_is nodes kind path None = refl
below_is nodes kind path (Some header) = refl

-- the way begins at the root that the held header names, and reading the header changes nothing that is held
pub returns-in_ok-walk-in-Some-clause-spot : goal.returns-in_ok-walk-in-Some-clause-spot
returns-in_ok-walk-in-Some-clause-spot g c tells =
    let half = g.H.NodeHash.half in
    let t = c.root_into.ensures.read.notes tells in
    let same = same_nodes c.args.store.now c.root_into.new.store (c.root_into.ensures.read.same tells.0) in
    c.in_ok-walk-in-Some.ensures.spot t
    ∙ ap (λ (n : Nodes). spot_from (own_forms half (map.get n)) [] None c.in-Some.root c.args.id.now) same
    ∙ ap (λ (o : Option Hash). option_map_or
    (λ root. spot_from (own_forms half (map.get (nodes_of c.args.store.now))) [] None root c.args.id.now) o way.no_base)
    (sym c.in-Some.is ∙ c.in_ok-root.ensures.root tells)
    ∙ below_is (own_forms half (map.get (nodes_of c.args.store.now))) c.args.kind c.args.id.now
    (header_in (own_forms half (map.get (nodes_of c.args.store.now))) c.args.target.now)
