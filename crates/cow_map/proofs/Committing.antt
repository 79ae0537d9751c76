-- A map over a root whose tree is whole stands for the leaves of that tree.
use Rattle.std.proofs.Common.{[], None, refl}
use Rattle.ledger_spec.specs.declared.Kind.{Kind}
use Rattle.ledger_spec.specs.Bytes.{Hash, Half, Lookup}
use Rattle.ledger_spec.specs.Commits.{IsWholeMap}
use Rattle.ledger_spec.specs.Findings.{items_of, walk_map}
use Rattle.cow_map.specs.Trees.{StandsFor, link_to}
use Rattle.cow_map.specs.Laws.{IsSized}
use Rattle.cow_map.proofs.Sources.{walk_law}

-- a map over a whole tree stands for its leaves
pub over_law : (half : Half) → IsSized half → (stored : Lookup) (kind : Kind) (root : Hash) → IsWholeMap half stored kind root
    → StandsFor half stored record { kind = kind; nodes = []; top = link_to root } (items_of half stored kind root)
unfolding walk_map
over_law half size stored kind root whole = walk_law half size stored kind [] 64 None [] root refl whole
