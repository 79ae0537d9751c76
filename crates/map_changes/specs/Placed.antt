-- The nodes of a map at their places, and those that another map doesn't hold there.
use Rattle.std.specs.Prelude.{ℕ, zero, suc, not, ◌&&◌, Bool, if◌then◌else◌, List, [], ◌∷◌, ◌++◌, map}
use Rattle.std.specs.List.{flat_map, filter, list_any}
use Rattle.ledger_spec.specs.declared.Kind.{Kind}
use Rattle.ledger_spec.specs.Bytes.{Bytes, Half, Items, branches, same_bytes}
use Rattle.ledger_spec.specs.Forms.{Held, inner, leaf, form_of, hash_or_zero}
use Rattle.ledger_spec.specs.Wire.{wire_of}
use Rattle.ledger_spec.specs.Tree.{Entry, part, is_alone, form_of_part}

-- a node at a path
pub record Placed : Type 0 where
  pub path : List ℕ
  pub node : Held

-- the nodes at and below a path with these entries, a node before its kids; there are `left` levels below it
unfoldable pub nodes_of_part : Half → Kind → List Entry → ℕ → List ℕ → List Entry → List Placed
nodes_of_part half kind all left path [] = []
nodes_of_part half kind all zero path (e ∷ others) = record { path = path; node = leaf kind e.0 e.1 } ∷ []
nodes_of_part half kind all (suc left) path (e ∷ others) =
    let below : ℕ → List ℕ = λ b. path ++ b ∷ [] in
    if is_alone path others then record { path = path; node = leaf kind e.0 e.1 } ∷ []
    else record {
      path = path;
      node = inner (map (λ b. hash_or_zero half (form_of_part half kind all left (below b) (part all (below b)))) branches);
    }
    ∷ flat_map (λ b. nodes_of_part half kind all left (below b) (part all (below b))) branches

-- the nodes of a map in pre-order of their paths, the root first
abbrev pub nodes_of : Half → Kind → Items → List Placed
nodes_of half kind items = nodes_of_part half kind items 64 [] (part items [])

-- the two nodes stand at one place, and have one form
abbrev pub is_same : Placed → Placed → Bool
is_same a b = same_bytes a.path b.path && same_bytes (form_of a.node) (form_of b.node)

-- the nodes whose place holds another node or none among `before`
abbrev pub changed : List Placed → List Placed → List Placed
changed before nodes = filter (λ n. not (list_any (is_same n) before)) nodes

-- the wire form of the root node
abbrev pub root_blob : List Placed → Bytes
root_blob [] = []
root_blob (p ∷ rest) = wire_of p.node
