use Rattle.std.proofs.Common.{◌≡◌, if◌then◌else◌, [], IsTrue, Option, Some, None, ap, ◌∙◌}
use Rattle.std.proofs.lemmas.Bool.{cond-true}
use Rattle.std.specs.Option.{option_map}
use Rattle.ledger_spec.specs.declared.Kind.{Kind}
use Rattle.ledger_spec.specs.Bytes.{Hash, is_nonzero}
use Rattle.ledger_spec.specs.Forms.{Held, leaf, leaf_of}
use Rattle.shamap_node.specs.declared.Leaf.{Leaf}
use Rattle.shamap_node.specs.declared.parts.LeafHead.{LeafHead}
use Rattle.shamap_node.specs.Heads.{held_head, without_data}
use Rattle.shamap_node.specs.Nodes.{held_leaf}
use Rattle.missing_walk.proofs.sight.leaf_in.Goals as goal

-- a head's key isn't zero, so there is a leaf with it
of_head : (head : LeafHead) (kind : Kind) (key : Hash) (made : Option Leaf) (o : Option Held) → kind ≡ head.kind → key ≡ head.key
    → IsTrue (is_nonzero key) → option_map held_leaf made ≡ (if is_nonzero key then Some (leaf kind key []) else None)
    → option_map held_head (Some head) ≡ option_map without_data o → option_map held_leaf made ≡ option_map without_data o
of_head head kind key made o same_kind same_key nonzero is there =
    is ∙ cond-true (is_nonzero key) (Some (leaf kind key [])) None nonzero
    ∙ ap (λ (k : Kind). Some (leaf k key [])) same_kind ∙ ap (λ (k : Hash). Some (leaf head.kind k [])) same_key ∙ there

pub returns-in-Some : goal.returns-in-Some
returns-in-Some g c =
    of_head c.in-Some.head c.kind.result c.key.result c.leaf_with.result (leaf_of g.H.NodeHash.half c.args.form.now) c.kind.ensures
    c.key.ensures.key c.key.ensures.nonzero c.leaf_with.ensures c.in-Some.ensures
