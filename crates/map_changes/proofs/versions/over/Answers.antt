use Rattle.std.proofs.Common.{List, [], ◌∷◌, ◌++◌, ap, ◌∙◌}
use Rattle.cow_map.specs.declared.link.Link.{Link}
use Rattle.cow_map.specs.declared.link.Link.TheVariants.{Empty}
use Rattle.map_changes.proofs.Tracks.{begun_keeps, begun_leaves, begun_items, begun_versions}
use Rattle.map_changes.proofs.versions.over.Goals as goal

-- the empty map is its only version, and no hash is known
pub invariant_of-result : goal.invariant_of-result
invariant_of-result g c =
    begun_keeps g.H.NodeHash.half c.args.tree c.requires c.push.new.self.items
    (c.in_ok-push.ensures.items ∙ ap (λ (ls : List Link). ls ++ Empty ∷ []) c.new-tops.ensures.items) c.new.result.items c.new.ensures.items

pub returns-clause-kind : goal.returns-clause-kind
returns-clause-kind g c =
    begun_leaves g.H.NodeHash.half c.args.tree c.requires c.push.new.self.items
    (c.in_ok-push.ensures.items ∙ ap (λ (ls : List Link). ls ++ Empty ∷ []) c.new-tops.ensures.items) c.new.result.items c.new.ensures.items

pub returns-clause-items : goal.returns-clause-items
returns-clause-items g c =
    begun_items g.H.NodeHash.half c.args.tree c.requires c.push.new.self.items
    (c.in_ok-push.ensures.items ∙ ap (λ (ls : List Link). ls ++ Empty ∷ []) c.new-tops.ensures.items) c.new.result.items c.new.ensures.items

pub returns-clause-versions : goal.returns-clause-versions
returns-clause-versions g c =
    begun_versions g.H.NodeHash.half c.args.tree c.requires c.push.new.self.items
    (c.in_ok-push.ensures.items ∙ ap (λ (ls : List Link). ls ++ Empty ∷ []) c.new-tops.ensures.items) c.new.result.items c.new.ensures.items
