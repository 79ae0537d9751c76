use Rattle.std.proofs.Common.{◌≡◌, ◌∙◌, sym, subst, [], rules}
use Rattle.cow_map.specs.Bodies.{CowTree}
use Rattle.cow_map.specs.Trees.{StandsFor}
use Rattle.cow_map.specs.Seals.{hash_at}
use Rattle.cow_map.proofs.Sealing.{root_law}
use Rattle.cow_map.proofs.Picking.{made_law}
use Rattle.cow_map.proofs.map.CowMap.seal.Goals as goal

pub returns-clause-seals : goal.returns-clause-seals
returns-clause-seals g c = record {
  -- the hash is made of the top's form, where a link to the source counts as its hash, and so is the root hash of the items
  root = λ stored items proper stands.
      let inside = subst (λ (m : CowTree). StandsFor g.H.NodeHash.half stored m items) (sym c.self.view_is) stands in
      subst (λ (m : CowTree). c.in_ok-root.root ≡ hash_at g.H.NodeHash.half m.kind m.nodes 64 m.top) c.self.view_is
      (c.in_ok-root.ensures.seals stored 64 [] items inside).1
      ∙ root_law g.H.NodeHash.half (g.met.H.NodeHash g.world.𝓛 g.world.𝓜 g.world.𝓡 ((λ s x. x), (λ x. x), (λ x. x), λ x. x)).is_half.size
      stored proper c.args.self.now items stands;
  forms = search rules;
  tree = λ stored items proper stands.
      made_law g.H.NodeHash.half (g.met.H.NodeHash g.world.𝓛 g.world.𝓜 g.world.𝓡 ((λ s x. x), (λ x. x), (λ x. x), λ x. x)).is_half.size
      stored proper c.args.self.now items stands;
  named = search rules;
}
