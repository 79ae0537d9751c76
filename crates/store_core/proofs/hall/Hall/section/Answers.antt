use Rattle.std.proofs.Common.{map, inl}
use Rattle.shamap_node.specs.Nodes.{held}
use Rattle.store_core.proofs.Asking.{says_any}
use Rattle.store_core.proofs.Serving.{section_for}
use Rattle.store_core.proofs.hall.Hall.section.Goals as goal

-- what is read here
pub returns-in-None-clause-does : goal.returns-in-None-clause-does
returns-in-None-clause-does g c =
    section_for c.serve.result (λ r. r.0) (λ r. map (λ a. held a.value) r.1.items) g.H.NodeHash.half g.Sh.B.Backend.tells _ _
    c.args.self.now.desk c.args.actor c.args.line.now.command c.args.part c.args.searches.now c.serve.new.searches c.serve.new.self.desk
    (λ rose. inl rose) c.serve.ensures.does

-- nothing that was handed in says what the job asks
pub returns-in-None-clause-takes : goal.returns-in-None-clause-takes
returns-in-None-clause-takes g c h is asked =
    says_any g.H.NodeHash.half h.job h.got _ (c.in-None.ensures.takes h is asked)
