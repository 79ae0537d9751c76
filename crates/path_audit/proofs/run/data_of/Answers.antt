use Rattle.std.proofs.Common.{◌∷◌, [], ◌∙◌, sym, ap}
use Rattle.std.specs.Prelude.{option_copied}
use Rattle.std.proofs.lemmas.Result.{IfOk-weaker}
use Rattle.shamap_node.specs.declared.Node.{Node}
use Rattle.shamap_node.specs.Nodes.{held}
use Rattle.path_proof.specs.Paths.{last_data}
use Rattle.path_audit.proofs.Lasts.{last_found}
use Rattle.path_audit.proofs.run.data_of.Goals as goal

pub returns-in-Some : goal.returns-in-Some
returns-in-Some c =
    IfOk-weaker c.data_in.result _ _
    (λ bytes is. is ∙ ap (λ (n : Node). last_data (held n ∷ [])) c.deref.ensures
    ∙ last_found c.args.nodes.now c.in-Some.node.now (sym (ap option_copied c.in-Some.is) ∙ c.last.ensures.value)) c.data_in.ensures
