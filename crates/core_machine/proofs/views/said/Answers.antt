-- the value's path ends with its leaf, which is shared
use Rattle.std.proofs.Common.{◌≡◌, ◌∙◌, sym, ap, Some, List, length, ◌-◌}
use Rattle.std.specs.declared.sync.Arc.{Arc}
use Rattle.std.specs.declared.alloc.Global.{Global}
use Rattle.std.specs.List.{slice_get}
use Rattle.shamap_node.specs.declared.Node.{Node}
use Rattle.shamap_node.specs.Nodes.{held}
use Rattle.path_proof.specs.declared.Outcome.{Outcome}
use Rattle.path_proof.specs.Paths.{held_nodes, outcome_by, last_data}
use Rattle.ledger_spec.specs.Reads.{value}
use Rattle.ledger_machine.specs.Reading.{value_in}
use Rattle.core_machine.proofs.Following.{ends_with_leaf, last_says, last_held}
use Rattle.core_machine.proofs.views.said.Goals as goal

pub returns-in_ok-try_clone-in-Value-Some : goal.returns-in_ok-try_clone-in-Value-Some
returns-in_ok-try_clone-in-Value-Some c half kind root key followed =
    let used : List (Arc Node Global) = c.args.answer.now.used.items in
    let last : Some c.in-Value-Some.leaf.now ≡ slice_get used (length used - 1) =
    c.in-Value-Some.ensures.value ∙ ap (λ (ns : List (Arc Node Global)). slice_get ns (length ns - 1)) c.deref.ensures.value
    in
    let is = ap (λ (o : Outcome). Some (outcome_by (held_nodes used) o)) c.in-Value-Some.is-0 in (
      ap (λ n. value_in (held n)) c.in_ok-try_clone-in-Value-Some.ensures
          ∙ last_says used c.in-Value-Some.leaf.now (value (last_data (held_nodes used))) last
          (ends_with_leaf half kind root key (held_nodes used) (last_data (held_nodes used)) (followed ∙ is))
          ∙ sym is,
      last_held used c.in-Value-Some.leaf.now last ∙ sym (ap (λ n. Some (held n)) c.in_ok-try_clone-in-Value-Some.ensures),
    )
