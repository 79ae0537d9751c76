-- What bytes are read as, beside what they hold.
use Rattle.std.specs.Prelude.{◌≡◌, ◌≢◌, IsTrue, Result, IfOk, IfErr, Some}
use Rattle.ledger_spec.specs.Bytes.{Bytes, Half}
use Rattle.ledger_spec.specs.Findings.{held_of}
use Rattle.shamap_node.specs.declared.forms.FormFault.{FormFault}
use Rattle.shamap_node.specs.declared.forms.FormFault.TheVariants.{Memory}
use Rattle.shamap_node.specs.declared.Node.{Node}
use Rattle.shamap_node.specs.Nodes.{held}
use Rattle.shamap_node.specs.Laws.{is_no_node}

-- a node is read where the bytes hold it; where none is read they hold none, unless memory was refused
pub record ReadsHeld (half : Half) (bytes : Bytes) (result : Result Node FormFault) : Type 0 where
  pub seen : IfOk result (λ node. held_of half bytes ≡ Some (held node))
  pub none : IfErr result (λ fault. fault ≢ Memory → IsTrue (is_no_node (held_of half bytes)))
