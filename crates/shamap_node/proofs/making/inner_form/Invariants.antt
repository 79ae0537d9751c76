use Rattle.std.proofs.Common.{◌≡◌, ◌++◌, take}
use Rattle.std.specs.List.{concat}
use Rattle.ledger_spec.specs.Forms.{inner_prefix}
use Rattle.shamap_node.proofs.making.inner_form.Given as goal

abbrev pub invariant-loop-hash : goal.invariant-loop-hash
invariant-loop-hash l = l.made.bytes.items ≡ inner_prefix ++ concat (take l.hash-index l.hashes)
