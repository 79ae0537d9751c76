use Rattle.std.proofs.Common.{◌≡◌, false}
use Rattle.std.specs.List.{list_any}
use Rattle.half_hash.specs.Zero.{is_nonzero}
use Rattle.ledger_spec.specs.Bytes.{hashes_of}
use Rattle.shamap_node.proofs.forms.has_branch.Given as goal

-- the branches so far are empty
abbrev pub invariant-loop-b : goal.invariant-loop-b
invariant-loop-b l = list_any is_nonzero (hashes_of l.b l.body) ≡ false
