use Rattle.std.proofs.Common.{◌≡◌, ◌*◌, take, length}
use Rattle.std.specs.List.{concat}
use Rattle.root_pass.proofs.forms.body_of.Given as goal

-- the hashes of the first branches are written
abbrev pub invariant-loop-b : goal.invariant-loop-b
invariant-loop-b l = record {
  size : length l.body ≡ 512;
  written : take (32 * l.b) l.body ≡ concat (take l.b l.branches);
}
