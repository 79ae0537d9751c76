use Rattle.std.proofs.Common.{◌≡◌, ◌<◌, ℕ, length}
use Rattle.std.specs.List.{slice_index_or}
use Rattle.half_hash.specs.Zero.{zero_hash}
use Rattle.cow_map.proofs.table.Table.hashes.Given as goal

abbrev pub invariant-loop-b : goal.invariant-loop-b
invariant-loop-b l = record {
  count : length l.hashes ≡ 16;
  done : (c : ℕ) → c < l.b → slice_index_or l.hashes c zero_hash ≡ slice_index_or l.self c zero_hash;
}
