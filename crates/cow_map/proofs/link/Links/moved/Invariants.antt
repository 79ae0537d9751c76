use Rattle.std.proofs.Common.{◌≡◌, ◌<◌, ℕ, length}
use Rattle.std.specs.List.{slice_index_or}
use Rattle.cow_map.specs.declared.link.Link.TheVariants.{Empty}
use Rattle.cow_map.specs.Gathered.{moved_link}
use Rattle.cow_map.proofs.link.Links.moved.Given as goal

abbrev pub invariant-loop-b : goal.invariant-loop-b
invariant-loop-b l = record {
  count : length l.links ≡ 16;
  done : (c : ℕ) → c < l.b → slice_index_or l.links c Empty ≡ moved_link l.n (slice_index_or l.self c Empty);
}
