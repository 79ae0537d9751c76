use Rattle.std.proofs.Common.{◌≡◌, map, Ok}
use Rattle.cow_build.proofs.threads.all_of.Given as goal

abbrev pub invariant-loop-map : goal.invariant-loop-map
invariant-loop-map l = map Ok l.maps.items ≡ l.yielded
