use Rattle.std.proofs.Common.{◌≡◌, ◌<◌, ◌+◌, ℕ, length}
use Rattle.std.specs.List.{slice_index_or}
use Rattle.half_hash.specs.Zero.{zero_hash}
use Rattle.cow_map.specs.Places.{place_link}
use Rattle.cow_map.specs.Trees.{link_to}
use Rattle.cow_map.proofs.link.Links.of_inner.Given as goal

abbrev pub invariant-loop-b : goal.invariant-loop-b
invariant-loop-b l = record {
  count : length l.places ≡ 16;
  done : (c : ℕ) → c < l.b → place_link (slice_index_or l.places c 0) (slice_index_or l.inner.hashes c zero_hash)
      ≡ link_to (slice_index_or l.inner.hashes c zero_hash);
  rest : (c : ℕ) → l.b < c + 1 → slice_index_or l.places c 0 ≡ 0;
}
