-- The links that the places of an inner node say, together with the hashes that its table has.
use Rattle.std.specs.Prelude.{ℕ, suc, ◌-◌, ◌==◌, if◌then◌else◌, List, [], ◌∷◌}
use Rattle.std.specs.List.{slice_index_or}
use Rattle.half_hash.specs.Zero.{zero_hash}
use Rattle.ledger_spec.specs.Bytes.{Hash}
use Rattle.cow_map.specs.declared.link.Link.{Link}
use Rattle.cow_map.specs.declared.link.Link.TheVariants.{Empty, Unloaded, Own}

-- 0 is no link, 1 the link to the node of the source with the table's hash, and n + 2 that to the map's n-th node
abbrev pub place_link : ℕ → Hash → Link
place_link place hash = if place == 0 then Empty else if place == 1 then Unloaded hash else Own (place - 2)

-- the links of the branches from b on
unfoldable pub links_from : List Hash → ℕ → List ℕ → List Link
links_from table b [] = []
links_from table b (place ∷ places) = place_link place (slice_index_or table b zero_hash) ∷ links_from table (suc b) places

abbrev pub links_of : List Hash → List ℕ → List Link
links_of table places = links_from table 0 places
