use Rattle.std.proofs.Common.{◌≡◌, ◌∙◌, ap, slice_index_or, arith, List}
use Rattle.std.specs.Prelude.{slice_set}
use Rattle.std.proofs.lemmas.List.{get_or-set_same, get_or-set_other}
use Rattle.half_hash.specs.Zero.{zero_hash}
use Rattle.ledger_spec.specs.Bytes.{Hash}
use Rattle.cow_map.proofs.Places.{tabled_is}
use Rattle.cow_map.proofs.link.Links.tabled.Goals as goal

-- the new table has the hash at the branch, and at the others those of the old one
pub returns : goal.returns
returns c =
    let made : c.in_ok-table.table ≡ slice_set c.hashes-hashes.result c.args.b c.args.hash = c.in_ok-table.ensures in
    tabled_is c.self.inside.table c.in_ok-table.table c.self.inside.places c.args.self c.args.b c.args.hash c.self.view_is c.self.invariant
    c.requires
    (ap (λ (t : List Hash). slice_index_or t c.args.b zero_hash) made
    ∙ get_or-set_same c.hashes-hashes.result c.args.b c.args.hash zero_hash
    (omega (arith, c.requires, c.hashes-hashes.ensures.width)))
    (λ k low apart. ap (λ (t : List Hash). slice_index_or t k zero_hash) made
    ∙ get_or-set_other c.hashes-hashes.result c.args.b k c.args.hash zero_hash apart ∙ c.hashes-hashes.ensures.each k low)
