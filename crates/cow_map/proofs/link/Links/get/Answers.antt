use Rattle.std.proofs.Common.{◌∙◌, ap, sym, slice_index_or}
use Rattle.half_hash.specs.Zero.{zero_hash}
use Rattle.cow_map.specs.declared.link.Link.TheVariants.{Unloaded}
use Rattle.cow_map.specs.Places.{place_link}
use Rattle.cow_map.proofs.Places.{get_of, own_is}
use Rattle.cow_map.proofs.link.Links.get.Goals as goal

pub returns-then-place-eq-NOWHERE : goal.returns-then-place-eq-NOWHERE
returns-then-place-eq-NOWHERE c =
    ap (λ p. place_link p (slice_index_or c.self.inside.table c.args.b zero_hash)) (sym c.if-place-eq-NOWHERE.true)
    ∙ get_of c.self.inside.table c.self.inside.places c.args.self.now c.args.b c.self.view_is c.self.invariant c.requires

pub returns-then-place-eq-BY_TABLE : goal.returns-then-place-eq-BY_TABLE
returns-then-place-eq-BY_TABLE c =
    ap Unloaded c.hash.ensures ∙ ap (λ p. place_link p (slice_index_or c.self.inside.table c.args.b zero_hash)) (sym c.if-place-eq-BY_TABLE.true)
    ∙ get_of c.self.inside.table c.self.inside.places c.args.self.now c.args.b c.self.view_is c.self.invariant c.requires

pub returns : goal.returns
returns c =
    own_is (slice_index_or c.self.inside.places c.args.b 0) (slice_index_or c.self.inside.table c.args.b zero_hash)
    c.if-place-eq-NOWHERE.false c.if-place-eq-BY_TABLE.false
    ∙ get_of c.self.inside.table c.self.inside.places c.args.self.now c.args.b c.self.view_is c.self.invariant c.requires
