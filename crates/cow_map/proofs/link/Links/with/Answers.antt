use Rattle.std.proofs.Common.{◌∙◌, ap, sym, slice_index_or}
use Rattle.half_hash.specs.Zero.{zero_hash}
use Rattle.cow_map.specs.declared.link.Link.TheVariants.{Unloaded}
use Rattle.cow_map.proofs.Places.{placed, own_at}
use Rattle.cow_map.proofs.link.Links.with.Goals as goal

pub returns-in-Empty : goal.returns-in-Empty
returns-in-Empty c =
    placed c.self.inside.table c.self.inside.places c.args.self c.args.b 0 c.args.link c.self.view_is (sym c.in-Empty.is)

pub returns-in_ok-self-inside-in-Own : goal.returns-in_ok-self-inside-in-Own
returns-in_ok-self-inside-in-Own c =
    placed c.self-in-Own.inside.table c.self-in-Own.inside.places c.args.self c.args.b c.in_ok-self-inside-in-Own.field-0 c.args.link
    c.self-in-Own.view_is
    (own_at c.in-Own.at c.in_ok-self-inside-in-Own.field-0 (slice_index_or c.self-in-Own.inside.table c.args.b zero_hash)
    c.in_ok-self-inside-in-Own.ensures ∙ sym c.in-Own.is)

pub returns-else-not-equals : goal.returns-else-not-equals
returns-else-not-equals c =
    placed c.self-in-Unloaded.inside.table c.self-in-Unloaded.inside.places c.args.self c.args.b 1 c.args.link c.self-in-Unloaded.view_is
    (ap Unloaded (sym c.hash.ensures ∙ c.if-not-equals.ensures) ∙ sym c.in-Unloaded.is)
