-- the bytes have the hash, by the store where it tells what it holds, and else as they are hashed here
use Rattle.std.proofs.Common.{sym, ◌∙◌}
use Rattle.actor_pool.proofs.reading.decoded.Goals as goal

pub returns-then-is_telling : goal.returns-then-is_telling
returns-then-is_telling g c =
    c.node_of_form.ensures.hash g.H.NodeHash.half (c.requires (sym c.is_telling.ensures ∙ c.if-is_telling.true))

pub returns-else-is_telling : goal.returns-else-is_telling
returns-else-is_telling g c = c.node_of_form-else-is_telling.ensures.hash g.H.NodeHash.half (sym c.half.ensures)
