use Rattle.std.proofs.Common.{sym, ◌∙◌}
use Rattle.std.specs.Vec.{vec_capacity}
use Rattle.node_backend.proofs.shared.Lists.{left_over, moved_over}
use Rattle.node_backend.proofs.shelf.MemShelfShelf.discard.Goals as goal

pub invariant_of-self : goal.invariant_of-self
invariant_of-self c =
    left_over c.self.inside.made c.args.old.number (vec_capacity c.self.inside.undone) c.self.inside.live.items
    c.self.inside.undone.items c.unlist-found.new.live.items c.self.invariant.0 c.self.invariant.1
    c.self.invariant.2 c.unlist-found.ensures.gone

pub invariant_of-self-else-found : goal.invariant_of-self-else-found
invariant_of-self-else-found c =
    left_over c.self.inside.made c.args.old.number (vec_capacity c.self.inside.undone) c.self.inside.live.items
    c.self.inside.undone.items c.unlist-found.new.live.items c.self.invariant.0 c.self.invariant.1
    c.self.invariant.2 c.unlist-found.ensures.gone

-- the number moves from the first list to the second, so both together are no longer, and the room that was there suffices
pub invariant_of-self-then-found : goal.invariant_of-self-then-found
invariant_of-self-then-found c =
    moved_over c.self.inside.made c.args.old.number (vec_capacity c.self.inside.undone) (vec_capacity c.keep_undone.new.undone)
    c.self.inside.live.items c.self.inside.undone.items
    c.unlist-found.new.live.items c.keep_undone.new.undone.items c.self.invariant.0 c.self.invariant.1 c.self.invariant.2
    c.unlist-found.ensures.gone
    (sym c.unlist-found.ensures.found ∙ c.if-found.true) c.keep_undone.ensures.kept c.keep_undone.ensures.room
