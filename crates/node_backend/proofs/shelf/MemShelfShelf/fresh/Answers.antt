use Rattle.node_backend.proofs.shared.Lists.{listed_all}
use Rattle.node_backend.proofs.shelf.MemShelfShelf.fresh.Goals as goal

-- the new number is one above all that were handed out, and its room among those whose discard fails was reserved
pub invariant_of-self-2 : goal.invariant_of-self-2
invariant_of-self-2 c =
    let e = listed_all c.self.inside.made c.self.inside.live.items c.self.inside.undone.items c.list_number.new.live.items
    c.list_number.new.undone.items c.self.invariant.0 c.self.invariant.1
    c.in_ok-list_number.ensures.lists.listed c.list_number.ensures.lists.others in
    (e.0, e.1, c.list_number.ensures.room)
